-- What a read of a declared variable has.
use Rattle.std.proofs.Common.{◌≡◌, ℕ, List, ◌++◌, length, Some, Option, sym, ap, subst}
use Rattle.std.specs.Prelude.{ℤ, slice_get, MatchOption, option_map}
use Rattle.az_ast.specs.declared.program.Equation.{Equation}
use Rattle.az_ast.specs.declared.program.Variable.{Variable}
use Rattle.az_ast.specs.declared.program.Role.{Role}
use Rattle.az_ast.specs.declared.program.Role.TheVariants.{Input, Output, Local}
use Rattle.az_ast.specs.Meaning.{Values, RoleGives, IsInput, ReadGives, equation_of, body_of}
use Rattle.az_ast.specs.Points.{IsPointOf}
use Rattle.az_ast.specs.System.{System}
use Rattle.az_ast.specs.Tables.{Tables, InputGives}
use Rattle.az_ast.specs.Term.{Term, term}

-- a fact on the value of an option that is known
pub MatchOption-at : {A : Type 0} (P : A → Type 0) (o : Option A) (x : A) → o ≡ Some x → MatchOption o ⊥ P → P x
MatchOption-at P o x e h = subst (λ q. MatchOption q ⊥ P) e h

pub at-MatchOption : {A : Type 0} (P : A → Type 0) (o : Option A) (x : A) → o ≡ Some x → P x → MatchOption o ⊥ P
at-MatchOption P o x e h = subst (λ q. MatchOption q ⊥ P) (sym e) h

-- what an input has, and an output or local
pub RoleGives-input : (role : Role) (A B : Type 0) → IsInput role → RoleGives role A B → A
RoleGives-input Input A B i h = h
RoleGives-input Output A B i h = absurd i
RoleGives-input Local A B i h = absurd i

pub RoleGives-from_input : (role : Role) (A B : Type 0) → IsInput role → A → RoleGives role A B
RoleGives-from_input Input A B i h = h
RoleGives-from_input Output A B i h = absurd i
RoleGives-from_input Local A B i h = absurd i

pub RoleGives-body : (role : Role) (A B : Type 0) → (IsInput role → ⊥) → RoleGives role A B → B
RoleGives-body Input A B i h = absurd (i tt)
RoleGives-body Output A B i h = h
RoleGives-body Local A B i h = h

pub RoleGives-from_body : (role : Role) (A B : Type 0) → (IsInput role → ⊥) → B → RoleGives role A B
RoleGives-from_body Input A B i h = absurd (i tt)
RoleGives-from_body Output A B i h = h
RoleGives-from_body Local A B i h = h

module _ (p : System) (tables : Tables) (x : ℕ) (variable : Variable) (declared : slice_get p.variables x ≡ Some variable) (params k : List ℤ) where
  abbrev Gives : (Term → Values) → ℤ → Variable → Type 0
  Gives bodies v variable =
      IsPointOf (length p.params) variable.domain params k ×
      RoleGives variable.role (InputGives tables x k v) (MatchOption (body_of p.equations x) ⊥ (λ body. bodies body (params ++ k) v))

  body_is : (equation : Equation) → equation_of p.equations x ≡ Some equation → body_of p.equations x ≡ Some (term equation.body)
  body_is equation e = ap (option_map (λ equation. term equation.body)) e

  pub read-parts : (bodies : Term → Values) (v : ℤ) → ReadGives p tables bodies x params k v → Gives bodies v variable
  read-parts bodies v h = MatchOption-at (Gives bodies v) (slice_get p.variables x) variable declared h

  pub parts-read : (bodies : Term → Values) (v : ℤ) → Gives bodies v variable → ReadGives p tables bodies x params k v
  parts-read bodies v h = at-MatchOption (Gives bodies v) (slice_get p.variables x) variable declared h

  pub input-gives : (bodies : Term → Values) (v : ℤ) → IsInput variable.role → IsPointOf (length p.params) variable.domain params k → InputGives tables x k v → ReadGives p tables bodies x params k v
  input-gives bodies v i h g = parts-read bodies v (h, RoleGives-from_input variable.role _ _ i g)

  pub gives-input : (bodies : Term → Values) (v : ℤ) → IsInput variable.role → ReadGives p tables bodies x params k v → InputGives tables x k v
  gives-input bodies v i g = RoleGives-input variable.role _ _ i (read-parts bodies v g).1

  module _ (equation : Equation) (no_input : IsInput variable.role → ⊥) (found : equation_of p.equations x ≡ Some equation) where
    pub body-gives : (bodies : Term → Values) (v : ℤ) → IsPointOf (length p.params) variable.domain params k → bodies (term equation.body) (params ++ k) v → ReadGives p tables bodies x params k v
    body-gives bodies v h g =
        parts-read bodies v (h, RoleGives-from_body variable.role _ _ no_input (at-MatchOption (λ body. bodies body (params ++ k) v) (body_of p.equations x) (term equation.body) (body_is equation found) g))

    pub gives-body : (bodies : Term → Values) (v : ℤ) → ReadGives p tables bodies x params k v → bodies (term equation.body) (params ++ k) v
    gives-body bodies v g =
        MatchOption-at (λ body. bodies body (params ++ k) v) (body_of p.equations x) (term equation.body) (body_is equation found) (RoleGives-body variable.role _ _ no_input (read-parts bodies v g).1)
