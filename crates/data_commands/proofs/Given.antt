-- The tables that were read are the inputs that an evaluation asks for.
use Rattle.std.proofs.Common.{◌≡◌, ℕ, zero, suc, ◌+◌, ◌-◌, ◌<◌, List, [], ◌∷◌, length, Bool, true, false, cond, Option, Some, None, refl, sym, ap, subst, ◌∙◌, arith}
use Rattle.std.specs.Prelude.{ℤ, pos, map, Contains, MatchOption, slice_get, slice_index_or, is_none, ◌==◌, ◌&&◌, option_map, Ok}
use Rattle.std.specs.FinMap.{get, insert, empty, get-empty}
use Rattle.std.specs.Ordering.{nat_cmp}
use Rattle.std.specs.Option.{option_map_or}
use Rattle.std.proofs.Math.ListN.{get_or-map}
use Rattle.std.proofs.lemmas.Bool.{eqb-true, eqb-false}
use Rattle.std.proofs.lemmas.List.{length-map}
use Rattle.az_lin.specs.Affine.{Union}
use Rattle.az_ast.specs.Meaning.{RoleGives}
use Rattle.az_ast.specs.Points.{IsMember}
use Rattle.az_ast.specs.Shapes.{is_input}
use Rattle.az_ast.specs.System.{System}
use Rattle.az_ast.specs.Tables.{Tables, Rows, TableGives, InputGives}
use Rattle.az_ast.specs.declared.program.Role.{Role}
use Rattle.az_ast.specs.declared.program.Role.TheVariants.{Input, Output, Local}
use Rattle.az_ast.specs.declared.program.Variable.{Variable}
use Rattle.az_ast.proofs.TableLemmas.{TableGives-at, equal_points}
use Rattle.az_ast.specs.declared.reason.Reason.TheVariants as reason
use Rattle.az_desk.specs.Files.{Files}
use Rattle.table_data.specs.Answers.{IsPoint, TableAnswers}
use Rattle.value_walk.specs.Meanings.{HaveInputs}
use Rattle.value_walk.proofs.Evaluations.{get-own, get-other}
use Rattle.session_state.specs.Settings.{Settings}
use Rattle.session_state.specs.Steps.{unless}
use Rattle.session_state.specs.declared.refusal.Refusal.TheVariants.{Command}
use Rattle.data_commands.specs.Outputs.{untabled}
use Rattle.data_commands.specs.Parameters.{params}
use Rattle.data_commands.specs.Tables.{domain_at, read_input, AreRead}
use Rattle.data_commands.proofs.Once.{one_params}

abbrev first : List ℤ × ℤ → List ℤ
first row = row.0

-- a table has a value at each point of its domain
pub table_gives : (domain : Union) (values : List ℤ) (text : List ℕ) (rows : Rows) → TableAnswers domain values text (Ok rows) → (k : List ℤ) → IsPoint domain values k → (v : ℤ) × TableGives rows k v
table_gives domain values text rows answers k point =
    let at : Contains (map first rows) k = answers.1.every k point in
    let d : List ℤ × ℤ = (k, pos 0) in
    let found : (slice_index_or rows at.0 d).0 ≡ k = sym (get_or-map first rows at.0 d) ∙ at.2 in
    let within : at.0 < length rows = let l = at.1 in omega (arith, l, length-map rows first) in
    ((slice_index_or rows at.0 d).1, TableGives-at k rows answers.1.increasing at.0 d within (equal_points (slice_index_or rows at.0 d).0 k found))

pub none_read : (p : System) (settings : Settings) → AreRead p settings (empty {X = Rows} {R = nat_cmp})
none_read p settings x rows values k is set point =
    absurd (let none : get (empty {X = Rows} {R = nat_cmp}) x ≡ None = get-empty nat_cmp x in let two : None ≡ Some rows = sym none ∙ is in cc)

-- a table more that was read
pub read_keeps : (p : System) (files : Option Files) (settings : Settings) (tables : Tables) (name file : List ℕ) (after : Tables)
    → read_input p files settings tables name file (Ok after) → AreRead p settings tables → AreRead p settings after
read_keeps p files settings tables name file after (x, found, (text, has, (rows, (values, set, answers), made))) read y others values' k is set' point =
    by (y == x) refl
  where
    after_is : after ≡ insert tables x rows
    after_is = cc

    here : y ≡ x → (v : ℤ) × TableGives others k v
    here same =
        let own : get (insert tables x rows) y ≡ Some rows = subst (λ n. get (insert tables x rows) n ≡ Some rows) (sym same) (get-own tables x rows) in
        let at : get (insert tables x rows) y ≡ Some others = subst (λ (m : Tables). get m y ≡ Some others) after_is is in
        let rows_are : rows ≡ others = let both : Some rows ≡ Some others = sym own ∙ at in cc in
        let values_are : values' ≡ values = one_params p settings values' values set' set in
        let here_point : IsPoint (domain_at p x) values k = subst (λ (zs : List ℤ). IsPoint (domain_at p x) zs k) values_are (subst (λ n. IsPoint (domain_at p n) values' k) same point) in
        subst (λ (rs : Rows). (v : ℤ) × TableGives rs k v) rows_are (table_gives (domain_at p x) values text rows answers k here_point)

    there : (y ≡ x → ⊥) → (v : ℤ) × TableGives others k v
    there differs =
        read y others values' k (sym (get-other tables x rows y differs) ∙ subst (λ (m : Tables). get m y ≡ Some others) after_is is) set' point

    by : (b : Bool) → (y == x) ≡ b → (v : ℤ) × TableGives others k v
    by true test = here (eqb-true y x test)
    by false test = there (eqb-false y x test)

-- each input has a table
tabled : (tables : Tables) (vs : List Variable) (n i : ℕ) (variable : Variable) → untabled tables vs n ≡ None → slice_get vs i ≡ Some variable → is_input variable.role ≡ true
    → is_none (get tables (n + i)) ≡ false
tabled tables [] n i variable none at input = cc
tabled tables (v ∷ vs) n i variable none at input =
    by (is_input v.role) (is_none (get tables n)) refl refl none (λ rest j found. tabled tables vs (suc n) j variable rest found input) i at
  where
    later : (j : ℕ) → is_none (get tables (suc n + j)) ≡ false → is_none (get tables (n + suc j)) ≡ false
    later j has = let next : suc n + j ≡ n + suc j = omega arith in subst (λ m. is_none (get tables m) ≡ false) next has

    by : (a b : Bool) → is_input v.role ≡ a → is_none (get tables n) ≡ b → cond (a && b) (Some v.name) (untabled tables vs (suc n)) ≡ None
        → (untabled tables vs (suc n) ≡ None → (j : ℕ) → slice_get vs j ≡ Some variable → is_none (get tables (suc n + j)) ≡ false)
        → (i : ℕ) → slice_get (v ∷ vs) i ≡ Some variable → is_none (get tables (n + i)) ≡ false
    by true true is lacks found more i at = cc
    by true false is has rest more zero at = let same : n ≡ n + 0 = omega arith in subst (λ m. is_none (get tables m) ≡ false) same has
    by true false is has rest more (suc j) at = later j (more rest j at)
    by false b is has rest more zero at = let same : v ≡ variable = cc in let own : is_input v.role ≡ true = subst (λ (w : Variable). is_input w.role ≡ true) (sym same) input in cc
    by false b is has rest more (suc j) at = later j (more rest j at)

module _ (p : System) (settings : Settings) (tables : Tables) (values : List ℤ) (long : length values ≡ length p.params) (set : params p settings (Ok values))
    (read : AreRead p settings tables) (every : untabled tables p.variables 0 ≡ None) where
  module _ (x : ℕ) (k : List ℤ) (variable : Variable) (declared : slice_get p.variables x ≡ Some variable) where
    domain_is : domain_at p x ≡ variable.domain
    domain_is = ap (λ (o : Option Variable). option_map_or (λ v. v.domain) o (record { width = 0; disjuncts = [] })) declared

    at_table : (o : Option Rows) → get tables x ≡ o → is_none o ≡ false → IsMember variable.domain values (variable.domain.width - length p.params) k → (v : ℤ) × MatchOption o ⊥ (λ rows. TableGives rows k v)
    at_table None is some member = cc
    at_table (Some rows) is some member =
        read x rows values k is set
        (subst (λ (d : Union). IsPoint d values k) (sym domain_is) (subst (λ n. IsMember variable.domain values (variable.domain.width - n) k) (sym long) member))

    given : (role : Role) → variable.role ≡ role → RoleGives role (IsMember variable.domain values (variable.domain.width - length p.params) k → (v : ℤ) × InputGives tables x k v) (Unit {0})
    given Input is = λ member.
        let first : 0 + x ≡ x = omega arith in
        let has : is_none (get tables x) ≡ false = subst (λ n. is_none (get tables n) ≡ false) first (tabled tables p.variables 0 x variable every declared (ap is_input is)) in
        at_table (get tables x) refl has member
    given Output is = tt
    given Local is = tt

  pub have_inputs : HaveInputs p tables values
  have_inputs x k = by (slice_get p.variables x) refl
    where
      by : (o : Option Variable) → slice_get p.variables x ≡ o
          → MatchOption o (Unit {0}) (λ (v : Variable). RoleGives v.role (IsMember v.domain values (v.domain.width - length p.params) k → (w : ℤ) × InputGives tables x k w) (Unit {0}))
      by None is = tt
      by (Some variable) is = given x k variable is variable.role refl

pub every_is : (o : Option (List ℕ)) → unless (option_map (λ name. Command (reason.NoTable name)) o) (Ok tt) → o ≡ None
every_is None h = refl
every_is (Some name) h = cc
