-- Facts at each place that is reached: from one another, and from certification.
use Rattle.std.proofs.Common.{◌≡◌, ℕ, ◌+◌, ◌≤◌, List, [], ◌∷◌, ◌++◌, length, take, refl, sym, ap, subst, ◌∙◌, arith, length-append, Option, Some, None, All}
use Rattle.std.specs.Prelude.{ℤ, slice_get, MatchOption}
use Rattle.std.specs.List.{AllByRecursion}
use Rattle.std.proofs.lemmas.List.{take-append-le, take_all}
use Rattle.std.proofs.lemmas.Option.{get_or_from_slice_get, slice_get_within}
use Rattle.az_lin.specs.Affine.{Union, HoldsSome}
use Rattle.az_ast.specs.Certified.{IsInContext, IsSound, AreSound, IsSoundEquation}
use Rattle.az_ast.specs.Placed.{IsAtWidth, AreAtWidth, IsEquationPlaced}
use Rattle.az_ast.specs.System.{System}
use Rattle.az_ast.specs.Term.{Term, constant, index, access, negation, binary, cases, reduction, Choices, none, choice, term}
use Rattle.az_ast.specs.declared.program.Equation.{Equation}
use Rattle.az_ast.specs.declared.program.Variable.{Variable}
use Rattle.expr_places.specs.Places.{Part}
use Rattle.expr_places.specs.Reached.{AtPlaces, AtBranches, IsSoundHere, IsSoundFrom}
use Rattle.expr_places.proofs.Branches.{one_branch}

module _ (P Q R : Part → List ℤ → Type 0) (to : (part : Part) (z : List ℤ) → P part z → Q part z → R part z) where
  mutual
    -- what follows from two facts at each place
    pub AtPlaces-both : (e : Term) (z : List ℤ) → AtPlaces P e z → AtPlaces Q e z → AtPlaces R e z
    AtPlaces-both (constant c) z p q = tt
    AtPlaces-both (index row) z p q = tt
    AtPlaces-both (access x f) z p q = to _ z p q
    AtPlaces-both (negation e) z p q = AtPlaces-both e z p q
    AtPlaces-both (binary op a b) z p q = (AtPlaces-both a z p.0 q.0, AtPlaces-both b z p.1 q.1)
    AtPlaces-both (cases branches) z p q = (to _ z p.0 q.0, AtBranches-both branches z p.1 q.1)
    AtPlaces-both (reduction op extra domain e) z p q = (to _ z p.0 q.0, λ k member. AtPlaces-both e (z ++ k) (p.1 k member) (q.1 k member))

    AtBranches-both : (branches : Choices) (z : List ℤ) → AtBranches P branches z → AtBranches Q branches z → AtBranches R branches z
    AtBranches-both none z p q = tt
    AtBranches-both (choice domain e rest) z p q = (λ held. AtPlaces-both e z (p.0 held) (q.0 held), AtBranches-both rest z p.1 q.1)

-- and from one
pub AtPlaces-map : (P Q : Part → List ℤ → Type 0) → ((part : Part) (z : List ℤ) → P part z → Q part z) → (e : Term) (z : List ℤ) → AtPlaces P e z → AtPlaces Q e z
AtPlaces-map P Q to e z at = AtPlaces-both P P Q (λ part z p q. to part z p) e z at at

-- what each place has
module _ (P : Part → List ℤ → Type 0) (each : (part : Part) (z : List ℤ) → P part z) where
  mutual
    pub AtPlaces-all : (e : Term) (z : List ℤ) → AtPlaces P e z
    AtPlaces-all (constant c) z = tt
    AtPlaces-all (index row) z = tt
    AtPlaces-all (access x f) z = each _ z
    AtPlaces-all (negation e) z = AtPlaces-all e z
    AtPlaces-all (binary op a b) z = (AtPlaces-all a z, AtPlaces-all b z)
    AtPlaces-all (cases branches) z = (each _ z, AtBranches-all branches z)
    AtPlaces-all (reduction op extra domain e) z = (each _ z, λ k member. AtPlaces-all e (z ++ k))

    AtBranches-all : (branches : Choices) (z : List ℤ) → AtBranches P branches z
    AtBranches-all none z = tt
    AtBranches-all (choice domain e rest) z = (λ held. AtPlaces-all e z, AtBranches-all rest z)

-- what is in force at a point is in force at a longer one
context-further : (context : List Union) (z k : List ℤ) → AllByRecursion (λ domain. domain.width ≤ length z) context → IsInContext context z → IsInContext context (z ++ k)
context-further [] z k narrow held = tt
context-further (domain ∷ context) z k narrow held =
    (subst (λ p. HoldsSome domain p) (sym (take-append-le domain.width z k narrow.0)) held.0, context-further context z k narrow.1 held.1)

widths-further : (context : List Union) (n m : ℕ) → n ≤ m → AllByRecursion (λ domain. domain.width ≤ n) context → AllByRecursion (λ domain. domain.width ≤ m) context
widths-further [] n m below narrow = tt
widths-further (domain ∷ context) n m below narrow = (omega (arith, narrow.0), widths-further context n m below narrow.1)

whole : (domain : Union) (z : List ℤ) → domain.width ≡ length z → HoldsSome domain z → HoldsSome domain (take domain.width z)
whole domain z wide held = subst (λ q. HoldsSome domain q) (sym (ap (λ n. take n z) wide ∙ take_all (length z) z (omega arith))) held

module _ (p : System) (count : ℕ) where
  mutual
    pub sound-reached : (e : Term) (context : List Union) (z : List ℤ) → IsAtWidth count e (length z) → AllByRecursion (λ domain. domain.width ≤ length z) context
        → IsSound p e context (length z) → IsInContext context z → AtPlaces (IsSoundHere p) e z
    sound-reached (constant c) context z at narrow sound held = tt
    sound-reached (index row) context z at narrow sound held = tt
    sound-reached (access x f) context z at narrow sound held = sound z refl held
    sound-reached (negation e) context z at narrow sound held = sound-reached e context z at narrow sound held
    sound-reached (binary op a b) context z at narrow sound held = (sound-reached a context z at.0 narrow sound.0 held, sound-reached b context z at.1 narrow sound.1 held)
    sound-reached (cases branches) context z at narrow sound held = ((one_branch branches z).1 (sound.0 z refl held), sound-branches branches context z at narrow sound.1 held)
    sound-reached (reduction op extra domain e) context z at narrow sound held = (
      sound.0 z refl,
      λ k member.
          let long : length (z ++ k) ≡ length z + extra = omega (arith, length-append z k, member.0) in
          let wide : domain.width ≡ length (z ++ k) = at.0 ∙ sym long in
          let further : AllByRecursion (λ domain. domain.width ≤ length (z ++ k)) context = widths-further context (length z) (length (z ++ k)) (omega (arith, long)) narrow in
          sound-reached e (domain ∷ context) (z ++ k) (subst (λ n. IsAtWidth count e n) (sym long) at.2) (omega (arith, wide), further)
          (subst (λ n. IsSound p e (domain ∷ context) n) (sym long) sound.1) (whole domain (z ++ k) wide member.1, context-further context z k narrow held),
    )

    sound-branches : (branches : Choices) (context : List Union) (z : List ℤ) → AreAtWidth count branches (length z) → AllByRecursion (λ domain. domain.width ≤ length z) context
        → AreSound p branches context (length z) → IsInContext context z → AtBranches (IsSoundHere p) branches z
    sound-branches none context z at narrow sound held = tt
    sound-branches (choice domain e rest) context z at narrow sound held = (
      λ here. sound-reached e (domain ∷ context) z at.1 (omega (arith, at.0), narrow) sound.0 (whole domain z at.0 here, held),
      sound-branches rest context z at.2 narrow sound.1 held,
    )

-- an equation that is sound is so wherever it is evaluated
pub sound-from : (p : System) (equation : Equation) → All (λ variable. p.pdom.width ≤ variable.domain.width) p.variables → IsEquationPlaced p.variables equation → IsSoundEquation p equation → IsSoundFrom p equation
sound-from p equation wide placed sound = by (slice_get p.variables equation.variable) refl placed sound
  where
    by : (o : Option Variable) → slice_get p.variables equation.variable ≡ o
        → MatchOption o ⊥ (λ variable. IsAtWidth (length p.variables) (term equation.body) variable.domain.width)
        → MatchOption o ⊥ (λ variable. IsSound p (term equation.body) (variable.domain ∷ p.pdom ∷ []) variable.domain.width)
        → MatchOption o ⊥ (λ variable. (z : List ℤ) → length z ≡ variable.domain.width → HoldsSome p.pdom (take p.pdom.width z) → HoldsSome variable.domain z → AtPlaces (IsSoundHere p) (term equation.body) z)
    by None is placed sound = absurd placed
    by (Some variable) is placed sound =
        λ z long outer inner.
        let within = slice_get_within p.variables equation.variable variable is in
        let widths : p.pdom.width ≤ variable.domain.width = subst (λ (v : Variable). p.pdom.width ≤ v.domain.width) (get_or_from_slice_get p.variables equation.variable variable variable is) (wide equation.variable variable within) in
        sound-reached p (length p.variables) (term equation.body) (variable.domain ∷ p.pdom ∷ []) z
        (subst (λ n. IsAtWidth (length p.variables) (term equation.body) n) (sym long) placed) (omega (arith, long), (omega (arith, long, widths), tt))
        (subst (λ n. IsSound p (term equation.body) (variable.domain ∷ p.pdom ∷ []) n) (sym long) sound) (whole variable.domain z (sym long) inner, (outer, tt))
