-- The program of prefix sums, `S[i] = case {i=0}: A[0]; {i>=1}: S[i-1] + A[i] esac` over 0<=i<N, is
-- certified: place by place, and by multipliers for each direction.
use Rattle.std.proofs.Common.{◌≡◌, ⊎_elim, ℕ, zero, suc, ◌≤◌, List, [], ◌∷◌, ◌++◌, length, All, refl, sym, subst, ◌∙◌, arith}
use Rattle.std.specs.Prelude.{ℤ, pos, negsuc, ◌≤ℤ◌, codes}
use Rattle.std.proofs.lemmas.Int.{ints, by_lt_z}
use Rattle.std.proofs.lemmas.List.Elements.{All-nil, All-cons, All-head, All-tail}
use Rattle.az_lin.proofs.Lists.{Any-nil, Any-here, Any-cons}
use Rattle.az_lin.specs.Affine.{Affine, AffineMap, Polyhedron, Union, Holds, HoldsSome, IsAtLeastZero, value_at}
use Rattle.az_ast.proofs.Prefix.{prefix}
use Rattle.az_ast.proofs.Terms.{term-Access, term-Bin, term-Cases}
use Rattle.az_ast.specs.Certified.{IsInContext, IsFinite, IsCertified, HasFinitePoints, IsSoundEquation, ReadsWithin}
use Rattle.az_ast.specs.Placed.{IsAtWidth}
use Rattle.az_ast.specs.Term.{Term, access, binary, cases, none, choice, term}
use Rattle.az_ast.specs.declared.expr.Branch.{Branch}
use Rattle.az_ast.specs.declared.expr.Expr.{Expr}
use Rattle.az_ast.specs.declared.expr.Expr.TheVariants.{Access, Bin, Cases}
use Rattle.az_ast.specs.declared.op.Op.TheVariants.{Add}
use Rattle.az_ast.specs.declared.program.Equation.{Equation}
use Rattle.farkas_check.specs.Directions.{BalancingMultipliers, column_sum}
use Rattle.expr_places.specs.Branches.{HasOneBranch}
use Rattle.expr_places.specs.Directions.{directions, HasNoDirection}
use Rattle.az_ast.specs.declared.program.Role.TheVariants.{Input, Output}
use Rattle.az_ast.specs.declared.program.Variable.{Variable}
use Rattle.expr_places.specs.Places.{Place, case_over, access_to, places, under_branch}
use Rattle.expr_places.specs.declared.scope.Scope.{Scope}
use Rattle.expr_places.specs.Soundness.{IsSoundAt}
use Rattle.expr_places.proofs.Finiteness.{finite}
use Rattle.expr_places.proofs.Soundness.{sound_by_places}

abbrev row : ℤ → ℤ → ℤ → Affine
row a b c = record { coefs = a ∷ b ∷ []; konst = c }

abbrev where_rows : List Affine → Polyhedron
where_rows rows = record { width = 2; rows = rows }

abbrev alone : Polyhedron → Union
alone conj = record { width = 2; disjuncts = conj ∷ [] }

-- 0<=i<N, i=0 and i>=1
abbrev inside : Polyhedron
inside = where_rows (row (pos 0) (pos 1) (pos 0) ∷ row (pos 1) (negsuc 0) (negsuc 0) ∷ [])

abbrev first : Polyhedron
first = where_rows (row (pos 0) (pos 1) (pos 0) ∷ row (pos 0) (negsuc 0) (pos 0) ∷ [])

abbrev later : Polyhedron
later = where_rows (row (pos 0) (pos 1) (negsuc 0) ∷ [])

abbrev at_row : Affine → AffineMap
at_row r = record { width = 2; rows = r ∷ [] }

abbrev origin : AffineMap
origin = at_row (row (pos 0) (pos 0) (pos 0))

abbrev before : AffineMap
before = at_row (row (pos 0) (pos 1) (negsuc 0))

abbrev here : AffineMap
here = at_row (row (pos 0) (pos 1) (pos 0))

abbrev sum : Expr
sum = Bin Add (Access 1 before) (Access 0 here)

abbrev branches : List Branch
branches = record { domain = alone first; body = Access 0 origin } ∷ record { domain = alone later; body = sum } ∷ []

abbrev equation : Equation
equation = record { variable = 1; body = Cases branches }

abbrev body : Term
body = cases (choice (alone first) (access 0 origin) (choice (alone later) (binary Add (access 1 before) (access 0 here)) none))

body_is : term (Cases branches) ≡ body
body_is =
    let sum_is : term sum ≡ binary Add (access 1 before) (access 0 here) = term-Bin Add (Access 1 before) (Access 0 here) ∙ (λ i. binary Add (term-Access 1 before i) (term-Access 0 here i)) in
    let read : term (Access 0 origin) ≡ access 0 origin = term-Access 0 origin in
    term-Cases branches ∙ (λ i. cases (choice (alone first) (read i) (choice (alone later) (sum_is i) none)))

-- membership, row by row
held : (conj : Polyhedron) (z : List ℤ) → HoldsSome (alone conj) z → Holds conj z
held conj z h = ⊎_elim (λ is. is) (λ other. absurd (Any-nil (λ (c : Polyhedron). Holds c z) other)) (Any-cons (λ (c : Polyhedron). Holds c z) conj [] h)

holds : (conj : Polyhedron) (z : List ℤ) → Holds conj z → HoldsSome (alone conj) z
holds conj z h = Any-here (λ (c : Polyhedron). Holds c z) conj [] h

both : (r s : Affine) (z : List ℤ) → All (IsAtLeastZero z) (r ∷ s ∷ []) → IsAtLeastZero z r × IsAtLeastZero z s
both r s z all = (All-head (IsAtLeastZero z) r (s ∷ []) all, All-head (IsAtLeastZero z) s [] (All-tail (IsAtLeastZero z) r (s ∷ []) all))

two : (r s : Affine) (z : List ℤ) → IsAtLeastZero z r → IsAtLeastZero z s → All (IsAtLeastZero z) (r ∷ s ∷ [])
two r s z p q = All-cons (IsAtLeastZero z) r (s ∷ []) p (All-cons (IsAtLeastZero z) s [] q (All-nil (IsAtLeastZero z)))

one : (r : Affine) (z : List ℤ) → IsAtLeastZero z r → All (IsAtLeastZero z) (r ∷ [])
one r z p = All-cons (IsAtLeastZero z) r [] p (All-nil (IsAtLeastZero z))

module _ (n i : ℤ) where
  abbrev point : List ℤ
  point = n ∷ i ∷ []

  inside-to : HoldsSome (alone inside) point → (pos 0 ≤ℤ i) × (pos 0 ≤ℤ value_at (row (pos 1) (negsuc 0) (negsuc 0)) point)
  inside-to h = let rows = both (row (pos 0) (pos 1) (pos 0)) (row (pos 1) (negsuc 0) (negsuc 0)) point (held inside point h) in (omega (arith, ints, rows.0), rows.1)

  inside-from : (k : ℤ) → pos 0 ≤ℤ k → pos 0 ≤ℤ value_at (row (pos 1) (negsuc 0) (negsuc 0)) (n ∷ k ∷ []) → HoldsSome (alone inside) (n ∷ k ∷ [])
  inside-from k low high = holds inside (n ∷ k ∷ []) (two (row (pos 0) (pos 1) (pos 0)) (row (pos 1) (negsuc 0) (negsuc 0)) (n ∷ k ∷ []) (omega (arith, ints, low)) high)

  first-to : HoldsSome (alone first) point → i ≡ pos 0
  first-to h = let rows = both (row (pos 0) (pos 1) (pos 0)) (row (pos 0) (negsuc 0) (pos 0)) point (held first point h) in omega (arith, ints, rows.0, rows.1)

  first-from : pos 0 ≤ℤ i → i ≤ℤ pos 0 → HoldsSome (alone first) point
  first-from low high = holds first point (two (row (pos 0) (pos 1) (pos 0)) (row (pos 0) (negsuc 0) (pos 0)) point (omega (arith, ints, low)) (omega (arith, ints, high)))

  later-to : HoldsSome (alone later) point → pos 1 ≤ℤ i
  later-to h = let row_holds = All-head (IsAtLeastZero point) (row (pos 0) (pos 1) (negsuc 0)) [] (held later point h) in omega (arith, ints, row_holds)

  later-from : pos 1 ≤ℤ i → HoldsSome (alone later) point
  later-from low = holds later point (one (row (pos 0) (pos 1) (negsuc 0)) point (omega (arith, ints, low)))

  -- at the case
  one_branch_there : HoldsSome (alone inside) point → HasOneBranch (alone first ∷ alone later ∷ []) point
  one_branch_there h =
      let low = (inside-to h).0 in
      record {
        no_overlap = (((λ f l. let zero_is = first-to f in let above = later-to l in omega (arith, ints, zero_is, above)), tt), (tt, tt));
        no_gap = λ fails. by_lt_z (pos 0) i (λ above. fails.1.0 (later-from (omega (arith, ints, above)))) (λ below. fails.0 (first-from low below));
      }

  -- at the accesses
  origin_within : HoldsSome (alone inside) point → HoldsSome (alone first) point → ReadsWithin prefix 0 origin point
  origin_within h f = let outer = inside-to h in let same = first-to f in inside-from (value_at (row (pos 0) (pos 0) (pos 0)) point) (omega (arith, ints)) (omega (arith, ints, outer.1, same, outer.0))

  before_within : HoldsSome (alone inside) point → HoldsSome (alone later) point → ReadsWithin prefix 1 before point
  before_within h l = let outer = inside-to h in let above = later-to l in inside-from (value_at (row (pos 0) (pos 1) (negsuc 0)) point) (omega (arith, ints, above)) (omega (arith, ints, outer.1))

  here_within : HoldsSome (alone inside) point → ReadsWithin prefix 0 here point
  here_within h = let outer = inside-to h in inside-from (value_at (row (pos 0) (pos 1) (pos 0)) point) (omega (arith, ints, outer.0)) (omega (arith, ints, outer.1))

-- points of two coordinates
at_two : (P : List ℤ → Type 0) → ((n i : ℤ) → P (n ∷ i ∷ [])) → (z : List ℤ) → length z ≡ 2 → P z
at_two P each [] long = absurd (omega (arith, long))
at_two P each (n ∷ []) long = absurd (omega (arith, long))
at_two P each (n ∷ i ∷ []) long = each n i
at_two P each (n ∷ i ∷ k ∷ z) long = absurd (omega (arith, long))

abbrev scope : Scope
scope = record { domains = prefix.pdom ∷ alone inside ∷ []; reductions = []; width = 2 }

-- its four places
abbrev the_case : Place
the_case = record { part = case_over (alone first ∷ alone later ∷ []); scope = scope }

abbrev first_read : Place
first_read = record { part = access_to 0 origin; scope = under_branch scope (alone first) }

abbrev sum_before : Place
sum_before = record { part = access_to 1 before; scope = under_branch scope (alone later) }

abbrev value_here : Place
value_here = record { part = access_to 0 here; scope = under_branch scope (alone later) }

abbrev SoundAt : Place → Type 0
SoundAt place = IsSoundAt prefix place

case_sound : SoundAt the_case
case_sound = at_two (λ z. IsInContext scope.domains z → HasOneBranch (alone first ∷ alone later ∷ []) z) (λ n i force. one_branch_there n i force.1.0)

first_sound : SoundAt first_read
first_sound = at_two (λ z. IsInContext (scope.domains ++ alone first ∷ []) z → ReadsWithin prefix 0 origin z) (λ n i force. origin_within n i force.1.0 force.1.1.0)

before_sound : SoundAt sum_before
before_sound = at_two (λ z. IsInContext (scope.domains ++ alone later ∷ []) z → ReadsWithin prefix 1 before z) (λ n i force. before_within n i force.1.0 force.1.1.0)

here_sound : SoundAt value_here
here_sound = at_two (λ z. IsInContext (scope.domains ++ alone later ∷ []) z → ReadsWithin prefix 0 here z) (λ n i force. here_within n i force.1.0)

all_sound : All (IsSoundAt prefix) (places body scope)
all_sound =
    All-cons SoundAt the_case (first_read ∷ sum_before ∷ value_here ∷ []) case_sound
    (All-cons SoundAt first_read (sum_before ∷ value_here ∷ []) first_sound
    (All-cons SoundAt sum_before (value_here ∷ []) before_sound
    (All-cons SoundAt value_here [] here_sound (All-nil SoundAt))))

placed : IsAtWidth 2 body 2
placed = (refl, (omega arith, refl), (refl, ((omega arith, refl), (omega arith, refl)), tt))

sound : IsSoundEquation prefix equation
sound =
    (sound_by_places prefix equation (subst (λ t. IsAtWidth 2 t 2) (sym body_is) placed)).1
    (subst (λ t. All (IsSoundAt prefix) (places t scope)) (sym body_is) all_sound)

-- along i neither up nor down can a direction go on for ever
abbrev down_rows : List Affine
down_rows = directions 1 1 inside.rows 0 (negsuc 0)

abbrev up_rows : List Affine
up_rows = directions 1 1 inside.rows 0 (pos 1)

up : BalancingMultipliers up_rows
up = record { numbers = 0 ∷ 1 ∷ 1 ∷ []; count = refl; last = omega arith; balanced = each }
  where
    each : (column : ℕ) → column_sum (0 ∷ 1 ∷ 1 ∷ []) up_rows column ≡ pos 0
    each zero = omega (arith, ints)
    each (suc column) = omega (arith, ints)

down : BalancingMultipliers down_rows
down = record { numbers = 1 ∷ 0 ∷ 1 ∷ []; count = refl; last = omega arith; balanced = each }
  where
    each : (column : ℕ) → column_sum (1 ∷ 0 ∷ 1 ∷ []) down_rows column ≡ pos 0
    each zero = omega (arith, ints)
    each (suc column) = omega (arith, ints)

no_direction : HasNoDirection 1 1 inside.rows
no_direction zero within = (up, down)
no_direction (suc j) within = absurd (omega arith)

inside_finite : IsFinite (alone inside) 1 1
inside_finite =
    finite [] (alone inside) 1 1
    (record {
      outside = All-nil (λ (row : Affine). length row.coefs ≤ 1);
      disjuncts = All-cons (λ (conj : Polyhedron). HasNoDirection 1 1 conj.rows) inside [] no_direction (All-nil (λ (conj : Polyhedron). HasNoDirection 1 1 conj.rows));
    })

abbrev table : Variable
table = record { name = codes "A"; role = Input; domain = alone inside }

abbrev sums : Variable
sums = record { name = codes "S"; role = Output; domain = alone inside }

pub prefix_certified : IsCertified prefix
prefix_certified =
    let P : Variable → Type 0 = HasFinitePoints prefix in
    record {
      finite = All-cons P table (sums ∷ []) inside_finite (All-cons P sums [] inside_finite (All-nil P));
      sound = All-cons (IsSoundEquation prefix) equation [] sound (All-nil (IsSoundEquation prefix));
    }
