-- The value of the row that is made of two sides: that of the one less that of the other.
use Rattle.std.proofs.Common.{◌≡◌, ℕ, List, [], ◌∷◌, Bool, true, false, Option, refl, ap, subst, ◌∙◌, arith}
use Rattle.std.specs.Prelude.{Some, None, map, if◌then◌else◌, ◌≢◌, bytes_eq, ℤ, pos, neg_ℤ, ◌+ℤ◌, ◌-ℤ◌, ◌*ℤ◌}
use Rattle.std.specs.List.{AllByRecursion}
use Rattle.std.specs.Option.{option_map_or}
use Rattle.std.proofs.lemmas.Int.{ints}
use Rattle.std.proofs.lemmas.Slice.Eq.{bytes_eq-Decides}
use Rattle.az_lin.specs.Affine.{dot, value_at}
use Rattle.az_lin.specs.Substitution.{Point}
use Rattle.az_lin.proofs.Integers.{add-mul_int}
use Rattle.az_lin.proofs.Negation.{neg_mul}
use Rattle.grammar_rules.specs.declared.term.Term.{Term}
use Rattle.program_names.specs.Sides.{Scope, Difference, is_of, signed, sum_of, entry_of, row_of, gap_of}
use Rattle.side_rows.proofs.Sums.{not-true}
use Rattle.chain_means.specs.Comparisons.{AreDifferent, coordinate, term_at, side_at}

-- products of the coordinates with a number for each name
abbrev products : (List ℕ → ℤ) → Scope → Point → ℤ
products number scope z = dot (map number scope) z

no_products : (scope : Scope) (z : Point) → products (λ name. pos 0) scope z ≡ pos 0
no_products [] z = refl
no_products (name ∷ scope) [] = refl
no_products (name ∷ scope) (x ∷ z) = omega (arith, ints, no_products scope z)

sum_of_products : (f g : List ℕ → ℤ) (scope : Scope) (z : Point) → products (λ name. f name +ℤ g name) scope z ≡ products f scope z +ℤ products g scope z
sum_of_products f g [] z = refl
sum_of_products f g (name ∷ scope) [] = refl
sum_of_products f g (name ∷ scope) (x ∷ z) = omega (arith, ints, add-mul_int (f name) (g name) x, sum_of_products f g scope z)

less_mul : (a b x : ℤ) → ((a -ℤ b) -ℤ pos 0) *ℤ x ≡ (a *ℤ x) -ℤ (b *ℤ x)
less_mul a b x =
    let same : (a -ℤ b) -ℤ pos 0 ≡ a +ℤ neg_ℤ b = omega (arith, ints) in
    ap (λ (c : ℤ). c *ℤ x) same ∙ omega (arith, ints, add-mul_int a (neg_ℤ b) x, neg_mul b x)

less_products : (f g : List ℕ → ℤ) (scope : Scope) (z : Point) → products (λ name. (f name -ℤ g name) -ℤ pos 0) scope z ≡ products f scope z -ℤ products g scope z
less_products f g [] z = refl
less_products f g (name ∷ scope) [] = refl
less_products f g (name ∷ scope) (x ∷ z) = omega (arith, ints, less_mul (f name) (g name) x, less_products f g scope z)

-- a number for one name alone
abbrev alone_at : ℤ → List ℕ → List ℕ → ℤ
alone_at c name column = if bytes_eq column name then c else pos 0

other_columns : (c : ℤ) (name : List ℕ) (scope : Scope) (z : Point) → AllByRecursion (λ other. other ≢ name) scope → products (alone_at c name) scope z ≡ pos 0
other_columns c name [] z others = refl
other_columns c name (column ∷ scope) [] others = refl
other_columns c name (column ∷ scope) (x ∷ z) others =
    let here : bytes_eq column name ≡ false = not-true (bytes_eq column name) (λ is. others.0 ((bytes_eq-Decides column name).0 is)) in
    ap (λ b. ((if b then c else pos 0) *ℤ x) +ℤ products (alone_at c name) scope z) here ∙ omega (arith, ints, other_columns c name scope z others.1)

named : (column name : List ℕ) (scope : Scope) → column ≡ name → AllByRecursion (λ other. other ≢ column) scope → AllByRecursion (λ other. other ≢ name) scope
named column name scope same others = subst (λ (one : List ℕ). AllByRecursion (λ other. other ≢ one) scope) same others

one_column : (c : ℤ) (name : List ℕ) (scope : Scope) (z : Point) → AreDifferent scope → products (alone_at c name) scope z ≡ c *ℤ coordinate scope z name
one_column c name [] z once = omega (arith, ints)
one_column c name (column ∷ scope) [] once = omega (arith, ints)
one_column c name (column ∷ scope) (x ∷ z) once = by (one_column c name scope z once.1) (bytes_eq column name) refl
  where
    by : products (alone_at c name) scope z ≡ c *ℤ coordinate scope z name → (b : Bool) → bytes_eq column name ≡ b →
        ((if b then c else pos 0) *ℤ x) +ℤ products (alone_at c name) scope z ≡ c *ℤ (if b then x else coordinate scope z name)
    by behind true is =
        let none = other_columns c name scope z (named column name scope ((bytes_eq-Decides column name).0 is) once.0) in
        omega (arith, ints, none)
    by behind false is = omega (arith, ints, behind)

module _ (scope : Scope) (z : Point) (once : AreDifferent scope) where
  -- a factor at the column of its name, or at the constant
  factor_value : (c : ℤ) (name : Option (List ℕ)) →
      products (λ column. if option_map_or (bytes_eq column) name false then c else pos 0) scope z +ℤ (if option_map_or (λ own. false) name true then c else pos 0)
      ≡ c *ℤ option_map_or (coordinate scope z) name (pos 1)
  factor_value c None = omega (arith, ints, no_products scope z)
  factor_value c (Some name) = omega (arith, ints, one_column c name scope z once)

  side_value : (side : List Term) → products (λ column. sum_of (Some column) side) scope z +ℤ sum_of None side ≡ side_at scope z side
  side_value [] = omega (arith, ints, no_products scope z)
  side_value (term ∷ side) =
      let c = signed term.negative term.factor in
      let both = sum_of_products (λ column. if is_of (Some column) term then c else pos 0) (λ column. sum_of (Some column) side) scope z in
      omega (arith, ints, both, factor_value c term.name, side_value side)

  pub row_value : (d : Difference) → value_at (row_of scope d) z ≡ (side_at scope z d.left -ℤ side_at scope z d.right) -ℤ gap_of None d.strict
  row_value d =
      let columns = less_products (λ column. sum_of (Some column) d.left) (λ column. sum_of (Some column) d.right) scope z in
      omega (arith, ints, columns, side_value d.left, side_value d.right)
