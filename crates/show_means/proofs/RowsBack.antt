-- A row that is written with the names of its columns is read as that row.
use Rattle.std.proofs.Common.{◌≡◌, ℕ, zero, suc, ◌+◌, ◌-◌, ◌<◌, ◌≤◌, Bool, true, false, ◌||◌, List, [], ◌∷◌, ◌++◌, length, Option, Some, None, refl, sym, ap, subst, ◌∙◌, arith}
use Rattle.std.specs.Prelude.{◌==◌, if◌then◌else◌, bytes_eq, map, ℤ, pos, negsuc, neg_ℤ, ◌+ℤ◌, ◌-ℤ◌, unsigned_abs}
use Rattle.std.specs.List.{list_any, AllByRecursion}
use Rattle.std.proofs.lemmas.Bool.{eqb-true}
use Rattle.std.proofs.lemmas.Int.{ints}
use Rattle.std.proofs.lemmas.List.{map-append}
use Rattle.az_lin.specs.Affine.{Affine}
use Rattle.az_ast.specs.Shapes.{has_twice}
use Rattle.alphabets_show.specs.Sides.{Names, Summand, index_name, indices, column_name, nonzero, coefficients, summands}
use Rattle.grammar_rules.specs.declared.term.Term.{Term}
use Rattle.program_names.specs.Sides.{is_of, signed, sum_of, entry_of, less, Difference}
use Rattle.program_names.specs.Sides as names
use Rattle.program_names.proofs.NameNumbers.{equal-bytes, differ-back}
use Rattle.program_names.proofs.Sums.{or-left, or-right}
use Rattle.show_grammar.specs.WrittenOf.{is_negative, term_of, zero_side, side_of, row_of}
use Rattle.show_grammar.proofs.Sentence.{name_behind}
use Rattle.show_means.proofs.Scopes.{length-columns}
use Rattle.show_means.specs.Kept.{columns}

-- the coefficients over a list of names
abbrev pub over : Names → List ℤ → List Summand
over [] cs = []
over (name ∷ rest) [] = []
over (name ∷ rest) (c ∷ cs) = nonzero c (Some name) ++ over rest cs

behind_param : (x : List ℕ) (params : Names) (k : ℕ) (cs : List ℤ) → coefficients (x ∷ params) (suc k) cs ≡ coefficients params k cs
behind_param x params k [] = refl
behind_param x params k (c ∷ cs) = (λ i. nonzero c (Some (name_behind x params k i)) ++ behind_param x params (suc k) cs i)

over_indices : (k count : ℕ) (cs : List ℤ) → length cs ≡ count → coefficients [] k cs ≡ over (indices k count) cs
over_indices k zero [] same = refl
over_indices k zero (c ∷ cs) same = absurd (omega arith)
over_indices k (suc count) [] same = absurd (omega arith)
over_indices k (suc count) (c ∷ cs) same =
    let own : k - 0 ≡ k = omega arith in
    let rest = over_indices (suc k) count cs (omega arith) in
    (λ i. nonzero c (Some (index_name (own i))) ++ rest i)

pub over_columns : (params : Names) (count : ℕ) (cs : List ℤ) → length cs ≡ length params + count → coefficients params 0 cs ≡ over (columns params count) cs
over_columns [] count cs same = over_indices 0 count cs (omega arith)
over_columns (x ∷ params) count [] same = absurd (omega arith)
over_columns (x ∷ params) count (c ∷ cs) same =
    ap (λ (rest : List Summand). nonzero c (Some x) ++ rest) (behind_param x params 0 cs ∙ over_columns params count cs (omega arith))

-- sums of what is shown
abbrev total : Option (List ℕ) → List Summand → ℤ
total column ts = sum_of column (map term_of ts)

abbrev share : Option (List ℕ) → ℤ → Option (List ℕ) → ℤ
share column c name = if is_of column (term_of (c, name)) then c else pos 0

pub signed-back : (c : ℤ) → signed (is_negative c) (unsigned_abs c) ≡ c
signed-back (pos n) = refl
signed-back (negsuc n) = refl

total-append : (column : Option (List ℕ)) (xs ys : List Summand) → total column (xs ++ ys) ≡ total column xs +ℤ total column ys
total-append column [] ys = omega (arith, ints)
total-append column (x ∷ xs) ys = let rest = total-append column xs ys in omega (arith, ints, rest)

zero_is : (c : ℤ) → (unsigned_abs c == 0) ≡ true → c ≡ pos 0
zero_is c is = let none = eqb-true (unsigned_abs c) 0 is in omega (arith, ints, none)

either_zero : (b : Bool) → pos 0 ≡ (if b then pos 0 else pos 0)
either_zero true = refl
either_zero false = refl

total-nonzero : (column : Option (List ℕ)) (c : ℤ) (name : Option (List ℕ)) → total column (nonzero c name) ≡ share column c name
total-nonzero column c name = by (unsigned_abs c == 0) refl
  where
    by : (b : Bool) → (unsigned_abs c == 0) ≡ b → total column (if b then [] else (c, name) ∷ []) ≡ share column c name
    by true none = let same = zero_is c none in either_zero (is_of column (term_of (c, name))) ∙ ap (λ (z : ℤ). if is_of column (term_of (c, name)) then z else pos 0) (sym same)
    by false some =
        let one : total column ((c, name) ∷ []) ≡ (if is_of column (term_of (c, name)) then signed (is_negative c) (unsigned_abs c) else pos 0) = omega (arith, ints) in
        one ∙ ap (λ (z : ℤ). if is_of column (term_of (c, name)) then z else pos 0) (signed-back c)

-- one coefficient more
total-more : (column : Option (List ℕ)) (c : ℤ) (name : Option (List ℕ)) (rest : List Summand) → total column (nonzero c name ++ rest) ≡ share column c name +ℤ total column rest
total-more column c name rest = total-append column (nonzero c name) rest ∙ ap (λ (z : ℤ). z +ℤ total column rest) (total-nonzero column c name)

-- a column of another name has no share
other_share : (x y : List ℕ) (c : ℤ) → bytes_eq x y ≡ false → share (Some x) c (Some y) ≡ pos 0
other_share x y c differs = ap (λ b. if b then c else pos 0) differs

total-absent : (x : List ℕ) (names : Names) (cs : List ℤ) → list_any (bytes_eq x) names ≡ false → total (Some x) (over names cs) ≡ pos 0
total-absent x [] cs none = refl
total-absent x (n ∷ names) [] none = refl
total-absent x (n ∷ names) (c ∷ cs) none =
    let here = other_share x n c (or-left (bytes_eq x n) (list_any (bytes_eq x) names) none) in
    let rest = total-absent x names cs (or-right (bytes_eq x n) (list_any (bytes_eq x) names) none) in
    let step = total-more (Some x) c (Some n) (over names cs) in
    omega (arith, ints, here, rest, step)

total-constant : (names : Names) (cs : List ℤ) → total None (over names cs) ≡ pos 0
total-constant [] cs = refl
total-constant (n ∷ names) [] = refl
total-constant (n ∷ names) (c ∷ cs) =
    let rest = total-constant names cs in
    let step = total-more None c (Some n) (over names cs) in
    omega (arith, ints, rest, step)

-- the columns come back
map-same : {A B : Type 0} (f g : A → B) (xs : List A) → AllByRecursion (λ x. f x ≡ g x) xs → map f xs ≡ map g xs
map-same f g [] same = refl
map-same f g (x ∷ xs) same = (λ i. same.0 i ∷ map-same f g xs same.1 i)

map-all : {A B : Type 0} (f g : A → B) → ((x : A) → f x ≡ g x) → (xs : List A) → map f xs ≡ map g xs
map-all f g same [] = refl
map-all f g same (x ∷ xs) = (λ i. same x i ∷ map-all f g same xs i)

others_differ : (n : List ℕ) (names : Names) → list_any (bytes_eq n) names ≡ false → AllByRecursion (λ x. bytes_eq x n ≡ false) names
others_differ n [] none = tt
others_differ n (x ∷ names) none =
    (differ-back n x (or-left (bytes_eq n x) (list_any (bytes_eq n) names) none), others_differ n names (or-right (bytes_eq n x) (list_any (bytes_eq n) names) none))

each : {A : Type 0} (P Q : A → Type 0) → ((x : A) → P x → Q x) → (xs : List A) → AllByRecursion P xs → AllByRecursion Q xs
each P Q f [] h = tt
each P Q f (x ∷ xs) h = (f x h.0, each P Q f xs h.1)

columns_back : (names : Names) (cs : List ℤ) → length cs ≡ length names → has_twice names ≡ false → map (λ x. total (Some x) (over names cs)) names ≡ cs
columns_back [] [] same once = refl
columns_back [] (c ∷ cs) same once = absurd (omega arith)
columns_back (n ∷ names) [] same once = absurd (omega arith)
columns_back (n ∷ names) (c ∷ cs) same once =
    let none = or-left (list_any (bytes_eq n) names) (has_twice names) once in
    let own : share (Some n) c (Some n) ≡ c = ap (λ b. if b then c else pos 0) (equal-bytes n n refl) in
    let absent = total-absent n names cs none in
    let step = total-more (Some n) c (Some n) (over names cs) in
    let here : total (Some n) (nonzero c (Some n) ++ over names cs) ≡ c = omega (arith, ints, own, absent, step) in
    let others = map-same (λ x. total (Some x) (nonzero c (Some n) ++ over names cs)) (λ x. total (Some x) (over names cs)) names
    (each (λ x. bytes_eq x n ≡ false) (λ x. total (Some x) (nonzero c (Some n) ++ over names cs) ≡ total (Some x) (over names cs))
    (λ x differs. let nothing = other_share x n c differs in let more = total-more (Some x) c (Some n) (over names cs) in omega (arith, ints, nothing, more)) names (others_differ n names none)) in
    (λ i. here i ∷ (others ∙ columns_back names cs (omega arith) (or-right (list_any (bytes_eq n) names) (has_twice names) once)) i)

-- a side that is nothing
abbrev pub IsZero : List Term → Type 0
IsZero side = (column : Option (List ℕ)) → sum_of column side ≡ pos 0

pub nothing_zero : IsZero []
nothing_zero column = refl

pub zero_side_zero : IsZero zero_side
zero_side_zero column = by (is_of column (record { negative = false; factor = 0; name = None }))
  where
    by : (b : Bool) → ((if b then pos 0 else pos 0) +ℤ pos 0) ≡ pos 0
    by true = refl
    by false = refl

sum_side : (column : Option (List ℕ)) (ts : List Summand) → sum_of column (side_of ts) ≡ total column ts
sum_side column [] = zero_side_zero column
sum_side column (t ∷ ts) = refl

-- the whole row
module _ (params : Names) (count : ℕ) (once : has_twice (columns params count) ≡ false) (row : Affine) (wide : length row.coefs ≡ length params + count) (right : List Term) (none : IsZero right) where
  abbrev shown_row : Difference
  shown_row = less (row_of params row) right false

  left-is : (column : Option (List ℕ)) → sum_of column shown_row.left ≡ total column (over (columns params count) row.coefs) +ℤ share column row.konst None
  left-is column =
      sum_side column (summands params row)
      ∙ (ap (λ (ts : List Summand). total column (ts ++ nonzero row.konst None)) (over_columns params count row.coefs wide)
      ∙ (total-append column (over (columns params count) row.coefs) (nonzero row.konst None)
      ∙ ap (λ (z : ℤ). total column (over (columns params count) row.coefs) +ℤ z) (total-nonzero column row.konst None)))

  column-entry : (x : List ℕ) → entry_of shown_row (Some x) ≡ total (Some x) (over (columns params count) row.coefs)
  column-entry x = let left = left-is (Some x) in let other = none (Some x) in omega (arith, ints, left, other)

  constant-entry : entry_of shown_row None ≡ row.konst
  constant-entry =
      let left = left-is None in
      let other = none None in
      let no_constant = total-constant (columns params count) row.coefs in
      omega (arith, ints, left, other, no_constant)

  pub row_back : names.row_of (columns params count) shown_row ≡ row
  row_back =
      let coefs = map-all (λ x. entry_of shown_row (Some x)) (λ x. total (Some x) (over (columns params count) row.coefs)) column-entry (columns params count)
      ∙ columns_back (columns params count) row.coefs (wide ∙ sym (length-columns params count)) once in
      (λ i. record { coefs = coefs i; konst = constant-entry i })
