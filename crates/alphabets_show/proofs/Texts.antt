-- The bytes of what is shown item by item.
use Rattle.std.proofs.Common.{◌≡◌, ℕ, zero, suc, ◌+◌, ◌-◌, ◌<◌, ◌≤◌, Bool, true, false, List, [], ◌∷◌, ◌++◌, length, take, drop, refl, sym, ap, subst, ◌∙◌, arith, append-nil, append_assoc}
use Rattle.std.specs.Prelude.{flat_map, slice_index_or, decimal, if◌then◌else◌, Result, Ok, Err, OnOk, is_ok}
use Rattle.std.proofs.lemmas.Fmt.{decimal_digit}
use Rattle.az_ast.specs.declared.expr.Branch.{Branch}
use Rattle.az_ast.specs.declared.program.Variable.{Variable}
use Rattle.az_ast.specs.Term.{term}
use Rattle.az_ast.proofs.Walks.{below}
use Rattle.az_text.specs.Lumps.{Lump, bytes_of}
use Rattle.az_text.specs.declared.mark.MarkKind.TheVariants.{Colon, Semicolon}
use Rattle.az_text.proofs.LumpLaws.{bytes_of-append}
use Rattle.alphabets_show.specs.Pieces.{mark, word, space, spaced, comma, joined, names}
use Rattle.alphabets_show.specs.Sides.{Names, index_name, indices, restriction}
use Rattle.alphabets_show.specs.Expressions.{expression, branch_list}

pub decimal_zero : decimal 0 ≡ 48 ∷ []
decimal_zero = decimal_digit 0 (omega arith)

-- one item more
item_taken : {A : Type 0} (f : A → List Lump) (xs : List A) (i : ℕ) (x : A) → i < length xs → x ≡ slice_index_or xs i x → flat_map f (take (suc i) xs) ≡ flat_map f (take i xs) ++ f x
item_taken f [] i x within here = absurd (omega arith)
item_taken f (y ∷ xs) zero x within here = append-nil (f y) ∙ ap f (sym here)
item_taken f (y ∷ xs) (suc i) x within here =
    ap (λ (rest : List Lump). f y ++ rest) (item_taken f xs i x (omega arith) here) ∙ sym (append_assoc (f y) (flat_map f (take i xs)) (f x))

pub item_more : {A : Type 0} (f : A → List Lump) (xs : List A) (i : ℕ) (x : A) → i < length xs → x ≡ slice_index_or xs i x
    → bytes_of (flat_map f (take (i + 1) xs)) ≡ bytes_of (flat_map f (take i xs)) ++ bytes_of (f x)
item_more f xs i x within here =
    let next : i + 1 ≡ suc i = omega arith in
    ap (λ (k : ℕ). bytes_of (flat_map f (take k xs))) next ∙ (ap bytes_of (item_taken f xs i x within here) ∙ bytes_of-append (flat_map f (take i xs)) (f x))

pub name_more : (names : Names) (i : ℕ) (x said : List ℕ) → i < length names → x ≡ slice_index_or names i x → said ≡ x
    → bytes_of (flat_map (λ name. comma (word name ∷ [])) (take (i + 1) names)) ≡ bytes_of (flat_map (λ name. comma (word name ∷ [])) (take i names)) ++ 44 ∷ said
name_more names i x said within here same =
    let f = λ (name : List ℕ). comma (word name ∷ []) in
    item_more f names i x within here ∙ ap (λ (b : List ℕ). bytes_of (flat_map f (take i names)) ++ 44 ∷ b) (append-nil x ∙ sym same)

-- one index more, behind the first
index_taken : (f : List ℕ → List Lump) (from k : ℕ) → flat_map f (indices from (suc k)) ≡ flat_map f (indices from k) ++ f (index_name (from + k))
index_taken f from zero = let at : from ≡ from + 0 = omega arith in append-nil (f (index_name from)) ∙ ap (λ (n : ℕ). f (index_name n)) at
index_taken f from (suc k) =
    let at : suc from + k ≡ from + suc k = omega arith in
    ap (λ (rest : List Lump). f (index_name from) ++ rest) (index_taken f (suc from) k ∙ ap (λ (n : ℕ). flat_map f (indices (suc from) k) ++ f (index_name n)) at)
    ∙ sym (append_assoc (f (index_name from)) (flat_map f (indices (suc from) k)) (f (index_name (from + suc k))))

index_more : (from k at : ℕ) → at ≡ from + suc k → bytes_of (names (indices from (suc (suc k)))) ≡ bytes_of (names (indices from (suc k))) ++ bytes_of (comma (word (index_name at) ∷ []))
index_more from k at is =
    let f = λ (name : List ℕ). comma (word name ∷ []) in
    let place : suc from + k ≡ at = omega arith in
    let first = word (index_name from) ∷ [] in
    ap (λ (rest : List Lump). bytes_of (first ++ rest)) (index_taken f (suc from) k ∙ ap (λ (n : ℕ). flat_map f (indices (suc from) k) ++ f (index_name n)) place)
    ∙ (ap bytes_of (sym (append_assoc first (flat_map f (indices (suc from) k)) (f (index_name at)))) ∙ bytes_of-append (first ++ flat_map f (indices (suc from) k)) (f (index_name at)))

pub index_written : (from at : ℕ) → from + 1 ≤ at → bytes_of (names (indices from (at + 1 - from))) ≡ bytes_of (names (indices from (at - from))) ++ 44 ∷ 105 ∷ decimal at
index_written from at behind =
    let k = at - from - 1 in
    let place : at ≡ from + suc k = omega arith in
    let now : at - from ≡ suc k = omega arith in
    let next : at + 1 - from ≡ suc (suc k) = omega arith in
    ap (λ (n : ℕ). bytes_of (names (indices from n))) next
    ∙ (index_more from k at place ∙ (λ i. bytes_of (names (indices from (sym now i))) ++ 44 ∷ 105 ∷ append-nil (decimal at) i))

-- one branch more
module _ (params : Names) (variables : List Variable) (count : ℕ) where
  abbrev pub branch_lumps : Branch → List Lump
  branch_lumps b = restriction params b.domain ++ spaced Colon (expression params variables (term b.body) count ++ mark Semicolon ∷ space ∷ [])

  abbrev shown_below : List Branch → List Lump
  shown_below branches = branch_list params variables (below branches) count

  branch_taken : (bs : List Branch) (i : ℕ) (b : Branch) → i < length bs → b ≡ slice_index_or bs i b → shown_below (take (suc i) bs) ≡ shown_below (take i bs) ++ branch_lumps b
  branch_taken [] i b within here = absurd (omega arith)
  branch_taken (y ∷ bs) zero b within here = append-nil (branch_lumps y) ∙ ap branch_lumps (sym here)
  branch_taken (y ∷ bs) (suc i) b within here =
      ap (λ (rest : List Lump). branch_lumps y ++ rest) (branch_taken bs i b (omega arith) here) ∙ sym (append_assoc (branch_lumps y) (shown_below (take i bs)) (branch_lumps b))

  pub branch_more : (bs : List Branch) (i : ℕ) (b : Branch) → i < length bs → b ≡ slice_index_or bs i b → bytes_of (shown_below (take (i + 1) bs)) ≡ bytes_of (shown_below (take i bs)) ++ bytes_of (branch_lumps b)
  branch_more bs i b within here =
      let next : i + 1 ≡ suc i = omega arith in
      ap (λ (k : ℕ). bytes_of (shown_below (take k bs))) next ∙ (ap bytes_of (branch_taken bs i b within here) ∙ bytes_of-append (shown_below (take i bs)) (branch_lumps b))

-- a loop over items: what is written after all of them, and one further
pub take_all : {A : Type 0} (xs : List A) → take (length xs) xs ≡ xs
take_all [] = refl
take_all (x ∷ xs) = ap (λ (rest : List _). x ∷ rest) (take_all xs)

pub all_written : {A : Type 0} (f : A → List Lump) (xs : List A) (i : ℕ) (start text : List ℕ) → i ≡ length xs → text ≡ start ++ bytes_of (flat_map f (take i xs)) → text ≡ start ++ bytes_of (flat_map f xs)
all_written f xs i start text end is = is ∙ ap (λ (ys : List _). start ++ bytes_of (flat_map f ys)) (ap (λ (k : ℕ). take k xs) end ∙ take_all xs)

pub further_two : (start before all a b t0 t1 t2 : List ℕ) → t0 ≡ start ++ before → t1 ≡ t0 ++ a → t2 ≡ t1 ++ b → all ≡ before ++ (a ++ b) → t2 ≡ start ++ all
further_two start before all a b t0 t1 t2 zero_ one two whole =
    two ∙ (ap (λ (t : List ℕ). t ++ b) (one ∙ ap (λ (t : List ℕ). t ++ a) zero_)
    ∙ (append_assoc (start ++ before) a b ∙ (append_assoc start before (a ++ b) ∙ ap (λ (t : List ℕ). start ++ t) (sym whole))))

pub further_one : (start before all a t0 t1 : List ℕ) → t0 ≡ start ++ before → t1 ≡ t0 ++ a → all ≡ before ++ a → t1 ≡ start ++ all
further_one start before all a t0 t1 zero_ one whole =
    one ∙ (ap (λ (t : List ℕ). t ++ a) zero_ ∙ (append_assoc start before a ∙ ap (λ (t : List ℕ). start ++ t) (sym whole)))

-- one text after another, the last of them where it was written
pub then_written : (t0 t1 t2 a b : List ℕ) → t1 ≡ t0 ++ a → t2 ≡ t1 ++ b → t2 ≡ t0 ++ (a ++ b)
then_written t0 t1 t2 a b one two = two ∙ (ap (λ (t : List ℕ). t ++ b) one ∙ append_assoc t0 a b)

pub then_ok : {T E : Type 0} (r : Result T E) (t0 t1 t2 a b : List ℕ) → t1 ≡ t0 ++ a → OnOk r (t2 ≡ t1 ++ b) → OnOk r (t2 ≡ t0 ++ (a ++ b))
then_ok (Ok x) t0 t1 t2 a b one two = then_written t0 t1 t2 a b one two
then_ok (Err e) t0 t1 t2 a b one two = two

pub same_ok : {T E : Type 0} (r : Result T E) (t0 t2 a b : List ℕ) → a ≡ b → OnOk r (t2 ≡ t0 ++ a) → OnOk r (t2 ≡ t0 ++ b)
same_ok r t0 t2 a b same h = subst (λ (bytes : List ℕ). OnOk r (t2 ≡ t0 ++ bytes)) same h

-- what `push_str` says, where it isn't refused
pub pushed_ok : {T E : Type 0} (r : Result T E) (t0 t1 added : List ℕ) → t1 ≡ (if is_ok r then t0 ++ added else t0) → OnOk r (t1 ≡ t0 ++ added)
pushed_ok (Ok x) t0 t1 added h = h
pushed_ok (Err e) t0 t1 added h = tt

-- a first item and further ones
pub joined_bytes : {A : Type 0} (shown : A → List Lump) (before : List Lump → List Lump) (items : List A) (first : A) → 1 ≤ length items → first ≡ slice_index_or items 0 first
    → bytes_of (shown first) ++ bytes_of (flat_map (λ next. before (shown next)) (take (length items - 1) (drop 1 items))) ≡ bytes_of (joined shown before items)
joined_bytes shown before [] first some here = absurd (omega arith)
joined_bytes shown before (x ∷ items) first some here =
    let rest : suc (length items) - 1 ≡ length items = omega arith in
    ap (λ (f : _). bytes_of (shown f) ++ bytes_of (flat_map (λ next. before (shown next)) (take (suc (length items) - 1) items))) here
    ∙ ap (λ (more : List _). bytes_of (shown x) ++ bytes_of (flat_map (λ next. before (shown next)) more)) (ap (λ (k : ℕ). take k items) rest ∙ take_all items)
    ∙ sym (bytes_of-append (shown x) (flat_map (λ next. before (shown next)) items))

pub ruleset lumps_joined = (bytes_of-append, append_assoc)
