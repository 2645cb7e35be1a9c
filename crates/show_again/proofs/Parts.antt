-- What is known of each part of an expression, and that so it can be shown.
use Rattle.std.proofs.Common.{◌≡◌, ℕ, zero, suc, ◌+◌, ◌<◌, ◌≤◌, ◌^◌, Bool, true, false, true≢false, not, ◌||◌, List, [], ◌∷◌, ◌++◌, length, Some, refl, sym, ap, ◌∙◌, arith}
use Rattle.std.specs.Prelude.{All, ℤ, unsigned_abs, map, flat_map, slice_get, bytes_eq, IsTrue, ◌==◌}
use Rattle.std.specs.Char.{is_ascii_alphabetic, is_ascii_alphanumeric}
use Rattle.std.specs.List.{list_any, list_all, AllByRecursion}
use Rattle.std.proofs.lemmas.Bool.{false≢true, and_parts}
use Rattle.std.proofs.lemmas.Cmp.{nat_list_eq_equiv}
use Rattle.std.proofs.lemmas.Int.{ints}
use Rattle.std.proofs.lemmas.List.Elements.{recursion_from_All}
use Rattle.az_lin.specs.Affine.{Affine, Polyhedron, Union, IsEntry}
use Rattle.az_lin.proofs.AllLists.{all_first, all_last}
use Rattle.az_text.specs.Tokens.{is_word_byte, AllAre, IsWord}
use Rattle.az_ast.specs.declared.op.Op.{Op}
use Rattle.az_ast.specs.declared.op.Op.TheVariants.{Sub}
use Rattle.az_ast.specs.declared.program.Variable.{Variable}
use Rattle.az_ast.specs.Operators.{IsWord as IsWord64}
use Rattle.az_ast.specs.Placed.{IsAtWidth, AreAtWidth}
use Rattle.az_ast.specs.Rows.{IsRowAt, IsConjAt, IsDomainAt, HasRowsAt, HaveRowsAt}
use Rattle.az_ast.specs.Shapes.{has_other_arity, reduces_by_sub, is_sub}
use Rattle.az_ast.specs.Term.{Term, constant, index, access, negation, binary, cases, reduction, Choices, none, choice}
use Rattle.az_ast.specs.Walks.{parts, parts_below, own_domains}
use Rattle.az_ast.specs.Writable as ast
use Rattle.alphabets_show.specs.Expressions.{name_of}
use Rattle.program_grammar.specs.Words.{reserved}
use Rattle.program_grammar.specs.Written.{IsName}
use Rattle.program_names.proofs.RowLists.{any-same}
use Rattle.show_grammar.specs.Showable.{IsSpelled, IsSpelledRow, AreSpelledRows, IsSpelledConj, IsSpelledDomain, HasBranches, IsShowable, AreShowable}

-- lists
pub each : {A : Type 0} (P Q : A → Type 0) → ((a : A) → P a → Q a) → (xs : List A) → AllByRecursion P xs → AllByRecursion Q xs
each P Q f [] h = tt
each P Q f (x ∷ xs) h = (f x h.0, each P Q f xs h.1)

pub all_both : {A : Type 0} (P Q R : A → Type 0) → ((a : A) → P a → Q a → R a) → (xs : List A) → AllByRecursion P xs → AllByRecursion Q xs → AllByRecursion R xs
all_both P Q R f [] h k = tt
all_both P Q R f (x ∷ xs) h k = (f x h.0 k.0, all_both P Q R f xs h.1 k.1)

pub all_append : {A : Type 0} (P : A → Type 0) (xs ys : List A) → AllByRecursion P xs → AllByRecursion P ys → AllByRecursion P (xs ++ ys)
all_append P [] ys one two = two
all_append P (x ∷ xs) ys one two = (one.0, all_append P xs ys one.1 two)

pub all_map : {A B : Type 0} (P : B → Type 0) (f : A → B) (xs : List A) → AllByRecursion (λ a. P (f a)) xs → AllByRecursion P (map f xs)
all_map P f [] h = tt
all_map P f (x ∷ xs) h = (h.0, all_map P f xs h.1)

pub all_of_flat : {A B : Type 0} (P : B → Type 0) (f : A → List B) (xs : List A) → AllByRecursion P (flat_map f xs) → AllByRecursion (λ a. AllByRecursion P (f a)) xs
all_of_flat P f [] h = tt
all_of_flat P f (x ∷ xs) h = (all_first P (f x) (flat_map f xs) h, all_of_flat P f xs (all_last P (f x) (flat_map f xs) h))

-- a fact on an expression and on each part of it
module _ (P : Term → Type 0) where
  abbrev mutual
    pub EachPart : Term → Type 0
    EachPart (constant c) = P (constant c)
    EachPart (index row) = P (index row)
    EachPart (access x f) = P (access x f)
    EachPart (negation e) = P (negation e) × EachPart e
    EachPart (binary op a b) = P (binary op a b) × EachPart a × EachPart b
    EachPart (cases branches) = P (cases branches) × EachBelow branches
    EachPart (reduction op extra d e) = P (reduction op extra d e) × EachPart e

    pub EachBelow : Choices → Type 0
    EachBelow none = Unit {0}
    EachBelow (choice d e rest) = EachPart e × EachBelow rest

  mutual
    pub each_part : (t : Term) → AllByRecursion P (parts t) → EachPart t
    each_part (constant c) h = h.0
    each_part (index row) h = h.0
    each_part (access x f) h = h.0
    each_part (negation e) h = (h.0, each_part e h.1)
    each_part (binary op a b) h = (h.0, each_part a (all_first P (parts a) (parts b) h.1), each_part b (all_last P (parts a) (parts b) h.1))
    each_part (cases branches) h = (h.0, each_below branches h.1)
    each_part (reduction op extra d e) h = (h.0, each_part e h.1)

    each_below : (branches : Choices) → AllByRecursion P (parts_below branches) → EachBelow branches
    each_below none h = tt
    each_below (choice d e rest) h = (each_part e (all_first P (parts e) (parts_below rest) h), each_below rest (all_last P (parts e) (parts_below rest) h))

abbrev pub IsFew : Union → Type 0
IsFew d = length d.disjuncts ≤ 8

pub record IsProper (params : ℕ) (variables : List Variable) (part : Term) : Type 0 where
  pub arity : has_other_arity params variables part ≡ false
  pub folds : reduces_by_sub part ≡ false
  pub written : IsTrue (ast.is_written part)
  pub few : AllByRecursion IsFew (own_domains part)

-- names
word_bytes : (bytes : List ℕ) → list_all (λ b. is_ascii_alphanumeric b || b == 95) bytes ≡ true → AllAre is_word_byte bytes
word_bytes [] h = tt
word_bytes (b ∷ bytes) h = let both = and_parts (is_word_byte b) (list_all (λ b. is_ascii_alphanumeric b || b == 95) bytes) h in (both.0, word_bytes bytes both.1)

word_is : (name : List ℕ) → ast.is_word name ≡ true → IsWord name
word_is [] h = absurd (false≢true h)
word_is (b ∷ bytes) h =
    let both = and_parts (is_ascii_alphabetic b) (list_all (λ b. is_ascii_alphanumeric b || b == 95) bytes) h in (both.0, word_bytes bytes both.1)

no_true : (b : Bool) → not b ≡ true → b ≡ false
no_true true h = absurd (false≢true h)
no_true false h = refl

pub name_is : (name : List ℕ) → IsTrue (ast.is_name name) → IsName name
name_is name h =
    let both = and_parts (ast.is_word name) (not (list_any (λ reserved. bytes_eq reserved name) ast.reserved_words)) h in (
      word_is name both.0,
      any-same (bytes_eq name) (λ word. bytes_eq word name) (λ word. nat_list_eq_equiv.symm name word) reserved
          ∙ no_true (list_any (λ reserved. bytes_eq reserved name) ast.reserved_words) both.1,
    )

pub some_at : {A : Type 0} (xs : List A) (x : ℕ) → x < length xs → (a : A) × (slice_get xs x ≡ Some a)
some_at [] x within = absurd (omega arith)
some_at (a ∷ xs) zero within = (a, refl)
some_at (a ∷ xs) (suc x) within = some_at xs x (omega arith)

-- numbers, rows and domains
word_few : (c : ℤ) → IsWord64 c → unsigned_abs c < 2 ^ 127
word_few c h = omega (arith, ints, h)

spelled_row : (width : ℕ) (row : Affine) → IsRowAt width row → IsSpelledRow row
spelled_row width row is =
    (each IsEntry IsSpelled (λ c h. omega (arith, h)) row.coefs (recursion_from_All IsEntry row.coefs is.1.coefficients), (let h = is.1.constant in omega (arith, h)))

spelled_rows : (width : ℕ) (rows : List Affine) → All (IsRowAt width) rows → AreSpelledRows rows
spelled_rows width rows is = each (IsRowAt width) IsSpelledRow (spelled_row width) rows (recursion_from_All (IsRowAt width) rows is)

pub spelled_disjuncts : (width : ℕ) (ds : List Polyhedron) → All (IsConjAt width) ds → AllByRecursion IsSpelledConj ds
spelled_disjuncts width ds is = each (IsConjAt width) IsSpelledConj (λ conj at. spelled_rows width conj.rows at.rows) ds (recursion_from_All (IsConjAt width) ds is)

pub spelled_domain : (width : ℕ) (d : Union) → IsDomainAt width d → IsSpelledDomain d
spelled_domain width d is = (is.some, spelled_disjuncts width d.disjuncts is.disjuncts)

no_difference : (op : Op) → is_sub op ≡ false → op ≡ Sub → ⊥
no_difference op h same = true≢false (sym (ap is_sub same) ∙ h)

has_some : (branches : Choices) → ast.has_branches branches ≡ true → HasBranches branches
has_some none h = false≢true h
has_some (choice d e rest) h = tt

module _ (params : ℕ) (variables : List Variable) (named : (x : ℕ) → x < length variables → IsName (name_of variables x)) where
  mutual
    pub showable : (t : Term) (width : ℕ) → IsAtWidth (length variables) t width → HasRowsAt t width → EachPart (IsProper params variables) t → IsShowable variables t
    showable (constant c) width placed rows proper = word_few c rows
    showable (index row) width placed rows proper = spelled_row width row rows
    showable (access x f) width placed rows proper = (named x placed.0, spelled_rows width f.rows rows.rows)
    showable (negation e) width placed rows proper = showable e width placed rows proper.1
    showable (binary op a b) width placed rows proper = (showable a width placed.0 rows.0 proper.1, showable b width placed.1 rows.1 proper.2)
    showable (cases branches) width placed rows proper = (has_some branches proper.0.written, are_showable branches width placed rows proper.1)
    showable (reduction op extra d e) width placed rows proper =
        (no_difference op proper.0.folds, (placed.1, spelled_disjuncts (width + extra) d.disjuncts rows.0.disjuncts), showable e (width + extra) placed.2 rows.1 proper.1)

    are_showable : (branches : Choices) (width : ℕ) → AreAtWidth (length variables) branches width → HaveRowsAt branches width → EachBelow (IsProper params variables) branches → AreShowable variables branches
    are_showable none width placed rows proper = tt
    are_showable (choice d e rest) width placed rows proper = (spelled_domain width d rows.0, showable e width placed.1 rows.1 proper.0, are_showable rest width placed.2 rows.2 proper.1)
