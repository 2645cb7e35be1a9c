-- The table of marks and its spellings are one.
use Rattle.std.proofs.Common.{◌≡◌, ℕ, ◌≤◌, Bool, true, false, cond, eqb, List, [], ◌∷◌, length, Option, Some, None, refl, sym, ap, ◌∙◌, arith}
use Rattle.std.proofs.lemmas.Bool.{eqb-true, cond-false}
use Rattle.std.specs.List.{AllByRecursion}
use Rattle.az_text.specs.declared.mark.MarkKind.{MarkKind}
use Rattle.az_text.specs.declared.mark.MarkKind.TheVariants.{OpenBrace, Bar, BarBar, Equal, EqualEqual, LessEqual, Less, GreaterEqual, Greater, AndAnd, Minus, Arrow}
use Rattle.az_text.specs.Fronts.{lookup, lookup_two, single_marks, double_marks}
use Rattle.az_text.specs.Pieces.{mark_goes_on}
use Rattle.az_text.specs.Tokens.{mark_spelling}

-- the mark that these bytes spell
abbrev pub mark_of : List ℕ → Option MarkKind
mark_of [] = None
mark_of (b ∷ []) = lookup single_marks b
mark_of (b ∷ c ∷ []) = lookup_two double_marks b c
mark_of (b ∷ c ∷ d ∷ rest) = None

pub mark_of-spelling : (kind : MarkKind) → mark_of (mark_spelling kind) ≡ Some kind
mark_of-spelling OpenBrace = refl
mark_of-spelling _ = refl

pub mark_spelling_injective : (j k : MarkKind) → mark_spelling j ≡ mark_spelling k → j ≡ k
mark_spelling_injective j k same =
    let found : Some j ≡ Some k = sym (mark_of-spelling j) ∙ ap mark_of same ∙ mark_of-spelling k in
    cc

-- a mark has one byte or two
pub length-mark_spelling : (kind : MarkKind) → length (mark_spelling kind) ≤ 2
length-mark_spelling OpenBrace = omega arith
length-mark_spelling _ = omega arith

abbrev SpelledByOne : (ℕ × MarkKind) → Type 0
SpelledByOne e = mark_spelling e.1 ≡ e.0 ∷ []

abbrev SpelledByTwo : (ℕ × ℕ × MarkKind) → Type 0
SpelledByTwo e = mark_spelling e.2 ≡ e.0 ∷ e.1 ∷ []

lookup_spelled : (table : List (ℕ × MarkKind)) → AllByRecursion SpelledByOne table → (b : ℕ) (kind : MarkKind) → lookup table b ≡ Some kind → mark_spelling kind ≡ b ∷ []
lookup_spelled [] all b kind found = absurd (cc)
lookup_spelled (e ∷ table) all b kind found =
    let by : (t : Bool) → eqb b e.0 ≡ t → cond t (Some e.1) (lookup table b) ≡ Some kind → mark_spelling kind ≡ b ∷ []
    = λ t. elim t as (λ t. eqb b e.0 ≡ t → cond t (Some e.1) (lookup table b) ≡ Some kind → mark_spelling kind ≡ b ∷ []) [
      | true ↦ λ is same.
          let kind_is : e.1 ≡ kind = cc in
          let byte_is = eqb-true b e.0 is in
          let spelled = all.0 in
          ap mark_spelling (sym kind_is) ∙ spelled ∙ ap (λ x. x ∷ []) (sym byte_is)
      | false ↦ λ _ same. lookup_spelled table all.1 b kind same
    ] in
    by (eqb b e.0) refl found

lookup_two_spelled : (table : List (ℕ × ℕ × MarkKind)) → AllByRecursion SpelledByTwo table → (b c : ℕ) (kind : MarkKind) → lookup_two table b c ≡ Some kind → mark_spelling kind ≡ b ∷ c ∷ []
lookup_two_spelled [] all b c kind found = absurd (cc)
lookup_two_spelled (e ∷ table) all b c kind found =
    let Goal : Type 0 = mark_spelling kind ≡ b ∷ c ∷ [] in
    let rest : lookup_two table b c ≡ Some kind → Goal = lookup_two_spelled table all.1 b c kind in
    let second : eqb b e.0 ≡ true → (t : Bool) → eqb c e.1 ≡ t → cond t (Some e.2) (lookup_two table b c) ≡ Some kind → Goal
    = λ first t. elim t as (λ t. eqb c e.1 ≡ t → cond t (Some e.2) (lookup_two table b c) ≡ Some kind → Goal) [
      | true ↦ λ is same.
          let kind_is : e.2 ≡ kind = cc in
          let first_is = eqb-true b e.0 first in
          let second_is = eqb-true c e.1 is in
          let spelled = all.0 in
          ap mark_spelling (sym kind_is) ∙ spelled ∙ ap (λ x. x ∷ e.1 ∷ []) (sym first_is) ∙ ap (λ x. b ∷ x ∷ []) (sym second_is)
      | false ↦ λ _ same. rest same
    ] in
    let by : (t : Bool) → eqb b e.0 ≡ t → cond t (cond (eqb c e.1) (Some e.2) (lookup_two table b c)) (lookup_two table b c) ≡ Some kind → Goal
    = λ t. elim t as (λ t. eqb b e.0 ≡ t → cond t (cond (eqb c e.1) (Some e.2) (lookup_two table b c)) (lookup_two table b c) ≡ Some kind → Goal) [
      | true ↦ λ first same. second first (eqb c e.1) refl same
      | false ↦ λ _ same. rest same
    ] in
    by (eqb b e.0) refl found

pub single_spelled : (b : ℕ) (kind : MarkKind) → lookup single_marks b ≡ Some kind → mark_spelling kind ≡ b ∷ []
single_spelled = lookup_spelled single_marks (refl, (refl, (refl, (refl, (refl, (refl, (refl, (refl, (refl, (refl, (refl, (refl, (refl, (refl, (refl, (refl, (refl, tt)))))))))))))))))

pub double_spelled : (b c : ℕ) (kind : MarkKind) → lookup_two double_marks b c ≡ Some kind → mark_spelling kind ≡ b ∷ c ∷ []
double_spelled = lookup_two_spelled double_marks (refl, (refl, (refl, (refl, (refl, (refl, tt))))))

abbrev pub first_of : List ℕ → ℕ
first_of [] = 0
first_of (b ∷ bytes) = b

-- where a mark of one byte can't go on, no mark of two bytes stands
no_double : (kind : MarkKind) (c : ℕ) → length (mark_spelling kind) ≡ 1 → mark_goes_on kind c ≡ false → lookup_two double_marks (first_of (mark_spelling kind)) c ≡ None
no_double Bar c one ends = cond-false _ _ _ ends
no_double Equal c one ends = cond-false _ _ _ ends
no_double Less c one ends = cond-false _ _ _ ends
no_double Greater c one ends = cond-false _ _ _ ends
no_double Minus c one ends = cond-false _ _ _ ends
no_double BarBar c one ends = absurd (omega arith)
no_double EqualEqual c one ends = absurd (omega arith)
no_double LessEqual c one ends = absurd (omega arith)
no_double GreaterEqual c one ends = absurd (omega arith)
no_double AndAnd c one ends = absurd (omega arith)
no_double Arrow c one ends = absurd (omega arith)
no_double _ c one ends = refl

pub no_double_after : (kind : MarkKind) (b c : ℕ) → mark_spelling kind ≡ b ∷ [] → mark_goes_on kind c ≡ false → lookup_two double_marks b c ≡ None
no_double_after kind b c spelled ends =
    ap (λ x. lookup_two double_marks x c) (sym (ap first_of spelled)) ∙ no_double kind c (ap length spelled) ends
