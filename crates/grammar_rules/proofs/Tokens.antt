-- The values of tokens stand in classes.
use Rattle.std.proofs.Common.{◌≡◌, ℕ, true, false, ◌==◌, ◌||◌, if◌then◌else◌, List, [], ◌∷◌, Some, None, refl, suc, ◌≤◌, ◌<◌, ◌&&◌, bytes_eq, nat_lt, le_refl, arith, sym, subst, Bool}
use Rattle.std.proofs.lemmas.Bool.{eqb-true, eq-eqb, ltb-true}
use Rattle.std.proofs.lemmas.Slice.Eq.{bytes_eq-Decides}
use Rattle.az_text.specs.declared.mark.MarkKind.{MarkKind}
use Rattle.az_text.specs.declared.token.TokenKind.{TokenKind}
use Rattle.az_text.specs.declared.token.TokenKind.TheVariants.{Word, Number, Quoted, Mark}
use Rattle.grammar_rules.specs.Readers.{has}
use Rattle.grammar_rules.specs.Exactness.{IsWithin}
use Rattle.grammar_rules.specs.Tokens.{mark_class, class_of, kind_class, kind_mark, mark_of, kind_number, number_of, kind_quoted, quoted_of, kind_name, name_of, word_class, kind_keyword, keyword_of, keyword_class, chosen, chosen_of, classes}

-- a test in a set of one class
alone : (a b : ℕ) → a == b ≡ true → has (b ∷ []) a ≡ true
alone a b is = rw is refl

mark_alone : {A : Type 0} (a b : ℕ) (x y : A) → (if a == b then Some x else None) ≡ Some y → has (b ∷ []) a ≡ true
mark_alone a b x y = elim (a == b) as (λ e. (if e then Some x else None) ≡ Some y → (e || false) ≡ true) [ true ↦ λ is. refl | false ↦ λ is. absurd (cc) ]

kind_mark_within : (words : List (List ℕ)) (mark : MarkKind) (kind : TokenKind) (a : Unit {0}) → kind_mark mark kind ≡ Some a → has (mark_class mark ∷ []) (kind_class words kind) ≡ true
kind_mark_within words mark (Mark kind) a is = mark_alone (mark_class kind) (mark_class mark) tt a is
kind_mark_within words mark (Word word) a is = absurd (cc)
kind_mark_within words mark (Number n) a is = absurd (cc)
kind_mark_within words mark (Quoted text) a is = absurd (cc)

pub mark_within : (words : List (List ℕ)) (mark : MarkKind) → IsWithin (class_of words) (mark_class mark ∷ []) (mark_of mark)
mark_within words mark t a is = kind_mark_within words mark t.kind a is

kind_number_within : (words : List (List ℕ)) (kind : TokenKind) (a : ℕ) → kind_number kind ≡ Some a → has (23 ∷ []) (kind_class words kind) ≡ true
kind_number_within words (Number n) a is = refl
kind_number_within words (Word word) a is = absurd (cc)
kind_number_within words (Quoted text) a is = absurd (cc)
kind_number_within words (Mark kind) a is = absurd (cc)

pub number_within : (words : List (List ℕ)) → IsWithin (class_of words) (23 ∷ []) number_of
number_within words t a is = kind_number_within words t.kind a is

kind_quoted_within : (words : List (List ℕ)) (kind : TokenKind) (a : List ℕ) → kind_quoted kind ≡ Some a → has (24 ∷ []) (kind_class words kind) ≡ true
kind_quoted_within words (Quoted text) a is = refl
kind_quoted_within words (Number n) a is = absurd (cc)
kind_quoted_within words (Word word) a is = absurd (cc)
kind_quoted_within words (Mark kind) a is = absurd (cc)

pub quoted_within : (words : List (List ℕ)) → IsWithin (class_of words) (24 ∷ []) quoted_of
quoted_within words t a is = kind_quoted_within words t.kind a is

kind_name_within : (words : List (List ℕ)) (kind : TokenKind) (a : List ℕ) → kind_name words kind ≡ Some a → has (25 ∷ []) (kind_class words kind) ≡ true
kind_name_within words (Word word) a is = mark_alone (word_class words 26 word) 25 word a is
kind_name_within words (Number n) a is = absurd (cc)
kind_name_within words (Quoted text) a is = absurd (cc)
kind_name_within words (Mark kind) a is = absurd (cc)

pub name_within : (words : List (List ℕ)) → IsWithin (class_of words) (25 ∷ []) (name_of words)
name_within words t a is = kind_name_within words t.kind a is

-- the classes of words stand above those of marks, numbers and quoted texts
words_high : (words : List (List ℕ)) (n : ℕ) (word : List ℕ) → 25 ≤ n → 25 ≤ word_class words n word
words_high [] n word high = le_refl 25
words_high (w ∷ ws) n word high =
    elim (bytes_eq word w) as (λ b. 25 ≤ (if b then n else word_class ws (suc n) word)) [
      | true ↦ high
      | false ↦ words_high ws (suc n) word (omega arith)
    ]

pub word_is_high : (words : List (List ℕ)) (word : List ℕ) → 25 ≤ word_class words 26 word
word_is_high words word = words_high words 26 word (omega arith)

-- so a set of lower classes has none of them
abbrev pub is_low : List ℕ → Bool
is_low [] = true
is_low (x ∷ xs) = nat_lt x 25 && is_low xs

low_first : (a b : Bool) → (a && b) ≡ true → a ≡ true
low_first true b is = refl
low_first false b is = is

low_rest : (a b : Bool) → (a && b) ≡ true → b ≡ true
low_rest true b is = is
low_rest false b is = absurd (cc)

pub no_word_in : (set : List ℕ) (c : ℕ) → is_low set ≡ true → 25 ≤ c → has set c ≡ false
no_word_in [] c low high = refl
no_word_in (x ∷ xs) c low high =
    let below : x < 25 = ltb-true x 25 (low_first (nat_lt x 25) (is_low xs) low) in
    elim (c == x) as (λ b. c == x ≡ b → (b || has xs c) ≡ false) [
      | true ↦ λ e. let same : c ≡ x = eqb-true c x e in absurd (omega arith)
      | false ↦ λ e. no_word_in xs c (low_rest (nat_lt x 25) (is_low xs) low) high
    ] refl

-- a reserved word stands in its class
keyword_alone : (words : List (List ℕ)) (keyword word : List ℕ) → word ≡ keyword → has (word_class words 26 keyword ∷ []) (word_class words 26 word) ≡ true
keyword_alone words keyword word is =
    subst (λ (w : List ℕ). has (word_class words 26 keyword ∷ []) (word_class words 26 w) ≡ true) (sym is)
    (alone (word_class words 26 keyword) (word_class words 26 keyword) (eq-eqb (word_class words 26 keyword) (word_class words 26 keyword) refl))

kind_keyword_within : (words : List (List ℕ)) (keyword : List ℕ) (kind : TokenKind) (a : Unit {0}) → kind_keyword keyword kind ≡ Some a → has (word_class words 26 keyword ∷ []) (kind_class words kind) ≡ true
kind_keyword_within words keyword (Word word) a =
    elim (bytes_eq word keyword) as (λ b. bytes_eq word keyword ≡ b → (if b then Some tt else None) ≡ Some a → has (word_class words 26 keyword ∷ []) (word_class words 26 word) ≡ true) [
      | true ↦ λ e is. keyword_alone words keyword word ((bytes_eq-Decides word keyword).0 e)
      | false ↦ λ e is. absurd (cc)
    ] refl
kind_keyword_within words keyword (Number n) a = λ is. absurd (cc)
kind_keyword_within words keyword (Quoted text) a = λ is. absurd (cc)
kind_keyword_within words keyword (Mark kind) a = λ is. absurd (cc)

pub keyword_within : (words : List (List ℕ)) (keyword : List ℕ) → IsWithin (class_of words) (keyword_class words keyword ∷ []) (keyword_of keyword)
keyword_within words keyword t a is = kind_keyword_within words keyword t.kind a is

-- so does a token of a table
chosen_has : {A : Type 0} (table : List (ℕ × A)) (c : ℕ) (a : A) → chosen table c ≡ Some a → has (classes table) c ≡ true
chosen_has [] c a = λ is. absurd (cc)
chosen_has (row ∷ rows) c a =
    elim (c == row.0) as (λ b. (if b then Some row.1 else chosen rows c) ≡ Some a → (b || has (classes rows) c) ≡ true) [
      | true ↦ λ is. refl
      | false ↦ λ is. chosen_has rows c a is
    ]

pub chosen_within : {A : Type 0} (words : List (List ℕ)) (table : List (ℕ × A)) → IsWithin (class_of words) (classes table) (chosen_of words table)
chosen_within words table t a is = chosen_has table (class_of words t) a is
