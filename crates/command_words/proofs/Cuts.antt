-- Words cut at their first `=` or `@`: no name has one.
use Rattle.std.proofs.Common.{◌≡◌, ℕ, ◌<◌, List, [], ◌∷◌, ◌++◌, length, get_or, true, false, refl, sym, subst, arith, ap, ◌∙◌}
use Rattle.std.proofs.lemmas.Bool.Decides.{nat_tests}
use Rattle.std.proofs.lemmas.List.Elements.{All-from_recursion}
use Rattle.std.proofs.lemmas.Str.Pattern.{IsSplitOnceResult, split_after}
use Rattle.std.specs.Borrow.{Bor}
use Rattle.std.specs.Char.{is_ascii_alphabetic}
use Rattle.std.specs.Prelude.{Option, Some, None, MatchOption, ℤ}
use Rattle.az_text.specs.Tokens.{AllAre, IsWord, is_word_byte}
use Rattle.command_words.specs.Bindings.{IsInteger, IsBinding}
use Rattle.command_words.specs.declared.binding.Binding.{Binding}
use Rattle.command_words.specs.declared.binding.Binding.TheVariants.{Parameter, Table}

letter_in_word : (b : ℕ) → is_ascii_alphabetic b ≡ true → is_word_byte b ≡ true
letter_in_word b h = grind (arith, nat_tests)

pub word_bytes : (name : List ℕ) → IsWord name → AllAre is_word_byte name
word_bytes [] is = absurd is
word_bytes (b ∷ bytes) is = (letter_in_word b is.0, is.1)

lacks : (c : ℕ) → is_word_byte c ≡ false → (name : List ℕ) → IsWord name → (i : ℕ) → i < length name → get_or name i 0 ≡ c → ⊥
lacks c apart name is i within here =
    let passes : is_word_byte (get_or name i 0) ≡ true = All-from_recursion (λ b. is_word_byte b ≡ true) name (word_bytes name is) i 0 within in
    let both : true ≡ false = sym passes ∙ (ap is_word_byte here ∙ apart) in
    cc

-- the cut of a word that begins with a name and this mark
cut : (c : ℕ) → c < 128 → is_word_byte c ≡ false → (word name rest : List ℕ) (r : Option (Bor (List ℕ) × Bor (List ℕ)))
    → IsSplitOnceResult c word r → IsWord name → word ≡ name ++ c ∷ rest → MatchOption r ⊥ (λ x. (x.0.now ≡ name) × (x.1.now ≡ rest))
cut c low apart word name rest r h is e = split_after c word name rest r h low e (lacks c apart name is)

pub no_parameter : (word : List ℕ) (r : Option (Bor (List ℕ) × Bor (List ℕ))) → IsSplitOnceResult 61 word r
    → MatchOption r (Unit {0}) (λ x. IsWord x.0.now → (number : ℤ) → IsInteger x.1.now number → ⊥)
    → (name : List ℕ) (number : ℤ) → IsBinding word (Parameter name number) → ⊥
no_parameter word None h none name number (digits, e, is, int) = cut 61 (omega arith) refl word name digits None h is e
no_parameter word (Some x) h none name number (digits, e, is, int) =
    let same = cut 61 (omega arith) refl word name digits (Some x) h is e in
    none (subst IsWord (sym same.0) is) number (subst (λ d. IsInteger d number) (sym same.1) int)

pub no_table : (word : List ℕ) (r : Option (Bor (List ℕ) × Bor (List ℕ))) → IsSplitOnceResult 64 word r
    → MatchOption r (Unit {0}) (λ x. IsWord x.0.now → (x.1.now ≡ [] → ⊥) → ⊥)
    → (name file : List ℕ) → IsBinding word (Table name file) → ⊥
no_table word None h none name file (e, is, some) = cut 64 (omega arith) refl word name file None h is e
no_table word (Some x) h none name file (e, is, some) =
    let same = cut 64 (omega arith) refl word name file (Some x) h is e in
    none (subst IsWord (sym same.0) is) (λ empty. some (sym same.1 ∙ empty))

pub no_bytes : (bytes : List ℕ) → length bytes ≡ 0 → bytes ≡ []
no_bytes [] h = refl
no_bytes (b ∷ bytes) h = absurd (omega arith)

-- a word that binds neither a parameter nor a table is no binding
pub no_binding : (word : List ℕ) → ((name : List ℕ) (number : ℤ) → IsBinding word (Parameter name number) → ⊥)
    → ((name file : List ℕ) → IsBinding word (Table name file) → ⊥) → (binding : Binding) → IsBinding word binding → ⊥
no_binding word parameter table (Parameter name number) is = parameter name number is
no_binding word parameter table (Table name file) is = table name file is
