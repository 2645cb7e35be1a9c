-- Words and the bindings that they say, one after the other.
use Rattle.std.proofs.Common.{ℕ, zero, suc, ◌<◌, List, [], ◌∷◌, ◌++◌, length, get_or, take, arith}
use Rattle.std.specs.Borrow.{Bor}
use Rattle.std.specs.List.{AllZip}
use Rattle.std.specs.Prelude.{map}
use Rattle.command_words.specs.Bindings.{IsBinding}
use Rattle.command_words.specs.declared.binding.Binding.{Binding}

-- what the words are, without where they lie
abbrev pub told : List (Bor (List ℕ)) → List (List ℕ)
told words = map (λ word. word.now) words

-- a word that says no binding keeps the words from saying bindings
pub no_bindings : (words : List (Bor (List ℕ))) (i : ℕ) (d : Bor (List ℕ)) → i < length words → ((b : Binding) → IsBinding (get_or words i d).now b → ⊥)
    → (bindings : List Binding) → AllZip IsBinding (told words) bindings → ⊥
no_bindings [] i d within none bindings all = absurd (omega arith)
no_bindings (word ∷ words) i d within none [] all = all
no_bindings (word ∷ words) zero d within none (b ∷ bindings) all = none b all.0
no_bindings (word ∷ words) (suc i) d within none (b ∷ bindings) all = no_bindings words i d (omega arith) none bindings all.1

-- one binding more
pub one_more : (words : List (Bor (List ℕ))) (i : ℕ) (d : Bor (List ℕ)) (bindings : List Binding) (b : Binding) → i < length words
    → AllZip IsBinding (told (take i words)) bindings → IsBinding (get_or words i d).now b → AllZip IsBinding (told (take (suc i) words)) (bindings ++ b ∷ [])
one_more [] i d bindings b within all is = absurd (omega arith)
one_more (word ∷ words) zero d [] b within all is = (is, tt)
one_more (word ∷ words) zero d (a ∷ bindings) b within all is = absurd all
one_more (word ∷ words) (suc i) d [] b within all is = absurd all
one_more (word ∷ words) (suc i) d (a ∷ bindings) b within all is = (all.0, one_more words i d bindings b (omega arith) all.1 is)

-- what follows from each answer, of a call that may find nothing
