-- A rule none of whose tokens weighs anything: what it takes and its fronts weigh nothing.
use Rattle.std.proofs.Common.{◌≡◌, ℕ, ◌+◌, ◌<◌, List, [], ◌∷◌, inl, inr, Option, Some, None, refl, arith}
use Rattle.grammar_rules.specs.Rules.{Rule, token, give, mapped_to, followed, sequence, choice, optional, many, grouped, left, single, put_last, list_of, TakesToken, FrontOfToken, TakesNothing, FrontOfNothing, TakesMapped, TakesSequence, FrontOfSequence, TakesMany, FrontOfMany}
use Rattle.grammar_rules.specs.Rules.TakesToken.{this}
use Rattle.grammar_rules.specs.Rules.FrontOfToken.{before, behind}
use Rattle.grammar_rules.specs.Rules.TakesNothing.{nothing}
use Rattle.grammar_rules.specs.Rules.FrontOfNothing.{only_empty}
use Rattle.grammar_rules.specs.Rules.TakesMapped.{mapped}
use Rattle.grammar_rules.specs.Rules.TakesSequence.{both}
use Rattle.grammar_rules.specs.Rules.FrontOfSequence.{of_first, of_rest}
use Rattle.grammar_rules.specs.Rules.TakesMany.{no_more, one_more}
use Rattle.grammar_rules.specs.Rules.FrontOfMany.{of_next, after_one}
use Rattle.grammar_rules.specs.Whole.{IsTooHeavy}

pub record IsWeightless {T A : Type 0} (rule : Rule T A) : Type 0 where
  pub takes : (us : List T) (w : ℕ) (a : A) → rule.takes us w a → w ≡ 0
  pub front : (us : List T) (w : ℕ) → rule.front us w → w ≡ 0

-- no text is too heavy for it
pub never_heavy : {T A : Type 0} {rule : Rule T A} → IsWeightless rule → (limit : ℕ) (ts : List T) → IsTooHeavy rule limit ts → ⊥
never_heavy is limit ts heavy = let none = is.front heavy.front.0 heavy.front.2 heavy.front.5 in let over = heavy.front.4 in absurd (omega arith)

-- a token of no weight
token_takes : {T A : Type 0} (value : T → Option A) (us : List T) (w : ℕ) (a : A) → TakesToken value 0 us w a → w ≡ 0
token_takes value us w a (this t x is) = refl

token_front : {T A : Type 0} (value : T → Option A) (us : List T) (w : ℕ) → FrontOfToken value 0 us w → w ≡ 0
token_front value us w before = refl
token_front value us w (behind t a is) = refl

pub token_weightless : {T A : Type 0} (value : T → Option A) → IsWeightless (token value 0)
token_weightless value = record { takes = token_takes value; front = token_front value }

-- nothing
nothing_takes : {T A : Type 0} (x : A) (us : List T) (w : ℕ) (a : A) → TakesNothing x us w a → w ≡ 0
nothing_takes x us w a nothing = refl

nothing_front : {T : Type 0} (us : List T) (w : ℕ) → FrontOfNothing us w → w ≡ 0
nothing_front us w only_empty = refl

pub give_weightless : {T A : Type 0} (x : A) → IsWeightless {T = T} (give x)
give_weightless x = record { takes = nothing_takes x; front = nothing_front }

-- another value
mapped_takes : {T A B : Type 0} (f : A → B) (p : Rule T A) → IsWeightless p → (us : List T) (w : ℕ) (b : B) → TakesMapped f p us w b → w ≡ 0
mapped_takes f p is us w b (mapped {a} t) = is.takes us w a t

pub mapped_weightless : {T A B : Type 0} (f : A → B) {p : Rule T A} → IsWeightless p → IsWeightless (mapped_to f p)
mapped_weightless f {p = p} is = record { takes = mapped_takes f p is; front = is.front }

-- a part, and one that may depend on its value
followed_takes : {T A B C : Type 0} (f : A → B → C) (p : Rule T A) (q : A → Rule T B) → IsWeightless p → ((a : A) → IsWeightless (q a))
    → (us : List T) (w : ℕ) (c : C) → TakesSequence f p q us w c → w ≡ 0
followed_takes f p q first second us w c (both {us = xs} {vs = ys} {v = v} {w = u} {a = a} {b = b} t s) =
    let one = first.takes xs v a t in let two = (second a).takes ys u b s in omega arith

followed_front : {T A B : Type 0} (p : Rule T A) (q : A → Rule T B) → IsWeightless p → ((a : A) → IsWeightless (q a))
    → (us : List T) (w : ℕ) → FrontOfSequence p q us w → w ≡ 0
followed_front p q first second us w (of_first {us = xs} {v = v} t) = first.front xs v t
followed_front p q first second us w (of_rest {us = xs} {vs = ys} {v = v} {w = u} {a = a} t s) =
    let one = first.takes xs v a t in let two = (second a).front ys u s in omega arith

pub followed_weightless : {T A B C : Type 0} (f : A → B → C) {p : Rule T A} {q : A → Rule T B} → IsWeightless p → ((a : A) → IsWeightless (q a)) → IsWeightless (followed f p q)
followed_weightless f {p = p} {q = q} first second = record { takes = followed_takes f p q first second; front = followed_front p q first second }

pub sequence_weightless : {T A B C : Type 0} (f : A → B → C) {p : Rule T A} {q : Rule T B} → IsWeightless p → IsWeightless q → IsWeightless (sequence f p q)
sequence_weightless f first second = followed_weightless f first (λ a. second)

-- a choice
choice_takes : {T A : Type 0} (p q : Rule T A) → IsWeightless p → IsWeightless q → (us : List T) (w : ℕ) (a : A) → (choice p q).takes us w a → w ≡ 0
choice_takes p q first second us w a (inl t) = first.takes us w a t
choice_takes p q first second us w a (inr t) = second.takes us w a t

choice_front : {T A : Type 0} (p q : Rule T A) → IsWeightless p → IsWeightless q → (us : List T) (w : ℕ) → (choice p q).front us w → w ≡ 0
choice_front p q first second us w (inl t) = first.front us w t
choice_front p q first second us w (inr t) = second.front us w t

pub choice_weightless : {T A : Type 0} {p q : Rule T A} → IsWeightless p → IsWeightless q → IsWeightless (choice p q)
choice_weightless {p = p} {q = q} first second = record { takes = choice_takes p q first second; front = choice_front p q first second }

pub optional_weightless : {T A : Type 0} {p : Rule T A} → IsWeightless p → IsWeightless (optional p)
optional_weightless is = choice_weightless (mapped_weightless Some is) (give_weightless None)

-- a repetition
many_takes : {T A : Type 0} (p : Rule T A) → IsWeightless p → (us : List T) (w : ℕ) (as_ : List A) → TakesMany p us w as_ → w ≡ 0
many_takes p is us w as_ no_more = refl
many_takes p is us w as_ (one_more {us = xs} {vs = ys} {v = v} {w = u} {a = a} {as_ = rest} t m) =
    let one = is.takes xs v a t in let more = many_takes p is ys u rest m in omega arith

many_front : {T A : Type 0} (p : Rule T A) → IsWeightless p → (us : List T) (w : ℕ) → FrontOfMany p us w → w ≡ 0
many_front p is us w (of_next {us = xs} {w = v} t) = is.front xs v t
many_front p is us w (after_one {us = xs} {vs = ys} {v = v} {w = u} {a = a} t m) =
    let one = is.takes xs v a t in let more = many_front p is ys u m in omega arith

pub many_weightless : {T A : Type 0} {p : Rule T A} → IsWeightless p → IsWeightless (many p)
many_weightless {p = p} is = record { takes = many_takes p is; front = many_front p is }

pub list_of_weightless : {T A : Type 0} {p q : Rule T A} → IsWeightless p → IsWeightless q → IsWeightless (list_of p q)
list_of_weightless first second = sequence_weightless (grouped put_last) (mapped_weightless single first) (many_weightless second)
