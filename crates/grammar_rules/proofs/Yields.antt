-- What every value of a rule has, where the tokens have what it rests on.
use Rattle.std.proofs.Common.{◌≡◌, ℕ, zero, suc, ◌≤◌, List, [], ◌∷◌, inl, inr, Option, Some, length, arith, length-append}
use Rattle.std.specs.List.{AllByRecursion}
use Rattle.az_lin.proofs.AllLists.{all_first, all_last, all_snoc}
use Rattle.grammar_rules.specs.Rules.{Rule, token, give, mapped_to, followed, sequence, choice, many, grouped, left, put_last, list_of, fresh, level, recursive, TakesToken, TakesNothing, TakesMapped, TakesSequence, TakesMany, TakesFresh}
use Rattle.grammar_rules.specs.Rules.TakesToken.{this}
use Rattle.grammar_rules.specs.Rules.TakesNothing.{nothing}
use Rattle.grammar_rules.specs.Rules.TakesMapped.{mapped}
use Rattle.grammar_rules.specs.Rules.TakesSequence.{both}
use Rattle.grammar_rules.specs.Rules.TakesMany.{no_more, one_more}
use Rattle.grammar_rules.specs.Rules.TakesFresh.{above}

pub record Yields {T A : Type 0} (Q : T → Type 0) (P : A → Type 0) (rule : Rule T A) : Type 0 where
  pub value : (us : List T) (w : ℕ) (a : A) → rule.takes us w a → AllByRecursion Q us → P a

-- nothing is asked
abbrev pub Any : {A : Type 0} → A → Type 0
Any a = Unit {0}

pub any_yields : {T A : Type 0} {Q : T → Type 0} {rule : Rule T A} → Yields Q Any rule
any_yields = record { value = λ us w a t all. tt }

pub weaker_yields : {T A : Type 0} {Q : T → Type 0} {P R : A → Type 0} {rule : Rule T A} → ((a : A) → P a → R a) → Yields Q P rule → Yields Q R rule
weaker_yields keeps yields = record { value = λ us w a t all. keeps a (yields.value us w a t all) }

-- a token
token_value : {T A : Type 0} (Q : T → Type 0) (P : A → Type 0) (value : T → Option A) (weight : ℕ) → ((t : T) (a : A) → value t ≡ Some a → Q t → P a)
    → (us : List T) (w : ℕ) (a : A) → TakesToken value weight us w a → AllByRecursion Q us → P a
token_value Q P value weight has us w a (this t x is) all = has t x is all.0

pub token_yields : {T A : Type 0} {Q : T → Type 0} {P : A → Type 0} {value : T → Option A} {weight : ℕ} → ((t : T) (a : A) → value t ≡ Some a → Q t → P a) → Yields Q P (token value weight)
token_yields {Q = Q} {P = P} {value = value} {weight = weight} has = record { value = token_value Q P value weight has }

-- nothing
nothing_value : {T A : Type 0} (P : A → Type 0) (x : A) → P x → (us : List T) (w : ℕ) (a : A) → TakesNothing x us w a → P a
nothing_value P x has us w a nothing = has

pub give_yields : {T A : Type 0} {Q : T → Type 0} {P : A → Type 0} {x : A} → P x → Yields Q P (give x)
give_yields {P = P} {x = x} has = record { value = λ us w a t all. nothing_value P x has us w a t }

-- another value
mapped_value : {T A B : Type 0} (Q : T → Type 0) (P : A → Type 0) (R : B → Type 0) (f : A → B) (p : Rule T A) → ((a : A) → P a → R (f a)) → Yields Q P p
    → (us : List T) (w : ℕ) (b : B) → TakesMapped f p us w b → AllByRecursion Q us → R b
mapped_value Q P R f p keeps yields us w b (mapped {a} t) all = keeps a (yields.value us w a t all)

pub mapped_yields : {T A B : Type 0} {Q : T → Type 0} {P : A → Type 0} {R : B → Type 0} {f : A → B} {p : Rule T A} → ((a : A) → P a → R (f a)) → Yields Q P p → Yields Q R (mapped_to f p)
mapped_yields {Q = Q} {P = P} {R = R} {f = f} {p = p} keeps yields = record { value = mapped_value Q P R f p keeps yields }

-- a part, and one that may depend on its value
followed_value : {T A B C : Type 0} (Q : T → Type 0) (P : A → Type 0) (R : B → Type 0) (S : C → Type 0) (f : A → B → C) (p : Rule T A) (q : A → Rule T B)
    → ((a : A) (b : B) → P a → R b → S (f a b)) → Yields Q P p → ((a : A) → Yields Q R (q a))
    → (us : List T) (w : ℕ) (c : C) → TakesSequence f p q us w c → AllByRecursion Q us → S c
followed_value Q P R S f p q keeps first second us w c (both {us = xs} {vs = ys} {v = v} {w = u} {a = a} {b = b} t s) all =
    keeps a b (first.value xs v a t (all_first Q xs ys all)) ((second a).value ys u b s (all_last Q xs ys all))

pub followed_yields : {T A B C : Type 0} {Q : T → Type 0} {P : A → Type 0} {R : B → Type 0} {S : C → Type 0} {f : A → B → C} {p : Rule T A} {q : A → Rule T B}
    → ((a : A) (b : B) → P a → R b → S (f a b)) → Yields Q P p → ((a : A) → Yields Q R (q a)) → Yields Q S (followed f p q)
followed_yields {Q = Q} {P = P} {R = R} {S = S} {f = f} {p = p} {q = q} keeps first second = record { value = followed_value Q P R S f p q keeps first second }

pub sequence_yields : {T A B C : Type 0} {Q : T → Type 0} {P : A → Type 0} {R : B → Type 0} {S : C → Type 0} {f : A → B → C} {p : Rule T A} {q : Rule T B}
    → ((a : A) (b : B) → P a → R b → S (f a b)) → Yields Q P p → Yields Q R q → Yields Q S (sequence f p q)
sequence_yields keeps first second = followed_yields keeps first (λ a. second)

-- a choice
choice_value : {T A : Type 0} (Q : T → Type 0) (P : A → Type 0) (p q : Rule T A) → Yields Q P p → Yields Q P q → (us : List T) (w : ℕ) (a : A) → (choice p q).takes us w a → AllByRecursion Q us → P a
choice_value Q P p q first second us w a (inl t) all = first.value us w a t all
choice_value Q P p q first second us w a (inr t) all = second.value us w a t all

pub choice_yields : {T A : Type 0} {Q : T → Type 0} {P : A → Type 0} {p q : Rule T A} → Yields Q P p → Yields Q P q → Yields Q P (choice p q)
choice_yields {Q = Q} {P = P} {p = p} {q = q} first second = record { value = choice_value Q P p q first second }

-- a repetition
many_value : {T A : Type 0} (Q : T → Type 0) (P : A → Type 0) (p : Rule T A) → Yields Q P p → (us : List T) (w : ℕ) (as_ : List A) → TakesMany p us w as_ → AllByRecursion Q us → AllByRecursion P as_
many_value Q P p yields us w as_ no_more all = tt
many_value Q P p yields us w as_ (one_more {us = xs} {vs = ys} {v = v} {w = u} {a = a} {as_ = rest} t m) all =
    (yields.value xs v a t (all_first Q xs ys all), many_value Q P p yields ys u rest m (all_last Q xs ys all))

pub many_yields : {T A : Type 0} {Q : T → Type 0} {P : A → Type 0} {p : Rule T A} → Yields Q P p → Yields Q (AllByRecursion P) (many p)
many_yields {Q = Q} {P = P} {p = p} yields = record { value = many_value Q P p yields }

-- a part, and members that are grouped to it
grouped_keeps : {A B : Type 0} (P : A → Type 0) (R : B → Type 0) (step : A → B → A) → ((a : A) (b : B) → P a → R b → P (step a b)) → (a : A) (bs : List B) → P a → AllByRecursion R bs → P (grouped step a bs)
grouped_keeps P R step keeps a [] first rest = first
grouped_keeps P R step keeps a (b ∷ bs) first rest = grouped_keeps P R step keeps (step a b) bs (keeps a b first rest.0) rest.1

pub left_yields : {T A B : Type 0} {Q : T → Type 0} {P : A → Type 0} {R : B → Type 0} {step : A → B → A} {p : Rule T A} {q : Rule T B}
    → ((a : A) (b : B) → P a → R b → P (step a b)) → Yields Q P p → Yields Q R q → Yields Q P (left step p q)
left_yields {P = P} {R = R} {step = step} keeps first second = sequence_yields (grouped_keeps P R step keeps) first (many_yields second)

-- a list, which has an item
abbrev pub Items : {A : Type 0} → (A → Type 0) → List A → Type 0
Items P xs = (1 ≤ length xs) × AllByRecursion P xs

one_more_item : {A : Type 0} (P : A → Type 0) (xs : List A) (a : A) → Items P xs → P a → Items P (put_last xs a)
one_more_item P xs a h p = (omega (arith, length-append xs (a ∷ [])), all_snoc P xs a h.1 p)

pub list_of_yields : {T A : Type 0} {Q : T → Type 0} {P : A → Type 0} {p q : Rule T A} → Yields Q P p → Yields Q P q → Yields Q (Items P) (list_of p q)
list_of_yields {P = P} first second = left_yields (one_more_item P) (mapped_yields (λ a has. (omega arith, (has, tt))) first) second

-- a part with a limit of its own
fresh_value : {T A : Type 0} (Q : T → Type 0) (P : A → Type 0) (limit : ℕ) (p : Rule T A) → Yields Q P p → (us : List T) (w : ℕ) (a : A) → TakesFresh limit p us w a → AllByRecursion Q us → P a
fresh_value Q P limit p yields us w a (above {w = v} t) all = yields.value us v a t all

pub fresh_yields : {T A : Type 0} {Q : T → Type 0} {P : A → Type 0} {limit : ℕ} {p : Rule T A} → Yields Q P p → Yields Q P (fresh limit p)
fresh_yields {Q = Q} {P = P} {limit = limit} {p = p} yields = record { value = fresh_value Q P limit p yields }

-- a rule that speaks of itself
level_yields : {T A : Type 0} (Q : T → Type 0) (P : A → Type 0) (body : Rule T A → Rule T A) → ((rule : Rule T A) → Yields Q P rule → Yields Q P (body rule)) → (n : ℕ) → Yields Q P (level body n)
level_yields Q P body keeps zero = record { value = λ us w a t all. absurd t }
level_yields Q P body keeps (suc n) = keeps (level body n) (level_yields Q P body keeps n)

pub recursive_yields : {T A : Type 0} {Q : T → Type 0} {P : A → Type 0} {body : Rule T A → Rule T A} → ((rule : Rule T A) → Yields Q P rule → Yields Q P (body rule)) → Yields Q P (recursive body)
recursive_yields {Q = Q} {P = P} {body = body} keeps = record { value = λ us w a t all. (level_yields Q P body keeps t.0).value us w a t.1 all }
