-- Rules of a grammar, one for each way of building them.
-- A rule takes token lists, each with a weight and a value, and it has fronts: the lists that a reader
-- going from left to right may have read while it is still in the rule. The weight of a list is that of
-- its tokens, as their places in the rule say.
-- The empty list is a front of every rule.
use Rattle.std.specs.Prelude.{◌≡◌, ℕ, zero, suc, ◌+◌, ◌-◌, List, [], ◌∷◌, ◌++◌, ◌⊎◌, Option, Some, None}

pub record Rule (T A : Type 0) : Type 1 where
  pub takes : List T → ℕ → A → Type 0
  pub front : List T → ℕ → Type 0

-- A token that has a value here. Its own list is a front.
pub data TakesToken {T A : Type 0} (value : T → Option A) (weight : ℕ) : List T → ℕ → A → Type 0 where
  this : (t : T) (a : A) → value t ≡ Some a → TakesToken value weight (t ∷ []) weight a

pub data FrontOfToken {T A : Type 0} (value : T → Option A) (weight : ℕ) : List T → ℕ → Type 0 where
  before : FrontOfToken value weight [] 0
  behind : (t : T) (a : A) → value t ≡ Some a → FrontOfToken value weight (t ∷ []) weight

abbrev pub token : {T A : Type 0} → (T → Option A) → ℕ → Rule T A
token value weight = record { takes = TakesToken value weight; front = FrontOfToken value weight }

-- Nothing, with a value.
pub data TakesNothing {T A : Type 0} (a : A) : List T → ℕ → A → Type 0 where
  nothing : TakesNothing a [] 0 a

pub data FrontOfNothing {T : Type 0} : List T → ℕ → Type 0 where
  only_empty : FrontOfNothing [] 0

abbrev pub give : {T A : Type 0} → A → Rule T A
give a = record { takes = TakesNothing a; front = FrontOfNothing }

-- The same lists with another value.
pub data TakesMapped {T A B : Type 0} (f : A → B) (p : Rule T A) : List T → ℕ → B → Type 0 where
  mapped : {us : List T} {w : ℕ} {a : A} → p.takes us w a → TakesMapped f p us w (f a)

abbrev pub mapped_to : {T A B : Type 0} → (A → B) → Rule T A → Rule T B
mapped_to f p = record { takes = TakesMapped f p; front = p.front }

-- A part, and one that may depend on what the first one has: its value, or what its tokens weigh. The
-- fronts are those of the first part, and a whole first part followed by a front of the other.
pub data TakesSequence {T A B C : Type 0} (f : A → B → C) (p : Rule T A) (q : A → Rule T B) : List T → ℕ → C → Type 0 where
  both : {us vs : List T} {v w : ℕ} {a : A} {b : B} → p.takes us v a → (q a).takes vs w b → TakesSequence f p q (us ++ vs) (v + w) (f a b)

pub data FrontOfSequence {T A B : Type 0} (p : Rule T A) (q : A → Rule T B) : List T → ℕ → Type 0 where
  of_first : {us : List T} {v : ℕ} → p.front us v → FrontOfSequence p q us v
  of_rest : {us vs : List T} {v w : ℕ} {a : A} → p.takes us v a → (q a).front vs w → FrontOfSequence p q (us ++ vs) (v + w)

abbrev pub followed : {T A B C : Type 0} → (A → B → C) → Rule T A → (A → Rule T B) → Rule T C
followed f p q = record { takes = TakesSequence f p q; front = FrontOfSequence p q }

-- A sequence of two parts.
abbrev pub sequence : {T A B C : Type 0} → (A → B → C) → Rule T A → Rule T B → Rule T C
sequence f p q = followed f p (λ a. q)

-- A choice.
abbrev pub choice : {T A : Type 0} → Rule T A → Rule T A → Rule T A
choice p q = record { takes = λ us w a. p.takes us w a ⊎ q.takes us w a; front = λ us w. p.front us w ⊎ q.front us w }

-- An optional part is a choice between the part and nothing.
abbrev pub optional : {T A : Type 0} → Rule T A → Rule T (Option A)
optional p = choice (mapped_to Some p) (give None)

-- A repetition. Its fronts are whole members followed by a front of one more.
pub data TakesMany {T A : Type 0} (p : Rule T A) : List T → ℕ → List A → Type 0 where
  no_more : TakesMany p [] 0 []
  one_more : {us vs : List T} {v w : ℕ} {a : A} {as_ : List A} → p.takes us v a → TakesMany p vs w as_ → TakesMany p (us ++ vs) (v + w) (a ∷ as_)

pub data FrontOfMany {T A : Type 0} (p : Rule T A) : List T → ℕ → Type 0 where
  of_next : {us : List T} {w : ℕ} → p.front us w → FrontOfMany p us w
  after_one : {us vs : List T} {v w : ℕ} {a : A} → p.takes us v a → FrontOfMany p vs w → FrontOfMany p (us ++ vs) (v + w)

abbrev pub many : {T A : Type 0} → Rule T A → Rule T (List A)
many p = record { takes = TakesMany p; front = FrontOfMany p }

-- A part, and then members that are grouped to it from the left.
abbrev pub grouped : {A B : Type 0} → (A → B → A) → A → List B → A
grouped step a [] = a
grouped step a (b ∷ bs) = grouped step (step a b) bs

abbrev pub left : {T A B : Type 0} → (A → B → A) → Rule T A → Rule T B → Rule T A
left step p q = sequence (grouped step) p (many q)

-- The items of a list: a first one, and those behind it, each put to the end.
abbrev pub single : {A : Type 0} → A → List A
single a = a ∷ []

abbrev pub put_last : {A : Type 0} → List A → A → List A
put_last as_ a = as_ ++ (a ∷ [])

abbrev pub list_of : {T A : Type 0} → Rule T A → Rule T A → Rule T (List A)
list_of p q = left put_last (mapped_to single p) q

-- A part with a limit of its own: only what it weighs above the limit counts outside.
pub data TakesFresh {T A : Type 0} (limit : ℕ) (p : Rule T A) : List T → ℕ → A → Type 0 where
  above : {us : List T} {w : ℕ} {a : A} → p.takes us w a → TakesFresh limit p us (w - limit) a

pub data FrontOfFresh {T A : Type 0} (limit : ℕ) (p : Rule T A) : List T → ℕ → Type 0 where
  above_front : {us : List T} {w : ℕ} → p.front us w → FrontOfFresh limit p us (w - limit)

abbrev pub fresh : {T A : Type 0} → ℕ → Rule T A → Rule T A
fresh limit p = record { takes = TakesFresh limit p; front = FrontOfFresh limit p }

-- A rule that speaks of itself: `level body n` goes into itself less than `n` times, and a list is
-- taken by the rule, or is a front of it, if some level says so.
abbrev pub unentered : {T A : Type 0} → Rule T A
unentered = record { takes = λ us w a. ⊥; front = FrontOfNothing }

abbrev pub level : {T A : Type 0} → (Rule T A → Rule T A) → ℕ → Rule T A
level body zero = unentered
level body (suc n) = body (level body n)

abbrev pub recursive : {T A : Type 0} → (Rule T A → Rule T A) → Rule T A
recursive body = record { takes = λ us w a. (n : ℕ) × (level body n).takes us w a; front = λ us w. (n : ℕ) × (level body n).front us w }
