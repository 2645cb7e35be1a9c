-- What was written by a rule over lines, bytes or other items, item by item, is taken by it: for each way of building
-- a rule, with a bound on the weight.
use Rattle.std.proofs.Common.{◌≡◌, ℕ, suc, ◌+◌, ◌-◌, ◌≤◌, List, [], ◌∷◌, ◌++◌, Option, Some, None, inl, inr, subst, arith}
use Rattle.grammar_rules.specs.Exactness.{Shape, Exact}
use Rattle.grammar_rules.specs.Readers.{Reader}
use Rattle.grammar_rules.specs.Rules.{Rule, token, give, mapped_to, followed, sequence, choice, optional, many, grouped, left, single, put_last, list_of, fresh, level, recursive}
use Rattle.grammar_rules.specs.Rules.TakesToken.{this}
use Rattle.grammar_rules.specs.Rules.TakesNothing.{nothing}
use Rattle.grammar_rules.specs.Rules.TakesMapped.{mapped}
use Rattle.grammar_rules.specs.Rules.TakesSequence.{both}
use Rattle.grammar_rules.specs.Rules.TakesMany.{no_more, one_more}
use Rattle.grammar_rules.specs.Rules.TakesFresh.{above}
use Rattle.grammar_rules.specs.Whole.{IsSentence, verdict}
use Rattle.grammar_rules.proofs.Whole.{verdict_exact}
use Rattle.grammar_rules.proofs.Within.{in_order, sentence_of}

-- the items are taken with this value and no more than so much weight
pub record ItemsWithin {T A : Type 0} (rule : Rule T A) (items : List T) (bound : ℕ) (a : A) : Type 0 where
  pub weight : ℕ
  pub light : weight ≤ bound
  pub taken : rule.takes items weight a

pub heavier : {T A : Type 0} {rule : Rule T A} {items : List T} {bound : ℕ} {a : A} (more : ℕ) → bound ≤ more → ItemsWithin rule items bound a → ItemsWithin rule items more a
heavier more allows w = record { weight = w.weight; light = (let light = w.light in omega arith); taken = w.taken }

-- an item
pub one_item : {T A : Type 0} (value : T → Option A) (weight : ℕ) (item : T) (a : A) → value item ≡ Some a → ItemsWithin (token value weight) (item ∷ []) weight a
one_item value weight item a is = record { weight = weight; light = omega arith; taken = this item a is }

-- nothing
pub none_of : {T A : Type 0} (a : A) → ItemsWithin {T = T} (give a) [] 0 a
none_of a = record { weight = 0; light = omega arith; taken = nothing }

-- another value
pub with_value : {T A B : Type 0} (f : A → B) {rule : Rule T A} {items : List T} {bound : ℕ} {a : A} → ItemsWithin rule items bound a → ItemsWithin (mapped_to f rule) items bound (f a)
with_value f w = record { weight = w.weight; light = w.light; taken = mapped w.taken }

-- a part, and one that may depend on its value
pub then_part : {T A B C : Type 0} (f : A → B → C) {p : Rule T A} (q : A → Rule T B) {xs ys : List T} {b c : ℕ} {a : A} {x : B}
    → ItemsWithin p xs b a → ItemsWithin (q a) ys c x → ItemsWithin (followed f p q) (xs ++ ys) (b + c) (f a x)
then_part f q first second = record { weight = first.weight + second.weight; light = (let one = first.light in let two = second.light in omega arith); taken = both first.taken second.taken }

pub in_sequence : {T A B C : Type 0} (f : A → B → C) {p : Rule T A} {q : Rule T B} {xs ys : List T} {b c : ℕ} {a : A} {x : B}
    → ItemsWithin p xs b a → ItemsWithin q ys c x → ItemsWithin (sequence f p q) (xs ++ ys) (b + c) (f a x)
in_sequence f {q = q} first second = then_part f (λ a. q) first second

-- a choice
pub first_choice : {T A : Type 0} {p q : Rule T A} {items : List T} {bound : ℕ} {a : A} → ItemsWithin p items bound a → ItemsWithin (choice p q) items bound a
first_choice w = record { weight = w.weight; light = w.light; taken = inl w.taken }

pub second_choice : {T A : Type 0} {p q : Rule T A} {items : List T} {bound : ℕ} {a : A} → ItemsWithin q items bound a → ItemsWithin (choice p q) items bound a
second_choice w = record { weight = w.weight; light = w.light; taken = inr w.taken }

pub in_option : {T A : Type 0} {p : Rule T A} {items : List T} {bound : ℕ} {a : A} → ItemsWithin p items bound a → ItemsWithin (optional p) items bound (Some a)
in_option w = first_choice (with_value Some w)

pub no_option : {T A : Type 0} {p : Rule T A} → ItemsWithin (optional p) [] 0 None
no_option = second_choice (none_of None)

-- a repetition
pub none_of_many : {T A : Type 0} {p : Rule T A} → ItemsWithin (many p) [] 0 []
none_of_many = record { weight = 0; light = omega arith; taken = no_more }

pub one_of_many : {T A : Type 0} {p : Rule T A} {xs ys : List T} {b c : ℕ} {a : A} {as_ : List A} → ItemsWithin p xs b a → ItemsWithin (many p) ys c as_
    → ItemsWithin (many p) (xs ++ ys) (b + c) (a ∷ as_)
one_of_many first rest = record { weight = first.weight + rest.weight; light = (let one = first.light in let two = rest.light in omega arith); taken = one_more first.taken rest.taken }

-- the items of each value, one after another, and the bound of all
abbrev pub items_of_all : {T A : Type 0} → (A → List T) → List A → List T
items_of_all items [] = []
items_of_all items (a ∷ as_) = items a ++ items_of_all items as_

abbrev pub bound_of_all : {A : Type 0} → (A → ℕ) → List A → ℕ
bound_of_all bound [] = 0
bound_of_all bound (a ∷ as_) = bound a + bound_of_all bound as_

pub each_of : {T A : Type 0} {p : Rule T A} (items : A → List T) (bound : A → ℕ) → ((a : A) → ItemsWithin p (items a) (bound a) a) → (as_ : List A)
    → ItemsWithin (many p) (items_of_all items as_) (bound_of_all bound as_) as_
each_of items bound each [] = none_of_many
each_of items bound each (a ∷ as_) = one_of_many (each a) (each_of items bound each as_)

-- a part, and members that are grouped to it
pub in_left : {T A B : Type 0} (step : A → B → A) {p : Rule T A} {q : Rule T B} {xs ys : List T} {b c : ℕ} {a : A} {bs : List B}
    → ItemsWithin p xs b a → ItemsWithin (many q) ys c bs → ItemsWithin (left step p q) (xs ++ ys) (b + c) (grouped step a bs)
in_left step first rest = in_sequence (grouped step) first rest

pub in_list : {T A : Type 0} {p q : Rule T A} {xs ys : List T} {b c : ℕ} {a : A} {as_ : List A} → ItemsWithin p xs b a → ItemsWithin (many q) ys c as_
    → ItemsWithin (list_of p q) (xs ++ ys) (b + c) (a ∷ as_)
in_list {p = p} {q = q} {xs = xs} {ys = ys} {b = b} {c = c} {a = a} {as_ = as_} first rest =
    subst (λ (found : List _). ItemsWithin (list_of p q) (xs ++ ys) (b + c) found) (in_order (single a) as_) (in_left put_last (with_value single first) rest)

-- a part with a limit of its own
pub in_fresh : {T A : Type 0} (limit : ℕ) {p : Rule T A} {items : List T} {bound : ℕ} {a : A} → ItemsWithin p items bound a → ItemsWithin (fresh limit p) items (bound - limit) a
in_fresh limit w = record { weight = w.weight - limit; light = (let light = w.light in omega arith); taken = above w.taken }

-- a rule that speaks of itself
pub at_level : {T A : Type 0} (body : Rule T A → Rule T A) (n : ℕ) {items : List T} {bound : ℕ} {a : A} → ItemsWithin (level body n) items bound a → ItemsWithin (recursive body) items bound a
at_level body n w = record { weight = w.weight; light = w.light; taken = (n, w.taken) }

-- So items that were written by a rule that is read exactly are read as the same value.
pub items_are_read : {T A : Type 0} {class : T → ℕ} {shape : Shape} {depth : ℕ} {rule : Rule T A} {reader : Reader T A} → Exact class shape depth rule rule reader
    → (limit : ℕ) (items : List T) (a : A) → suc limit ≤ depth → ItemsWithin rule items limit a → IsSentence rule limit items a
items_are_read {rule = rule} {reader = reader} exact limit items a deep w =
    sentence_of rule limit items w.weight a (verdict (reader limit items)) (verdict_exact exact limit items (omega arith)) w.taken w.light
