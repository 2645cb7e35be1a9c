-- The laws of a token and of nothing.
use Rattle.std.proofs.Common.{◌≡◌, ℕ, ◌+◌, ◌-◌, ◌<◌, ◌≤◌, true, false, if◌then◌else◌, nat_le, List, [], ◌∷◌, ◌++◌, arith, refl, sym, subst, Option, Some, None}
use Rattle.std.proofs.lemmas.Bool.{leb-true, le-leb}
use Rattle.std.proofs.lemmas.Bool.Decides.{nat_tests}
use Rattle.grammar_rules.specs.Rules.{token, give, TakesToken, FrontOfToken, TakesNothing, FrontOfNothing}
use Rattle.grammar_rules.specs.Rules.TakesToken.{this}
use Rattle.grammar_rules.specs.Rules.FrontOfToken.{before, behind}
use Rattle.grammar_rules.specs.Rules.TakesNothing.{nothing}
use Rattle.grammar_rules.specs.Rules.FrontOfNothing.{only_empty}
use Rattle.grammar_rules.specs.Readers.{spend, spend_on, read_token, read_nothing}
use Rattle.grammar_rules.specs.Readers.Answer.{got, large}
use Rattle.grammar_rules.proofs.Leaves.{leaves_all}
use Rattle.grammar_rules.specs.Exactness.{HasShape, Exact, Says, LeavesAtMost, BeginsIn, IsLight, IsWithin, token_shape, nothing_shape}

-- spending a weight
pub spend_enough : {T A : Type 0} (w b : ℕ) (a : A) (rest : List T) → spend w a (w + b) rest ≡ got a rest b
spend_enough w b a rest =
    let enough : nat_le w (w + b) ≡ true = le-leb w (w + b) (omega arith) in
    let remaining : (w + b) - w ≡ b = omega arith in
    rw (enough, remaining) refl

pub spend_short : {T A : Type 0} (w b : ℕ) (a : A) (rest : List T) → b < w → spend w a b rest ≡ large
spend_short w b a rest short =
    let over : nat_le w b ≡ false = grind (arith, nat_tests) in rw over refl

spend_says : {T A : Type 0} (value : T → Option A) (w b : ℕ) (t : T) (ts : List T) (a : A) → value t ≡ Some a → Says (token value w) b (t ∷ ts) (spend w a b ts)
spend_says value w b t ts a is =
    elim (nat_le w b) as (λ x. nat_le w b ≡ x → Says (token value w) b (t ∷ ts) (if x then got a ts (b - w) else large)) [
      | true ↦ λ e. let enough : w ≤ b = leb-true w b e in (t ∷ [], w, refl, omega arith, this t a is)
      | false ↦ λ e. (t ∷ [], ts, w, refl, grind (arith, nat_tests), behind t a is)
    ] refl

value_says : {T A : Type 0} (value : T → Option A) (w b : ℕ) (t : T) (ts : List T) (v : Option A) → value t ≡ v → Says (token value w) b (t ∷ ts) (spend_on v w t b ts)
value_says value w b t ts (Some a) is = spend_says value w b t ts a is
value_says value w b t ts None is = ([], t ∷ ts, 0, refl, omega arith, before, refl)

token_says : {T A : Type 0} (value : T → Option A) (w b : ℕ) (ts : List T) → Says (token value w) b ts (read_token value w b ts)
token_says value w b [] = ([], [], 0, refl, omega arith, before, refl)
token_says value w b (t ∷ ts) = value_says value w b t ts (value t) refl

token_gets : {T A : Type 0} (value : T → Option A) (weight b : ℕ) (us rest : List T) (w : ℕ) (a : A) → TakesToken value weight us w a → read_token value weight (w + b) (us ++ rest) ≡ got a rest b
token_gets value weight b us rest w a (this u x is) = rw is (spend_enough weight b x rest)

token_exceeds : {T A : Type 0} (value : T → Option A) (weight b : ℕ) (us rest : List T) (w : ℕ) → FrontOfToken value weight us w → b < w → read_token value weight b (us ++ rest) ≡ large
token_exceeds value weight b us rest w before over = absurd (omega arith)
token_exceeds value weight b us rest w (behind u x is) over = rw is (spend_short weight b x rest over)

token_reaches : {T A : Type 0} (value : T → Option A) (weight b : ℕ) (us rest : List T) (w : ℕ) → FrontOfToken value weight us w → w ≤ b → LeavesAtMost rest (read_token value weight b (us ++ rest))
token_reaches value weight b us rest w before fits = leaves_all (token value weight) b rest (read_token value weight b rest) (token_says value weight b rest)
token_reaches value weight b us rest w (behind u x is) fits =
    let all : b ≡ weight + (b - weight) = omega arith in
    rw is (subst (λ (n : ℕ). LeavesAtMost rest (spend weight x n rest)) (sym all) (rw (spend_enough weight (b - weight) x rest) (omega arith)))

token_begins : {T A : Type 0} (class : T → ℕ) (set : List ℕ) (value : T → Option A) (weight : ℕ) → IsWithin class set value → (us : List T) (w : ℕ) (a : A) → TakesToken value weight us w a → BeginsIn class set false us
token_begins class set value weight within us w a (this u x is) = within u x is

token_begins_front : {T A : Type 0} (class : T → ℕ) (set : List ℕ) (value : T → Option A) (weight : ℕ) → IsWithin class set value → (us : List T) (w : ℕ) → FrontOfToken value weight us w → BeginsIn class set true us
token_begins_front class set value weight within us w before = refl
token_begins_front class set value weight within us w (behind u x is) = within u x is

token_light : {T A : Type 0} (value : T → Option A) (weight : ℕ) (us : List T) (w : ℕ) → FrontOfToken value weight us w → IsLight us w
token_light value weight us w before = refl
token_light value weight us w (behind u x is) = tt

token_whole : {T A : Type 0} (value : T → Option A) (weight : ℕ) (us : List T) (w : ℕ) (a : A) → TakesToken value weight us w a → FrontOfToken value weight us w
token_whole value weight us w a (this u x is) = behind u x is

pub token_shaped : {T A : Type 0} (class : T → ℕ) (set : List ℕ) (value : T → Option A) (weight : ℕ) → IsWithin class set value → HasShape class (token_shape set) (token value weight)
token_shaped class set value weight within = record {
  begins = token_begins class set value weight within;
  begins_front = token_begins_front class set value weight within;
  light = token_light value weight;
  empty_front = before;
  whole_front = token_whole value weight;
}

-- A token that has a value, of a class of the set.
pub token_exact : {T A : Type 0} (class : T → ℕ) (set : List ℕ) (value : T → Option A) (weight : ℕ) → IsWithin class set value → (depth : ℕ) → Exact class (token_shape set) depth (token value weight) (token value weight) (read_token value weight)
token_exact class set value weight within depth = record {
  says = token_says value weight;
  gets = λ b us rest w a in_depth takes unseen. token_gets value weight b us rest w a takes;
  reaches = λ b us rest w in_depth front fits. token_reaches value weight b us rest w front fits;
  exceeds = λ b us rest w in_depth front over. token_exceeds value weight b us rest w front over;
  sure_shape = token_shaped class set value weight within;
  shaped = token_shaped class set value weight within;
}

nothing_gets : {T A : Type 0} (a : A) (b : ℕ) (us rest : List T) (w : ℕ) (c : A) → TakesNothing a us w c → read_nothing a (w + b) (us ++ rest) ≡ got c rest b
nothing_gets a b us rest w c nothing = let same : 0 + b ≡ b = omega arith in rw same refl

nothing_reaches : {T A : Type 0} (a : A) (b : ℕ) (us rest : List T) (w : ℕ) → FrontOfNothing us w → LeavesAtMost rest (read_nothing a b (us ++ rest))
nothing_reaches a b us rest w only_empty = omega arith

nothing_exceeds : {T A : Type 0} (a : A) (b : ℕ) (us rest : List T) (w : ℕ) → FrontOfNothing us w → b < w → read_nothing a b (us ++ rest) ≡ large
nothing_exceeds a b us rest w only_empty over = absurd (omega arith)

nothing_begins : {T A : Type 0} (class : T → ℕ) (a : A) (us : List T) (w : ℕ) (c : A) → TakesNothing a us w c → BeginsIn class [] true us
nothing_begins class a us w c nothing = refl

pub nothing_begins_front : {T : Type 0} (class : T → ℕ) (first : List ℕ) (us : List T) (w : ℕ) → FrontOfNothing us w → BeginsIn class first true us
nothing_begins_front class first us w only_empty = refl

pub nothing_light : {T : Type 0} (us : List T) (w : ℕ) → FrontOfNothing us w → IsLight us w
nothing_light us w only_empty = refl

nothing_whole : {T A : Type 0} (a : A) (us : List T) (w : ℕ) (c : A) → TakesNothing a us w c → FrontOfNothing us w
nothing_whole a us w c nothing = only_empty

pub nothing_shaped : {T A : Type 0} (class : T → ℕ) (a : A) → HasShape class nothing_shape (give a)
nothing_shaped class a = record {
  begins = nothing_begins class a;
  begins_front = nothing_begins_front class [];
  light = nothing_light;
  empty_front = only_empty;
  whole_front = nothing_whole a;
}

pub nothing_exact : {T A : Type 0} (class : T → ℕ) (a : A) (depth : ℕ) → Exact class nothing_shape depth (give a) (give a) (read_nothing a)
nothing_exact class a depth = record {
  says = λ b ts. ([], 0, refl, omega arith, nothing);
  gets = λ b us rest w c in_depth takes unseen. nothing_gets a b us rest w c takes;
  reaches = λ b us rest w in_depth front fits. nothing_reaches a b us rest w front;
  exceeds = λ b us rest w in_depth front over. nothing_exceeds a b us rest w front over;
  sure_shape = nothing_shaped class a;
  shaped = nothing_shaped class a;
}
