-- The law of a repetition, whose members are put to a value one after the other, and of a part with
-- members that are grouped to it from the left.
use Rattle.std.proofs.Common.{◌≡◌, ℕ, zero, suc, ◌+◌, ◌-◌, ◌<◌, ◌≤◌, Bool, true, false, if◌then◌else◌, List, [], ◌∷◌, ◌++◌, inl, inr, length, arith, refl, sym, ◌∙◌, ap, subst, append_assoc, append-nil, add_assoc, zero-add, length-append}
use Rattle.grammar_rules.specs.Rules.{Rule, many, mapped_to, grouped, left, single, put_last, list_of, TakesMany, FrontOfMany, TakesMapped}
use Rattle.grammar_rules.specs.Rules.TakesMany.{no_more, one_more}
use Rattle.grammar_rules.specs.Rules.FrontOfMany.{of_next, after_one}
use Rattle.grammar_rules.specs.Rules.TakesMapped.{mapped}
use Rattle.grammar_rules.specs.Readers.{Answer, Reader, after, sees, read_turns, read_onto, read_left, read_many, read_list_of}
use Rattle.grammar_rules.specs.Readers.Answer.{got, wrong, large}
use Rattle.grammar_rules.specs.Exactness.{Shape, HasShape, Exact, Says, LeavesAtMost, BeginsIn, IsLight, is_subset, is_disjoint, many_shape, sequence_shape}
use Rattle.grammar_rules.proofs.LookAhead.{has_disjoint, has_subset, sees_left, sees_right}
use Rattle.grammar_rules.proofs.Leaves.{leaves_all, leaves_as, leaves_less, or_at_most}
use Rattle.grammar_rules.proofs.Mapped.{mapped_shaped, mapped_exact, same_exact}
use Rattle.grammar_rules.proofs.Sequence.{rejoin, sequence_exact_then}

-- the heads under which members are read
pub record Members {T B : Type 0} (class : T → ℕ) (set : List ℕ) (one : Shape) (depth : ℕ) (sure rule : Rule T B) (reader : Reader T B) : Type 0 where
  pub exact : Exact class one depth sure rule reader
  pub filled : one.empty ≡ false
  pub inside : is_subset one.first set ≡ true
  pub apart : is_disjoint one.first one.more ≡ true

-- how a repetition begins
begins_joined : {T : Type 0} (class : T → ℕ) (first : List ℕ) (e : Bool) (us vs : List T) → e ≡ false → BeginsIn class first e us → BeginsIn class first true (us ++ vs)
begins_joined class first e [] vs never begins = absurd (cc)
begins_joined class first e (u ∷ us) vs never begins = begins

many_begins : {T B : Type 0} (class : T → ℕ) (one : Shape) (rule : Rule T B) → HasShape class one rule → one.empty ≡ false → (us : List T) (w : ℕ) (bs : List B) → TakesMany rule us w bs → BeginsIn class one.first true us
many_begins class one rule shaped never us w bs no_more = refl
many_begins class one rule shaped never us w bs (one_more {us = xs} {vs} {v} {a = x} t m) = begins_joined class one.first one.empty xs vs never (shaped.begins xs v x t)

many_begins_front : {T B : Type 0} (class : T → ℕ) (one : Shape) (rule : Rule T B) → HasShape class one rule → one.empty ≡ false → (us : List T) (w : ℕ) → FrontOfMany rule us w → BeginsIn class one.first true us
many_begins_front class one rule shaped never us w (of_next t) = shaped.begins_front us w t
many_begins_front class one rule shaped never us w (after_one {us = xs} {vs} {v} {a = x} t m) = begins_joined class one.first one.empty xs vs never (shaped.begins xs v x t)

light_joined : {T : Type 0} (class : T → ℕ) (first : List ℕ) (e : Bool) (us vs : List T) (w : ℕ) → e ≡ false → BeginsIn class first e us → IsLight (us ++ vs) w
light_joined class first e [] vs w never begins = absurd (cc)
light_joined class first e (u ∷ us) vs w never begins = tt

many_light : {T B : Type 0} (class : T → ℕ) (one : Shape) (rule : Rule T B) → HasShape class one rule → one.empty ≡ false → (us : List T) (w : ℕ) → FrontOfMany rule us w → IsLight us w
many_light class one rule shaped never us w (of_next t) = shaped.light us w t
many_light class one rule shaped never us w (after_one {us = xs} {vs} {v} {w = y} {a = x} t m) = light_joined class one.first one.empty xs vs (v + y) never (shaped.begins xs v x t)

many_whole : {T B : Type 0} (class : T → ℕ) (one : Shape) (rule : Rule T B) → HasShape class one rule → (us : List T) (w : ℕ) (bs : List B) → TakesMany rule us w bs → FrontOfMany rule us w
many_whole class one rule shaped us w bs no_more = of_next shaped.empty_front
many_whole class one rule shaped us w bs (one_more {vs} {w = y} {as_ = xs} t m) = after_one t (many_whole class one rule shaped vs y xs m)

many_shaped : {T B : Type 0} {class : T → ℕ} {one : Shape} {rule : Rule T B} (set : List ℕ) → HasShape class one rule → one.empty ≡ false → HasShape class (many_shape set one) (many rule)
many_shaped {class = class} {one = one} {rule = rule} set shaped never = record {
  begins = many_begins class one rule shaped never;
  begins_front = many_begins_front class one rule shaped never;
  light = many_light class one rule shaped never;
  empty_front = of_next shaped.empty_front;
  whole_front = many_whole class one rule shaped;
}

-- what is said of a member and of those behind it
one_more_mapped : {T A B : Type 0} (step : A → B → A) (a : A) (rule : Rule T B) (us vs : List T) (v w : ℕ) (x : B) (c : A) → rule.takes us v x
    → TakesMapped (grouped step (step a x)) (many rule) vs w c → TakesMapped (grouped step a) (many rule) (us ++ vs) (v + w) c
one_more_mapped step a rule us vs v w x c t (mapped more) = mapped (one_more t more)

says_more : {T A B : Type 0} (step : A → B → A) (a : A) (rule : Rule T B) (b : ℕ) (ts us rest : List T) (v remaining : ℕ) (x : B)
    → ts ≡ us ++ rest → b ≡ v + remaining → rule.takes us v x → (answer : Answer T A)
    → Says (mapped_to (grouped step (step a x)) (many rule)) remaining rest answer → Says (mapped_to (grouped step a) (many rule)) b ts answer
says_more step a rule b ts us rest v remaining x split paid t (got c later left_over) says =
    (us ++ says.0, v + says.1, rejoin us says.0 rest later ts split says.2, (let next = says.3 in omega arith), one_more_mapped step a rule us says.0 v says.1 x c t says.4)
says_more step a rule b ts us rest v remaining x split paid t (wrong later) says =
    (us ++ says.0, says.1, v + says.2, rejoin us says.0 rest says.1 ts split says.3, (let next = says.4 in omega arith), after_one t says.5, says.6)
says_more step a rule b ts us rest v remaining x split paid t large says =
    (us ++ says.0, says.1, v + says.2, rejoin us says.0 rest says.1 ts split says.3, (let next = says.4 in omega arith), after_one t says.5)

says_turn : {T A B : Type 0} (step : A → B → A) (a : A) (rule : Rule T B) (go_on : B → Reader T A) (b : ℕ) (ts : List T)
    → ((x : B) (budget : ℕ) (rest : List T) → Says (mapped_to (grouped step (step a x)) (many rule)) budget rest (go_on x budget rest))
    → (answer : Answer T B) → Says rule b ts answer → Says (mapped_to (grouped step a) (many rule)) b ts (after answer go_on)
says_turn step a rule go_on b ts each (got x rest remaining) says = says_more step a rule b ts says.0 rest says.1 remaining x says.2 says.3 says.4 (go_on x remaining rest) (each x remaining rest)
says_turn step a rule go_on b ts each (wrong remaining) says = (says.0, says.1, says.2, says.3, says.4, of_next says.5, says.6)
says_turn step a rule go_on b ts each large says = (says.0, says.1, says.2, says.3, says.4, of_next says.5)

turns_say : {T A B : Type 0} (class : T → ℕ) (set : List ℕ) (step : A → B → A) (rule : Rule T B) (reader : Reader T B)
    → ((b : ℕ) (ts : List T) → Says rule b ts (reader b ts)) → (n : ℕ) (a : A) (b : ℕ) (ts : List T)
    → Says (mapped_to (grouped step a) (many rule)) b ts (read_turns class set step reader n a b ts)
turns_say class set step rule reader member zero a b ts = ([], 0, refl, omega arith, mapped no_more)
turns_say class set step rule reader member (suc n) a b ts =
    elim (sees class set ts) as (λ s. Says (mapped_to (grouped step a) (many rule)) b ts (if s then after (reader b ts) (λ x. read_turns class set step reader n (step a x)) else got a ts b)) [
      | true ↦ says_turn step a rule (λ x. read_turns class set step reader n (step a x)) b ts (λ x budget rest. turns_say class set step rule reader member n (step a x) budget rest) (reader b ts) (member b ts)
      | false ↦ ([], 0, refl, omega arith, mapped no_more)
    ]

-- how the turns go
stops : {T A B : Type 0} (class : T → ℕ) (set : List ℕ) (step : A → B → A) (reader : Reader T B) (n : ℕ) (a : A) (b : ℕ) (ts : List T) → sees class set ts ≡ false → read_turns class set step reader n a b ts ≡ got a ts b
stops class set step reader zero a b ts unseen = refl
stops class set step reader (suc n) a b ts unseen = rw unseen refl

goes_on : {T A B : Type 0} (class : T → ℕ) (set : List ℕ) (step : A → B → A) (reader : Reader T B) (n : ℕ) (a : A) (b : ℕ) (ts : List T) → sees class set ts ≡ true
    → read_turns class set step reader (suc n) a b ts ≡ after (reader b ts) (λ x. read_turns class set step reader n (step a x))
goes_on class set step reader n a b ts is = rw is refl

-- a member that was whole has a turn of its own
has_turn : {T A B : Type 0} (class : T → ℕ) (set : List ℕ) (one : Shape) (depth : ℕ) (sure q : Rule T B) (reader : Reader T B) (step : A → B → A) → Members class set one depth sure q reader
    → (n : ℕ) (a : A) (b : ℕ) (us tail : List T) (v : ℕ) (x : B) → length (us ++ tail) ≤ n → v + b < depth → q.takes us v x → sees class one.more tail ≡ false
    → (m : ℕ) × (length tail ≤ m) × (read_turns class set step reader n a (v + b) (us ++ tail) ≡ read_turns class set step reader m (step a x) b tail)
has_turn class set one depth sure q reader step members n a b [] tail v x short in_depth t unseen = let begins = members.exact.shaped.begins [] v x t in let filled = members.filled in absurd (cc)
has_turn class set one depth sure q reader step members zero a b (u ∷ us) tail v x short in_depth t unseen = absurd (omega arith)
has_turn class set one depth sure q reader step members (suc n) a b (u ∷ us) tail v x short in_depth t unseen = (
  n,
  (let sum = length-append us tail in omega arith),
  goes_on class set step reader n a (v + b) (u ∷ (us ++ tail)) (has_subset one.first set (class u) members.inside (members.exact.shaped.begins (u ∷ us) v x t))
      ∙ ap (λ answer. after answer (λ y. read_turns class set step reader n (step a y))) (members.exact.gets b (u ∷ us) tail v x in_depth t unseen),
)

not_seen_tail : {T : Type 0} (class : T → ℕ) (first more : List ℕ) (vs rest : List T) → BeginsIn class first true vs → is_disjoint first more ≡ true → sees class more rest ≡ false → sees class more (vs ++ rest) ≡ false
not_seen_tail class first more [] rest begins apart unseen = unseen
not_seen_tail class first more (v ∷ vs) rest begins apart unseen = has_disjoint first more (class v) apart begins

turns_get : {T A B : Type 0} (class : T → ℕ) (set : List ℕ) (one : Shape) (depth : ℕ) (sure q : Rule T B) (reader : Reader T B) (step : A → B → A) → Members class set one depth sure q reader
    → (us : List T) (w : ℕ) (xs : List B) → TakesMany q us w xs → (n : ℕ) (a : A) (b : ℕ) (rest : List T) → length (us ++ rest) ≤ n → w + b < depth → sees class (set ++ one.more) rest ≡ false
    → read_turns class set step reader n a (w + b) (us ++ rest) ≡ got (grouped step a xs) rest b
turns_get class set one depth sure q reader step members us w xs no_more n a b rest short in_depth unseen =
    rw zero-add (stops class set step reader n a b rest (sees_left class set one.more rest unseen))
turns_get class set one depth sure q reader step members us w xs (one_more {us = vs} {vs = ws} {v} {w = y} {a = x} {as_ = more} t m) n a b rest short in_depth unseen =
    let regroup : (v + y) + b ≡ v + (y + b) = add_assoc v y b in
    let regroup' : (vs ++ ws) ++ rest ≡ vs ++ (ws ++ rest) = append_assoc vs ws rest in
    let turn = has_turn class set one depth sure q reader step members n a (y + b) vs (ws ++ rest) v x (rw regroup' at short) (omega arith) t
    (not_seen_tail class one.first one.more ws rest (many_begins class one q members.exact.shaped members.filled ws y more m) members.apart (sees_right class set one.more rest unseen)) in
    rw (regroup', regroup) (turn.2 ∙ turns_get class set one depth sure q reader step members ws y more m turn.0 (step a x) b rest turn.1 (omega arith) unseen)

turn_leaves : {T A B : Type 0} (step : A → B → A) (a : A) (rule : Rule T B) (go_on : B → Reader T A) (rest : List T)
    → ((x : B) (budget : ℕ) (ts : List T) → Says (mapped_to (grouped step (step a x)) (many rule)) budget ts (go_on x budget ts))
    → (answer : Answer T B) → LeavesAtMost rest answer → LeavesAtMost rest (after answer go_on)
turn_leaves step a rule go_on rest each (got x some b) leaves = leaves_less some rest (go_on x b some) leaves (leaves_all (mapped_to (grouped step (step a x)) (many rule)) b some (go_on x b some) (each x b some))
turn_leaves step a rule go_on rest each (wrong some) leaves = leaves
turn_leaves step a rule go_on rest each large leaves = tt

-- a front of the next member
next_reaches : {T A B : Type 0} (class : T → ℕ) (set : List ℕ) (one : Shape) (depth : ℕ) (sure q : Rule T B) (reader : Reader T B) (step : A → B → A) → Members class set one depth sure q reader
    → (n : ℕ) (a : A) (b : ℕ) (us rest : List T) (w : ℕ) → length (us ++ rest) ≤ n → b < depth → q.front us w → w ≤ b
    → LeavesAtMost rest (read_turns class set step reader n a b (us ++ rest))
next_reaches class set one depth sure q reader step members n a b [] rest w short in_depth t fits =
    leaves_all (mapped_to (grouped step a) (many sure)) b rest (read_turns class set step reader n a b rest) (turns_say class set step sure reader members.exact.says n a b rest)
next_reaches class set one depth sure q reader step members zero a b (u ∷ us) rest w short in_depth t fits = absurd (omega arith)
next_reaches class set one depth sure q reader step members (suc n) a b (u ∷ us) rest w short in_depth t fits =
    leaves_as rest _ _ (goes_on class set step reader n a b (u ∷ (us ++ rest)) (has_subset one.first set (class u) members.inside (members.exact.shaped.begins_front (u ∷ us) w t)))
    (turn_leaves step a sure (λ x. read_turns class set step reader n (step a x)) rest (λ x budget ts. turns_say class set step sure reader members.exact.says n (step a x) budget ts)
    (reader b (u ∷ (us ++ rest))) (members.exact.reaches b (u ∷ us) rest w in_depth t fits))

next_exceeds : {T A B : Type 0} (class : T → ℕ) (set : List ℕ) (one : Shape) (depth : ℕ) (sure q : Rule T B) (reader : Reader T B) (step : A → B → A) → Members class set one depth sure q reader
    → (n : ℕ) (a : A) (b : ℕ) (us rest : List T) (w : ℕ) → length (us ++ rest) ≤ n → b < depth → q.front us w → b < w
    → read_turns class set step reader n a b (us ++ rest) ≡ large
next_exceeds class set one depth sure q reader step members n a b [] rest w short in_depth t over = let none : w ≡ 0 = members.exact.shaped.light [] w t in absurd (omega arith)
next_exceeds class set one depth sure q reader step members zero a b (u ∷ us) rest w short in_depth t over = absurd (omega arith)
next_exceeds class set one depth sure q reader step members (suc n) a b (u ∷ us) rest w short in_depth t over =
    goes_on class set step reader n a b (u ∷ (us ++ rest)) (has_subset one.first set (class u) members.inside (members.exact.shaped.begins_front (u ∷ us) w t))
    ∙ ap (λ answer. after answer (λ y. read_turns class set step reader n (step a y))) (members.exact.exceeds b (u ∷ us) rest w in_depth t over)

-- a member that was whole, and then more or nothing
turns_reach : {T A B : Type 0} (class : T → ℕ) (set : List ℕ) (one : Shape) (depth : ℕ) (sure q : Rule T B) (reader : Reader T B) (step : A → B → A) → Members class set one depth sure q reader
    → (us : List T) (w : ℕ) → FrontOfMany q us w → (n : ℕ) (a : A) (b : ℕ) (rest : List T) → length (us ++ rest) ≤ n → b < depth → w ≤ b
    → LeavesAtMost rest (read_turns class set step reader n a b (us ++ rest))
turns_reach class set one depth sure q reader step members us w (of_next t) n a b rest short in_depth fits = next_reaches class set one depth sure q reader step members n a b us rest w short in_depth t fits
turns_reach class set one depth sure q reader step members us w (after_one {us = xs} {vs = []} {v} {w = y} {a = x} t m) n a b rest short in_depth fits =
    let none = append-nil xs in
    rw none (next_reaches class set one depth sure q reader step members n a b xs rest v (rw none at short) in_depth (members.exact.shaped.whole_front xs v x t) (omega arith))
turns_reach class set one depth sure q reader step members us w (after_one {us = xs} {vs = z ∷ zs} {v} {w = y} {a = x} t m) n a b rest short in_depth fits =
    let all : b ≡ v + (b - v) = omega arith in
    let regroup : (xs ++ (z ∷ zs)) ++ rest ≡ xs ++ (z ∷ (zs ++ rest)) = append_assoc xs (z ∷ zs) rest in
    let turn = has_turn class set one depth sure q reader step members n a (b - v) xs (z ∷ (zs ++ rest)) v x (rw regroup at short) (omega arith) t
    (has_disjoint one.first one.more (class z) members.apart (many_begins_front class one q members.exact.shaped members.filled (z ∷ zs) y m)) in
    rw regroup (subst (λ (k : ℕ). LeavesAtMost rest (read_turns class set step reader n a k (xs ++ (z ∷ (zs ++ rest))))) (sym all)
    (leaves_as rest _ _ turn.2 (turns_reach class set one depth sure q reader step members (z ∷ zs) y m turn.0 (step a x) (b - v) rest turn.1 (omega arith) (omega arith))))

-- what has a weight isn't empty, and so it begins as a member does
heavy_unseen : {T B : Type 0} (class : T → ℕ) (set : List ℕ) (one : Shape) (depth : ℕ) (sure q : Rule T B) (reader : Reader T B) → Members class set one depth sure q reader
    → (vs : List T) (w : ℕ) → FrontOfMany q vs w → (rest : List T) → 0 < w → sees class one.more (vs ++ rest) ≡ false
heavy_unseen class set one depth sure q reader members [] w m rest heavy = let none : w ≡ 0 = many_light class one q members.exact.shaped members.filled [] w m in absurd (omega arith)
heavy_unseen class set one depth sure q reader members (z ∷ zs) w m rest heavy = has_disjoint one.first one.more (class z) members.apart (many_begins_front class one q members.exact.shaped members.filled (z ∷ zs) w m)

turns_exceed : {T A B : Type 0} (class : T → ℕ) (set : List ℕ) (one : Shape) (depth : ℕ) (sure q : Rule T B) (reader : Reader T B) (step : A → B → A) → Members class set one depth sure q reader
    → (us : List T) (w : ℕ) → FrontOfMany q us w → (n : ℕ) (a : A) (b : ℕ) (rest : List T) → length (us ++ rest) ≤ n → b < depth → b < w
    → read_turns class set step reader n a b (us ++ rest) ≡ large
turns_exceed class set one depth sure q reader step members us w (of_next t) n a b rest short in_depth over = next_exceeds class set one depth sure q reader step members n a b us rest w short in_depth t over
turns_exceed class set one depth sure q reader step members us w (after_one {us = xs} {vs} {v} {w = y} {a = x} t m) n a b rest short in_depth over =
    let regroup : (xs ++ vs) ++ rest ≡ xs ++ (vs ++ rest) = append_assoc xs vs rest in
    elim (or_at_most v b) [
      | inr under ↦ rw regroup (next_exceeds class set one depth sure q reader step members n a b xs (vs ++ rest) v (rw regroup at short) in_depth (members.exact.shaped.whole_front xs v x t) under)
      | inl fits ↦
          let all : b ≡ v + (b - v) = omega arith in
          let unseen : sees class one.more (vs ++ rest) ≡ false = heavy_unseen class set one depth sure q reader members vs y m rest (omega arith) in
          let turn = has_turn class set one depth sure q reader step members n a (b - v) xs (vs ++ rest) v x (rw regroup at short) (omega arith) t unseen in
          rw regroup (subst (λ (k : ℕ). read_turns class set step reader n a k (xs ++ (vs ++ rest)) ≡ large) (sym all)
          (turn.2 ∙ turns_exceed class set one depth sure q reader step members vs y m turn.0 (step a x) (b - v) rest turn.1 (omega arith) (omega arith)))
    ]

onto_gets : {T A B : Type 0} (class : T → ℕ) (set : List ℕ) (one : Shape) (depth : ℕ) (sure q : Rule T B) (reader : Reader T B) (step : A → B → A) → Members class set one depth sure q reader
    → (b : ℕ) (us rest : List T) (w : ℕ) (a c : A) → w + b < depth → TakesMapped (grouped step a) (many q) us w c → sees class (set ++ one.more) rest ≡ false
    → read_onto class set step reader a (w + b) (us ++ rest) ≡ got c rest b
onto_gets class set one depth sure q reader step members b us rest w a c in_depth (mapped {a = xs} m) unseen =
    turns_get class set one depth sure q reader step members us w xs m (length (us ++ rest)) a b rest (omega arith) in_depth unseen

-- Members as long as the next token is in the set, put to a value one after the other.
pub onto_exact : {T A B : Type 0} (class : T → ℕ) (set : List ℕ) (one : Shape) (depth : ℕ) (sure q : Rule T B) (reader : Reader T B) (step : A → B → A) → Members class set one depth sure q reader
    → (a : A) → Exact class (many_shape set one) depth (mapped_to (grouped step a) (many sure)) (mapped_to (grouped step a) (many q)) (read_onto class set step reader a)
onto_exact class set one depth sure q reader step members a = record {
  says = λ b ts. turns_say class set step sure reader members.exact.says (length ts) a b ts;
  gets = λ b us rest w c in_depth takes unseen. onto_gets class set one depth sure q reader step members b us rest w a c in_depth takes unseen;
  reaches = λ b us rest w in_depth front fits. turns_reach class set one depth sure q reader step members us w front (length (us ++ rest)) a b rest (omega arith) in_depth fits;
  exceeds = λ b us rest w in_depth front over. turns_exceed class set one depth sure q reader step members us w front (length (us ++ rest)) a b rest (omega arith) in_depth over;
  sure_shape = mapped_shaped (grouped step a) (many_shaped set members.exact.sure_shape members.filled);
  shaped = mapped_shaped (grouped step a) (many_shaped set members.exact.shaped members.filled);
}

-- A part, and then members that are grouped to it from the left.
pub left_exact : {T A B : Type 0} {class : T → ℕ} {one two : Shape} {depth : ℕ} {sure p : Rule T A} {sure' q : Rule T B} {first : Reader T A} {reader : Reader T B} (set : List ℕ) (step : A → B → A)
    → Exact class one depth sure p first → Exact class two depth sure' q reader
    → two.empty ≡ false → is_subset two.first set ≡ true → is_disjoint two.first two.more ≡ true → is_disjoint two.first one.more ≡ true
    → Exact class (sequence_shape one (many_shape set two)) depth (left step sure sure') (left step p q) (read_left class set step first reader)
left_exact {class = class} {one = one} {two = two} {depth = depth} {sure = sure} {p = p} {sure' = sure'} {q = q} {first = first} {reader = reader} set step exact exact' filled inside apart apart' =
    sequence_exact_then (grouped step) exact (onto_exact class set two depth sure' q reader step (record { exact = exact'; filled = filled; inside = inside; apart = apart })) apart'

grouped_in_order : {B : Type 0} (xs ys : List B) → grouped put_last xs ys ≡ xs ++ ys
grouped_in_order xs [] = sym (append-nil xs)
grouped_in_order xs (y ∷ ys) = grouped_in_order (xs ++ (y ∷ [])) ys ∙ append_assoc xs (y ∷ []) ys

in_order : {B : Type 0} (ys : List B) → grouped put_last [] ys ≡ ys
in_order ys = grouped_in_order [] ys

-- Members alone, in a list.
pub many_exact : {T B : Type 0} {class : T → ℕ} {one : Shape} {depth : ℕ} {sure q : Rule T B} {reader : Reader T B} (set : List ℕ)
    → Exact class one depth sure q reader → one.empty ≡ false → is_subset one.first set ≡ true → is_disjoint one.first one.more ≡ true
    → Exact class (many_shape set one) depth (many sure) (many q) (read_many class set reader)
many_exact {class = class} {one = one} {depth = depth} {sure = sure} {q = q} {reader = reader} set exact filled inside apart =
    same_exact (grouped put_last []) (many sure) (many q) in_order
    (onto_exact class set one depth sure q reader put_last (record { exact = exact; filled = filled; inside = inside; apart = apart }) [])

-- A first item, and those behind it.
pub list_of_exact : {T A : Type 0} {class : T → ℕ} {one two : Shape} {depth : ℕ} {sure p sure' q : Rule T A} {first reader : Reader T A} (set : List ℕ)
    → Exact class one depth sure p first → Exact class two depth sure' q reader
    → two.empty ≡ false → is_subset two.first set ≡ true → is_disjoint two.first two.more ≡ true → is_disjoint two.first one.more ≡ true
    → Exact class (sequence_shape one (many_shape set two)) depth (list_of sure sure') (list_of p q) (read_list_of class set first reader)
list_of_exact set exact exact' filled inside apart apart' = left_exact set put_last (mapped_exact single exact) exact' filled inside apart apart'
