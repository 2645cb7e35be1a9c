-- How a loop over members goes: what is left to read gives the same answer.
use Rattle.std.proofs.Common.{◌≡◌, ℕ, zero, suc, ◌-◌, ◌<◌, ◌≤◌, ◌⊎◌, inl, inr, Err, Bool, true, false, if◌then◌else◌, List, [], ◌∷◌, ◌++◌, length, arith, refl, ◌∙◌, ap, subst, length-append}
use Rattle.grammar_rules.specs.Gives.{Gives}
use Rattle.grammar_rules.specs.Rules.{Rule}
use Rattle.grammar_rules.specs.declared.fault.ReadError.{ReadError}
use Rattle.grammar_rules.specs.declared.fault.ReadError.TheVariants.{Syntax, Size, Memory}
use Rattle.grammar_rules.specs.Readers.{Answer, Reader, after, sees, read_turns, read_onto}
use Rattle.grammar_rules.specs.Readers.Answer.{got, wrong, large}
use Rattle.grammar_rules.specs.Exactness.{Shape, Exact, Says, BeginsIn}

-- each value that is got takes a token at least
pub record Advances {T A : Type 0} (reader : Reader T A) : Type 0 where
  pub advances : (b : ℕ) (ts : List T) (a : A) (rest : List T) (remaining : ℕ) → reader b ts ≡ got a rest remaining → length rest < length ts

filled_begins : {T : Type 0} (class : T → ℕ) (first : List ℕ) (e : Bool) (us rest ts : List T) → e ≡ false → BeginsIn class first e us → ts ≡ us ++ rest → length rest < length ts
filled_begins class first e [] rest ts never begins split = absurd (cc)
filled_begins class first e (u ∷ us) rest ts never begins split = rw split (let sum = length-append us rest in omega arith)

got_advances : {T A : Type 0} (class : T → ℕ) (shape : Shape) (depth : ℕ) (sure rule : Rule T A) (reader : Reader T A) → Exact class shape depth sure rule reader → shape.empty ≡ false
    → (b : ℕ) (ts : List T) (a : A) (rest : List T) (remaining : ℕ) → reader b ts ≡ got a rest remaining → length rest < length ts
got_advances class shape depth sure rule reader exact filled b ts a rest remaining is =
    let says : Says sure b ts (got a rest remaining) = subst (Says sure b ts) is (exact.says b ts) in
    filled_begins class shape.first shape.empty says.0 rest ts filled (exact.sure_shape.begins says.0 says.1 a says.4) says.2

pub exact_advances : {T A : Type 0} {class : T → ℕ} {shape : Shape} {depth : ℕ} {sure rule : Rule T A} {reader : Reader T A} → Exact class shape depth sure rule reader → shape.empty ≡ false → Advances reader
exact_advances {class = class} {shape = shape} {depth = depth} {sure = sure} {rule = rule} {reader = reader} exact filled =
    record { advances = got_advances class shape depth sure rule reader exact filled }

-- more turns than tokens make no difference
after_same : {T A B : Type 0} (answer : Answer T B) (f g : B → Reader T A) (n : ℕ) → ((x : B) (rest : List T) (remaining : ℕ) → answer ≡ got x rest remaining → f x remaining rest ≡ g x remaining rest) → after answer f ≡ after answer g
after_same (got x rest remaining) f g n same = same x rest remaining refl
after_same (wrong remaining) f g n same = refl
after_same large f g n same = refl

turns_enough : {T A B : Type 0} (class : T → ℕ) (set : List ℕ) (step : A → B → A) (reader : Reader T B) → Advances reader
    → (n m : ℕ) (a : A) (b : ℕ) (ts : List T) → length ts ≤ n → length ts ≤ m → read_turns class set step reader n a b ts ≡ read_turns class set step reader m a b ts
turns_enough class set step reader forward zero zero a b ts short short' = refl
turns_enough class set step reader forward zero (suc m) a b [] short short' = refl
turns_enough class set step reader forward zero (suc m) a b (t ∷ ts) short short' = absurd (omega arith)
turns_enough class set step reader forward (suc n) zero a b [] short short' = refl
turns_enough class set step reader forward (suc n) zero a b (t ∷ ts) short short' = absurd (omega arith)
turns_enough class set step reader forward (suc n) (suc m) a b ts short short' =
    elim (sees class set ts) as (λ s. (if s then after (reader b ts) (λ x. read_turns class set step reader n (step a x)) else got a ts b) ≡ (if s then after (reader b ts) (λ x. read_turns class set step reader m (step a x)) else got a ts b)) [
      | true ↦ after_same (reader b ts) (λ x. read_turns class set step reader n (step a x)) (λ x. read_turns class set step reader m (step a x)) n
          (λ x rest remaining is. let less = forward.advances b ts x rest remaining is in turns_enough class set step reader forward n m (step a x) remaining rest (omega arith) (omega arith))
      | false ↦ refl
    ]

-- the four ways of a turn
pub onto_stops : {T A B : Type 0} (class : T → ℕ) (set : List ℕ) (step : A → B → A) (reader : Reader T B) (a : A) (b : ℕ) (ts : List T) → sees class set ts ≡ false → read_onto class set step reader a b ts ≡ got a ts b
onto_stops class set step reader a b [] unseen = refl
onto_stops class set step reader a b (t ∷ ts) unseen = rw unseen refl

onto_goes : {T A B : Type 0} (class : T → ℕ) (set : List ℕ) (step : A → B → A) (reader : Reader T B) (a : A) (b : ℕ) (ts : List T) → sees class set ts ≡ true → (n : ℕ) → length ts ≡ suc n
    → read_onto class set step reader a b ts ≡ after (reader b ts) (λ x. read_turns class set step reader n (step a x))
onto_goes class set step reader a b ts is n long = ap (λ (k : ℕ). read_turns class set step reader k a b ts) long ∙ goes class set step reader n a b ts is where
  goes : {T A B : Type 0} (class : T → ℕ) (set : List ℕ) (step : A → B → A) (reader : Reader T B) (n : ℕ) (a : A) (b : ℕ) (ts : List T) → sees class set ts ≡ true
      → read_turns class set step reader (suc n) a b ts ≡ after (reader b ts) (λ x. read_turns class set step reader n (step a x))
  goes class set step reader n a b ts is = rw is refl

pub onto_turn : {T A B : Type 0} (class : T → ℕ) (set : List ℕ) (step : A → B → A) (reader : Reader T B) → Advances reader → (a : A) (b : ℕ) (ts : List T) (x : B) (rest : List T) (remaining : ℕ)
    → sees class set ts ≡ true → reader b ts ≡ got x rest remaining → read_onto class set step reader a b ts ≡ read_onto class set step reader (step a x) remaining rest
onto_turn class set step reader forward a b [] x rest remaining seen is = absurd (cc)
onto_turn class set step reader forward a b (t ∷ ts) x rest remaining seen is =
    let less = forward.advances b (t ∷ ts) x rest remaining is in
    onto_goes class set step reader a b (t ∷ ts) seen (length ts) refl
    ∙ ap (λ answer. after answer (λ y. read_turns class set step reader (length ts) (step a y))) is
    ∙ turns_enough class set step reader forward (length ts) (length rest) (step a x) remaining rest (omega arith) (omega arith)

pub onto_wrong : {T A B : Type 0} (class : T → ℕ) (set : List ℕ) (step : A → B → A) (reader : Reader T B) (a : A) (b : ℕ) (ts : List T) (remaining : ℕ)
    → sees class set ts ≡ true → reader b ts ≡ wrong remaining → read_onto class set step reader a b ts ≡ wrong remaining
onto_wrong class set step reader a b [] remaining seen is = absurd (cc)
onto_wrong class set step reader a b (t ∷ ts) remaining seen is =
    onto_goes class set step reader a b (t ∷ ts) seen (length ts) refl ∙ ap (λ answer. after answer (λ y. read_turns class set step reader (length ts) (step a y))) is

pub onto_large : {T A B : Type 0} (class : T → ℕ) (set : List ℕ) (step : A → B → A) (reader : Reader T B) (a : A) (b : ℕ) (ts : List T)
    → sees class set ts ≡ true → reader b ts ≡ large → read_onto class set step reader a b ts ≡ large
onto_large class set step reader a b [] seen is = absurd (cc)
onto_large class set step reader a b (t ∷ ts) seen is =
    onto_goes class set step reader a b (t ∷ ts) seen (length ts) refl ∙ ap (λ answer. after answer (λ y. read_turns class set step reader (length ts) (step a y))) is

-- The turns of a loop that counts them: one more member, none more, and a fault.
pub turn_taken : {T A B : Type 0} (class : T → ℕ) (set : List ℕ) (step : A → B → A) (reader : Reader T B) (turns : ℕ) (a : A) (b : ℕ) (ts : List T) (x : B) (rest : List T) (remaining : ℕ)
    → 0 < turns → sees class set ts ≡ true → reader b ts ≡ got x rest remaining → read_turns class set step reader turns a b ts ≡ read_turns class set step reader (turns - 1) (step a x) remaining rest
turn_taken class set step reader zero a b ts x rest remaining some seen is = absurd (omega arith)
turn_taken class set step reader (suc n) a b ts x rest remaining some seen is =
    let less : n ≡ suc n - 1 = omega arith in
    rw seen (rw is (ap (λ (k : ℕ). read_turns class set step reader k (step a x) remaining rest) less))

pub turns_end : {T A B : Type 0} (class : T → ℕ) (set : List ℕ) (step : A → B → A) (reader : Reader T B) (turns : ℕ) (a : A) (b : ℕ) (ts : List T)
    → (turns ≡ 0) ⊎ (sees class set ts ≡ false) → read_turns class set step reader turns a b ts ≡ got a ts b
turns_end class set step reader zero a b ts over = refl
turns_end class set step reader (suc n) a b ts (inl none) = absurd (omega arith)
turns_end class set step reader (suc n) a b ts (inr unseen) = rw unseen refl

pub turn_fails : {T A B : Type 0} (class : T → ℕ) (set : List ℕ) (step : A → B → A) (reader : Reader T B) (turns : ℕ) (a : A) (b : ℕ) (ts : List T) (fault : ReadError)
    → 0 < turns → sees class set ts ≡ true → Gives {A = B} (Err fault) (reader b ts) → Gives {A = A} (Err fault) (read_turns class set step reader turns a b ts)
turn_fails class set step reader zero a b ts fault some seen is = absurd (omega arith)
turn_fails class set step reader (suc n) a b ts (Syntax k) some seen is = rw seen (rw is refl)
turn_fails class set step reader (suc n) a b ts Size some seen is = rw seen (rw is refl)
turn_fails class set step reader (suc n) a b ts Memory some seen is = tt
