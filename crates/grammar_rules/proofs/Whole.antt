-- The exact place: with a front before it, a reader goes on past it.
use Rattle.std.proofs.Common.{◌≡◌, ℕ, ◌+◌, ◌-◌, ◌<◌, ◌≤◌, List, [], ◌∷◌, ◌++◌, ◌⊎◌, inl, inr, length, length-append, arith, refl, sym, ◌∙◌, ap, subst, append-nil, append_assoc}
use Rattle.grammar_rules.specs.Rules.{Rule}
use Rattle.grammar_rules.specs.Readers.{Answer, Reader}
use Rattle.grammar_rules.specs.Readers.Answer.{got, wrong, large}
use Rattle.grammar_rules.specs.Exactness.{Shape, Exact, Says, LeavesAtMost}
use Rattle.grammar_rules.specs.Whole.{Verdict, verdict, IsVerdict, IsSentence, IsMisplaced, IsTooHeavy, IsMisplacedAt}
use Rattle.grammar_rules.specs.Whole.Verdict.{parsed, misplaced, too_heavy}
use Rattle.grammar_rules.proofs.Leaves.{or_at_most}

-- a sentence within the limit is got, and one above it is large
sentence_got : {T A : Type 0} (class : T → ℕ) (shape : Shape) (depth : ℕ) (rule : Rule T A) (reader : Reader T A) → Exact class shape depth rule rule reader
    → (limit : ℕ) (ts : List T) (w : ℕ) (a : A) → limit < depth → rule.takes ts w a
    → ((w ≤ limit) × (reader limit ts ≡ got a [] (limit - w))) ⊎ ((limit < w) × (reader limit ts ≡ large))
sentence_got class shape depth rule reader exact limit ts w a deep takes =
    let nil = append-nil ts in
    elim (or_at_most w limit) [
      | inl fits ↦
          let all : w + (limit - w) ≡ limit = omega arith in
          inl (fits, (ap (λ (n : ℕ). reader n ts) (sym all) ∙ ap (reader (w + (limit - w))) (sym nil) ∙ exact.gets (limit - w) ts [] w a (omega arith) takes refl))
      | inr over ↦ inr (over, (ap (reader limit) (sym nil) ∙ exact.exceeds limit ts [] w deep (exact.shaped.whole_front ts w a takes) over))
    ]

-- Where the answer isn't that the limit is exceeded, no front weighs more, and the answer leaves no more
-- than each front does.
front_within : {T A : Type 0} (class : T → ℕ) (shape : Shape) (depth : ℕ) (rule : Rule T A) (reader : Reader T A) → Exact class shape depth rule rule reader
    → (limit : ℕ) (ts us later : List T) (w : ℕ) → limit < depth → (answer : Answer T A) → reader limit ts ≡ answer → (answer ≡ large → ⊥)
    → ts ≡ us ++ later → rule.front us w → LeavesAtMost later answer × (w ≤ limit)
front_within class shape depth rule reader exact limit ts us later w deep answer is small split front =
    elim (or_at_most w limit) [
      | inl fits ↦ (subst (LeavesAtMost later) is (subst (λ ys. LeavesAtMost later (reader limit ys)) (sym split) (exact.reaches limit us later w deep front fits)), fits)
      | inr over ↦ absurd (small (sym is ∙ (ap (reader limit) split ∙ exact.exceeds limit us later w deep front over)))
    ]

not_longer : {T : Type 0} (us later before rest ts : List T) → ts ≡ us ++ later → ts ≡ before ++ rest → length rest ≤ length later → length us ≤ length before
not_longer us later before rest ts split other leaves =
    let whole : length us + length later ≡ length before + length rest = sym (length-append us later) ∙ (ap length (sym split ∙ other) ∙ length-append before rest) in
    omega arith

-- what each answer comes to
verdict_of : {T A : Type 0} (class : T → ℕ) (shape : Shape) (depth : ℕ) (rule : Rule T A) (reader : Reader T A) → Exact class shape depth rule rule reader
    → (limit : ℕ) (ts : List T) → limit < depth → (answer : Answer T A) → reader limit ts ≡ answer → Says rule limit ts answer → IsVerdict rule limit ts (verdict answer)
verdict_of class shape depth rule reader exact limit ts deep (got a [] left_over) is says =
    let split : ts ≡ says.0 = says.2 ∙ append-nil says.0 in
    record {
      taken = (says.1, (let paid = says.3 in omega arith), subst (λ ys. rule.takes ys says.1 a) (sym split) says.4);
      alone = λ w b takes. elim (sentence_got class shape depth rule reader exact limit ts w b deep takes) [
        | inl found ↦ (let e = found.1 in cc)
        | inr over ↦ (let e = over.1 in absurd (cc))
      ];
    }
verdict_of class shape depth rule reader exact limit ts deep (got a (t ∷ later) left_over) is says = (
  says.0,
  t ∷ later,
  refl,
  record {
    split = says.2;
    front = (says.1, (let paid = says.3 in omega arith), exact.shaped.whole_front says.0 says.1 a says.4);
    furthest = λ us after w split front.
        let within = front_within class shape depth rule reader exact limit ts us after w deep (got a (t ∷ later) left_over) is (λ e. cc) split front in
        (not_longer us after says.0 (t ∷ later) ts split says.2 within.0, within.1);
    no_sentence = λ w b takes. elim (sentence_got class shape depth rule reader exact limit ts w b deep takes) [
      | inl found ↦ (let e = found.1 in absurd (cc))
      | inr over ↦ (let e = over.1 in absurd (cc))
    ];
  },
)
verdict_of class shape depth rule reader exact limit ts deep (wrong remaining) is says = (
  says.0,
  says.1,
  says.6,
  record {
    split = says.3;
    front = (says.2, says.4, says.5);
    furthest = λ us after w split front.
        let within = front_within class shape depth rule reader exact limit ts us after w deep (wrong remaining) is (λ e. cc) split front in
        let left = within.0 in
        (not_longer us after says.0 says.1 ts split says.3 (let count = says.6 in omega arith), within.1);
    no_sentence = λ w b takes. elim (sentence_got class shape depth rule reader exact limit ts w b deep takes) [
      | inl found ↦ (let e = found.1 in absurd (cc))
      | inr over ↦ (let e = over.1 in absurd (cc))
    ];
  },
)
verdict_of class shape depth rule reader exact limit ts deep large is says =
    record {
      front = says;
      no_sentence = λ w b takes. elim (sentence_got class shape depth rule reader exact limit ts w b deep takes) [
        | inl found ↦ (let e = found.1 in absurd (cc))
        | inr over ↦ over.0
      ];
    }

-- A reader that follows a rule exactly gives the verdict of the rule on a whole text.
pub verdict_exact : {T A : Type 0} {class : T → ℕ} {shape : Shape} {depth : ℕ} {rule : Rule T A} {reader : Reader T A} → Exact class shape depth rule rule reader
    → (limit : ℕ) (ts : List T) → limit < depth → IsVerdict rule limit ts (verdict (reader limit ts))
verdict_exact {class = class} {shape = shape} {depth = depth} {rule = rule} {reader = reader} exact limit ts deep =
    verdict_of class shape depth rule reader exact limit ts deep (reader limit ts) refl (exact.says limit ts)

-- At most one verdict fits a text: a value, a misplaced token and too heavy a text exclude one another, the
-- value is the only one, and so is the place.
pub one_place : {T A : Type 0} {rule : Rule T A} {limit : ℕ} {ts before rest before' rest' : List T} → IsMisplaced rule limit ts before rest → IsMisplaced rule limit ts before' rest' → length rest ≡ length rest'
one_place {ts = ts} {before = before} {rest = rest} {before' = before'} {rest' = rest'} first second =
    let there = first.furthest before' rest' second.front.0 second.split second.front.2 in
    let here = second.furthest before rest first.front.0 first.split first.front.2 in
    let whole : length before + length rest ≡ length before' + length rest' = sym (length-append before rest) ∙ (ap length (sym first.split ∙ second.split) ∙ length-append before' rest') in
    omega arith

pub not_heavy : {T A : Type 0} {rule : Rule T A} {limit : ℕ} {ts before rest : List T} → IsMisplaced rule limit ts before rest → IsTooHeavy rule limit ts → ⊥
not_heavy place heavy =
    let front = heavy.front in
    let fits = (place.furthest front.0 front.1 front.2 front.3 front.5).1 in
    let over = front.4 in
    omega arith

pub not_sentence : {T A : Type 0} {rule : Rule T A} {limit : ℕ} {ts : List T} {a : A} → IsSentence rule limit ts a → IsTooHeavy rule limit ts → ⊥
not_sentence {a = a} is heavy =
    let over = heavy.no_sentence is.taken.0 a is.taken.2 in
    let fits = is.taken.1 in
    omega arith

pub one_verdict : {T A : Type 0} (rule : Rule T A) (limit : ℕ) (ts : List T) (one other : Verdict A) → IsVerdict rule limit ts one → IsVerdict rule limit ts other → one ≡ other
one_verdict rule limit ts (parsed a) (parsed b) is is' = ap parsed (is'.alone is.taken.0 a is.taken.2)
one_verdict rule limit ts (parsed a) (misplaced n) is is' = absurd (is'.3.no_sentence is.taken.0 a is.taken.2)
one_verdict rule limit ts (parsed a) too_heavy is is' = absurd (not_sentence is is')
one_verdict rule limit ts (misplaced n) (parsed b) is is' = absurd (is.3.no_sentence is'.taken.0 b is'.taken.2)
one_verdict rule limit ts (misplaced n) (misplaced m) is is' = ap misplaced (is.2 ∙ (one_place is.3 is'.3 ∙ sym is'.2))
one_verdict rule limit ts (misplaced n) too_heavy is is' = absurd (not_heavy is.3 is')
one_verdict rule limit ts too_heavy (parsed b) is is' = absurd (not_sentence is' is)
one_verdict rule limit ts too_heavy (misplaced m) is is' = absurd (not_heavy is'.3 is)
one_verdict rule limit ts too_heavy too_heavy is is' = refl
