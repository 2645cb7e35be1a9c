-- A shape may be widened, so that alternatives with unlike arguments get one shape.
use Rattle.std.proofs.Common.{◌≡◌, ℕ, Bool, true, false, not, ◌||◌, List, [], ◌∷◌, refl, sym, ◌∙◌}
use Rattle.grammar_rules.specs.Exactness.{Shape, HasShape, Exact, BeginsIn, is_subset}
use Rattle.grammar_rules.specs.Readers.{Reader, has, sees}
use Rattle.grammar_rules.specs.Rules.{Rule}
use Rattle.grammar_rules.proofs.LookAhead.{has_subset}

-- the classes and the empty list of one shape are in the other
pub record IsWider (shape wide : Shape) : Type 0 where
  pub first : is_subset shape.first wide.first ≡ true
  pub empty : (not shape.empty || wide.empty) ≡ true
  pub more : is_subset shape.more wide.more ≡ true

implied : (a b : Bool) → (not a || b) ≡ true → a ≡ true → b ≡ true
implied true b h is = h
implied false b h is = absurd (cc)

begins_wider : {T : Type 0} (class : T → ℕ) (first wide : List ℕ) (e e' : Bool) (us : List T) → is_subset first wide ≡ true → (not e || e') ≡ true → BeginsIn class first e us → BeginsIn class wide e' us
begins_wider class first wide e e' [] inside empty begins = implied e e' empty begins
begins_wider class first wide e e' (u ∷ us) inside empty begins = has_subset first wide (class u) inside begins

not_in : (xs ys : List ℕ) (c : ℕ) → is_subset xs ys ≡ true → has ys c ≡ false → has xs c ≡ false
not_in xs ys c inside none =
    elim (has xs c) as (λ b. has xs c ≡ b → b ≡ false) [
      | true ↦ λ e. (let there = has_subset xs ys c inside e in absurd (cc))
      | false ↦ λ e. refl
    ] refl

unseen_wider : {T : Type 0} (class : T → ℕ) (more wide : List ℕ) (rest : List T) → is_subset more wide ≡ true → sees class wide rest ≡ false → sees class more rest ≡ false
unseen_wider class more wide [] inside unseen = refl
unseen_wider class more wide (t ∷ ts) inside unseen = not_in more wide (class t) inside unseen

wider_shaped : {T A : Type 0} {class : T → ℕ} {shape wide : Shape} {rule : Rule T A} → IsWider shape wide → HasShape class shape rule → HasShape class wide rule
wider_shaped {class = class} {shape = shape} {wide = wide} is shaped = record {
  begins = λ us w a takes. begins_wider class shape.first wide.first shape.empty wide.empty us is.first is.empty (shaped.begins us w a takes);
  begins_front = λ us w front. begins_wider class shape.first wide.first true true us is.first refl (shaped.begins_front us w front);
  light = shaped.light;
  empty_front = shaped.empty_front;
  whole_front = shaped.whole_front;
}

pub wider_exact : {T A : Type 0} {class : T → ℕ} {shape : Shape} (wide : Shape) {depth : ℕ} {sure rule : Rule T A} {reader : Reader T A} → IsWider shape wide
    → Exact class shape depth sure rule reader → Exact class wide depth sure rule reader
wider_exact {class = class} {shape = shape} wide is exact = record {
  says = exact.says;
  gets = λ b us rest w a in_depth takes unseen. exact.gets b us rest w a in_depth takes (unseen_wider class shape.more wide.more rest is.more unseen);
  reaches = exact.reaches;
  exceeds = exact.exceeds;
  sure_shape = wider_shaped is exact.sure_shape;
  shaped = wider_shaped is exact.shaped;
}
