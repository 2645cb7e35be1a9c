-- The law of a rule that speaks of itself. Each turn through the rule spends a weight, so a reader at a
-- level above the budget comes to its end before its level does.
use Rattle.std.proofs.Common.{◌≡◌, ℕ, zero, suc, ◌<◌, List, [], ◌++◌, arith, refl, zero-le}
use Rattle.grammar_rules.specs.Rules.{Rule, unentered, level, recursive, FrontOfNothing}
use Rattle.grammar_rules.specs.Rules.FrontOfNothing.{only_empty}
use Rattle.grammar_rules.specs.Readers.{Answer, Reader, read_level}
use Rattle.grammar_rules.specs.Readers.Answer.{got, wrong, large}
use Rattle.grammar_rules.specs.Exactness.{Shape, HasShape, Exact, Says, LeavesAtMost}
use Rattle.grammar_rules.proofs.Leaves.{leaves_all}
use Rattle.grammar_rules.proofs.Token.{nothing_begins_front, nothing_light}

unentered_shaped : {T A : Type 0} (class : T → ℕ) (shape : Shape) → HasShape class shape (unentered {T = T} {A = A})
unentered_shaped class shape = record {
  begins = λ us w a takes. absurd takes;
  begins_front = nothing_begins_front class shape.first;
  light = nothing_light;
  empty_front = only_empty;
  whole_front = λ us w a takes. absurd takes;
}

-- the body keeps exactness, one level deeper
abbrev pub Deepens : {T A : Type 0} → (T → ℕ) → Shape → (Rule T A → Rule T A) → (Reader T A → Reader T A) → Type 1
Deepens class shape body read_body = (depth : ℕ) (sure rule : Rule _ _) (reader : Reader _ _) → Exact class shape depth sure rule reader → Exact class shape (suc depth) (body sure) (body rule) (read_body reader)

at_ground : {T A : Type 0} (class : T → ℕ) (shape : Shape) (read_body : Reader T A → Reader T A) (rule : Rule T A) → HasShape class shape rule → Exact class shape 0 unentered rule (read_level read_body 0)
at_ground class shape read_body rule shaped = record {
  says = λ b ts. ([], ts, 0, refl, zero-le, only_empty, refl);
  gets = λ b us rest w a in_depth takes unseen. absurd (omega arith);
  reaches = λ b us rest w in_depth front fits. absurd (omega arith);
  exceeds = λ b us rest w in_depth front over. absurd (omega arith);
  sure_shape = unentered_shaped class shape;
  shaped = shaped;
}

nothing_to_reach : {T A : Type 0} (class : T → ℕ) (shape : Shape) (depth : ℕ) (sure rule : Rule T A) (reader : Reader T A) → Exact class shape depth sure rule reader
    → (b : ℕ) (us rest : List T) (w : ℕ) → FrontOfNothing us w → LeavesAtMost rest (reader b (us ++ rest))
nothing_to_reach class shape depth sure rule reader exact b us rest w only_empty = leaves_all sure b rest (reader b rest) (exact.says b rest)

nothing_too_heavy : {T A : Type 0} (reader : Reader T A) (b : ℕ) (us rest : List T) (w : ℕ) → FrontOfNothing us w → b < w → reader b (us ++ rest) ≡ large
nothing_too_heavy reader b us rest w only_empty over = absurd (omega arith)

for_nothing : {T A : Type 0} (class : T → ℕ) (shape : Shape) (depth : ℕ) (sure rule : Rule T A) (reader : Reader T A) → Exact class shape depth sure rule reader → Exact class shape depth sure unentered reader
for_nothing class shape depth sure rule reader exact = record {
  says = exact.says;
  gets = λ b us rest w a in_depth takes unseen. absurd takes;
  reaches = λ b us rest w in_depth front fits. nothing_to_reach class shape depth sure rule reader exact b us rest w front;
  exceeds = λ b us rest w in_depth front over. nothing_too_heavy reader b us rest w front over;
  sure_shape = exact.sure_shape;
  shaped = unentered_shaped class shape;
}

-- What is read at one level is found, of whatever level it is.
level_exact : {T A : Type 0} (class : T → ℕ) (shape : Shape) (body : Rule T A → Rule T A) (read_body : Reader T A → Reader T A) → Deepens class shape body read_body
    → (n m : ℕ) → Exact class shape n (level body n) (level body m) (read_level read_body n)
level_exact class shape body read_body deepens zero zero = at_ground class shape read_body unentered (unentered_shaped class shape)
level_exact class shape body read_body deepens zero (suc m) =
    at_ground class shape read_body (level body (suc m)) ((deepens zero (level body zero) (level body m) (read_level read_body zero) (level_exact class shape body read_body deepens zero m)).shaped)
level_exact class shape body read_body deepens (suc n) zero =
    for_nothing class shape (suc n) (level body (suc n)) (body unentered) (read_level read_body (suc n))
    (deepens n (level body n) unentered (read_level read_body n) (level_exact class shape body read_body deepens n zero))
level_exact class shape body read_body deepens (suc n) (suc m) =
    deepens n (level body n) (level body m) (read_level read_body n) (level_exact class shape body read_body deepens n m)

level_says : {T A : Type 0} (body : Rule T A → Rule T A) (n b : ℕ) (ts : List T) (answer : Answer T A) → Says (level body n) b ts answer → Says (recursive body) b ts answer
level_says body n b ts (got a rest remaining) says = (says.0, says.1, says.2, says.3, (n, says.4))
level_says body n b ts (wrong remaining) says = (says.0, says.1, says.2, says.3, says.4, (n, says.5), says.6)
level_says body n b ts large says = (says.0, says.1, says.2, says.3, says.4, (n, says.5))

recursive_shaped : {T A : Type 0} (class : T → ℕ) (shape : Shape) (body : Rule T A → Rule T A) → ((m : ℕ) → HasShape class shape (level body m)) → HasShape class shape (recursive body)
recursive_shaped class shape body each = record {
  begins = λ us w a takes. (each takes.0).begins us w a takes.1;
  begins_front = λ us w front. (each front.0).begins_front us w front.1;
  light = λ us w front. (each front.0).light us w front.1;
  empty_front = (0, only_empty);
  whole_front = λ us w a takes. (takes.0, (each takes.0).whole_front us w a takes.1);
}

-- A rule that speaks of itself, for budgets below the level.
pub recursive_exact : {T A : Type 0} (class : T → ℕ) (shape : Shape) (body : Rule T A → Rule T A) (read_body : Reader T A → Reader T A) → Deepens class shape body read_body
    → (n : ℕ) → Exact class shape n (recursive body) (recursive body) (read_level read_body n)
recursive_exact class shape body read_body deepens n =
    let each = λ (m : ℕ). level_exact class shape body read_body deepens n m in
    record {
      says = λ b ts. level_says body n b ts (read_level read_body n b ts) ((each 0).says b ts);
      gets = λ b us rest w a in_depth takes unseen. (each takes.0).gets b us rest w a in_depth takes.1 unseen;
      reaches = λ b us rest w in_depth front fits. (each front.0).reaches b us rest w in_depth front.1 fits;
      exceeds = λ b us rest w in_depth front over. (each front.0).exceeds b us rest w in_depth front.1 over;
      sure_shape = recursive_shaped class shape body (λ m. (each m).shaped);
      shaped = recursive_shaped class shape body (λ m. (each m).shaped);
    }
