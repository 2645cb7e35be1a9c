-- The law of a part with a limit of its own.
use Rattle.std.proofs.Common.{◌≡◌, ℕ, ◌+◌, ◌-◌, ◌<◌, ◌≤◌, min, List, [], ◌∷◌, ◌++◌, true, false, arith, ◌∙◌, ap, subst}
use Rattle.grammar_rules.specs.Rules.{Rule, fresh, TakesFresh, FrontOfFresh}
use Rattle.grammar_rules.specs.Rules.TakesFresh.{above}
use Rattle.grammar_rules.specs.Rules.FrontOfFresh.{above_front}
use Rattle.grammar_rules.specs.Readers.{Answer, Reader, sees, capped, read_fresh}
use Rattle.grammar_rules.specs.Readers.Answer.{got, wrong, large}
use Rattle.grammar_rules.specs.Exactness.{Shape, HasShape, Exact, Says, LeavesAtMost, BeginsIn, IsLight}

fresh_says : {T A : Type 0} (limit : ℕ) (rule : Rule T A) (b : ℕ) (ts : List T) (answer : Answer T A) → Says rule (b + limit) ts answer → Says (fresh limit rule) b ts (capped b answer)
fresh_says limit rule b ts (got a rest remaining) says = (says.0, says.1 - limit, says.2, (let paid = says.3 in omega arith), above says.4)
fresh_says limit rule b ts (wrong remaining) says = (says.0, says.1, says.2 - limit, says.3, (let fits = says.4 in omega arith), above_front says.5, says.6)
fresh_says limit rule b ts large says = (says.0, says.1, says.2 - limit, says.3, (let over = says.4 in omega arith), above_front says.5)

capped_leaves : {T A : Type 0} (b : ℕ) (rest : List T) (answer : Answer T A) → LeavesAtMost rest answer → LeavesAtMost rest (capped b answer)
capped_leaves b rest (got a some remaining) leaves = leaves
capped_leaves b rest (wrong some) leaves = leaves
capped_leaves b rest large leaves = leaves

fresh_begins : {T A : Type 0} (class : T → ℕ) (shape : Shape) (limit : ℕ) (rule : Rule T A) → HasShape class shape rule → (us : List T) (w : ℕ) (a : A) → TakesFresh limit rule us w a → BeginsIn class shape.first shape.empty us
fresh_begins class shape limit rule shaped us w a (above {w = v} t) = shaped.begins us v a t

fresh_begins_front : {T A : Type 0} (class : T → ℕ) (shape : Shape) (limit : ℕ) (rule : Rule T A) → HasShape class shape rule → (us : List T) (w : ℕ) → FrontOfFresh limit rule us w → BeginsIn class shape.first true us
fresh_begins_front class shape limit rule shaped us w (above_front {w = v} t) = shaped.begins_front us v t

lighter : {T : Type 0} (us : List T) (limit w : ℕ) → IsLight us w → IsLight us (w - limit)
lighter [] limit w light = omega arith
lighter (u ∷ us) limit w light = tt

fresh_light : {T A : Type 0} (class : T → ℕ) (shape : Shape) (limit : ℕ) (rule : Rule T A) → HasShape class shape rule → (us : List T) (w : ℕ) → FrontOfFresh limit rule us w → IsLight us w
fresh_light class shape limit rule shaped us w (above_front {w = v} t) = lighter us limit v (shaped.light us v t)

fresh_whole : {T A : Type 0} (class : T → ℕ) (shape : Shape) (limit : ℕ) (rule : Rule T A) → HasShape class shape rule → (us : List T) (w : ℕ) (a : A) → TakesFresh limit rule us w a → FrontOfFresh limit rule us w
fresh_whole class shape limit rule shaped us w a (above {w = v} t) = above_front (shaped.whole_front us v a t)

fresh_shaped : {T A : Type 0} {class : T → ℕ} {shape : Shape} (limit : ℕ) {rule : Rule T A} → HasShape class shape rule → HasShape class shape (fresh limit rule)
fresh_shaped {class = class} {shape = shape} limit {rule = rule} shaped = record {
  begins = fresh_begins class shape limit rule shaped;
  begins_front = fresh_begins_front class shape limit rule shaped;
  light = fresh_light class shape limit rule shaped;
  empty_front = (let none : 0 - limit ≡ 0 = omega arith in subst (λ (n : ℕ). FrontOfFresh limit rule [] n) none (above_front shaped.empty_front));
  whole_front = fresh_whole class shape limit rule shaped;
}

fresh_gets : {T A : Type 0} (class : T → ℕ) (shape : Shape) (limit depth : ℕ) (sure rule : Rule T A) (reader : Reader T A) → Exact class shape (depth + limit) sure rule reader
    → (b : ℕ) (us rest : List T) (w : ℕ) (a : A) → w + b < depth → TakesFresh limit rule us w a → sees class shape.more rest ≡ false → read_fresh limit reader (w + b) (us ++ rest) ≡ got a rest b
fresh_gets class shape limit depth sure rule reader exact b us rest w a in_depth (above {w = v} t) unseen =
    let remaining = (((v - limit) + b) + limit) - v in
    let paid : ((v - limit) + b) + limit ≡ v + remaining = omega arith in
    let capped_is : min ((v - limit) + b) remaining ≡ b = omega arith in
    let come = exact.gets remaining us rest v a (omega arith) t unseen in
    ap (λ (n : ℕ). capped ((v - limit) + b) (reader n (us ++ rest))) paid ∙ ap (capped ((v - limit) + b)) come ∙ ap (λ (n : ℕ). got a rest n) capped_is

fresh_reaches : {T A : Type 0} (class : T → ℕ) (shape : Shape) (limit depth : ℕ) (sure rule : Rule T A) (reader : Reader T A) → Exact class shape (depth + limit) sure rule reader
    → (b : ℕ) (us rest : List T) (w : ℕ) → b < depth → FrontOfFresh limit rule us w → w ≤ b → LeavesAtMost rest (read_fresh limit reader b (us ++ rest))
fresh_reaches class shape limit depth sure rule reader exact b us rest w in_depth (above_front {w = v} t) fits =
    capped_leaves b rest (reader (b + limit) (us ++ rest)) (exact.reaches (b + limit) us rest v (omega arith) t (omega arith))

fresh_exceeds : {T A : Type 0} (class : T → ℕ) (shape : Shape) (limit depth : ℕ) (sure rule : Rule T A) (reader : Reader T A) → Exact class shape (depth + limit) sure rule reader
    → (b : ℕ) (us rest : List T) (w : ℕ) → b < depth → FrontOfFresh limit rule us w → b < w → read_fresh limit reader b (us ++ rest) ≡ large
fresh_exceeds class shape limit depth sure rule reader exact b us rest w in_depth (above_front {w = v} t) over =
    ap (capped b) (exact.exceeds (b + limit) us rest v (omega arith) t (omega arith))

-- A part with a limit of its own, which may be read as much deeper.
pub fresh_exact : {T A : Type 0} {class : T → ℕ} {shape : Shape} {sure rule : Rule T A} {reader : Reader T A} (limit depth : ℕ)
    → Exact class shape (depth + limit) sure rule reader → Exact class shape depth (fresh limit sure) (fresh limit rule) (read_fresh limit reader)
fresh_exact {class = class} {shape = shape} {sure = sure} {rule = rule} {reader = reader} limit depth exact = record {
  says = λ b ts. fresh_says limit sure b ts (reader (b + limit) ts) (exact.says (b + limit) ts);
  gets = fresh_gets class shape limit depth sure rule reader exact;
  reaches = fresh_reaches class shape limit depth sure rule reader exact;
  exceeds = fresh_exceeds class shape limit depth sure rule reader exact;
  sure_shape = fresh_shaped limit exact.sure_shape;
  shaped = fresh_shaped limit exact.shaped;
}
