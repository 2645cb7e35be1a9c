-- The law of a rule with another value.
use Rattle.std.proofs.Common.{◌≡◌, ℕ, ◌+◌, List, ◌++◌, refl, sym, subst, ◌∙◌, ap}
use Rattle.grammar_rules.specs.Rules.{Rule, mapped_to, TakesMapped}
use Rattle.grammar_rules.specs.Rules.TakesMapped.{mapped}
use Rattle.grammar_rules.specs.Readers.{Answer, Reader, after, read_nothing, read_mapped}
use Rattle.grammar_rules.specs.Readers.Answer.{got, wrong, large}
use Rattle.grammar_rules.specs.Exactness.{Shape, HasShape, Exact, Says, LeavesAtMost, BeginsIn}

mapped_says : {T A B : Type 0} (f : A → B) (rule : Rule T A) (b : ℕ) (ts : List T) (answer : Answer T A) → Says rule b ts answer → Says (mapped_to f rule) b ts (after answer (λ a. read_nothing (f a)))
mapped_says f rule b ts (got a rest remaining) says = (says.0, says.1, says.2, says.3, mapped says.4)
mapped_says f rule b ts (wrong rest) says = says
mapped_says f rule b ts large says = says

mapped_leaves : {T A B : Type 0} (f : A → B) (rest : List T) (answer : Answer T A) → LeavesAtMost rest answer → LeavesAtMost rest (after answer (λ a. read_nothing (f a)))
mapped_leaves f rest (got a remaining b) leaves = leaves
mapped_leaves f rest (wrong remaining) leaves = leaves
mapped_leaves f rest large leaves = leaves

mapped_begins : {T A B : Type 0} (class : T → ℕ) (shape : Shape) (f : A → B) (rule : Rule T A) → HasShape class shape rule → (us : List T) (w : ℕ) (c : B) → TakesMapped f rule us w c → BeginsIn class shape.first shape.empty us
mapped_begins class shape f rule shaped us w c (mapped {a} takes) = shaped.begins us w a takes

mapped_whole : {T A B : Type 0} (class : T → ℕ) (shape : Shape) (f : A → B) (rule : Rule T A) → HasShape class shape rule → (us : List T) (w : ℕ) (c : B) → TakesMapped f rule us w c → rule.front us w
mapped_whole class shape f rule shaped us w c (mapped {a} takes) = shaped.whole_front us w a takes

pub mapped_shaped : {T A B : Type 0} {class : T → ℕ} {shape : Shape} (f : A → B) {rule : Rule T A} → HasShape class shape rule → HasShape class shape (mapped_to f rule)
mapped_shaped {class = class} {shape = shape} f {rule = rule} shaped = record {
  begins = mapped_begins class shape f rule shaped;
  begins_front = shaped.begins_front;
  light = shaped.light;
  empty_front = shaped.empty_front;
  whole_front = mapped_whole class shape f rule shaped;
}

mapped_gets : {T A B : Type 0} (f : A → B) (rule : Rule T A) (reader : Reader T A) (b : ℕ) (us rest : List T) (w : ℕ) (c : B)
    → ((a : A) → rule.takes us w a → reader (w + b) (us ++ rest) ≡ got a rest b)
    → TakesMapped f rule us w c → read_mapped f reader (w + b) (us ++ rest) ≡ got c rest b
mapped_gets f rule reader b us rest w c gets (mapped {a} takes) = rw (gets a takes) refl

pub mapped_exact : {T A B : Type 0} {class : T → ℕ} {shape : Shape} {depth : ℕ} (f : A → B) {sure rule : Rule T A} {reader : Reader T A}
    → Exact class shape depth sure rule reader → Exact class shape depth (mapped_to f sure) (mapped_to f rule) (read_mapped f reader)
mapped_exact f {sure = sure} {rule = rule} {reader = reader} exact = record {
  says = λ b ts. mapped_says f sure b ts (reader b ts) (exact.says b ts);
  gets = λ b us rest w c in_depth takes unseen. mapped_gets f rule reader b us rest w c (λ a t. exact.gets b us rest w a in_depth t unseen) takes;
  reaches = λ b us rest w in_depth front fits. mapped_leaves f rest (reader b (us ++ rest)) (exact.reaches b us rest w in_depth front fits);
  exceeds = λ b us rest w in_depth front over. rw (exact.exceeds b us rest w in_depth front over) refl;
  sure_shape = mapped_shaped f exact.sure_shape;
  shaped = mapped_shaped f exact.shaped;
}

-- A value that comes to itself.
same_takes : {T A : Type 0} (f : A → A) (rule : Rule T A) → ((a : A) → f a ≡ a) → (us : List T) (w : ℕ) (c : A) → TakesMapped f rule us w c → rule.takes us w c
same_takes f rule is us w c (mapped {a} takes) = subst (λ x. rule.takes us w x) (sym (is a)) takes

same_says : {T A : Type 0} (f : A → A) (rule : Rule T A) → ((a : A) → f a ≡ a) → (b : ℕ) (ts : List T) (answer : Answer T A) → Says (mapped_to f rule) b ts answer → Says rule b ts answer
same_says f rule is b ts (got a rest remaining) says = (says.0, says.1, says.2, says.3, same_takes f rule is says.0 says.1 a says.4)
same_says f rule is b ts (wrong rest) says = says
same_says f rule is b ts large says = says

same_begins : {T A : Type 0} (class : T → ℕ) (shape : Shape) (f : A → A) (rule : Rule T A) → HasShape class shape (mapped_to f rule) → HasShape class shape rule
same_begins class shape f rule shaped = record {
  begins = λ us w a takes. shaped.begins us w (f a) (mapped takes);
  begins_front = shaped.begins_front;
  light = shaped.light;
  empty_front = shaped.empty_front;
  whole_front = λ us w a takes. shaped.whole_front us w (f a) (mapped takes);
}

pub same_exact : {T A : Type 0} {class : T → ℕ} {shape : Shape} {depth : ℕ} (f : A → A) (sure rule : Rule T A) {reader : Reader T A} → ((a : A) → f a ≡ a)
    → Exact class shape depth (mapped_to f sure) (mapped_to f rule) reader → Exact class shape depth sure rule reader
same_exact {class = class} {shape = shape} f sure rule {reader = reader} is exact = record {
  says = λ b ts. same_says f sure is b ts (reader b ts) (exact.says b ts);
  gets = λ b us rest w a in_depth takes unseen. exact.gets b us rest w (f a) in_depth (mapped takes) unseen ∙ ap (λ x. got x rest b) (is a);
  reaches = exact.reaches;
  exceeds = exact.exceeds;
  sure_shape = same_begins class shape f sure exact.sure_shape;
  shaped = same_begins class shape f rule exact.shaped;
}
