-- Words ask for one thing only: each binding can be read in one way, and each number has one spelling.
use Rattle.std.proofs.Common.{◌≡◌, ℕ, ◌≤◌, List, [], ◌∷◌, refl, sym, ap, subst, ◌∙◌, codes, arith}
use Rattle.std.specs.Prelude.{Some, None, Option}
use Rattle.command_words.proofs.Found.{differ, one_decimal}
use Rattle.command_words.proofs.OneEvaluation.{one_plain}
use Rattle.command_words.specs.Lines.{Line, line_of}
use Rattle.command_words.specs.Requests.{IsCount, IsWorkers, command_of, HasLine, AsksFor}
use Rattle.command_words.specs.declared.request.Request.{Request}
use Rattle.command_words.specs.declared.request.Request.TheVariants.{Eval, Run, Check, Make}

one_count : (most : ℕ) (text : List ℕ) (m n : ℕ) → most ≤ 1000 → IsCount most text m → IsCount most text n → m ≡ n
one_count most text m n low p q =
    let l = p.few in
    let k = q.few in
    one_decimal text m n (omega (arith, l, low)) (omega (arith, k, low)) p.spelled q.spelled

one_workers : (counted : Option (List ℕ)) (m n : ℕ) → IsWorkers counted m → IsWorkers counted n → m ≡ n
one_workers None m n p q = p ∙ sym q
one_workers (Some text) m n p q = one_count 64 text m n (omega arith) p q

one_line : (line : Line) (a b : Request) → command_of a ≡ command_of b → HasLine line a → HasLine line b → a ≡ b
one_line line (Eval e) (Eval f) same p q = ap Eval (one_plain line.plain e f p.1 q.1)
one_line line (Eval e) (Run s w) same p q = absurd (differ (codes "eval") (codes "run") 101 114 refl refl (λ e. absurd (omega (arith, e))) same)
one_line line (Eval e) (Check s c) same p q = absurd (differ (codes "eval") (codes "check") 101 99 refl refl (λ e. absurd (omega (arith, e))) same)
one_line line (Eval e) (Make n w) same p q = absurd (differ (codes "eval") (codes "make") 101 109 refl refl (λ e. absurd (omega (arith, e))) same)
one_line line (Run s w) (Eval f) same p q = absurd (differ (codes "run") (codes "eval") 114 101 refl refl (λ e. absurd (omega (arith, e))) same)
one_line line (Run s w) (Run s' w') same p q =
    let words : s ∷ [] ≡ s' ∷ [] = sym p.0 ∙ q.0 in
    let script : s ≡ s' = cc in
    let workers : w ≡ w' = one_workers line.workers w w' p.1 q.1 in
    cc
one_line line (Run s w) (Check s' c) same p q = absurd (differ (codes "run") (codes "check") 114 99 refl refl (λ e. absurd (omega (arith, e))) same)
one_line line (Run s w) (Make n w') same p q = absurd (differ (codes "run") (codes "make") 114 109 refl refl (λ e. absurd (omega (arith, e))) same)
one_line line (Check s c) (Eval f) same p q = absurd (differ (codes "check") (codes "eval") 99 101 refl refl (λ e. absurd (omega (arith, e))) same)
one_line line (Check s c) (Run s' w) same p q = absurd (differ (codes "check") (codes "run") 99 114 refl refl (λ e. absurd (omega (arith, e))) same)
one_line line (Check s c) (Check s' c') same p q =
    let words : s ∷ c ∷ [] ≡ s' ∷ c' ∷ [] = sym p.1 ∙ q.1 in
    cc
one_line line (Check s c) (Make n w) same p q = absurd (differ (codes "check") (codes "make") 99 109 refl refl (λ e. absurd (omega (arith, e))) same)
one_line line (Make n w) (Eval f) same p q = absurd (differ (codes "make") (codes "eval") 109 101 refl refl (λ e. absurd (omega (arith, e))) same)
one_line line (Make n w) (Run s w') same p q = absurd (differ (codes "make") (codes "run") 109 114 refl refl (λ e. absurd (omega (arith, e))) same)
one_line line (Make n w) (Check s c) same p q = absurd (differ (codes "make") (codes "check") 109 99 refl refl (λ e. absurd (omega (arith, e))) same)
one_line line (Make n w) (Make n' w') same ((t, plain, count), p) ((t', plain', count'), q) =
    let words : t ∷ [] ≡ t' ∷ [] = sym plain ∙ plain' in
    let text : t ≡ t' = cc in
    let number : n ≡ n' = one_count 128 t n n' (omega arith) count (subst (λ (ds : List ℕ). IsCount 128 ds n') (sym text) count') in
    let workers : w ≡ w' = one_workers line.workers w w' p q in
    cc

pub one_request : (words : List (List ℕ)) (a b : Request) → AsksFor words a → AsksFor words b → a ≡ b
one_request words a b p q =
    let both : command_of a ∷ p.behind ≡ command_of b ∷ q.behind = sym p.command ∙ q.command in
    let command : command_of a ≡ command_of b = cc in
    let behind : p.behind ≡ q.behind = cc in
    let lines : Some p.line ≡ Some q.line = sym p.line_is ∙ (ap line_of behind ∙ q.line_is) in
    let line : p.line ≡ q.line = cc in
    one_line p.line a b command p.asks (subst (λ (l : Line). HasLine l b) (sym line) q.asks)
