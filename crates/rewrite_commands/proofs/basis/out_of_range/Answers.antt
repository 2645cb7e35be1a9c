use Rattle.std.proofs.Common.{◌≡◌, ◌∙◌, ◌+◌, List, ℕ, Some, length, rules, ap}
use Rattle.change_basis.specs.Basis.{size_refusal}
use Rattle.rewrite_commands.proofs.Written.{size_stops}
use Rattle.rewrite_commands.proofs.basis.out_of_range.Goals as goal

pub returns-in-Some : goal.returns-in-Some
returns-in-Some c =
    let p = c.args.program.now in
    let text = c.args.map.now in
    let names = c.params.result.now in
    let indices = c.as_slice-indices.result.now in
    let width : length names + length indices ≡ length p.params + length text.indices
    = ap (λ (l : List (List ℕ)). length l + length indices) c.params.ensures ∙ ap (λ (l : List (List ℕ)). length p.params + length l) c.as_slice-indices.ensures in
    let found : size_refusal p c.args.target (length names + length indices) c.len.result ≡ Some c.in-Some.reason = search rules in
    size_stops p text c.args.target (length names + length indices) c.len.result width c.len.ensures c.requires.out c.in-Some.reason found
