use Rattle.std.proofs.Common.{◌≡◌, ◌≤◌, length}
use Rattle.std.specs.List.{prefix_len}
use Rattle.az_text.specs.Tokens.{is_before_line_feed}
use Rattle.grammar_rules.proofs.LineLaws.{IsCutSoFar}
use Rattle.grammar_rules.proofs.line.cut_lines.Given as goal

abbrev pub invariant-lines : goal.invariant-lines
invariant-lines l = (l.len ≡ prefix_len is_before_line_feed l.rest) × (l.len ≤ length l.rest) × IsCutSoFar l.text l.lines.items l.rest

abbrev pub decreases-lines : goal.decreases-lines
decreases-lines l = length l.rest
