use Rattle.std.proofs.Common.{rules, ◌≡◌, ◌+◌, ◌≤◌, [], ◌∷◌, ◌++◌, List, ℕ, take, drop, length, sym, ap, subst, ◌∙◌, arith}
use Rattle.grammar_rules.specs.Lines.{IsCut}
use Rattle.grammar_rules.proofs.LineLaws.{IsCutSoFar, cut_turn, cut_end}
use Rattle.grammar_rules.proofs.line.cut_lines.Goals as goal

pub lines-preserved : goal.lines-preserved
lines-preserved c =
    let pushed : c.push.new.self.items ≡ c.lines.lines.items ++ take c.lines.len c.lines.rest.now ∷ [] = c.in_ok-push.ensures.items ∙ ap (λ (line : List ℕ). c.lines.lines.items ++ line ∷ []) (c.new.ensures ∙ c.split.ensures.before) in
    let turn = cut_turn c.args.text.now c.lines.rest.now c.lines.lines.items c.lines.len c.lines.invariant.0 c.lines-test.true c.lines.invariant.2 in
    (c.line_len-len-in-lines.ensures.passing, c.line_len-len-in-lines.ensures.within, rw (pushed, c.split.ensures.behind) turn)

pub returns : goal.returns
returns c =
    let long : c.lines.len ≡ length c.lines.rest.now = let short = c.lines.invariant.1 in omega arith in
    rw (c.from_vec.ensures, c.new-2.ensures) (cut_end c.args.text.now c.lines.rest.now c.lines.lines.items c.lines.len c.lines.invariant.0 long c.lines.invariant.2)
