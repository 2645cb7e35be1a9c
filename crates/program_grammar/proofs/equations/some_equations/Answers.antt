use Rattle.std.proofs.Common.{◌≡◌, [], ◌∷◌, true, ℕ, sym, ap, ◌∙◌}
use Rattle.grammar_rules.specs.Rules.{put_last}
use Rattle.grammar_rules.specs.Readers.{sees, read_onto}
use Rattle.grammar_rules.proofs.Turns.{onto_turn}
use Rattle.program_grammar.specs.Words.{class}
use Rattle.program_grammar.specs.Readers.{read_equation}
use Rattle.program_grammar.proofs.ProgramRules.{equation_advances, equation_spends_none}
use Rattle.program_grammar.proofs.equations.some_equations.Goals as goal

pub members-smaller : goal.members-smaller
members-smaller c =
    equation_advances.advances 0 c.members.place.rest.now c.in_ok-next.next c.in_ok-next.end.rest.now c.in_ok-next.end.budget c.in_ok-next.ensures

pub members-preserved : goal.members-preserved
members-preserved c =
    let seen : sees class (25 ∷ []) c.members.place.rest.now ≡ true = cc in
    let pushed = c.in_ok-push.ensures.items in
    let turn = onto_turn class (25 ∷ []) put_last read_equation equation_advances c.members.items.items 0 c.members.place.rest.now
    c.in_ok-next.next c.in_ok-next.end.rest.now c.in_ok-next.end.budget seen c.in_ok-next.ensures in
    let none : c.in_ok-next.end.budget ≡ 0 = equation_spends_none c.members.place.rest.now c.in_ok-next.next c.in_ok-next.end.rest.now c.in_ok-next.end.budget c.in_ok-next.ensures in (
      none,
      rw pushed (sym (turn ∙ ap (λ (b : ℕ). read_onto class (25 ∷ []) put_last read_equation (put_last c.members.items.items c.in_ok-next.next) b c.in_ok-next.end.rest.now) none) ∙ c.members.invariant.1),
    )
