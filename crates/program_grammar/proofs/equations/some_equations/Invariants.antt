use Rattle.std.proofs.Common.{[], ◌∷◌, ◌≡◌, length}
use Rattle.grammar_rules.specs.Rules.{put_last}
use Rattle.grammar_rules.specs.Readers.{read_onto}
use Rattle.program_grammar.specs.Words.{class}
use Rattle.program_grammar.specs.Readers.{read_equation}
use Rattle.program_grammar.proofs.equations.some_equations.Given as goal

-- what is left to read gives the answer of the whole, and nothing was weighed outside
abbrev pub invariant-members : goal.invariant-members
invariant-members l =
    (l.place.budget ≡ 0)
    × (read_onto class (25 ∷ []) put_last read_equation l.items.items 0 l.place.rest.now
    ≡ read_onto class (25 ∷ []) put_last read_equation l.initial.items.items 0 l.initial.place.rest.now)

abbrev pub decreases-members : goal.decreases-members
decreases-members l = length l.place.rest.now
