use Rattle.std.proofs.Common.{◌≡◌, [], ◌∷◌, map}
use Rattle.az_text.specs.declared.token.Token.{Token}
use Rattle.grammar_rules.specs.CommaLists.{read_next_item}
use Rattle.grammar_rules.specs.Gives.{IsReadAs}
use Rattle.grammar_rules.specs.Readers.{Reader, read_turns}
use Rattle.grammar_rules.specs.Rules.{put_last}
use Rattle.grammar_rules.specs.Tokens.{class_of}
use Rattle.grammar_rules.proofs.comma_lists.some_items.Given as goal

-- what is left to read gives the answer of the whole, for each reader that the closure follows
abbrev pub invariant-members : goal.invariant-members
invariant-members g l =
    (reader : Reader Token _) → IsReadAs (goal.F-post g l.fn.item) reader
    → read_turns (class_of (map (λ one. one.now) l.reserved)) (8 ∷ []) put_last (read_next_item reader) l.turns l.items.items l.place.budget l.place.rest.now
    ≡ read_turns (class_of (map (λ one. one.now) l.reserved)) (8 ∷ []) put_last (read_next_item reader) l.initial.turns l.initial.items.items l.initial.place.budget l.initial.place.rest.now

abbrev pub decreases-members : goal.decreases-members
decreases-members g l = l.turns
