-- Lines that are words of a table with a sign each: lines that were written for signs are taken as those signs, and
-- weigh no more than there are of them.
use Rattle.std.specs.Prelude.{◌≡◌, ℕ, ◌≤◌, List, length, map, Some}
use Rattle.grammar_rules.specs.Rules.{token, TakesMany}
use Rattle.grammar_rules.specs.TokenRules.{worded}
use Rattle.grammar_rules_tests.specs.declared.sums.Sign.{Sign}

abbrev pub WordLinesAreTaken : Type 0
WordLinesAreTaken = (table : List (List ℕ × Sign)) (written : Sign → List ℕ) → ((sign : Sign) → worded table (written sign) ≡ Some sign) → (signs : List Sign)
    → (w : ℕ) × (w ≤ length signs) × TakesMany (token (worded table) 1) (map written signs) w signs
