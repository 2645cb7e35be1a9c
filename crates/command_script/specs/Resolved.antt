-- The map that a map of a script means, and why it has none. Its columns are the parameters and then its
-- indices; each row is the row of its side.
use Rattle.std.specs.Prelude.{◌≡◌, ℕ, if◌then◌else◌, ◌||◌, List, [], ◌∷◌, ◌++◌, map, Option, Some, None, Result, Ok, Err, unsigned_abs}
use Rattle.std.specs.Int.{is_negative}
use Rattle.std.specs.List.{list_any, find}
use Rattle.std.specs.Option.{option_or, option_map, option_and_then}
use Rattle.std.specs.Str.{bytes_eq}
use Rattle.az_lin.specs.Affine.{AffineMap}
use Rattle.grammar_rules.specs.declared.term.Term.{Term}
use Rattle.script_grammar.specs.declared.command.MapText.{MapText}
use Rattle.script_grammar.specs.declared.command.TermText.{TermText}
use Rattle.side_rows.specs.Entries.{has_entry_out}
use Rattle.side_rows.specs.Scopes.{is_unknown_in}
use Rattle.side_rows.specs.Sides.{Scope, alone, row_of, map_of}
use Rattle.command_script.specs.declared.resolution.ResolveFault.{ResolveFault}
use Rattle.command_script.specs.declared.resolution.ResolveFault.TheVariants.{Unknown, Twice, Entry, Memory}

-- the rows as sides, with the sign beside the number
abbrev pub side_term : TermText → Term
side_term term = record { negative = is_negative term.factor; factor = unsigned_abs term.factor; name = term.name }

abbrev pub side_of : List TermText → List Term
side_of row = map side_term row

abbrev pub sides_of : MapText → List (List Term)
sides_of text = map side_of text.rows

abbrev pub scope_of : List (List ℕ) → MapText → Scope
scope_of params text = params ++ text.indices

abbrev pub meant : List (List ℕ) → MapText → AffineMap
meant params text = map_of (scope_of params text) (sides_of text)

-- the first name, in the order of the text, that is no parameter and no index
abbrev pub unknown_in : Scope → List Term → Option (List ℕ)
unknown_in scope side = option_and_then (λ term. term.name) (find (is_unknown_in scope) side)

abbrev pub first_unknown : Scope → List (List Term) → Option (List ℕ)
first_unknown scope [] = None
first_unknown scope (side ∷ sides) = option_or (unknown_in scope side) (first_unknown scope sides)

-- the first index that is a parameter or an earlier index
abbrev pub first_twice : Scope → List (List ℕ) → Option (List ℕ)
first_twice earlier [] = None
first_twice earlier (index ∷ indices) = if list_any (bytes_eq index) earlier then Some index else first_twice (earlier ++ index ∷ []) indices

-- a row with an entry outside ±(2^60 - 1)
abbrev pub has_row_out : Scope → List (List Term) → Option ResolveFault
has_row_out scope sides = if list_any (λ side. has_entry_out (row_of scope (alone side))) sides then Some Entry else None

-- the first reason
abbrev pub refusal_of : List (List ℕ) → MapText → Option ResolveFault
refusal_of params text =
    let scope = scope_of params text in
    option_or (option_map Unknown (first_unknown scope (sides_of text)))
    (option_or (option_map Twice (first_twice params text.indices)) (has_row_out scope (sides_of text)))

-- What is answered: the map where nothing refuses it, and else why. Want of memory may stand for any answer.
abbrev pub Resolves : List (List ℕ) → MapText → Result AffineMap ResolveFault → Type 0
Resolves params text (Ok f) = (refusal_of params text ≡ None) × (f ≡ meant params text)
Resolves params text (Err (Unknown name)) = refusal_of params text ≡ Some (Unknown name)
Resolves params text (Err (Twice name)) = refusal_of params text ≡ Some (Twice name)
Resolves params text (Err Entry) = refusal_of params text ≡ Some Entry
Resolves params text (Err Memory) = Unit {0}
