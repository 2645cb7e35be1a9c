-- Why a command with a map is refused. The map's names come first, in the order of the text: a name of its rows that is
-- no parameter and no index, and then an index that has the name of a parameter or of an earlier index. Behind them come
-- the command's own reasons, and last an entry of a row that is out of range.
use Rattle.std.specs.Prelude.{ℕ, if◌then◌else◌, List, option_map, Option, Some, None}
use Rattle.std.specs.List.{list_any}
use Rattle.std.specs.Option.{option_or}
use Rattle.az_ast.specs.declared.reason.Reason.{Reason}
use Rattle.az_ast.specs.declared.reason.Reason.TheVariants.{Unknown, Twice, Entry}
use Rattle.command_script.specs.Resolved.{scope_of, sides_of, first_unknown, first_twice}
use Rattle.script_grammar.specs.declared.command.MapText.{MapText}
use Rattle.side_rows.specs.Entries.{has_entry_out}
use Rattle.side_rows.specs.Sides.{alone, row_of}

module _ (params : List (List ℕ)) (map : MapText) where
  abbrev pub name_reason : Option Reason
  name_reason = option_or (option_map Unknown (first_unknown (scope_of params map) (sides_of map))) (option_map Twice (first_twice params map.indices))

  abbrev pub entry_reason : Option Reason
  entry_reason = if list_any (λ side. has_entry_out (row_of (scope_of params map) (alone side))) (sides_of map) then Some Entry else None

  abbrev pub map_reason : Option Reason → Option Reason
  map_reason own = option_or name_reason (option_or own entry_reason)
