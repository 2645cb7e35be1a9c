-- The limits on what was read: the number of commands, and then the turns of a command.
use Rattle.std.specs.Prelude.{ℕ, nat_lt, Bool, if◌then◌else◌, List, length, Option, Some, None}
use Rattle.std.specs.List.{list_any}
use Rattle.az_lin.specs.declared.limit.Limit.{Limit}
use Rattle.az_lin.specs.declared.limit.Limit.TheVariants.{Commands, Turns}
use Rattle.script_grammar.specs.declared.command.Command.{Command}
use Rattle.script_grammar.specs.declared.command.Command.TheVariants.{Interleave}

abbrev pub turns_of : Command → ℕ
turns_of (Interleave workers turns) = length turns
turns_of _ = 0

abbrev pub has_many_turns : Command → Bool
has_many_turns command = nat_lt 65536 (turns_of command)

abbrev pub limit_of : List Command → Option Limit
limit_of commands =
    if nat_lt 256 (length commands) then Some Commands
    else (if list_any has_many_turns commands then Some Turns else None)
