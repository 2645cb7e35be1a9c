-- The commands that change the program.
use Rattle.std.specs.Prelude.{ℕ, List, [], Some}
use Rattle.az_ast.specs.System.{System}
use Rattle.script_grammar.specs.declared.command.MapText.{MapText}
use Rattle.session_state.specs.Session.{Session, Carried, opened, changed}
use Rattle.session_state.specs.Steps.{Step, ◌>>=◌, gives}
use Rattle.rewrite_commands.specs.Changes.{rebasing, inlining, removal}

-- A command that changes the program and says nothing of it. What was mapped is given up; the numbers that are set and
-- the tables that were read stay.
abbrev pub changing : Session → (System → Step System) → Step Carried
changing session change =
    opened session
    >>= (λ loaded. change loaded.current
    >>= (λ q. gives (record { session = Some (changed loaded q); text = [] })))

abbrev pub change_basis : Session → List ℕ → MapText → Step Carried
change_basis session name text = changing session (rebasing name text)

abbrev pub inline : Session → List ℕ → List ℕ → Step Carried
inline session into target = changing session (inlining into target)

abbrev pub remove_unused : Session → List ℕ → Step Carried
remove_unused session name = changing session (removal name)
