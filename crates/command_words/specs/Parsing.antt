-- Of inner functions: the command that the parser of command lines is given, and what is read of the rows that it finds.
use Rattle.std.specs.Prelude.{ℕ, List, [], ◌∷◌, Bool, true, false, codes, Some, unwrap_or, if◌then◌else◌}
use Rattle.std.specs.Str.{bytes_eq}
use Rattle.clap.specs.Simple.{on_top}
use Rattle.clap.specs.Words.{App, Row, Rule, all_of, first_of, new_app, new_rule, with_rule}
use Rattle.clap.specs.declared.builder.ArgAction.TheVariants.{Append}
use Rattle.command_words.specs.Lines.{Line}

abbrev pub words_rule : Rule
words_rule = record (new_rule (codes "words")) { action = Some Append }

abbrev pub workers_rule : Rule
workers_rule = record (new_rule (codes "workers")) { long = Some (codes "workers") }

-- no word is the program's name, and none asks for help
abbrev pub line_app : App
line_app =
    with_rule (with_rule (on_top (λ s. record s { no_binary_name = true; disable_help_flag = true }) (new_app (codes "line"))) words_rule) workers_rule

-- the line of what was found
abbrev pub line_in : List Row → Line
line_in rows = record { plain = unwrap_or (all_of (codes "words") rows) []; workers = first_of (codes "workers") rows }

-- an empty word stands before the first `--`
abbrev pub has_empty : List (List ℕ) → Bool
has_empty [] = false
has_empty (word ∷ words) = if bytes_eq word (codes "--") then false else (if bytes_eq word [] then true else has_empty words)
