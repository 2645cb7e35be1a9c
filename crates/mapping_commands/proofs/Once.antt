-- Each command is carried out or refused, and not both, and leaves one thing.
use Rattle.std.proofs.Common.{ℕ, List, [], ◌∷◌, ◌++◌}
use Rattle.std.specs.Prelude.{ℤ, Option, option_map}
use Rattle.az_ast.specs.System.{System}
use Rattle.az_ast.specs.declared.reason.Reason.{Reason}
use Rattle.az_ast.specs.declared.reason.Reason.TheVariants.{NoProgram, Unknown}
use Rattle.script_grammar.specs.declared.command.KindText.{KindText}
use Rattle.script_grammar.specs.declared.command.MapText.{MapText}
use Rattle.session_state.proofs.Once.{IsOne, NotBoth, one_then, not_both_then, one_answer, not_both_answers, one_of_some, not_both_of_some, one_nothing, not_both_unless, one_each, not_both_each}
use Rattle.session_state.specs.Session.{Session, opened}
use Rattle.session_state.specs.Steps.{Step, ◌>>=◌, gives, unless}
use Rattle.session_state.specs.declared.refusal.Refusal.TheVariants.{Command}
use Rattle.session_state.specs.declared.session.Loaded.{Loaded}
use Rattle.target_map.specs.Settings.{TargetMapping}
use Rattle.mapping_commands.specs.Commands.{leaves, setting, set_dimension_kinds, set_space_time_map, set_memory_map, set_statement_order}
use Rattle.mapping_commands.specs.Names.{place_of, variable, one_more, variables}
use Rattle.mapping_commands.specs.Parts.{sets, kinds_set, time_set, time_set_for, storage_set, storage_set_for, order_set, order_set_for}

module _ (reason : Option Reason) (m : TargetMapping) where
  one_sets : IsOne (sets reason m)
  one_sets = one_then (unless (option_map Command reason)) (λ u. gives m) (one_nothing (unless (option_map Command reason))) (λ u. one_answer _)

  not_both_sets : NotBoth (sets reason m)
  not_both_sets = not_both_then (unless (option_map Command reason)) (λ u. gives m) (one_nothing (unless (option_map Command reason))) (not_both_unless (option_map Command reason)) (λ u. not_both_answers _)

module _ (p : System) where
  one_variable : (name : List ℕ) → IsOne (variable p name)
  one_variable name = one_of_some (Command (Unknown name)) (place_of p name)

  not_both_variable : (name : List ℕ) → NotBoth (variable p name)
  not_both_variable name = not_both_of_some (Command (Unknown name)) (place_of p name)

  one_behind : (numbers name : List ℕ) → IsOne (one_more p numbers name)
  one_behind numbers name = one_then (variable p name) (λ number. gives (numbers ++ number ∷ [])) (one_variable name) (λ number. one_answer _)

  not_both_behind : (numbers name : List ℕ) → NotBoth (one_more p numbers name)
  not_both_behind numbers name = not_both_then (variable p name) (λ number. gives (numbers ++ number ∷ [])) (one_variable name) (not_both_variable name) (λ number. not_both_answers _)

  one_variables : (names : List (List ℕ)) → IsOne (variables p names)
  one_variables names = one_each (one_more p) one_behind names []

  not_both_variables : (names : List (List ℕ)) → NotBoth (variables p names)
  not_both_variables names = not_both_each (one_more p) one_behind not_both_behind names []

module _ (session : Session) (part : Loaded → Step TargetMapping) (one : (loaded : Loaded) → IsOne (part loaded)) where
  one_setting : IsOne (setting session part)
  one_setting =
      one_then (opened session) (λ loaded. part loaded >>= leaves loaded) (one_of_some (Command NoProgram) session)
      (λ loaded. one_then (part loaded) (leaves loaded) (one loaded) (λ m. one_answer _))

  not_both_setting : ((loaded : Loaded) → NotBoth (part loaded)) → NotBoth (setting session part)
  not_both_setting apart =
      not_both_then (opened session) (λ loaded. part loaded >>= leaves loaded) (one_of_some (Command NoProgram) session) (not_both_of_some (Command NoProgram) session)
      (λ loaded. not_both_then (part loaded) (leaves loaded) (one loaded) (apart loaded) (λ m. not_both_answers _))

module _ (session : Session) (kinds : List KindText) where
  pub one_kinds : IsOne (set_dimension_kinds session kinds)
  one_kinds = one_setting session (λ loaded. kinds_set loaded.mapping kinds) (λ loaded. one_sets _ _)

  pub not_both_kinds : NotBoth (set_dimension_kinds session kinds)
  not_both_kinds = not_both_setting session (λ loaded. kinds_set loaded.mapping kinds) (λ loaded. one_sets _ _) (λ loaded. not_both_sets _ _)

module _ (session : Session) (name : List ℕ) (map : MapText) where
  abbrev time_part : Loaded → Step TargetMapping
  time_part loaded = time_set loaded.current loaded.mapping name map

  one_time_part : (loaded : Loaded) → IsOne (time_part loaded)
  one_time_part loaded = one_then (variable loaded.current name) (time_set_for loaded.current loaded.mapping map) (one_variable loaded.current name) (λ x. one_sets _ _)

  pub one_time : IsOne (set_space_time_map session name map)
  one_time = one_setting session time_part one_time_part

  pub not_both_time : NotBoth (set_space_time_map session name map)
  not_both_time =
      not_both_setting session time_part one_time_part
      (λ loaded. not_both_then (variable loaded.current name) (time_set_for loaded.current loaded.mapping map) (one_variable loaded.current name) (not_both_variable loaded.current name) (λ x. not_both_sets _ _))

module _ (session : Session) (name space : List ℕ) (map : MapText) (factors : List ℤ) where
  abbrev storage_part : Loaded → Step TargetMapping
  storage_part loaded = storage_set loaded.current loaded.mapping name space map factors

  one_storage_part : (loaded : Loaded) → IsOne (storage_part loaded)
  one_storage_part loaded = one_then (variable loaded.current name) (storage_set_for loaded.current loaded.mapping space map factors) (one_variable loaded.current name) (λ x. one_sets _ _)

  pub one_memory : IsOne (set_memory_map session name space map factors)
  one_memory = one_setting session storage_part one_storage_part

  pub not_both_memory : NotBoth (set_memory_map session name space map factors)
  not_both_memory =
      not_both_setting session storage_part one_storage_part
      (λ loaded. not_both_then (variable loaded.current name) (storage_set_for loaded.current loaded.mapping space map factors) (one_variable loaded.current name) (not_both_variable loaded.current name) (λ x. not_both_sets _ _))

module _ (session : Session) (names : List (List ℕ)) where
  abbrev order_part : Loaded → Step TargetMapping
  order_part loaded = order_set loaded.current loaded.mapping names

  one_order_part : (loaded : Loaded) → IsOne (order_part loaded)
  one_order_part loaded = one_then (variables loaded.current names) (order_set_for loaded.current loaded.mapping) (one_variables loaded.current names) (λ xs. one_sets _ _)

  pub one_order : IsOne (set_statement_order session names)
  one_order = one_setting session order_part one_order_part

  pub not_both_order : NotBoth (set_statement_order session names)
  not_both_order =
      not_both_setting session order_part one_order_part
      (λ loaded. not_both_then (variables loaded.current names) (order_set_for loaded.current loaded.mapping) (one_variables loaded.current names) (not_both_variables loaded.current names) (λ xs. not_both_sets _ _))
