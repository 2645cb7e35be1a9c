-- Each command is carried out or refused, and not both, and leaves one thing.
use Rattle.std.specs.Prelude.{ℕ, ℤ, List, [], Some}
use Rattle.std.specs.FinMap.{empty}
use Rattle.az_desk.specs.Files.{Files}
use Rattle.session_state.proofs.Once.{IsOne, NotBoth, one_then, not_both_then, one_answer, not_both_answers, one_opened, not_both_opened, one_setting, not_both_setting}
use Rattle.session_state.specs.Session.{Session}
use Rattle.session_state.specs.Settings.{set_parameter}
use Rattle.session_state.specs.Steps.{◌>>=◌, gives}
use Rattle.data_commands.proofs.Once.{one_read, not_both_read}
use Rattle.data_commands.specs.Commands.{set_number, load_table}
use Rattle.data_commands.specs.Tables.{read_input}

module _ (session : Session) (name : List ℕ) (number : ℤ) where
  pub one_number : IsOne (set_number session name number)
  one_number =
      one_opened session (λ loaded. set_parameter loaded.current loaded.settings name number >>= (λ settings. gives (record { session = Some (record loaded { settings = settings; inputs = empty }); text = [] }))) (λ loaded.
      one_then (set_parameter loaded.current loaded.settings name number) (λ settings. gives (record { session = Some (record loaded { settings = settings; inputs = empty }); text = [] }))
      (one_setting loaded.current loaded.settings name number) (λ settings. one_answer _))

  pub not_both_number : NotBoth (set_number session name number)
  not_both_number =
      not_both_opened session (λ loaded. set_parameter loaded.current loaded.settings name number >>= (λ settings. gives (record { session = Some (record loaded { settings = settings; inputs = empty }); text = [] }))) (λ loaded.
      not_both_then (set_parameter loaded.current loaded.settings name number) (λ settings. gives (record { session = Some (record loaded { settings = settings; inputs = empty }); text = [] }))
      (one_setting loaded.current loaded.settings name number) (not_both_setting loaded.current loaded.settings name number) (λ settings. not_both_answers _))

module _ (told : Files) (session : Session) (name file : List ℕ) where
  pub one_table : IsOne (load_table (Some told) session name file)
  one_table =
      one_opened session (λ loaded. read_input loaded.current (Some told) loaded.settings loaded.inputs name file >>= (λ inputs. gives (record { session = Some (record loaded { inputs = inputs }); text = [] }))) (λ loaded.
      one_then (read_input loaded.current (Some told) loaded.settings loaded.inputs name file) (λ inputs. gives (record { session = Some (record loaded { inputs = inputs }); text = [] }))
      (one_read loaded.current told loaded.settings loaded.inputs name file) (λ inputs. one_answer _))

  pub not_both_table : NotBoth (load_table (Some told) session name file)
  not_both_table =
      not_both_opened session (λ loaded. read_input loaded.current (Some told) loaded.settings loaded.inputs name file >>= (λ inputs. gives (record { session = Some (record loaded { inputs = inputs }); text = [] }))) (λ loaded.
      not_both_then (read_input loaded.current (Some told) loaded.settings loaded.inputs name file) (λ inputs. gives (record { session = Some (record loaded { inputs = inputs }); text = [] }))
      (one_read loaded.current told loaded.settings loaded.inputs name file) (not_both_read loaded.current told loaded.settings loaded.inputs name file) (λ inputs. not_both_answers _))
