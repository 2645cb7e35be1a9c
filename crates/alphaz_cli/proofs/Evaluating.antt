-- An evaluation from the answers of its calls, over a program and bindings that are lent.
use Rattle.std.proofs.Common.{◌≡◌, List, ℕ, subst}
use Rattle.std.specs.FinMap.{empty}
use Rattle.std.specs.Prelude.{Option, Result, Ok, Err}
use Rattle.az_ast.specs.System.{System}
use Rattle.az_ast.specs.Tables.{Tables}
use Rattle.az_desk.specs.Files.{Files}
use Rattle.command_words.specs.declared.binding.Binding.{Binding}
use Rattle.command_words.specs.declared.evaluation.Evaluation.{Evaluation}
use Rattle.data_commands.specs.Outputs.{output_rows}
use Rattle.session_state.proofs.Taking.{stops_first, goes_on, alone_takes}
use Rattle.session_state.specs.Settings.{Settings, unset}
use Rattle.session_state.specs.Steps.{Step, ◌>>=◌, each_in, Takes, TakesAlone}
use Rattle.session_state.specs.declared.stop.Stop.{Stop}
use Rattle.alphaz_cli.specs.Bound.{set_bound, read_bound}
use Rattle.alphaz_cli.specs.Evaluation.{evaluated}

module _ (files : Option Files) (e : Evaluation) (p q : System) (same : q ≡ p) (bindings : List Binding) (all : bindings ≡ e.bindings) where
  abbrev set : Step Settings
  set = each_in (set_bound p) (unset p) e.bindings

  abbrev read : Settings → Step Tables
  read settings = each_in (read_bound p files settings) empty e.bindings

  abbrev rest : Settings → Step (List ℕ)
  rest settings = read settings >>= (λ tables. output_rows p settings tables)

  set_here : (result : Result Settings Stop) → TakesAlone (each_in (set_bound q) (unset q) bindings) result → TakesAlone set result
  set_here result h =
      subst (λ (r : System). TakesAlone (each_in (set_bound r) (unset r) e.bindings) result) same
      (subst (λ (bs : List Binding). TakesAlone (each_in (set_bound q) (unset q) bs) result) all h)

  pub unset_stops : (stop : Stop) → TakesAlone (each_in (set_bound q) (unset q) bindings) (Err stop) → Takes (evaluated files e p) (Err stop)
  unset_stops stop h = stops_first (λ call. Unit {0}) set rest stop (alone_takes set (Err stop) (set_here (Err stop) h))

  module _ (settings lent : Settings) (is : lent ≡ settings) (taken : each_in (set_bound q) (unset q) bindings (Ok settings)) where
    read_here : (result : Result Tables Stop) → Takes (each_in (read_bound q files lent) empty bindings) result → Takes (read settings) result
    read_here result h =
        subst (λ (r : System). Takes (each_in (read_bound r files settings) empty e.bindings) result) same
        (subst (λ (bs : List Binding). Takes (each_in (read_bound q files settings) empty bs) result) all
        (subst (λ (s : Settings). Takes (each_in (read_bound q files s) empty bindings) result) is h))

    pub unread_stops : (stop : Stop) → Takes (each_in (read_bound q files lent) empty bindings) (Err stop) → Takes (evaluated files e p) (Err stop)
    unread_stops stop h =
        goes_on (λ call. Unit {0}) set rest settings (Err stop) (set_here (Ok settings) taken)
        (stops_first (λ call. Unit {0}) (read settings) (λ tables. output_rows p settings tables) stop (read_here (Err stop) h))

    pub rows_taken : (tables : Tables) → each_in (read_bound q files lent) empty bindings (Ok tables) → (again : Settings) → again ≡ settings → (result : Result (List ℕ) Stop)
        → TakesAlone (output_rows p again tables) result → Takes (evaluated files e p) result
    rows_taken tables h again is_too result rows =
        goes_on (λ call. Unit {0}) set rest settings result (set_here (Ok settings) taken)
        (goes_on (λ call. Unit {0}) (read settings) (λ ts. output_rows p settings ts) tables result (read_here (Ok tables) h)
        (alone_takes (output_rows p settings tables) result (subst (λ (s : Settings). TakesAlone (output_rows p s tables) result) is_too rows)))
