-- The laws, at the meaning and the order of a program with a mapping.
use Rattle.execution.specs.Laws.{StartIsGood, ClaimKeepsGood, LoadKeepsGood, LoadFindsTheMeaning, StoreKeepsGood, NextKeepsGood, EventKeepsGood, EndedHasOutputs, EnabledEventsFall, SomeTurnIsEnabled, EveryRunIsGood}
use Rattle.execution.specs.Setting.{InstanceMeans, InstanceBefore, IsOutputInstance}
use Rattle.execution.specs.States.{start}
use Rattle.execution.proofs.Enabled as enabled
use Rattle.execution.proofs.Ends.{start_good, all_stored}
use Rattle.execution.proofs.LoadSteps.{load_finds}
use Rattle.execution.proofs.Measure.{event_falls}
use Rattle.execution.proofs.Turns.{turn_enabled}

pub start_is_good : StartIsGood
start_is_good g plan sound workers = start_good plan workers (InstanceMeans g) (InstanceBefore g) (IsOutputInstance g) sound

pub claim_keeps_good : ClaimKeepsGood
claim_keeps_good g plan sound s good k rests = enabled.claim_keeps (InstanceMeans g) (InstanceBefore g) (IsOutputInstance g) plan sound s good k rests

pub load_keeps_good : LoadKeepsGood
load_keeps_good g plan sound s good k tile number values works w stands less =
    enabled.load_keeps (InstanceMeans g) (InstanceBefore g) (IsOutputInstance g) plan sound s good k tile number values works w stands less

pub load_finds_the_meaning : LoadFindsTheMeaning
load_finds_the_meaning g plan sound s good k tile number values works w stands load at =
    load_finds (InstanceMeans g) (InstanceBefore g) (IsOutputInstance g) plan sound s good k tile number values works w stands load at

pub store_keeps_good : StoreKeepsGood
store_keeps_good g plan sound s good k tile number values works w stands all =
    enabled.store_keeps (InstanceMeans g) (InstanceBefore g) (IsOutputInstance g) plan sound s good k tile number values works w stands all

pub next_keeps_good : NextKeepsGood
next_keeps_good g plan sound s good done more = enabled.next_keeps (InstanceMeans g) (InstanceBefore g) (IsOutputInstance g) plan sound s good done more

pub event_keeps_good : EventKeepsGood
event_keeps_good g plan sound s good e = enabled.event_keeps (InstanceMeans g) (InstanceBefore g) (IsOutputInstance g) plan sound s good e

pub ended_has_outputs : EndedHasOutputs
ended_has_outputs g plan sound s good ended p w stands is = good.outputs p w stands is (all_stored plan s good.kept ended p w stands)

pub enabled_events_fall : EnabledEventsFall
enabled_events_fall plan s e is = event_falls plan s e is

pub some_turn_is_enabled : SomeTurnIsEnabled
some_turn_is_enabled g plan sound s good some going = turn_enabled (InstanceMeans g) (InstanceBefore g) (IsOutputInstance g) plan s good some going

pub every_run_is_good : EveryRunIsGood
every_run_is_good g plan sound workers events =
    enabled.events_keep (InstanceMeans g) (InstanceBefore g) (IsOutputInstance g) plan sound events (start plan workers) (start_is_good g plan sound workers)
