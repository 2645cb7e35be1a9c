-- The laws.
use Rattle.execution.specs.Events.{after_all}
use Rattle.execution.specs.States.{start}
use Rattle.execution.proofs.LawProofs.{every_run_is_good, load_finds_the_meaning}
use Rattle.certified_plans.specs.Laws.{EveryInstanceMeans, PlanIsSound, OutputsAreMeanings, EveryRunKeepsValues}
use Rattle.certified_plans.proofs.Meanings.{every_means}
use Rattle.certified_plans.proofs.OutputTables.{tables-mean}
use Rattle.certified_plans.proofs.SoundPlan.{sound}

pub every_instance_means : EveryInstanceMeans
every_instance_means g is inputs u one = every_means g is inputs u one

pub plan_is_sound : PlanIsSound
plan_is_sound g plan is made = sound g plan is made

pub outputs_are_meanings : OutputsAreMeanings
outputs_are_meanings g plan is made s good ended values words = tables-mean g plan (sound g plan is made) s good ended values words

pub every_run_keeps_values : EveryRunKeepsValues
every_run_keeps_values g plan is made workers events =
    let fine = sound g plan is made in
    let good = every_run_is_good g plan fine workers events in
    record {
      loads = λ k tile number values works w stands load at. load_finds_the_meaning g plan fine (after_all plan events (start plan workers)) good k tile number values works w stands load at;
      outputs = λ ended values words. tables-mean g plan fine (after_all plan events (start plan workers)) good ended values words;
    }
