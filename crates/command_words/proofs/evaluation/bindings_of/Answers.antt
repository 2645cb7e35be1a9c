use Rattle.std.proofs.Common.{add-one}
use Rattle.command_words.proofs.BoundWords.{no_bindings, one_more}
use Rattle.command_words.proofs.evaluation.bindings_of.Goals as goal

pub returns-in-None-clause-none : goal.returns-in-None-clause-none
returns-in-None-clause-none c =
    let none = rw c.in-None.is at c.in_ok-binding.ensures.none in
    no_bindings c.args.words.now c.loop-word.word-index _ c.loop-word-test.true none

pub loop-word-preserved : goal.loop-word-preserved
loop-word-preserved c =
    let found = rw c.in-Some.is at c.in_ok-binding.ensures.found in
    rw (c.in_ok-push-in-Some.ensures.items, add-one)
    (one_more c.args.words.now c.loop-word.word-index _ c.loop-word.bindings.items c.in-Some.binding c.loop-word-test.true c.loop-word.invariant found)
