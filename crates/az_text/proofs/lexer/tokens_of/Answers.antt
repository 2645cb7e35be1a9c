use Rattle.std.proofs.Common.{◌≡◌, ◌+◌, ◌<◌, ◌≤◌, [], ◌∷◌, ◌++◌, length, drop, Ok, is_ok, sym, ap, ◌∙◌, arith}
use Rattle.std.proofs.ResultArms.{chosen}
use Rattle.az_text.specs.Fronts.{lexed, lexed_from}
use Rattle.az_text.specs.Reading.{token_at}
use Rattle.az_text.proofs.Loop.{between_on, cut_on, wide_here, nothing_here, lexed-past_end, and_all-end}
use Rattle.az_text.proofs.Walk.{and_all}
use Rattle.az_text.proofs.lexer.tokens_of.Goals.{In-Between, In-Cut}
use Rattle.az_text.proofs.lexer.tokens_of.Goals as goal

-- what a turn over a blank or a comment leaves
between : (c : In-Between) → (0 < c.in-Between.len) × (c.loop-from.from + c.in-Between.len ≤ length c.args.text.now) × (and_all c.loop-from.tokens.items (lexed_from (c.loop-from.from + c.in-Between.len) 0 (drop (c.loop-from.from + c.in-Between.len) c.args.text.now)) ≡ lexed_from 0 0 c.args.text.now)
between c = between_on c.loop-from.from c.args.text.now c.loop-from.tokens.items (lexed_from 0 0 c.args.text.now) c.front_of.result c.loop-from-test.true c.front_of.ensures c.loop-from.invariant.1 c.in-Between.len c.in-Between.is

-- and over a token
cut : (c : In-Cut) → (0 < c.in-Cut.len) × (c.loop-from.from + c.in-Cut.len ≤ length c.args.text.now) × (and_all (c.loop-from.tokens.items ++ token_at c.loop-from.from c.in-Cut.kind c.in-Cut.len ∷ []) (lexed_from (c.loop-from.from + c.in-Cut.len) 0 (drop (c.loop-from.from + c.in-Cut.len) c.args.text.now)) ≡ lexed_from 0 0 c.args.text.now)
cut c = cut_on c.loop-from.from c.args.text.now c.loop-from.tokens.items (lexed_from 0 0 c.args.text.now) c.front_of.result c.loop-from-test.true c.front_of.ensures c.loop-from.invariant.1 c.in-Cut.kind c.in-Cut.len c.in-Cut.is

pub overflow_add-from : goal.overflow_add-from
overflow_add-from c = let on = between c in omega (arith, on.1)

pub loop-from-smaller-in-Between : goal.loop-from-smaller-in-Between
loop-from-smaller-in-Between c = let on = between c in omega (arith, on.0, on.1)

pub loop-from-preserved-in-Between : goal.loop-from-preserved-in-Between
loop-from-preserved-in-Between c = let on = between c in (on.1, on.2)

pub overflow_add-to : goal.overflow_add-to
overflow_add-to c = let on = cut c in omega (arith, on.1)

pub loop-from-smaller : goal.loop-from-smaller
loop-from-smaller c = let on = cut (goal.at.loop-from-smaller c).In-Cut in omega (arith, on.0, on.1)

pub loop-from-preserved : goal.loop-from-preserved
loop-from-preserved c =
    let on = cut (goal.at.loop-from-preserved c).In-Cut in
    let pushed = chosen _ _ _ _ c.push.ensures.items (ap is_ok c.in_ok-push-in-Cut.was) in
    let to = c.loop-from.from + c.in-Cut.len in
    (on.1, ap (λ l. and_all l (lexed_from to 0 (drop to c.args.text.now))) pushed ∙ on.2)

pub returns-in-Wide : goal.returns-in-Wide
unfolding lexed
returns-in-Wide c = wide_here c.loop-from.from c.args.text.now c.loop-from.tokens.items (lexed_from 0 0 c.args.text.now) c.front_of.result c.loop-from-test.true c.front_of.ensures c.loop-from.invariant.1 c.in-Wide.is

pub returns-in-Nothing : goal.returns-in-Nothing
unfolding lexed
returns-in-Nothing c = nothing_here c.loop-from.from c.args.text.now c.loop-from.tokens.items (lexed_from 0 0 c.args.text.now) c.front_of.result c.loop-from-test.true c.front_of.ensures c.loop-from.invariant.1 c.in-Nothing.is

pub returns : goal.returns
unfolding lexed
returns c =
    let over = lexed-past_end c.loop-from.from c.args.text.now c.loop-from-test.false in
    ap Ok c.from_vec.ensures ∙ sym (and_all-end c.loop-from.tokens.items) ∙ ap (and_all c.loop-from.tokens.items) (sym over) ∙ c.loop-from.invariant.1
