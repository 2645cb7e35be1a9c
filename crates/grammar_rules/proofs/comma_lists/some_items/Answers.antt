use Rattle.std.proofs.Common.{rules, ◌≡◌, ◌∙◌, [], ◌∷◌, map, sym, ap, subst, inl, inr, true, false, Ok, Err, List, ℕ, arith}
use Rattle.grammar_rules.specs.CommaLists.{read_next_item, read_some_items}
use Rattle.grammar_rules.specs.Gives.{Gives}
use Rattle.grammar_rules.specs.Readers.{read_onto, read_turns}
use Rattle.grammar_rules.specs.Readers.Answer.{got}
use Rattle.grammar_rules.specs.Rules.{put_last, single}
use Rattle.grammar_rules.specs.TokenRules.{words}
use Rattle.grammar_rules.specs.Tokens.{class_of}
use Rattle.grammar_rules.proofs.Turns.{turn_taken, turn_fails, turns_end}
use Rattle.grammar_rules.proofs.comma_lists.some_items.Goals.{then-members-test+else-sees, else-members-test}
use Rattle.grammar_rules.proofs.comma_lists.some_items.Goals as goal

pub returns-in_err-member : goal.returns-in_err-member
returns-in_err-member g c = λ reader follows.
    let class = class_of (words c.args.reserved.now) in
    let next = read_next_item reader in
    let start : reader c.args.start.budget c.args.start.rest.now ≡ got c.in_ok-first.first c.in_ok-first.place.rest.now c.in_ok-first.place.budget = follows c.args.start (Ok (c.in_ok-first.first, c.in_ok-first.place)) c.in_ok-first.ensures in
    let given : Gives (Err c.in_err-member.field-0.0) (next c.members.place.budget c.members.place.rest.now) = c.in_err-member.ensures reader follows in
    let handed : c.from_residual-in_err-member.result ≡ Err c.in_err-member.field-0.0 = search rules in
    let one : c.push.new.self.items ≡ single c.in_ok-first.first = search rules in
    let failed = turn_fails class (8 ∷ []) put_last next c.members.turns c.members.items.items c.members.place.budget c.members.place.rest.now c.in_err-member.field-0.0 c.members-test.true (sym c.if-sees.ensures) given in
    let whole = c.members.invariant reader follows in
    rw start (subst (λ r. Gives r (read_onto class (8 ∷ []) put_last next (single c.in_ok-first.first) c.in_ok-first.place.budget c.in_ok-first.place.rest.now)) (sym handed)
    (rw (← one) (subst (Gives (Err c.in_err-member.field-0.0)) whole failed)))

pub members-preserved : goal.members-preserved
members-preserved g c = λ reader follows.
    let class = class_of (words c.args.reserved.now) in
    let next = read_next_item reader in
    let given : Gives (Ok (c.in_ok-member.member, c.in_ok-member.end)) (next c.members.place.budget c.members.place.rest.now) = c.in_ok-member.ensures reader follows in
    let turn = turn_taken class (8 ∷ []) put_last next c.members.turns c.members.items.items c.members.place.budget c.members.place.rest.now c.in_ok-member.member c.in_ok-member.end.rest.now c.in_ok-member.end.budget c.members-test.true (sym c.if-sees.ensures) given in
    rw c.in_ok-push-2.ensures.items (sym turn ∙ c.members.invariant reader follows)

pub returns : goal.returns
returns g c = λ reader follows.
    let class = class_of (words c.args.reserved.now) in
    let next = read_next_item reader in
    let start : reader c.args.start.budget c.args.start.rest.now ≡ got c.in_ok-first.first c.in_ok-first.place.rest.now c.in_ok-first.place.budget = follows c.args.start (Ok (c.in_ok-first.first, c.in_ok-first.place)) c.in_ok-first.ensures in
    let over = elim c.members-test.branch as (λ w. read_turns class (8 ∷ []) put_last next c.members.turns c.members.items.items c.members.place.budget c.members.place.rest.now ≡ got c.members.items.items c.members.place.rest.now c.members.place.budget) [
      | then-members-test+else-sees w ↦ turns_end class (8 ∷ []) put_last next c.members.turns c.members.items.items c.members.place.budget c.members.place.rest.now (inr (sym w.if-sees.ensures))
      | else-members-test w ↦ turns_end class (8 ∷ []) put_last next c.members.turns c.members.items.items c.members.place.budget c.members.place.rest.now (inl (omega arith))
    ] in
    let whole = c.members.invariant reader follows in
    let one : c.push.new.self.items ≡ single c.in_ok-first.first = search rules in
    rw start (rw (← one) (sym whole ∙ over ∙ ap (λ items. got items c.members.place.rest.now c.members.place.budget) (sym c.from_vec.ensures)))
