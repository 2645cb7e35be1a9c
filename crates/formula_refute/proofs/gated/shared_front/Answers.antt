use Rattle.std.proofs.Common.{◌≡◌, ℕ, ◌+◌, ◌∙◌, List, length, drop, get_or, sym, subst, arith}
use Rattle.az_lin.specs.Affine.{Polyhedron}
use Rattle.formula_refute.specs.Inner.Shares.{InTurn, IsShare}
use Rattle.formula_refute.specs.declared.share.Share.{Share}
use Rattle.formula_refute.proofs.ShareSteps.{turn_from}
use Rattle.formula_refute.proofs.gated.shared_front.Goals as goal

-- the queue holds what the workers left in its slice
pub joined-requires-clause-filled : goal.joined-requires-clause-filled
joined-requires-clause-filled g c =
    let systems : List Polyhedron = g.C.CaseList.list c.args.cases.now in
    let left : List Share = c.fill_shares.new.shares in
    let stride : ℕ = length c.make_contiguous.result.now in
    let count : length left ≡ stride = c.fill_shares.ensures.count in
    let same = c.make_contiguous.ensures.writes_back left (count ∙ c.make_contiguous.ensures.len) in
    let P : List Share → Type 0 = λ shares. InTurn (length shares) systems shares in
    let Q : ℕ → Type 0 = λ n. InTurn n systems left in
    let turn : InTurn stride systems left =
    turn_from stride systems 0 left
    (λ k share below.
    let S : ℕ → Type 0 = λ n. IsShare stride (drop n systems) (get_or left k share) in
    let zero_more : 0 + k ≡ k = omega arith in
    subst S (sym zero_more) (c.fill_shares.ensures.filled k share (omega (arith, count, below)))) in
    subst P (sym same) (subst Q (sym count) turn)
