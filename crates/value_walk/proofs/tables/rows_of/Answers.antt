use Rattle.std.proofs.Common.{rules, ◌≡◌, ◌++◌, ◌∷◌, [], List, ℕ, length, append_assoc, sym, ap, subst, ◌∙◌}
use Rattle.std.specs.Prelude.{ℤ, All, map, slice_index_or, FitsSigned}
use Rattle.std.specs.Int.{w64, cast_signed, cast_unsigned}
use Rattle.std.proofs.lemmas.Int.{to_z-of_z}
use Rattle.std.proofs.lemmas.List.Elements.{All-cons}
use Rattle.az_ast.specs.Meaning.{Means}
use Rattle.value_walk.specs.Inner.Slots.{IsSettledAt}
use Rattle.value_walk.specs.declared.slot.State.TheVariants.{Unknown, Known}
use Rattle.value_walk.proofs.Evaluations.{rest-within, row-means}
use Rattle.value_walk.proofs.tables.rows_of.Goals as goal

abbrev first : List ℤ × ℤ → List ℤ
first row = row.0

pub loop-point-preserved : goal.loop-point-preserved
loop-point-preserved c =
    let x : ℕ = c.args.x in
    let means = λ (k : List ℤ) (w : ℤ). Means c.args.program.now c.args.inputs.now c.args.params.now x k w in
    let whole : List (List ℤ) = c.args.points in
    let rest : List (List ℤ) = c.pop.new.self in
    let rows : List (List ℤ × ℤ) = c.loop-point.rows in
    let point : List ℤ = c.in-Some.point in
    let states = c.args.states.now in
    let v : ℤ = c.in-Known.value in
    let w : ℤ = cast_signed w64 (cast_unsigned w64 v) in
    let fits : FitsSigned w64 v = search rules in
    let word : w ≡ v = to_z-of_z w64 v fits in
    let before = c.loop-point.invariant in
    let parts : whole ≡ (rest ++ point ∷ []) ++ map first rows = before.0 ∙ ap (λ (q : List (List ℤ)). q ++ map first rows) c.in-Some.ensures in
    let state : slice_index_or states (length rest) Unknown ≡ Known v = subst (λ n. slice_index_or states n Unknown ≡ Known v) c.len.ensures c.in-Known.is in
    let settled : IsSettledAt means whole states (length rest) = c.requires.settled (length rest) (rest-within means whole rest (map first rows) point states parts) in
    let here : means point v = row-means means whole rest (map first rows) point states parts v settled state in
    let pushed : c.push.new.self ≡ (point, w) ∷ rows = c.in_ok-push-in-Known.ensures.ok in (
      parts ∙ (append_assoc rest (point ∷ []) (map first rows) ∙ ap (λ (rs : List (List ℤ × ℤ)). rest ++ map first rs) (sym pushed)),
      subst (λ (rs : List (List ℤ × ℤ)). All (λ row. means row.0 row.1) rs) (sym pushed)
          (All-cons (λ (row : List ℤ × ℤ). means row.0 row.1) (point, w) rows (subst (λ u. means point u) (sym word) here) before.1),
    )

pub returns-clause-values : goal.returns-clause-values
returns-clause-values c =
    subst (λ (rs : List (List ℤ × ℤ)). All (λ row. Means c.args.program.now c.args.inputs.now c.args.params.now c.args.x row.0 row.1) rs) (sym c.into_list.ensures) c.loop-point.invariant.1
