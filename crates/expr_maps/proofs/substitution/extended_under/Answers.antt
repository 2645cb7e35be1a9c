use Rattle.std.proofs.Common.{◌≡◌, ◌+◌, ◌∙◌, Result, Ok, Err, ap, length}
use Rattle.std.specs.Prelude.{IfOk}
use Rattle.az_lin.specs.Affine.{AffineMap}
use Rattle.az_lin.specs.Columns.{extended}
use Rattle.az_ast.specs.Term.{term}
use Rattle.expr_maps.specs.Columns.{CanPut}
use Rattle.expr_maps.proofs.ReductionSteps.{extended-rows, inner-can}
use Rattle.expr_maps.proofs.substitution.extended_under.Goals as goal

-- a fact on an answer, weakened
on_ok : {A E : Type 0} (r : Result A E) (P Q : A → Type 0) → ((a : A) → P a → Q a) → IfOk r P → IfOk r Q
on_ok (Ok a) P Q f h = f a h
on_ok (Err e) P Q f h = h

pub returns-clause-rows : goal.returns-clause-rows
returns-clause-rows c =
    let f = c.args.f.now in
    on_ok c.extended.result (λ (m : AffineMap). m ≡ extended c.args.extra f) (λ (m : AffineMap). length m.rows ≡ length f.rows + c.args.extra)
    (λ m is. ap (λ (g : AffineMap). length g.rows) is ∙ extended-rows c.args.extra f) c.extended.ensures.ok

pub returns-clause-under : goal.returns-clause-under
returns-clause-under c =
    let f = c.args.f.now in
    on_ok c.extended.result (λ (m : AffineMap). m ≡ extended c.args.extra f) (λ (m : AffineMap). CanPut m (term c.args.body.now))
    (λ m is. inner-can f m c.args.extra (term c.args.body.now) is c.requires.columns c.requires.few_rows c.requires.few_columns) c.extended.ensures.ok
