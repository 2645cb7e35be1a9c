-- A map put into a reduction, from the extended map put into its body.
use Rattle.std.proofs.Common.{◌≡◌, ℕ, ◌+◌, ◌≤◌, length, map, sym, ap, ap₂, subst, ◌∙◌, arith, length-append}
use Rattle.std.proofs.lemmas.List.{length-map}
use Rattle.std.proofs.lemmas.List.FromFn.{length-map-range_with_len}
use Rattle.az_lin.specs.Affine.{AffineMap, Union, HasEntryDomain}
use Rattle.az_lin.specs.Columns.{extended, widened, unit_row, unit_rows}
use Rattle.az_ast.proofs.Terms.{term-Reduce}
use Rattle.az_ast.specs.Term.{Term, reduction, term}
use Rattle.az_ast.specs.Walks.{extra_under}
use Rattle.az_ast.specs.declared.expr.Expr.{Expr}
use Rattle.az_ast.specs.declared.expr.Expr.TheVariants.{Reduce}
use Rattle.az_ast.specs.declared.op.Op.{Op}
use Rattle.az_poly.specs.Operations.{domain_before}
use Rattle.expr_maps.specs.Columns.{CanPut, HasColumns, HasEntriesIn}
use Rattle.expr_maps.specs.Put.{put}

pub extended-rows : (extra : ℕ) (f : AffineMap) → length (extended extra f).rows ≡ length f.rows + extra
extended-rows extra f =
    omega (
      arith,
      length-append (map (λ row. widened f.width extra row) f.rows) (unit_rows (f.width + extra) f.width extra),
      length-map f.rows (λ row. widened f.width extra row),
      length-map-range_with_len (λ column. unit_row (f.width + extra) column) f.width extra,
    )

-- the extended map can be put into the body
pub inner-can : (f inner : AffineMap) (extra : ℕ) (body : Term) → inner ≡ extended extra f → HasColumns body (length f.rows + extra) → length f.rows + (extra + extra_under body) ≤ 64 → f.width + (extra + extra_under body) ≤ 64 → CanPut inner body
inner-can f inner extra body further columns rows wide =
    let count = extended-rows extra f in
    subst (λ g. CanPut g body) (sym further)
    (record { columns = subst (λ n. HasColumns body n) (sym count) columns; few_rows = omega (arith, count, rows); few_columns = omega (arith, wide) })

module _ (f : AffineMap) (e : Expr) (op : Op) (extra : ℕ) (domain : Union) (body : Expr) (is : e ≡ Reduce op extra domain body) (inner : AffineMap) (further : inner ≡ extended extra f) where
  whole : term e ≡ reduction op extra domain (term body)
  whole = ap term is ∙ term-Reduce op extra domain body

  put-whole : put f (term e) ≡ reduction op extra (domain_before inner domain) (put inner (term body))
  put-whole = ap (put f) whole ∙ ap (λ g. reduction op extra (domain_before g domain) (put g (term body))) (sym further)

  pub fit-domain : HasEntriesIn (put f (term e)) → HasEntryDomain (domain_before inner domain)
  fit-domain fits = let parts = subst HasEntriesIn put-whole fits in parts.0

  pub fit-body : HasEntriesIn (put f (term e)) → HasEntriesIn (put inner (term body))
  fit-body fits = let parts = subst HasEntriesIn put-whole fits in parts.1

  pub fit-parts : HasEntryDomain (domain_before inner domain) → HasEntriesIn (put inner (term body)) → HasEntriesIn (put f (term e))
  fit-parts first rest = subst HasEntriesIn (sym put-whole) (first, rest)

  pub made : (before : Union) (under : Expr) → before ≡ domain_before inner domain → term under ≡ put inner (term body) → term (Reduce op extra before under) ≡ put f (term e)
  made before under same same' = term-Reduce op extra before under ∙ (ap₂ (λ d t. reduction op extra d t) same same' ∙ sym put-whole)
