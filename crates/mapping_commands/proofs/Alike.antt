-- What refuses a map looks at its width and at how many rows it has, and at no row.
use Rattle.std.proofs.Common.{◌≡◌, ℕ, List, [], ◌∷◌, length, ap, ◌∙◌}
use Rattle.std.specs.Prelude.{◌==◌, not, ◌||◌, Option, Some, None}
use Rattle.az_ast.specs.Shapes.{first_of}
use Rattle.az_ast.specs.System.{System}
use Rattle.az_ast.specs.declared.reason.Reason.{Reason}
use Rattle.az_ast.specs.declared.reason.Reason.TheVariants.{Interface, Kinds, Width}
use Rattle.az_lin.specs.Affine.{AffineMap}
use Rattle.target_map.specs.Refusals.{name_of, is_unwritten, others_in, has_other_rows, has_other_factors, time_refusal, storage_refusal, storage_refusal_beside}
use Rattle.target_map.specs.Settings.{TargetMapping, storage_in, width_of}
use Rattle.target_map.specs.declared.kind.Kind.{Kind}
use Rattle.target_map.specs.declared.storage.Storage.{Storage}

module _ (p : System) (x : ℕ) (f g : AffineMap) (widths : f.width ≡ g.width) (counts : length f.rows ≡ length g.rows) where
  pub time_alike : (kinds : List Kind) → time_refusal p kinds x f ≡ time_refusal p kinds x g
  time_alike kinds =
      ap (λ (w : ℕ). by_shape w (length f.rows)) widths ∙ ap (λ (r : ℕ). by_shape g.width r) counts
    where
      by_shape : ℕ → ℕ → Option Reason
      by_shape w r =
          first_of
          ((is_unwritten p x, Interface (name_of p x))
          ∷ (length kinds == 0, Kinds)
          ∷ (not (w == width_of p x) || not (r == length kinds), Width) ∷ [])

  rows_alike : (space : List ℕ) (factors : List ℕ) (other : Option Storage) → has_other_rows (storage_in space f factors) other ≡ has_other_rows (storage_in space g factors) other
  rows_alike space factors None = cc
  rows_alike space factors (Some other) = ap (λ (r : ℕ). not (r == length other.map.rows)) counts

  factors_alike : (space : List ℕ) (factors : List ℕ) (other : Option Storage) → has_other_factors (storage_in space f factors) other ≡ has_other_factors (storage_in space g factors) other
  factors_alike space factors None = cc
  factors_alike space factors (Some other) = cc

  beside_alike : (space : List ℕ) (factors : List ℕ) (other : Option Storage) → storage_refusal_beside other p x (storage_in space f factors) ≡ storage_refusal_beside other p x (storage_in space g factors)
  beside_alike space factors other =
      rw (rows_alike space factors other, factors_alike space factors other, widths, counts) cc

  pub storage_alike : (m : TargetMapping) (space : List ℕ) (factors : List ℕ) → storage_refusal p m x (storage_in space f factors) ≡ storage_refusal p m x (storage_in space g factors)
  storage_alike m space factors = beside_alike space factors (others_in m.storages space x (length p.variables))
