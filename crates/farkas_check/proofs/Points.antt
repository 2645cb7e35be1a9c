-- A point meets a system if it meets each of its rows.
use Rattle.std.proofs.Common.{◌≡◌, ℕ, ◌+◌, ◌<◌, ◌≤◌, sym, subst, length, take, get_or, List, All, pos, ◌≤ℤ◌, ◌<ℤ◌}
use Rattle.std.proofs.lemmas.List.{take_all}
use Rattle.std.proofs.lemmas.List.Elements.{All-more, All-weaker, All-same}
use Rattle.az_lin.specs.Affine.{Affine, Polyhedron}
use Rattle.az_lin.specs.RationalPoint.{IsWideAt, Satisfies, value_over}
use Rattle.az_lin.specs.declared.step.RatPoint.{RatPoint}
use Rattle.farkas_check.specs.Verdict.{IsMet}

pub met_more : (point : RatPoint) (rows : List Affine) (i : ℕ) (row : Affine) → i < length rows → row ≡ get_or rows i row → All (IsMet point) (take i rows) → IsMet point row
    → All (IsMet point) (take (i + 1) rows)
met_more point rows i row here is before met =
    let P : Affine → Type 0 = IsMet point in
    All-more (IsMet point) rows i row here before (subst P is met)

pub Satisfies-from_met : (system : Polyhedron) (point : RatPoint) (n : ℕ) → length point.nums ≡ system.width → pos 0 <ℤ point.den → length system.rows ≤ n
    → All (IsMet point) (take n system.rows) → Satisfies system point
Satisfies-from_met system point n width positive past met =
    let all : All (IsMet point) system.rows = All-same (IsMet point) system.rows (take n system.rows) (sym (take_all n system.rows past)) met in
    record {
      width = width;
      positive = positive;
      in_range = All-weaker (IsMet point) (IsWideAt point) (λ row h. h.in_range) system.rows all;
      satisfied = All-weaker (IsMet point) (λ row. pos 0 ≤ℤ value_over row point) (λ row h. h.satisfied) system.rows all;
    }
