-- The laws of this crate, as statements on the values that expressions of programs have to some depth.
use Rattle.std.specs.Prelude.{◌≡◌, ◌↔◌, ℕ, ℤ, List, ◌++◌, length, take}
use Rattle.az_lin.specs.Affine.{AffineMap, Union, HoldsSome, image_of}
use Rattle.az_ast.specs.Meaning.{TermGives, FoldGives, ReadTo, ValueTo}
use Rattle.az_ast.specs.Operators.{applied, identity, FoldsFromIdentity}
use Rattle.az_ast.specs.Points.{IsMember}
use Rattle.az_ast.specs.System.{System}
use Rattle.az_ast.specs.Tables.{Tables}
use Rattle.az_ast.specs.Term.{Term}
use Rattle.az_ast.specs.declared.op.Op.{Op}
use Rattle.expr_places.specs.Reached.{AtAccesses}
use Rattle.expr_maps.specs.Folds.{FoldOver}
use Rattle.expr_maps.specs.Put.{put, Carries}
use Rattle.expr_maps.specs.Replaced.{replaced}

-- with a map put in, an expression has at a point the values that it had at the point's image
abbrev pub PutMeansAtImage : Type 0
PutMeansAtImage =
    (p : System) (tables : Tables) (depth : ℕ) (f : AffineMap) (e : Term) (z y : List ℤ) (v : ℤ) → Carries (length p.params) f z y →
    ValueTo p tables depth (put f e) z v ↔ ValueTo p tables depth e y v

-- where each access that is reached has the values of what replaces it, so has the expression
abbrev pub ReplacedMeansSame : Type 0
ReplacedMeansSame =
    (p q : System) (tables others : Tables) (depth further : ℕ) (at : ℕ → AffineMap → Term) (e : Term) (z : List ℤ) (v : ℤ) →
    AtAccesses (λ x f y. (w : ℤ) →
    ReadTo p tables depth x (take (length p.params) y) (image_of f y) w ↔ TermGives (length p.params) (ReadTo q others further) (at x f) y w) e z →
    ValueTo p tables depth e z v ↔ TermGives (length p.params) (ReadTo q others further) (replaced at e) z v

-- a reduction is what its operator gives of the points that a domain holds and of the others
abbrev pub ReductionsSplit : Type 0
ReductionsSplit =
    (p : System) (tables : Tables) (depth : ℕ) (op : Op) → FoldsFromIdentity op → (extra : ℕ) (domain part : Union) (e : Term) (z : List ℤ) (v : ℤ) →
    let body : List ℤ → ℤ → Type 0 = λ k w. ValueTo p tables depth e (z ++ k) w in
    FoldGives op extra domain (λ y w. ValueTo p tables depth e y w) z v
    ↔ ((a : ℤ) × (b : ℤ) × FoldOver (applied op) (identity op) (λ k. IsMember domain z extra k × HoldsSome part (z ++ k)) body a
    × FoldOver (applied op) (identity op) (λ k. IsMember domain z extra k × (HoldsSome part (z ++ k) → ⊥)) body b × (v ≡ applied op a b))
