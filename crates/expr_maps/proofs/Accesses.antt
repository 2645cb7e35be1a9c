-- With a map put in, the same points are read.
use Rattle.std.proofs.Common.{◌≡◌, ℕ, List, ◌++◌, take, sym, ap, subst, ◌∙◌}
use Rattle.std.specs.Prelude.{ℤ}
use Rattle.az_lin.specs.Affine.{AffineMap, image_of}
use Rattle.az_lin.specs.Substitution.{composed_map}
use Rattle.az_lin.proofs.Substitution.{image_of-composed}
use Rattle.az_ast.specs.Term.{Term, constant, index, access, negation, binary, cases, reduction, Choices, none, choice}
use Rattle.expr_places.specs.Reached.{AtBranches, AtReads, OnAccess}
use Rattle.az_lin.specs.Columns.{extended}
use Rattle.expr_maps.specs.Put.{put, put_below, Carries}
use Rattle.expr_maps.proofs.PutLaws.{carried, member_same, domain_same}

module _ (params : ℕ) (IsGood : ℕ → List ℤ → List ℤ → Type 0) where
  point_same : (x : ℕ) (g f : AffineMap) (z y : List ℤ) → Carries params f z y → IsGood x (take params y) (image_of g y) → IsGood x (take params z) (image_of (composed_map g f) z)
  point_same x g f z y carries h =
      let point : image_of (composed_map g f) z ≡ image_of g y = image_of-composed g f z carries.rows ∙ ap (λ p. image_of g p) carries.image in
      subst (λ p. IsGood x (take params z) p) (sym point) (subst (λ p. IsGood x p (image_of g y)) carries.kept h)

  mutual
    pub AtReads-put : (e : Term) (f : AffineMap) (z y : List ℤ) → Carries params f z y → AtReads params IsGood e y → AtReads params IsGood (put f e) z
    AtReads-put (constant c) f z y carries at = tt
    AtReads-put (index row) f z y carries at = tt
    AtReads-put (access x g) f z y carries at = point_same x g f z y carries at
    AtReads-put (negation e) f z y carries at = AtReads-put e f z y carries at
    AtReads-put (binary op a b) f z y carries at = (AtReads-put a f z y carries at.0, AtReads-put b f z y carries at.1)
    AtReads-put (cases branches) f z y carries at = (tt, AtBranches-put branches f z y carries at.1)
    AtReads-put (reduction op extra domain e) f z y carries at =
        (tt, λ k member. AtReads-put e (extended extra f) (z ++ k) (y ++ k) (carried params f z y extra k carries member.0) (at.1 k ((member_same params f domain z y extra carries k).0 member)))

    AtBranches-put : (branches : Choices) (f : AffineMap) (z y : List ℤ) → Carries params f z y
        → AtBranches (OnAccess (λ x g p. IsGood x (take params p) (image_of g p))) branches y → AtBranches (OnAccess (λ x g p. IsGood x (take params p) (image_of g p))) (put_below f branches) z
    AtBranches-put none f z y carries at = tt
    AtBranches-put (choice domain e rest) f z y carries at =
        (λ held. AtReads-put e f z y carries (at.0 ((domain_same params f domain z y carries).0 held)), AtBranches-put rest f z y carries at.1)
