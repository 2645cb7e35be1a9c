-- Where each access that is reached has the values of what replaces it, so has the whole expression.
use Rattle.std.proofs.Common.{◌≡◌, ℕ, List, ◌++◌, take, refl, ap, ap₂, subst, inl, inr, ⊎_elim}
use Rattle.std.specs.Prelude.{ℤ}
use Rattle.az_lin.specs.Affine.{AffineMap, image_of}
use Rattle.az_ast.specs.Meaning.{Reads, TermGives, ChoiceGives}
use Rattle.az_ast.specs.Points.{IsMember}
use Rattle.az_ast.specs.Term.{Term, constant, index, access, negation, binary, cases, reduction, Choices, none, choice}
use Rattle.expr_places.specs.Places.{Part, case_over, reduction_over, access_to}
use Rattle.expr_places.specs.Reached.{AtAccesses, AtBranches, OnAccess}
use Rattle.expr_places.proofs.Reached.{AtPlaces-map}
use Rattle.expr_maps.specs.Replaced.{replaced, replaced_below}
use Rattle.expr_maps.proofs.Members.{AllZip-members}

module _ (params : ℕ) (reads others : Reads) (at : ℕ → AffineMap → Term) where
  -- what is read has, and only that, what stands in its place
  abbrev pub Becomes : ℕ → AffineMap → List ℤ → Type 0
  Becomes x f z = (v : ℤ) → reads x (take params z) (image_of f z) v → TermGives params others (at x f) z v

  abbrev pub ComesFrom : ℕ → AffineMap → List ℤ → Type 0
  ComesFrom x f z = (v : ℤ) → TermGives params others (at x f) z v → reads x (take params z) (image_of f z) v

  mutual
    pub replaced-to : (e : Term) (z : List ℤ) (v : ℤ) → AtAccesses Becomes e z → TermGives params reads e z v → TermGives params others (replaced at e) z v
    replaced-to (constant c) z v each g = g
    replaced-to (index row) z v each g = g
    replaced-to (access x f) z v each g = each v g
    replaced-to (negation e) z v each g = (g.0, replaced-to e z g.0 each g.1, g.2)
    replaced-to (binary op a b) z v each g = (g.0, g.1, replaced-to a z g.0 each.0 g.2, replaced-to b z g.1 each.1 g.3, g.4)
    replaced-to (cases branches) z v each g = replaced_below-to branches z v each.1 g
    replaced-to (reduction op extra domain e) z v each g =
        record {
          points = g.points;
          values = g.values;
          members = g.members;
          bodies = AllZip-members (IsMember domain z extra) (λ k w. TermGives params reads e (z ++ k) w) (λ k w. TermGives params others (replaced at e) (z ++ k) w)
              (λ k w member h. replaced-to e (z ++ k) w (each.1 k member) h) g.points g.values g.members.only g.bodies;
          result = g.result;
        }

    replaced_below-to : (branches : Choices) (z : List ℤ) (v : ℤ) → AtBranches (OnAccess Becomes) branches z → ChoiceGives params reads branches z v → ChoiceGives params others (replaced_below at branches) z v
    replaced_below-to none z v each g = g
    replaced_below-to (choice domain e rest) z v each g =
        ⊎_elim (λ here. inl (here.0, replaced-to e z v (each.0 here.0) here.1)) (λ there. inr (there.0, replaced_below-to rest z v each.1 there.1)) g

  mutual
    pub replaced-from : (e : Term) (z : List ℤ) (v : ℤ) → AtAccesses ComesFrom e z → TermGives params others (replaced at e) z v → TermGives params reads e z v
    replaced-from (constant c) z v each g = g
    replaced-from (index row) z v each g = g
    replaced-from (access x f) z v each g = each v g
    replaced-from (negation e) z v each g = (g.0, replaced-from e z g.0 each g.1, g.2)
    replaced-from (binary op a b) z v each g = (g.0, g.1, replaced-from a z g.0 each.0 g.2, replaced-from b z g.1 each.1 g.3, g.4)
    replaced-from (cases branches) z v each g = replaced_below-from branches z v each.1 g
    replaced-from (reduction op extra domain e) z v each g =
        record {
          points = g.points;
          values = g.values;
          members = g.members;
          bodies = AllZip-members (IsMember domain z extra) (λ k w. TermGives params others (replaced at e) (z ++ k) w) (λ k w. TermGives params reads e (z ++ k) w)
              (λ k w member h. replaced-from e (z ++ k) w (each.1 k member) h) g.points g.values g.members.only g.bodies;
          result = g.result;
        }

    replaced_below-from : (branches : Choices) (z : List ℤ) (v : ℤ) → AtBranches (OnAccess ComesFrom) branches z → ChoiceGives params others (replaced_below at branches) z v → ChoiceGives params reads branches z v
    replaced_below-from none z v each g = g
    replaced_below-from (choice domain e rest) z v each g =
        ⊎_elim (λ here. inl (here.0, replaced-from e z v (each.0 here.0) here.1)) (λ there. inr (there.0, replaced_below-from rest z v each.1 there.1)) g

-- each access replaced by itself
mutual
  pub replaced-itself : (e : Term) → replaced access e ≡ e
  replaced-itself (constant c) = refl
  replaced-itself (index row) = refl
  replaced-itself (access x f) = refl
  replaced-itself (negation e) = ap negation (replaced-itself e)
  replaced-itself (binary op a b) = ap₂ (binary op) (replaced-itself a) (replaced-itself b)
  replaced-itself (cases branches) = ap cases (replaced_below-itself branches)
  replaced-itself (reduction op extra domain e) = ap (reduction op extra domain) (replaced-itself e)

  replaced_below-itself : (branches : Choices) → replaced_below access branches ≡ branches
  replaced_below-itself none = refl
  replaced_below-itself (choice domain e rest) = ap₂ (choice domain) (replaced-itself e) (replaced_below-itself rest)

-- what the reads that are reached have decides what an expression has
pub TermGives-at : (params : ℕ) (reads others : Reads) (e : Term) (z : List ℤ) (v : ℤ)
    → AtAccesses (λ x f y. (w : ℤ) → reads x (take params y) (image_of f y) w → others x (take params y) (image_of f y) w) e z
    → TermGives params reads e z v → TermGives params others e z v
TermGives-at params reads others e z v each g = subst (λ t. TermGives params others t z v) (replaced-itself e) (replaced-to params reads others access e z v each g)

-- what follows at each access
pub AtAccesses-map : (P Q : ℕ → AffineMap → List ℤ → Type 0) → ((x : ℕ) (f : AffineMap) (z : List ℤ) → P x f z → Q x f z) → (e : Term) (z : List ℤ) → AtAccesses P e z → AtAccesses Q e z
AtAccesses-map P Q to e z at = AtPlaces-map (OnAccess P) (OnAccess Q) on e z at
  where
    on : (part : Part) (y : List ℤ) → OnAccess P part y → OnAccess Q part y
    on (case_over domains) y h = tt
    on (reduction_over extra domain) y h = tt
    on (access_to x f) y h = to x f y h
