-- The first item at fault, from a place on.
use Rattle.std.proofs.Common.{◌≡◌, ℕ, suc, ◌<◌, List, [], ◌∷◌, ◌++◌, length, take, drop, get_or, Option, Some, None, sym, ap, ◌∙◌, drop-cons}
use Rattle.std.specs.Prelude.{option_map}
use Rattle.std.specs.Option.{option_or}
use Rattle.std.proofs.Math.Seq.{take-suc, drop-length}
use Rattle.az_ast.specs.declared.fault.ShapeFault.TheVariants.{Shape}
use Rattle.az_ast.specs.declared.fault.ShapeKind.{ShapeKind}
use Rattle.az_ast.specs.Shapes.{first_kind, kinds_after}

-- one item with a kind, or without
pub first_kind-some : (n : ℕ) (kind : Option ShapeKind) (k : ShapeKind) (rest : List (Option ShapeKind)) → kind ≡ Some k → first_kind n (kind ∷ rest) ≡ Some (Shape k n)
first_kind-some n kind k rest e = ap (λ o. option_or (option_map (λ k. Shape k n) o) (first_kind (suc n) rest)) e

pub first_kind-none : (n : ℕ) (kind : Option ShapeKind) (rest : List (Option ShapeKind)) → kind ≡ None → first_kind n (kind ∷ rest) ≡ first_kind (suc n) rest
first_kind-none n kind rest e = ap (λ o. option_or (option_map (λ k. Shape k n) o) (first_kind (suc n) rest)) e

module _ {A : Type 0} (kind : List A → A → Option ShapeKind) where
  -- the kinds from a place on
  abbrev pub kinds_from : List A → ℕ → List (Option ShapeKind)
  kinds_from xs i = kinds_after kind (take i xs) (drop i xs)

  module _ (xs : List A) (i : ℕ) (x : A) (within : i < length xs) (here : x ≡ get_or xs i x) where
    opened : kinds_from xs i ≡ kind (take i xs) x ∷ kinds_from xs (suc i)
    opened =
        ap (kinds_after kind (take i xs)) (drop-cons xs i x within ∙ ap (λ y. y ∷ drop (suc i) xs) (sym here))
        ∙ ap (λ earlier. kind (take i xs) x ∷ kinds_after kind earlier (drop (suc i) xs)) (sym (take-suc xs i x within ∙ ap (λ y. take i xs ++ y ∷ []) (sym here)))

    pub found : (n : ℕ) (k : ShapeKind) → kind (take i xs) x ≡ Some k → first_kind n (kinds_from xs i) ≡ Some (Shape k n)
    found n k e = ap (first_kind n) opened ∙ first_kind-some n (kind (take i xs) x) k (kinds_from xs (suc i)) e

    pub passed : (n : ℕ) → kind (take i xs) x ≡ None → first_kind n (kinds_from xs i) ≡ first_kind (suc n) (kinds_from xs (suc i))
    passed n e = ap (first_kind n) opened ∙ first_kind-none n (kind (take i xs) x) (kinds_from xs (suc i)) e

  pub ended : (xs : List A) (i n : ℕ) → i ≡ length xs → first_kind n (kinds_from xs i) ≡ None
  ended xs i n e = ap (λ rest. first_kind n (kinds_after kind (take i xs) rest)) (ap (λ j. drop j xs) e ∙ drop-length xs)
