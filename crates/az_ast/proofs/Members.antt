-- Strictly increasing lists of points are determined by their members.
use Rattle.std.proofs.Common.{◌≡◌, ℕ, zero, suc, List, [], ◌∷◌, refl, sym, subst, ◌∙◌, arith, inl, inr, ⊎_elim}
use Rattle.std.specs.Prelude.{ℤ, Contains, ◌⊎◌}
use Rattle.std.specs.List.{AllByRecursion}
use Rattle.az_lin.specs.Affine.{Union}
use Rattle.az_ast.specs.Points.{Precedes, IsIncreasing, IsMember, AreMembers}
use Rattle.az_ast.proofs.TableLemmas.{Precedes-differs, Precedes-chain}

pub Contains-cases : (y : List ℤ) (ys : List (List ℤ)) (x : List ℤ) → Contains (y ∷ ys) x → (x ≡ y) ⊎ Contains ys x
Contains-cases y ys x (zero, h, e) = inl (sym e)
Contains-cases y ys x (suc k, h, e) = inr (k, omega arith, e)

pub Contains-first : (y : List ℤ) (ys : List (List ℤ)) → Contains (y ∷ ys) y
Contains-first y ys = (0, omega arith, refl)

pub Contains-rest : (y : List ℤ) (ys : List (List ℤ)) (x : List ℤ) → Contains ys x → Contains (y ∷ ys) x
Contains-rest y ys x (k, h, e) = (suc k, omega arith, e)

pub All-Contains : (P : List ℤ → Type 0) (xs : List (List ℤ)) (x : List ℤ) → AllByRecursion P xs → Contains xs x → P x
All-Contains P [] x a (k, h, e) = absurd (omega arith)
All-Contains P (y ∷ ys) x a (zero, h, e) = subst P e a.0
All-Contains P (y ∷ ys) x a (suc k, h, e) = All-Contains P ys x a.1 (k, omega arith, e)

-- the firsts of two such lists are the same point
same_first :
    (p q : List ℤ) (ps qs : List (List ℤ)) → IsIncreasing (p ∷ ps) → IsIncreasing (q ∷ qs) → Contains (q ∷ qs) p → Contains (p ∷ ps) q → p ≡ q
same_first p q ps qs i j a b =
    ⊎_elim (λ e. e) (λ later_p. ⊎_elim (λ e. sym e)
    (λ later_q. absurd (Precedes-differs p p (Precedes-chain p q p (All-Contains (Precedes p) ps q i.0 later_q) (All-Contains (Precedes q) qs p j.0 later_p)) refl))
    (Contains-cases p ps q b)) (Contains-cases q qs p a)

-- what the rest of one list has, the rest of the other has
rest_members :
    (p q : List ℤ) (ps qs : List (List ℤ)) → p ≡ q → IsIncreasing (p ∷ ps) → ((x : List ℤ) → Contains (p ∷ ps) x → Contains (q ∷ qs) x) → (x : List ℤ) → Contains ps x → Contains qs x
rest_members p q ps qs e i f x c =
    ⊎_elim (λ same. absurd (Precedes-differs p x (All-Contains (Precedes p) ps x i.0 c) (e ∙ sym same))) (λ rest. rest) (Contains-cases q qs x (f x (Contains-rest p ps x c)))

pub same_points :
    (ps qs : List (List ℤ)) → IsIncreasing ps → IsIncreasing qs → ((x : List ℤ) → Contains ps x → Contains qs x) → ((x : List ℤ) → Contains qs x → Contains ps x) → ps ≡ qs
same_points [] [] i j f g = refl
same_points [] (q ∷ qs) i j f g = absurd (none (g q (Contains-first q qs)))
  where
    none : Contains {X = List ℤ} [] q → ⊥
    none (k, h, e) = omega arith
same_points (p ∷ ps) [] i j f g = absurd (none (f p (Contains-first p ps)))
  where
    none : Contains {X = List ℤ} [] p → ⊥
    none (k, h, e) = omega arith
same_points (p ∷ ps) (q ∷ qs) i j f g =
    let e = same_first p q ps qs i j (f p (Contains-first p ps)) (g q (Contains-first q qs)) in
    let rest = same_points ps qs i.1 j.1 (rest_members p q ps qs e i f) (rest_members q p qs ps (sym e) j g) in
    (λ t. e t ∷ rest t)

-- so a domain has one list of members over a point
pub AreMembers-unique : (domain : Union) (z : List ℤ) (extra : ℕ) (ps qs : List (List ℤ)) → AreMembers domain z extra ps → AreMembers domain z extra qs → ps ≡ qs
AreMembers-unique domain z extra ps qs a b =
    same_points ps qs a.increasing b.increasing
    (λ x c. b.every x (All-Contains (IsMember domain z extra) ps x a.only c))
    (λ x c. a.every x (All-Contains (IsMember domain z extra) qs x b.only c))
