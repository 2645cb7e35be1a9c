-- Where the formulas of cells are true, and of two instances.
use Rattle.std.proofs.Common.{◌≡◌, inl, inr, ◌↔◌, ℕ, zero, suc, ◌-◌, arith, List, [], ◌∷◌, ◌++◌, length, take, drop, Bool, true, false, refl, sym, ap, ap₂, ◌∙◌, length-drop}
use Rattle.std.specs.Prelude.{ℤ, pos, ◌==◌, if◌then◌else◌}
use Rattle.std.proofs.lemmas.Bool.{eqb-true, eq-eqb}
use Rattle.std.proofs.lemmas.Int.{ints}
use Rattle.std.proofs.lemmas.List.{take-append-drop}
use Rattle.az_lin.specs.Affine.{Affine, value_at, image_of}
use Rattle.az_lin.proofs.Difference.{value_at-apart_by}
use Rattle.az_ast.specs.System.{System}
use Rattle.formula_refute.specs.Claims.{any_of, all_of, claims, none, IsTrueAt}
use Rattle.target_map.specs.Lifetime.{IsOther}
use Rattle.target_map.specs.Storage.{MayMeet, MayShare}
use Rattle.order_sets.specs.NotBefore.{apart, each_pair, values}
use Rattle.order_sets.specs.declared.visit.Visit.{Visit}
use Rattle.order_sets.proofs.Joined.{Each, Some}
use Rattle.order_sets.proofs.Pairs.{same_to, same_from, apart_or, apart_to}
use Rattle.life_sets.specs.Cells.{meets, same_cell, other}

module _ (z : List ℤ) where
  abbrev val : Affine → ℤ
  val row = value_at row z

  -- one coordinate
  meets_to : (factor : ℕ) (u v : Affine) → IsTrueAt z (meets factor u v) → MayMeet factor (val u) (val v)
  meets_to zero u v h = same_to z u v h
  meets_to (suc less) u v h = elim h as (λ _. MayMeet (suc less) (val u) (val v)) [
    | inl same ↦ inl (same_to z u v same)
    | inr far ↦ elim far as (λ _. MayMeet (suc less) (val u) (val v)) [
      | inl above ↦ inr (inl (omega (arith, ints, value_at-apart_by (pos (suc less)) u v z, above)))
      | inr last ↦ elim last as (λ _. MayMeet (suc less) (val u) (val v)) [
        | inl below ↦ inr (inr (omega (arith, ints, value_at-apart_by (pos (suc less)) v u z, below)))
        | inr nothing ↦ absurd nothing
      ]
    ]
  ]

  meets_from : (factor : ℕ) (u v : Affine) → MayMeet factor (val u) (val v) → IsTrueAt z (meets factor u v)
  meets_from zero u v h = same_from z u v h
  meets_from (suc less) u v h = elim h as (λ _. IsTrueAt z (meets (suc less) u v)) [
    | inl same ↦ inl (same_from z u v same)
    | inr far ↦ elim far as (λ _. IsTrueAt z (meets (suc less) u v)) [
      | inl above ↦ inr (inl (omega (arith, ints, value_at-apart_by (pos (suc less)) u v z, above)))
      | inr below ↦ inr (inr (inl (omega (arith, ints, value_at-apart_by (pos (suc less)) v u z, below))))
    ]
  ]

  -- each coordinate
  pub cell_to : (factors : List ℕ) (us vs : List Affine) → Each z (same_cell factors us vs) → MayShare factors (values z us) (values z vs)
  cell_to [] us vs h = tt
  cell_to (factor ∷ factors) [] vs h = tt
  cell_to (factor ∷ factors) (u ∷ us) [] h = tt
  cell_to (factor ∷ factors) (u ∷ us) (v ∷ vs) h = (meets_to factor u v h.0, cell_to factors us vs h.1)

  pub cell_from : (factors : List ℕ) (us vs : List Affine) → MayShare factors (values z us) (values z vs) → Each z (same_cell factors us vs)
  cell_from [] us vs h = tt
  cell_from (factor ∷ factors) [] vs h = tt
  cell_from (factor ∷ factors) (u ∷ us) [] h = tt
  cell_from (factor ∷ factors) (u ∷ us) (v ∷ vs) h = (meets_from factor u v h.0, cell_from factors us vs h.1)

  values_drop : (n : ℕ) (rows : List Affine) → values z (drop n rows) ≡ drop n (values z rows)
  values_drop zero rows = refl
  values_drop (suc n) [] = refl
  values_drop (suc n) (row ∷ rows) = values_drop n rows

  -- two instances at points with the same parameters
  module _ (p : System) (u v : Visit) (a b : List ℤ) (at_a : image_of u.at z ≡ a) (at_b : image_of v.at z ≡ b)
      (params : take (length p.params) a ≡ take (length p.params) b) (long : u.variable ≡ v.variable → length u.at.rows ≡ length v.at.rows) where
    abbrev n : ℕ
    n = length p.params

    abbrev us : List Affine
    us = drop n u.at.rows

    abbrev vs : List Affine
    vs = drop n v.at.rows

    own : (w : Visit) (c : List ℤ) → image_of w.at z ≡ c → values z (drop n w.at.rows) ≡ drop n c
    own w c is = values_drop n w.at.rows ∙ ap (λ (xs : List ℤ). drop n xs) is

    same_points : values z vs ≡ values z us → a ≡ b
    same_points same =
        let rest : drop n a ≡ drop n b = sym (own u a at_a) ∙ sym same ∙ own v b at_b in
        sym (take-append-drop n a) ∙ ap₂ (λ (xs ys : List ℤ). xs ++ ys) params rest ∙ take-append-drop n b

    same_values : a ≡ b → values z vs ≡ values z us
    same_values same = own v b at_b ∙ ap (λ (xs : List ℤ). drop n xs) (sym same) ∙ sym (own u a at_a)

    pub other_true : IsTrueAt z (other p u v) ↔ IsOther u.variable a v.variable b
    other_true = by (u.variable == v.variable) refl
      where
        by : (c : Bool) → (u.variable == v.variable) ≡ c
            → IsTrueAt z (if c then any_of (claims (each_pair apart vs us)) else all_of none) ↔ IsOther u.variable a v.variable b
        by true is =
            let variable : u.variable ≡ v.variable = eqb-true u.variable v.variable is in
            let rows = long variable in
            let even : length vs ≡ length us = length-drop n v.at.rows ∙ ap (λ k. k - n) (sym rows) ∙ sym (length-drop n u.at.rows) in (
              λ h same_variable same. apart_to z vs us h (same_values same),
              λ h. elim (apart_or z vs us even) as (λ _. Some z (each_pair apart vs us)) [ inl same ↦ absurd (h variable (same_points same)) | inr some ↦ some ],
            )
        by false is = (
          λ h same_variable same. (let yes : (u.variable == v.variable) ≡ true = eq-eqb u.variable v.variable same_variable in cc),
          λ h. tt,
        )
