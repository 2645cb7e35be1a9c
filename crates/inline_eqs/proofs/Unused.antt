-- A local for which there is no reason to stay: it is a local, and no other equation reads it.
use Rattle.std.proofs.Common.{◌≡◌, ℕ, zero, suc, ◌+◌, ◌-◌, ◌<◌, List, [], ◌∷◌, Bool, true, false, cond, not, ◌&&◌, length, Option, Some, None, refl, sym, ap, subst, ◌∙◌, arith}
use Rattle.std.specs.Prelude.{slice_get, MatchOption, ◌==◌}
use Rattle.std.specs.List.{AllByRecursion}
use Rattle.std.specs.Option.{option_map_or}
use Rattle.std.proofs.lemmas.Option.{slice_get_within}
use Rattle.std.proofs.lemmas.List.Elements.{recursion_from_All}
use Rattle.az_ast.specs.Meaning.{body_of}
use Rattle.az_ast.specs.Placed.{IsEquationPlaced, IsAtWidth}
use Rattle.az_ast.specs.Shapes.{IsProgram}
use Rattle.az_ast.specs.System.{System}
use Rattle.az_ast.specs.Term.{Term, term}
use Rattle.az_ast.specs.declared.expr.Expr.{Expr}
use Rattle.az_ast.specs.declared.program.Variable.{Variable}
use Rattle.az_ast.specs.declared.reason.Reason.{Reason as Why}
use Rattle.az_ast.specs.declared.reason.Reason.TheVariants.{NotLocal, StillUsed}
use Rattle.expr_maps.specs.Answers.{EachAccess}
use Rattle.rewriting.proofs.Accesses.{IsOther, others-unread}
use Rattle.rewriting.proofs.Bodies.{body-found}
use Rattle.rewriting.proofs.FineParts.{parts-fine}
use Rattle.rewriting.proofs.Lookups.{body_of-defined, defined-own}
use Rattle.rewriting.specs.Definitions.{Definition, definitions, defined_as}
use Rattle.rewriting.specs.Named.{name_of, is_local}
use Rattle.rewriting.specs.Reads.{reads}
use Rattle.inline_eqs.specs.Removal.{is_used_by, used_from, removal_refusal}

unused-from : (p : System) (x y count : ℕ) → used_from p x y count ≡ None → (i : ℕ) → i < count → is_used_by p x (y + i) ≡ false
unused-from p x y zero h i l = absurd (omega (arith, l))
unused-from p x y (suc count) h zero l = subst (λ m. is_used_by p x m ≡ false) (from_zero y) (by (is_used_by p x y) h)
  where
    from_zero : (y : ℕ) → y ≡ y + 0
    from_zero y = omega arith

    by : (b : Bool) → cond b (Some (StillUsed (name_of p y))) (used_from p x (suc y) count) ≡ None → b ≡ false
    by true h = cc
    by false h = refl
unused-from p x y (suc count) h (suc i) l = subst (λ m. is_used_by p x m ≡ false) next (unused-from p x (suc y) count (by (is_used_by p x y) h) i (omega (arith, l)))
  where
    next : suc y + i ≡ y + suc i
    next = omega arith

    by : (b : Bool) → cond b (Some (StillUsed (name_of p y))) (used_from p x (suc y) count) ≡ None → used_from p x (suc y) count ≡ None
    by true h = cc
    by false h = h

free-parts : (b : Bool) (used : Option Why) (why : Why) → cond b used (Some why) ≡ None → (b ≡ true) × (used ≡ None)
free-parts true used why h = (refl, h)
free-parts false used why h = cc

module _ (p : System) (program : IsProgram p) (x : ℕ) (free : removal_refusal p x ≡ None) where
  abbrev Parts : Type 0
  Parts = (is_local p x ≡ true) × (used_from p x 0 (length p.variables) ≡ None)

  parts : Parts
  parts = free-parts (is_local p x) (used_from p x 0 (length p.variables)) (NotLocal (name_of p x)) free

  pub is-local : is_local p x ≡ true
  is-local = parts.0

  none_uses : (y : ℕ) (v : Variable) → slice_get p.variables y ≡ Some v → is_used_by p x y ≡ false
  none_uses y v here = subst (λ m. is_used_by p x m ≡ false) (from_zero y) (unused-from p x 0 (length p.variables) parts.1 y (slice_get_within p.variables y v here))
    where
      from_zero : (y : ℕ) → 0 + y ≡ y
      from_zero y = omega arith

  pub unread : (y : ℕ) → (y == x) ≡ false → (e : Term) → body_of p.equations y ≡ Some e → reads x e ≡ false
  unread y other e defined =
      let found = body-found (IsEquationPlaced p.variables) p.equations (recursion_from_All (IsEquationPlaced p.variables) p.equations program.placed.bodies) y e defined in
      by found.0.body (slice_get p.variables y) refl (subst (λ m. MatchOption (slice_get p.variables m) ⊥ (λ v. IsAtWidth (length p.variables) (term found.0.body) v.domain.width)) found.1 found.3)
    where
      told : (b : Bool) → b ≡ false → (not b && option_map_or (reads x) (body_of p.equations y) false) ≡ false → option_map_or (reads x) (body_of p.equations y) false ≡ false
      told true other h = cc
      told false other h = h

      by : (body : Expr) (o : Option Variable) → slice_get p.variables y ≡ o → MatchOption o ⊥ (λ v. IsAtWidth (length p.variables) (term body) v.domain.width) → reads x e ≡ false
      by body None is h = absurd h
      by body (Some v) is h = sym (ap (λ o. option_map_or (reads x) o false) defined) ∙ told (y == x) other (none_uses y v is)

  pub definitions-unread : AllByRecursion (λ (d : Definition). (d.0 == x) ≡ false → EachAccess (IsOther x) d.1) (definitions p)
  definitions-unread = each (definitions p) (defined-own (definitions p) (parts-fine p program).defined_apart)
    where
      each : (ds : List Definition) → AllByRecursion (λ (d : Definition). defined_as (definitions p) d.0 ≡ Some d.1) ds → AllByRecursion (λ (d : Definition). (d.0 == x) ≡ false → EachAccess (IsOther x) d.1) ds
      each [] h = tt
      each (d ∷ ds) h = (λ other. others-unread x d.1 (unread d.0 other d.1 (body_of-defined p.equations d.0 ∙ h.0)), each ds h.1)

-- one step of looking for a reader
pub used-here : (p : System) (x y count : ℕ) → y < count → is_used_by p x y ≡ true → used_from p x y (count - y) ≡ Some (StillUsed (name_of p y))
used-here p x y count l used =
    let next : count - y ≡ suc (count - suc y) = omega (arith, l) in
    ap (λ n. used_from p x y n) next ∙ ap (λ b. cond b (Some (StillUsed (name_of p y))) (used_from p x (suc y) (count - suc y))) used

pub used-next : (p : System) (x y count : ℕ) → y < count → is_used_by p x y ≡ false → used_from p x y (count - y) ≡ used_from p x (y + 1) (count - (y + 1))
used-next p x y count l unused =
    let next : count - y ≡ suc (count - suc y) = omega (arith, l) in
    let one : suc y ≡ y + 1 = omega arith in
    ap (λ n. used_from p x y n) next
    ∙ (ap (λ b. cond b (Some (StillUsed (name_of p y))) (used_from p x (suc y) (count - suc y))) unused ∙ ap (λ m. used_from p x m (count - m)) one)
