-- With a local under other coordinates, a program keeps the rules on places and shapes.
use Rattle.std.proofs.Common.{◌≡◌, ℕ, zero, suc, ◌+◌, ◌-◌, ◌≤◌, List, [], ◌∷◌, length, map, Bool, true, false, cond, Option, Some, None, refl, sym, ap, subst, ◌∙◌, arith, length-append}
use Rattle.std.specs.Prelude.{slice_get, MatchOption, option_map, ◌==◌}
use Rattle.std.specs.List.{AllByRecursion}
use Rattle.std.specs.Option.{option_map_or}
use Rattle.std.proofs.lemmas.Bool.{eqb-true}
use Rattle.std.proofs.lemmas.List.{length-map}
use Rattle.std.proofs.lemmas.Option.{slice_get_within}
use Rattle.std.proofs.lemmas.List.FromFn.{length-map-range_with_len}
use Rattle.az_lin.specs.Affine.{AffineMap}
use Rattle.az_lin.specs.Columns.{reading, unit_row, unit_rows}
use Rattle.az_lin.specs.Substitution.{composed, composed_map}
use Rattle.az_ast.proofs.TermShapes.{HasShape}
use Rattle.az_ast.specs.Placed.{AreInOrder, IsAtWidth, rank}
use Rattle.az_ast.specs.Shapes.{IsProgram, indices, is_input, is_index_name}
use Rattle.az_ast.specs.System.{System}
use Rattle.az_ast.specs.Term.{Term, access}
use Rattle.az_ast.specs.declared.program.Variable.{Variable}
use Rattle.expr_maps.proofs.BranchSteps.{EachAccess-all}
use Rattle.expr_maps.proofs.ColumnLaws.{put-placed}
use Rattle.expr_maps.specs.Put.{put}
use Rattle.expr_maps.specs.Replaced.{replaced}
use Rattle.rewriting.proofs.FineParts.{AreFine, Defines, has_name_of, parts-fine, redefined-fine}
use Rattle.rewriting.proofs.Items.{Apart}
use Rattle.rewriting.proofs.Shaped.{Suits, replaced-suits, put-shaped}
use Rattle.rewriting.specs.Definitions.{Definition, definitions, defined_as}
use Rattle.change_basis.specs.Basis.{moved_map, moved_access, led_back, moved_body, moved_variable, with_changed}
use Rattle.change_basis.proofs.BasisMeaning.{AreInverse}
use Rattle.change_basis.proofs.Changed.{changed-at}

-- a list of which one item is changed
module _ (params : ℕ) (inverse : AffineMap) where
  abbrev change : Variable → Variable
  change v = moved_variable params inverse v

  all-changed : (P Q : Variable → Type 0) → ((v : Variable) → P v → Q v) → ((v : Variable) → P v → Q (change v)) → (vs : List Variable) (t : ℕ) → AllByRecursion P vs → AllByRecursion Q (with_changed change t vs)
  all-changed P Q stays moves [] zero all = tt
  all-changed P Q stays moves [] (suc t) all = tt
  all-changed P Q stays moves (v ∷ vs) zero all = (moves v all.0, rest vs all.1)
    where
      rest : (us : List Variable) → AllByRecursion P us → AllByRecursion Q us
      rest [] all = tt
      rest (u ∷ us) all = (stays u all.0, rest us all.1)
  all-changed P Q stays moves (v ∷ vs) (suc t) all = (stays v all.0, all-changed P Q stays moves vs t all.1)

  order-changed : (vs : List Variable) (t : ℕ) → AreInOrder vs → AreInOrder (with_changed change t vs)
  order-changed [] zero order = tt
  order-changed [] (suc t) order = tt
  order-changed (v ∷ vs) zero order = order
  order-changed (v ∷ vs) (suc t) order =
      (all-changed (λ (w : Variable). rank v.role ≤ rank w.role) (λ (w : Variable). rank v.role ≤ rank w.role) (λ w h. h) (λ w h. h) vs t order.0, order-changed vs t order.1)

  apart-changed : (vs : List Variable) (t : ℕ) → Apart has_name_of vs → Apart has_name_of (with_changed change t vs)
  apart-changed [] zero apart = tt
  apart-changed [] (suc t) apart = tt
  apart-changed (v ∷ vs) zero apart = apart
  apart-changed (v ∷ vs) (suc t) apart =
      (all-changed (λ (w : Variable). has_name_of v w ≡ false) (λ (w : Variable). has_name_of v w ≡ false) (λ w h. h) (λ w h. h) vs t apart.0, apart-changed vs t apart.1)

  pub length-changed : (vs : List Variable) (t : ℕ) → length (with_changed change t vs) ≡ length vs
  length-changed [] zero = refl
  length-changed [] (suc t) = refl
  length-changed (v ∷ vs) zero = refl
  length-changed (v ∷ vs) (suc t) = ap suc (length-changed vs t)

module _ (p : System) (program : IsProgram p) (target : ℕ) (w : Variable) (declared : slice_get p.variables target ≡ Some w) (basis inverse : AffineMap) (inverts : AreInverse p w basis inverse) (narrow : length p.params ≤ w.domain.width) where
  abbrev n : ℕ
  n = length p.params

  abbrev there : List Variable
  there = with_changed (moved_variable n inverse) target p.variables

  abbrev Changed : ℕ → Variable → Variable
  Changed x u = cond (x == target) (moved_variable n inverse u) u

  is-target : (x : ℕ) (u : Variable) → slice_get p.variables x ≡ Some u → (x == target) ≡ true → w ≡ u
  is-target x u here same = ap (λ o. option_map_or (λ a. a) o w) (sym declared ∙ (ap (λ y. slice_get p.variables y) (sym (eqb-true x target same)) ∙ here))

  -- a variable has the columns that it had
  same-width : (x : ℕ) (u : Variable) → slice_get p.variables x ≡ Some u → (Changed x u).domain.width ≡ u.domain.width
  same-width x u here = by (x == target) refl
    where
      by : (b : Bool) → (x == target) ≡ b → (cond b (moved_variable n inverse u) u).domain.width ≡ u.domain.width
      by true same = inverts.inverse_width ∙ ap (λ (v : Variable). v.domain.width) (is-target x u here same)
      by false same = refl

  same-role : (b : Bool) (u : Variable) → u.role ≡ (cond b (moved_variable n inverse u) u).role
  same-role true u = refl
  same-role false u = refl

  -- accesses to the variables as they are then
  moved-suits : (x : ℕ) (f : AffineMap) (width : ℕ) → Unit {0} → Suits n p.variables (access x f) width → Suits n there (moved_access n target basis x f) width
  moved-suits x f width t h = by (slice_get p.variables x) refl h.1
    where
      map-suits : (v : Variable) → slice_get p.variables x ≡ Some v → length f.rows ≡ indices n v → (b : Bool) → (x == target) ≡ b
          → ((cond b (composed_map basis (reading n f)) f).width ≡ width) × (length (cond b (composed_map basis (reading n f)) f).rows ≡ indices n v)
      map-suits v is a true same = (h.0.1, length-map basis.rows (λ row. composed row (reading n f)) ∙ (inverts.rows ∙ ap (λ (u : Variable). indices n u) (is-target x v is same)))
      map-suits v is a false same = (h.0.1, a)

      by : (o : Option Variable) → slice_get p.variables x ≡ o → MatchOption o ⊥ (λ (v : Variable). length f.rows ≡ indices n v) → Suits n there (moved_access n target basis x f) width
      by None is a = absurd a
      by (Some v) is a =
          let suits = map-suits v is a (x == target) refl in
          let found : slice_get there x ≡ Some (Changed x v) = changed-at (moved_variable n inverse) p.variables target x ∙ ap (option_map (λ u. Changed x u)) is in (
            (slice_get_within there x (Changed x v) found, suits.0),
            subst (λ o. MatchOption o ⊥ (λ (u : Variable). length (moved_map n target basis x f).rows ≡ indices n u)) (sym found)
                (suits.1 ∙ sym (ap (λ m. m - n) (same-width x v is))),
          )

  back-rows : length (reading n inverse).rows ≡ w.domain.width
  back-rows = omega (arith, length-append (unit_rows inverse.width 0 n) inverse.rows, length-map-range_with_len (λ column. unit_row inverse.width column) 0 n, inverts.inverse_rows, narrow)

  led-suits : (x : ℕ) (e : Term) (v : Variable) → slice_get p.variables x ≡ Some v → Suits n p.variables e v.domain.width → Suits n p.variables (led_back n target inverse x e) v.domain.width
  led-suits x e v here h = by (x == target) refl
    where
      by : (b : Bool) → (x == target) ≡ b → Suits n p.variables (cond b (put (reading n inverse) e) e) v.domain.width
      by true same =
          let is = is-target x v here same in
          let rows : v.domain.width ≡ length (reading n inverse).rows = ap (λ (u : Variable). u.domain.width) (sym is) ∙ sym back-rows in (
            subst (λ m. IsAtWidth (length p.variables) (put (reading n inverse) e) m) (inverts.inverse_width ∙ ap (λ (u : Variable). u.domain.width) is)
                (put-placed (length p.variables) (reading n inverse) e (subst (λ m. IsAtWidth (length p.variables) e m) rows h.0)),
            put-shaped n p.variables (reading n inverse) e h.1,
          )
      by false same = h

  defines : (d : Definition) → Defines n p.variables d → defined_as (definitions p) d.0 ≡ Some d.1 → Defines n there (d.0, moved_body n target basis inverse d.0 d.1)
  defines d h found = by (slice_get p.variables d.0) refl h
    where
      by : (o : Option Variable) → slice_get p.variables d.0 ≡ o → MatchOption o ⊥ (λ (v : Variable). (is_input v.role ≡ false) × IsAtWidth (length p.variables) d.1 v.domain.width × HasShape n p.variables d.1)
          → Defines n there (d.0, moved_body n target basis inverse d.0 d.1)
      by None is m = absurd m
      by (Some v) is m =
          let e = led_back n target inverse d.0 d.1 in
          let led = led-suits d.0 d.1 v is (m.1, m.2) in
          let suits = replaced-suits n p.variables there (λ x f. Unit {0}) (moved_access n target basis) moved-suits e v.domain.width (EachAccess-all (λ x f. Unit {0}) (λ x f. tt) e) led.0 led.1 in
          let at : slice_get there d.0 ≡ Some (Changed d.0 v) = changed-at (moved_variable n inverse) p.variables target d.0 ∙ ap (option_map (λ u. Changed d.0 u)) is in
          subst (λ o. MatchOption o ⊥ (λ (u : Variable). (is_input u.role ≡ false) × IsAtWidth (length there) (moved_body n target basis inverse d.0 d.1) u.domain.width × HasShape n there (moved_body n target basis inverse d.0 d.1))) (sym at)
          (ap is_input (sym (same-role (d.0 == target) v)) ∙ m.0, subst (λ k. IsAtWidth (length there) (moved_body n target basis inverse d.0 d.1) k) (sym (same-width d.0 v is)) suits.0, suits.1)

  was : (x : ℕ) (v : Variable) → slice_get there x ≡ Some v → (u : Variable) × (slice_get p.variables x ≡ Some u) × (u.role ≡ v.role)
  was x v here = by (slice_get p.variables x) refl (sym (changed-at (moved_variable n inverse) p.variables target x) ∙ here)
    where
      by : (o : Option Variable) → slice_get p.variables x ≡ o → option_map (λ u. Changed x u) o ≡ Some v → (u : Variable) × (slice_get p.variables x ≡ Some u) × (u.role ≡ v.role)
      by None is h = cc
      by (Some u) is h = (u, is, same-role (x == target) u ∙ ap (λ o. option_map_or (λ (a : Variable). a.role) o u.role) h)

  pub basis-fine : AreFine p there (map (λ (d : Definition). (d.0, moved_body n target basis inverse d.0 d.1)) (definitions p))
  basis-fine =
      let fine = parts-fine p program in
      redefined-fine p program (moved_body n target basis inverse) there
      (order-changed n inverse p.variables target fine.order)
      (all-changed n inverse (λ (v : Variable). n ≤ v.domain.width) (λ (v : Variable). n ≤ v.domain.width) (λ v h. h) (λ v h. omega (arith, inverts.inverse_width, narrow)) p.variables target fine.widths)
      (all-changed n inverse (λ (v : Variable). is_index_name v.name ≡ false) (λ (v : Variable). is_index_name v.name ≡ false) (λ v h. h) (λ v h. h) p.variables target fine.names)
      (apart-changed n inverse p.variables target fine.named_apart)
      was defines
