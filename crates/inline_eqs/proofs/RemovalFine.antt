-- What is left without a local that no other equation reads keeps the rules on places and shapes.
use Rattle.std.proofs.Common.{◌≡◌, ℕ, zero, suc, ◌≤◌, List, [], ◌∷◌, ◌++◌, length, take, drop, Bool, true, false, cond, ◌||◌, Option, Some, None, refl, sym, ap, subst, ◌∙◌}
use Rattle.std.specs.Prelude.{slice_get, MatchOption, filter_map, ◌==◌}
use Rattle.std.specs.List.{AllByRecursion, cons_option, list_any}
use Rattle.std.proofs.lemmas.Bool.{eqb-true, eqb-false, ne_eqb}
use Rattle.std.proofs.lemmas.Option.{slice_get_within}
use Rattle.az_lin.specs.Affine.{AffineMap}
use Rattle.az_ast.specs.Placed.{AreInOrder, IsAtWidth, rank}
use Rattle.az_ast.specs.Shapes.{IsProgram, is_input, is_index_name, indices}
use Rattle.az_ast.specs.System.{System}
use Rattle.az_ast.specs.Term.{access}
use Rattle.az_ast.specs.declared.program.Variable.{Variable}
use Rattle.az_ast.proofs.TermShapes.{HasShape}
use Rattle.expr_maps.specs.Answers.{EachAccess}
use Rattle.expr_maps.specs.Replaced.{replaced}
use Rattle.rewriting.proofs.Accesses.{IsOther}
use Rattle.rewriting.proofs.FineParts.{AreFine, Defines, has_name_of, parts-fine}
use Rattle.rewriting.proofs.Items.{Apart}
use Rattle.rewriting.proofs.Lookups.{defines_same}
use Rattle.rewriting.proofs.Shaped.{Suits, replaced-suits}
use Rattle.rewriting.specs.Definitions.{Definition, definitions}
use Rattle.inline_eqs.specs.Removal.{closed_up, renumbered, definition_without, variables_without}
use Rattle.inline_eqs.proofs.ClosedUp.{closed-same, item-same, item-from}

-- a list without one item
module _ {A : Type 0} where
  all-drop : (P : A → Type 0) (xs : List A) (i : ℕ) → AllByRecursion P xs → AllByRecursion P (drop i xs)
  all-drop P xs zero all = all
  all-drop P [] (suc i) all = tt
  all-drop P (x ∷ xs) (suc i) all = all-drop P xs i all.1

  all-without : (P : A → Type 0) (xs : List A) (i : ℕ) → AllByRecursion P xs → AllByRecursion P (take i xs ++ drop (suc i) xs)
  all-without P [] zero all = tt
  all-without P [] (suc i) all = tt
  all-without P (x ∷ xs) zero all = all.1
  all-without P (x ∷ xs) (suc i) all = (all.0, all-without P xs i all.1)

  apart-without : (hits : A → A → Bool) (xs : List A) (i : ℕ) → Apart hits xs → Apart hits (take i xs ++ drop (suc i) xs)
  apart-without hits [] zero apart = tt
  apart-without hits [] (suc i) apart = tt
  apart-without hits (x ∷ xs) zero apart = apart.1
  apart-without hits (x ∷ xs) (suc i) apart = (all-without (λ y. hits x y ≡ false) xs i apart.0, apart-without hits xs i apart.1)

order-without : (vs : List Variable) (i : ℕ) → AreInOrder vs → AreInOrder (take i vs ++ drop (suc i) vs)
order-without [] zero order = tt
order-without [] (suc i) order = tt
order-without (v ∷ vs) zero order = order.1
order-without (v ∷ vs) (suc i) order = (all-without (λ (w : Variable). rank v.role ≤ rank w.role) vs i order.0, order-without vs i order.1)

module _ (p : System) (program : IsProgram p) (gone : ℕ) (unread : AllByRecursion (λ (d : Definition). (d.0 == gone) ≡ false → EachAccess (IsOther gone) d.1) (definitions p)) where
  abbrev n : ℕ
  n = length p.params

  abbrev vs : List Variable
  vs = p.variables

  abbrev left : List Variable
  left = variables_without gone vs

  abbrev New : Definition → Definition
  New d = (closed_up gone d.0, replaced (renumbered gone) d.1)

  -- a fact on each that stays
  kept : (P Q : Definition → Type 0) → ((d : Definition) → (d.0 == gone) ≡ false → P d → Q (New d)) → (ds : List Definition) → AllByRecursion P ds → AllByRecursion Q (filter_map (definition_without gone) ds)
  kept P Q to [] all = tt
  kept P Q to (d ∷ ds) all = by (d.0 == gone) refl (kept P Q to ds all.1)
    where
      by : (b : Bool) → (d.0 == gone) ≡ b → AllByRecursion Q (filter_map (definition_without gone) ds) → AllByRecursion Q (cons_option (cond b None (Some (New d))) (filter_map (definition_without gone) ds))
      by true same rest = rest
      by false other rest = (to d other all.0, rest)

  -- an access to another variable
  access-suits : (x : ℕ) (f : AffineMap) (width : ℕ) → IsOther gone x f → Suits n vs (access x f) width → Suits n left (renumbered gone x f) width
  access-suits x f width other h = by (slice_get vs x) refl h.1
    where
      by : (o : Option Variable) → slice_get vs x ≡ o → MatchOption o ⊥ (λ (v : Variable). length f.rows ≡ indices n v) → Suits n left (renumbered gone x f) width
      by None is a = absurd a
      by (Some v) is a =
          let there : slice_get left (closed_up gone x) ≡ Some v = item-same vs gone x other ∙ is in
          ((slice_get_within left (closed_up gone x) v there, h.0.1), subst (λ o. MatchOption o ⊥ (λ (u : Variable). length f.rows ≡ indices n u)) (sym there) a)

  defines : (d : Definition) → (d.0 == gone) ≡ false → Defines n vs d × ((d.0 == gone) ≡ false → EachAccess (IsOther gone) d.1) → Defines n left (New d)
  defines d other h = by (slice_get vs d.0) refl h.0
    where
      by : (o : Option Variable) → slice_get vs d.0 ≡ o → MatchOption o ⊥ (λ (v : Variable). (is_input v.role ≡ false) × IsAtWidth (length vs) d.1 v.domain.width × HasShape n vs d.1) → Defines n left (New d)
      by None is m = absurd m
      by (Some v) is m =
          let suits = replaced-suits n vs left (IsOther gone) (renumbered gone) access-suits d.1 v.domain.width (h.1 other) m.1 m.2 in
          subst (λ o. MatchOption o ⊥ (λ (u : Variable). (is_input u.role ≡ false) × IsAtWidth (length left) (New d).1 u.domain.width × HasShape n left (New d).1)) (sym (item-same vs gone d.0 other ∙ is))
          (m.0, suits.0, suits.1)

  both : (ds : List Definition) → AllByRecursion (Defines n vs) ds → AllByRecursion (λ (d : Definition). (d.0 == gone) ≡ false → EachAccess (IsOther gone) d.1) ds
      → AllByRecursion (λ (d : Definition). Defines n vs d × ((d.0 == gone) ≡ false → EachAccess (IsOther gone) d.1)) ds
  both [] a b = tt
  both (d ∷ ds) a b = ((a.0, b.0), both ds a.1 b.1)

  apart-kept : (ds : List Definition) → Apart defines_same ds → Apart defines_same (filter_map (definition_without gone) ds)
  apart-kept [] apart = tt
  apart-kept (d ∷ ds) apart = by (d.0 == gone) refl (apart-kept ds apart.1)
    where
      by : (b : Bool) → (d.0 == gone) ≡ b → Apart defines_same (filter_map (definition_without gone) ds) → Apart defines_same (cons_option (cond b None (Some (New d))) (filter_map (definition_without gone) ds))
      by true same rest = rest
      by false other rest = (kept (λ (e : Definition). (d.0 == e.0) ≡ false) (λ (e : Definition). (closed_up gone d.0 == e.0) ≡ false) (λ e other' h. closed-same gone d.0 e.0 other other' ∙ h) ds apart.0, rest)

  any-kept : (x : ℕ) → (x == gone) ≡ false → (ds : List Definition) → list_any (λ (d : Definition). d.0 == closed_up gone x) (filter_map (definition_without gone) ds) ≡ list_any (λ (d : Definition). d.0 == x) ds
  any-kept x other [] = refl
  any-kept x other (d ∷ ds) = by (d.0 == gone) refl (any-kept x other ds)
    where
      by : (b : Bool) → (d.0 == gone) ≡ b → list_any (λ (e : Definition). e.0 == closed_up gone x) (filter_map (definition_without gone) ds) ≡ list_any (λ (e : Definition). e.0 == x) ds → list_any (λ (e : Definition). e.0 == closed_up gone x) (cons_option (cond b None (Some (New d))) (filter_map (definition_without gone) ds)) ≡ list_any (λ (e : Definition). e.0 == x) (d ∷ ds)
      by true same rest =
          rest
          ∙ ap (λ b. b || list_any (λ (e : Definition). e.0 == x) ds) (sym (ne_eqb d.0 x (λ s. eqb-false x gone other (sym s ∙ eqb-true d.0 gone same))))
      by false here rest =
          ap (λ b. b || list_any (λ (e : Definition). e.0 == closed_up gone x) (filter_map (definition_without gone) ds)) (closed-same gone d.0 x here other)
          ∙ ap (λ b. (d.0 == x) || b) rest

  pub removal-fine : AreFine p left (filter_map (definition_without gone) (definitions p))
  removal-fine =
      let fine = parts-fine p program in
      record {
        order = order-without vs gone fine.order;
        widths = all-without (λ (v : Variable). n ≤ v.domain.width) vs gone fine.widths;
        names = all-without (λ (v : Variable). is_index_name v.name ≡ false) vs gone fine.names;
        named_apart = apart-without has_name_of vs gone fine.named_apart;
        bodies = kept (λ (d : Definition). Defines n vs d × ((d.0 == gone) ≡ false → EachAccess (IsOther gone) d.1)) (Defines n left) defines (definitions p) (both (definitions p) fine.bodies unread);
        defined_apart = apart-kept (definitions p) fine.defined_apart;
        complete = λ y v there written.
            let from = item-from vs gone y in
            subst (λ m. list_any (λ (d : Definition). d.0 == m) (filter_map (definition_without gone) (definitions p)) ≡ true) from.2
            (any-kept from.0 from.1 (definitions p) ∙ fine.complete from.0 v (sym from.3 ∙ there) written);
      }
