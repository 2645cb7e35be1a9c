-- Where no output or local lacks a map, the mapping is complete.
use Rattle.std.proofs.Common.{◌≡◌, ℕ, zero, suc, ◌+◌, List, [], ◌∷◌, Bool, true, false, not, ◌&&◌, ◌||◌, Option, Some, None, refl, sym, ap, subst, ◌∙◌, arith}
use Rattle.std.specs.Prelude.{if◌then◌else◌, slice_get, is_none}
use Rattle.std.specs.FinMap.{get}
use Rattle.std.specs.Option.{option_map_or}
use Rattle.az_lin.specs.Affine.{AffineMap}
use Rattle.az_ast.specs.Shapes.{of_variable, is_input}
use Rattle.az_ast.specs.System.{System}
use Rattle.az_ast.specs.declared.program.Variable.{Variable}
use Rattle.az_ast.specs.declared.reason.Reason.TheVariants.{Unmapped}
use Rattle.az_ast.proofs.ShapeParts.{neither}
use Rattle.target_map.specs.Refusals.{lacks_map, unmapped_from}
use Rattle.target_map.specs.Settings.{TargetMapping, Fits, IsComplete, is_written}
use Rattle.target_map.specs.declared.storage.Storage.{Storage}

there_is : {A : Type 0} (o : Option A) → is_none o ≡ false → (x : A) × (o ≡ Some x)
there_is None is = cc
there_is (Some x) is = (x, refl)

-- each variable in turn
none_lacks : (m : TargetMapping) (n : ℕ) (variables : List Variable) → unmapped_from m n variables ≡ None → (i : ℕ) (v : Variable) → slice_get variables i ≡ Some v → lacks_map m (n + i) v ≡ false
none_lacks m n [] none i v is = cc
none_lacks m n (w ∷ variables) none i v is = by (lacks_map m n w) refl none i v is (λ rest j u there. none_lacks m (suc n) variables rest j u there)
  where
    by : (b : Bool) → lacks_map m n w ≡ b → (if b then Some (Unmapped w.name) else unmapped_from m (suc n) variables) ≡ None → (i : ℕ) (v : Variable) → slice_get (w ∷ variables) i ≡ Some v
        → (unmapped_from m (suc n) variables ≡ None → (j : ℕ) (u : Variable) → slice_get variables j ≡ Some u → lacks_map m (suc n + j) u ≡ false) → lacks_map m (n + i) v ≡ false
    by true lacks none i v is rest = let two : Some (Unmapped w.name) ≡ None = none in cc
    by false lacks none zero v is rest =
        let same : w ≡ v = ap (λ o. option_map_or (λ y. y) o w) is in
        let at : n + 0 ≡ n = omega arith in
        subst (λ u. lacks_map m (n + 0) u ≡ false) same (subst (λ k. lacks_map m k w ≡ false) (sym at) lacks)
    by false lacks none (suc i) v is rest =
        let at : suc n + i ≡ n + suc i = omega arith in
        subst (λ k. lacks_map m k v ≡ false) at (rest none i v is)

module _ (p : System) (m : TargetMapping) (none : unmapped_from m 0 p.variables ≡ None) where
  both_set : (x : ℕ) → is_written p x → (is_none (get m.times x) ≡ false) × (is_none (get m.storages x) ≡ false)
  both_set x written = by (slice_get p.variables x) refl written
    where
      by : (o : Option Variable) → slice_get p.variables x ≡ o → option_map_or (λ (v : Variable). not (is_input v.role)) o false ≡ true
          → (is_none (get m.times x) ≡ false) × (is_none (get m.storages x) ≡ false)
      by None is written = cc
      by (Some v) is written =
          let at : 0 + x ≡ x = omega arith in
          let lacks : lacks_map m x v ≡ false = subst (λ k. lacks_map m k v ≡ false) at (none_lacks m 0 p.variables none x v is) in
          let some : (true && (is_none (get m.times x) || is_none (get m.storages x))) ≡ false = subst (λ b. (b && (is_none (get m.times x) || is_none (get m.storages x))) ≡ false) written lacks in
          neither (is_none (get m.times x)) (is_none (get m.storages x)) some

  pub complete_of : Fits p m → IsComplete p m
  complete_of fits = record {
    fits = fits;
    times = λ x written. there_is (get m.times x) (both_set x written).0;
    storages = λ x written. there_is (get m.storages x) (both_set x written).1;
  }
