-- The numbers that are set are coordinates.
use Rattle.std.proofs.Common.{◌≡◌, ℕ, ◌^◌, Bool, true, false, cond, List, [], ◌∷◌, refl, sym, subst, ◌∙◌}
use Rattle.std.specs.Prelude.{nat_lt, map, set, All, ℤ, unsigned_abs, Option, Some, None, IfSome, Ok, Err}
use Rattle.std.proofs.lemmas.Bool.{ltb-true}
use Rattle.std.proofs.lemmas.List.{length-map, length-set}
use Rattle.std.proofs.lemmas.List.Elements.{All-nil, All-cons, All-set}
use Rattle.az_lin.specs.Affine.{IsCoordinate}
use Rattle.az_lin.specs.declared.limit.Limit.TheVariants.{Coordinate}
use Rattle.az_ast.specs.System.{System}
use Rattle.session_state.specs.Settings.{Settings, AreSettings, unset, coordinate, set_parameter}
use Rattle.session_state.specs.declared.refusal.Refusal.TheVariants.{Limited}
use Rattle.session_state.specs.declared.stop.Stop.TheVariants.{Refused}

abbrev IsSetting : Option ℤ → Type 0
IsSetting setting = IfSome setting IsCoordinate

none_set : (names : List (List ℕ)) → All IsSetting (map (λ name. None) names)
none_set [] = All-nil IsSetting
none_set (name ∷ names) = All-cons IsSetting None (map (λ n. None) names) tt (none_set names)

pub unset_are : (p : System) → AreSettings p (unset p)
unset_are p = record { each = length-map p.params (λ name. None); coordinates = none_set p.params }

small_is : (number small : ℤ) → coordinate number (Ok small) → IsCoordinate small
small_is number small h = by (nat_lt (unsigned_abs number) (2 ^ 40)) refl h
  where
    by : (b : Bool) → nat_lt (unsigned_abs number) (2 ^ 40) ≡ b → Ok small ≡ cond b (Ok number) (Err (Refused (Limited Coordinate))) → IsCoordinate small
    by true test is = let same : small ≡ number = cc in subst IsCoordinate (sym same) (ltb-true (unsigned_abs number) (2 ^ 40) test)
    by false test is = cc

pub set_keeps : (p : System) (settings : Settings) (name : List ℕ) (number : ℤ) (after : Settings) → set_parameter p settings name number (Ok after) → AreSettings p settings → AreSettings p after
set_keeps p settings name number after (place, found, (small, is, made)) are =
    let same : after ≡ set settings place (Some small) = cc in
    subst (AreSettings p) (sym same) (record {
      each = length-set settings place (Some small) ∙ are.each;
      coordinates = All-set IsSetting settings place (Some small) (small_is number small is) are.coordinates;
    })
