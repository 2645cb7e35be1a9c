-- The names of variables after a change, and the refusals that name them.
use Rattle.std.proofs.Common.{◌≡◌, ℕ, suc, ◌+◌, ◌-◌, ◌<◌, ◌≤◌, ◌^◌, min, List, [], length, Bool, true, false, cond, Option, Some, None, refl, sym, ap, ◌∙◌, arith}
use Rattle.std.specs.Prelude.{slice_get, nat_lt, ◌==◌, option_map}
use Rattle.std.specs.Option.{option_map_or}
use Rattle.std.proofs.lemmas.Bool.{ltb-true, ltb-false}
use Rattle.std.proofs.lemmas.Option.{slice_get_past}
use Rattle.az_ast.specs.System.{System}
use Rattle.az_ast.specs.declared.program.Variable.{Variable}
use Rattle.az_ast.specs.declared.reason.Reason.{Reason as Why}
use Rattle.az_lin.specs.Affine.{AffineMap}
use Rattle.change_basis.proofs.Changed.{changed-at}
use Rattle.change_basis.specs.Basis.{moved_variable, rebased}
use Rattle.domain_check.specs.declared.fault.CertifyFault.TheVariants as certify
use Rattle.inline_eqs.proofs.ClosedUp.{before-same, behind-same}
use Rattle.inline_eqs.specs.Removal.{without}
use Rattle.program_commands.specs.Programs.{variable_name}
use Rattle.rewriting.specs.Named.{number_of}
use Rattle.rewriting.specs.declared.fault.ChangeFault.{ChangeFault}
use Rattle.rewriting.specs.declared.fault.ChangeFault.TheVariants.{Reason, Certify, Overflow, Limit, Memory}
use Rattle.session_state.specs.declared.refusal.Refusal.TheVariants as refusal
use Rattle.session_state.specs.declared.refusal.Spot.TheVariants as spot
use Rattle.rewrite_commands.specs.Inner.{change_refusal, number_before, certified_before, change_before}

-- the same names under the same numbers
pub same_refusals : (p q : System) → ((x : ℕ) → variable_name p x ≡ variable_name q x) → (fault : ChangeFault) → change_refusal p fault ≡ change_refusal q fault
same_refusals p q names (Reason reason) = refl
same_refusals p q names (Certify (certify.No found)) = ap (λ (name : List ℕ). Some (refusal.ProgramNo found.kind name found.case_no found.point)) (names found.variable)
same_refusals p q names (Certify (certify.Overflow kind x number)) = ap (λ (name : List ℕ). Some (refusal.Overflow (spot.Check kind name number))) (names x)
same_refusals p q names (Certify certify.Entry) = refl
same_refusals p q names (Certify (certify.Limit limit)) = refl
same_refusals p q names (Certify certify.Memory) = refl
same_refusals p q names (Overflow number) = refl
same_refusals p q names (Limit limit) = refl
same_refusals p q names Memory = refl

abbrev name_in : Option Variable → List ℕ
name_in o = option_map_or (λ (v : Variable). v.name) o []

module _ (p : System) (target : ℕ) (basis inverse : AffineMap) where
  pub rebased_names : (x : ℕ) → variable_name p x ≡ variable_name (rebased p target basis inverse) x
  rebased_names x = by (slice_get p.variables x) ∙ ap name_in (sym (changed-at change p.variables target x))
    where
      change : Variable → Variable
      change v = moved_variable (length p.params) inverse v

      by : (o : Option Variable) → name_in o ≡ name_in (option_map (λ v. cond (x == target) (change v) v) o)
      by None = refl
      by (Some v) = chosen (x == target)
        where
          chosen : (b : Bool) → v.name ≡ (cond b (change v) v).name
          chosen true = refl
          chosen false = refl

-- a name of what is left, by the number that it had
module _ (p : System) (few : length p.variables ≤ 256) (gone : ℕ) where
  past : (x : ℕ) → 256 ≤ x → name_in (slice_get p.variables x) ≡ []
  past x far = ap name_in (slice_get_past p.variables x (omega (arith, far, few)))

  behind : (x : ℕ) → name_in (slice_get p.variables (min (x + 1) (2 ^ 32 - 1))) ≡ name_in (slice_get p.variables (suc x))
  behind x = by (nat_lt (suc x) (2 ^ 32)) refl
    where
      by : (b : Bool) → nat_lt (suc x) (2 ^ 32) ≡ b → name_in (slice_get p.variables (min (x + 1) (2 ^ 32 - 1))) ≡ name_in (slice_get p.variables (suc x))
      by true h =
          let small : suc x < 2 ^ 32 = ltb-true (suc x) (2 ^ 32) h in
          ap (λ n. name_in (slice_get p.variables n)) (let e : min (x + 1) (2 ^ 32 - 1) ≡ suc x = omega (arith, small) in e)
      by false h =
          let large : 2 ^ 32 ≤ suc x = ltb-false (suc x) (2 ^ 32) h in
          past (min (x + 1) (2 ^ 32 - 1)) (omega (arith, large)) ∙ sym (past (suc x) (omega (arith, large)))

  pub removed_names : (x : ℕ) → variable_name p (number_before gone x) ≡ variable_name (without p gone) x
  removed_names x = by (nat_lt x gone) refl
    where
      by : (b : Bool) → nat_lt x gone ≡ b → name_in (slice_get p.variables (cond b x (min (x + 1) (2 ^ 32 - 1)))) ≡ variable_name (without p gone) x
      by true h = ap name_in (sym (before-same p.variables gone x (ltb-true x gone h)))
      by false h = behind x ∙ ap name_in (sym (behind-same p.variables gone x (ltb-false x gone h)))

  pub removed_refusals : (fault : ChangeFault) → change_refusal p (certified_before gone fault) ≡ change_refusal (without p gone) fault
  removed_refusals (Reason reason) = refl
  removed_refusals (Certify (certify.No found)) = ap (λ (name : List ℕ). Some (refusal.ProgramNo found.kind name found.case_no found.point)) (removed_names found.variable)
  removed_refusals (Certify (certify.Overflow kind x number)) = ap (λ (name : List ℕ). Some (refusal.Overflow (spot.Check kind name number))) (removed_names x)
  removed_refusals (Certify certify.Entry) = refl
  removed_refusals (Certify (certify.Limit limit)) = refl
  removed_refusals (Certify certify.Memory) = refl
  removed_refusals (Overflow number) = refl
  removed_refusals (Limit limit) = refl
  removed_refusals Memory = refl

-- what is no fault of a certification stays
module _ (p : System) (name : List ℕ) where
  pub reason_before : (why : Why) → change_refusal p (change_before p name (Reason why)) ≡ Some (refusal.Command why)
  reason_before why = by (number_of p name)
    where
      by : (o : Option ℕ) → change_refusal p (option_map_or (λ gone. certified_before gone (Reason why)) o (Reason why)) ≡ Some (refusal.Command why)
      by None = refl
      by (Some gone) = refl

  pub memory_before : change_refusal p (change_before p name Memory) ≡ None
  memory_before = by (number_of p name)
    where
      by : (o : Option ℕ) → change_refusal p (option_map_or (λ gone. certified_before gone Memory) o Memory) ≡ None
      by None = refl
      by (Some gone) = refl

  pub found_before : (gone : ℕ) (fault : ChangeFault) → number_of p name ≡ Some gone → change_before p name fault ≡ certified_before gone fault
  found_before gone fault is = ap (λ o. option_map_or (λ x. certified_before x fault) o fault) is
