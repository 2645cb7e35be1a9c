-- Events that store nothing: the words stay, and so do the stored instances.
use Rattle.std.proofs.Common.{◌≡◌, inl, inr, ⊎_elim, ℕ, List, get_or, sym, ap, subst, ◌∙◌}
use Rattle.std.specs.Prelude.{ℤ, pos}
use Rattle.execution.specs.Good.{IsKept, IsToMake, IsBlank, HoldsSome, IsGood}
use Rattle.execution.specs.Plans.{Work, Plan, place, Stands}
use Rattle.execution.specs.Sound.{IsSound, AreFound}
use Rattle.execution.specs.States.{State, word, Works, IsStored}
use Rattle.execution.specs.declared.instance.Instance.{Instance}
use Rattle.execution.specs.declared.place.Place.{Place}
use Rattle.execution.proofs.Places.{passed, reached}

pub record IsQuiet (plan : Plan) (s t : State) : Type 0 where
  pub cells : t.cells ≡ s.cells
  pub forth : (q : Place) (v : Work) → Stands plan q v → IsStored s q → IsStored t q
  pub back : (q : Place) (v : Work) → Stands plan q v → IsStored t q → IsStored s q
  pub to_make : (p : Place) (w : Work) (j : ℕ) → Stands plan p w → (IsStored t p → ⊥) → IsToMake t p j → IsToMake s p j

module _ (means : Instance → ℤ → Type 0) (before : Instance → Instance → Type 0) (output : Instance → Type 0) (plan : Plan) where
  abbrev pub HasValues : State → Type 0
  HasValues s =
      (k tile number : ℕ) (values : List ℤ) → Works s k tile number values → (w : Work) → Stands plan (place s.wave tile number) w → AreFound means w.loads values

  pub quiet_keeps : IsSound means before output plan → (s t : State) → IsQuiet plan s t → IsGood means before output plan s → IsKept plan t → HasValues t → IsGood means before output plan t
  quiet_keeps sound s t quiet good kept values = record {
    kept = kept;
    cells = λ cell l. ⊎_elim (λ b. inl (blank cell b)) (λ h. inr (holds cell h)) (good.cells cell l);
    loads = λ p w sp unstored j load at made q v sq named st. same load.named load.cell
        (good.loads p w sp (λ h. unstored (quiet.forth p w sp h)) j load at (quiet.to_make p w j sp unstored made) q v sq named (quiet.back q v sq st));
    outputs = λ p w sp is st. same w.instance w.cell (good.outputs p w sp is (quiet.back p w sp st));
    values = values;
    passed = passed means before output plan sound t;
    reached = reached means before output plan sound t;
  }
    where
      same : (u : Instance) (cell : ℕ) → means u (word s cell) → means u (word t cell)
      same u cell m = subst (λ cells. means u (get_or cells cell (pos 0))) (sym quiet.cells) m

      blank : (cell : ℕ) → IsBlank means before output plan s cell → IsBlank means before output plan t cell
      blank cell b = (ap (λ cells. get_or cells cell (pos 0)) quiet.cells ∙ b.0, λ p w sp at st. b.1 p w sp at (quiet.back p w sp st))

      holds : (cell : ℕ) → HoldsSome means before output plan s cell → HoldsSome means before output plan t cell
      holds cell h = (h.0, h.1, h.2, h.3, quiet.forth h.0 h.1 h.2 h.4, same h.1.instance cell h.5)
