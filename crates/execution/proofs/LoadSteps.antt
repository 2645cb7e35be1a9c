-- A load finds the meaning of the instance that it names, and keeps a good state good.
use Rattle.std.proofs.Common.{◌≡◌, inr, ⊎_elim, ℕ, ◌≤◌, List, [], ◌∷◌, ◌++◌, length, slice_get, Some, refl, sym, ap, subst, ◌∙◌, arith}
use Rattle.std.specs.Prelude.{ℤ}
use Rattle.std.proofs.lemmas.List.{length_push}
use Rattle.execution.specs.Good.{IsGood, IsToMake}
use Rattle.execution.specs.Plans.{Load, Work, Plan, works_of, place, Stands}
use Rattle.execution.specs.Sound.{IsSound, AreFound}
use Rattle.execution.specs.States.{Worker, working, State, word, Works}
use Rattle.execution.specs.declared.instance.Instance.{Instance}
use Rattle.execution.proofs.Kept.{same_tile_kept}
use Rattle.execution.proofs.Lists.{changed, found-push}
use Rattle.execution.proofs.Places.{not_stored}
use Rattle.execution.proofs.Quiet.{quiet_keeps, HasValues}
use Rattle.execution.proofs.Workers.{replaced, Carries, replaced_quiet}

module _
    (means : Instance → ℤ → Type 0) (before : Instance → Instance → Type 0) (output : Instance → Type 0) (plan : Plan) (sound : IsSound means before output plan)
    (s : State) (good : IsGood means before output plan s)
    (k tile number : ℕ) (values : List ℤ) (works : Works s k tile number values)
    (w : Work) (stands : Stands plan (place s.wave tile number) w)
    (load : Load) (at : slice_get w.loads (length values) ≡ Some load) where
  -- nobody else works there, so that the load is still to be made
  to_make : IsToMake s (place s.wave tile number) (length values)
  to_make j others wave h = by (good.kept.alone j k tile number number others values h works)
    where
      by : j ≡ k → length others ≤ length values
      by same = let one : others ≡ values = same_values in omega (arith, ap length one)
        where
          same_values : others ≡ values
          same_values = cc

  pub load_finds : means load.named (word s load.cell)
  load_finds =
      let named = sound.named (place s.wave tile number) w stands (length values) load at in
      let earlier = sound.dependence (place s.wave tile number) w stands (length values) load at in
      let ready = good.reached k tile number values works w stands named.0 named.1 named.2 (subst (λ u. before u w.instance) (sym named.3) earlier) in
      good.loads (place s.wave tile number) w stands (not_stored s plan good.kept k tile number values works) (length values) load at to_make named.0 named.1 named.2 named.3 ready

  abbrev new : Worker
  new = working tile number (values ++ word s load.cell ∷ [])

  carries : Carries (working tile number values) new
  carries = record {
    gains = λ t n vs is. inr (values, was t n vs is);
    keeps = λ t n vs is. (values ++ word s load.cell ∷ [], longer t n vs is, same t n vs is);
  }
    where
      was : (t n : ℕ) (vs : List ℤ) → new ≡ working t n vs → working tile number values ≡ working t n values
      was t n vs is = let one : tile ≡ t = cc in let two : number ≡ n = cc in λ i. working (one i) (two i) values

      longer : (t n : ℕ) (vs : List ℤ) → working tile number values ≡ working t n vs → length vs ≤ length (values ++ word s load.cell ∷ [])
      longer t n vs is = let one : values ≡ vs = cc in let len = length_push values (word s load.cell) in omega (arith, ap length one, len)

      same : (t n : ℕ) (vs : List ℤ) → working tile number values ≡ working t n vs → new ≡ working t n (values ++ word s load.cell ∷ [])
      same t n vs is = let one : tile ≡ t = cc in let two : number ≡ n = cc in λ i. working (one i) (two i) (values ++ word s load.cell ∷ [])

  has_values : HasValues means before output plan (replaced s s.counter k new)
  has_values j t n vs h v sv =
      ⊎_elim (λ here. of_new here.1) (λ other. good.values j t n vs other.1 v sv)
      (changed s.workers k j (working tile number values) new (working t n vs) works h)
    where
      more : AreFound means w.loads (values ++ word s load.cell ∷ [])
      more = found-push means w.loads values load (word s load.cell) (good.values k tile number values works w stands) at load_finds

      of_new : working t n vs ≡ new → AreFound means v.loads vs
      of_new e =
          let one : tile ≡ t = cc in
          let two : number ≡ n = cc in
          let three : vs ≡ values ++ word s load.cell ∷ [] = cc in
          let here : slice_get (works_of plan s.wave tile) number ≡ Some v = (λ i. slice_get (works_of plan s.wave (one i)) (two i)) ∙ sv in
          let same : w ≡ v = cc in
          subst (AreFound means v.loads) (sym three) (subst (λ x. AreFound means x.loads (values ++ word s load.cell ∷ [])) same more)

  pub load_good : IsGood means before output plan (replaced s s.counter k (working tile number (values ++ word s load.cell ∷ [])))
  load_good = quiet_keeps means before output plan sound s (replaced s s.counter k new)
      (replaced_quiet plan s s.counter k (working tile number values) new works carries) good
      (same_tile_kept plan s good.kept k tile number values works number (values ++ word s load.cell ∷ []) (good.kept.within k tile number values works) s.cells refl)
      has_values
