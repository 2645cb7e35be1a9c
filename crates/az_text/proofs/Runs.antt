-- The longest front of bytes that pass a test.
use Rattle.std.proofs.Common.{◌≡◌, ℕ, suc, ◌+◌, ◌≤◌, Bool, true, false, cond, List, [], ◌∷◌, ◌++◌, take, drop, length, refl, sym, ap, ◌∙◌, subst, arith}
use Rattle.std.proofs.lemmas.Bool.{false≢true, cond-true, cond-false}
use Rattle.std.proofs.Math.Numerals.{one-add}
use Rattle.std.specs.List.{prefix_len}
use Rattle.az_text.specs.Tokens.{AllAre}

-- the text doesn't begin with a byte that passes
abbrev pub Stops : (ℕ → Bool) → List ℕ → Type 0
Stops p [] = Unit {0}
Stops p (b ∷ rest) = p b ≡ false

-- what holds of the text cut at a place holds at the first that doesn't pass
at_run : (p : ℕ → Bool) (b : ℕ) (text : List ℕ) (P : ℕ → Type 0) → (p b ≡ true → P (suc (prefix_len p text))) → (p b ≡ false → P 0) → P (prefix_len p (b ∷ text))
at_run p b text P more none =
    let by : (t : Bool) → p b ≡ t → P (cond t (1 + prefix_len p text) 0)
    = λ t. elim t as (λ t. p b ≡ t → P (cond t (1 + prefix_len p text) 0)) [
      | true ↦ λ e. subst P (sym (one-add (prefix_len p text))) (more e)
      | false ↦ λ e. none e
    ] in
    by (p b) refl

pub run_passes : (p : ℕ → Bool) (text : List ℕ) → AllAre p (take (prefix_len p text) text)
run_passes p [] = tt
run_passes p (b ∷ text) = at_run p b text (λ n. AllAre p (take n (b ∷ text))) (λ e. (e, run_passes p text)) (λ e. tt)

pub run_stops : (p : ℕ → Bool) (text : List ℕ) → Stops p (drop (prefix_len p text) text)
run_stops p [] = tt
run_stops p (b ∷ text) = at_run p b text (λ n. Stops p (drop n (b ∷ text))) (λ e. run_stops p text) (λ e. e)

-- where a byte follows that doesn't pass, no longer front passes
pub run_longest : (p : ℕ → Bool) (bytes rest more after : List ℕ) → Stops p rest → AllAre p more → more ++ after ≡ bytes ++ rest → length more ≤ length bytes
run_longest p bytes rest [] after stops passes same = omega arith
run_longest p [] [] (x ∷ more) after stops passes same = absurd (cc)
run_longest p [] (b ∷ rest) (x ∷ more) after stops passes same =
    let head : x ≡ b = cc in
    absurd (false≢true (sym stops ∙ ap p (sym head) ∙ passes.0))
run_longest p (b ∷ bytes) rest (x ∷ more) after stops passes same =
    let tail : more ++ after ≡ bytes ++ rest = cc in
    let rest_is = run_longest p bytes rest more after stops passes.1 tail in
    omega arith

-- two fronts of passing bytes, each followed by one that doesn't pass, are one
pub run_only : (p : ℕ → Bool) (bytes rest more after : List ℕ) → AllAre p bytes → Stops p rest → AllAre p more → Stops p after → more ++ after ≡ bytes ++ rest → more ≡ bytes
run_only p [] rest [] after pb sb pm sm same = refl
run_only p [] [] (x ∷ more) after pb sb pm sm same = absurd (cc)
run_only p [] (b ∷ rest) (x ∷ more) after pb sb pm sm same =
    let head : x ≡ b = cc in
    absurd (false≢true (sym sb ∙ ap p (sym head) ∙ pm.0))
run_only p (b ∷ bytes) rest [] [] pb sb pm sm same = absurd (cc)
run_only p (b ∷ bytes) rest [] (x ∷ after) pb sb pm sm same =
    let head : x ≡ b = cc in
    absurd (false≢true (sym sm ∙ ap p head ∙ pb.0))
run_only p (b ∷ bytes) rest (x ∷ more) after pb sb pm sm same =
    let head : x ≡ b = cc in
    let tail : more ++ after ≡ bytes ++ rest = cc in
    let front = run_only p bytes rest more after pb.1 sb pm.1 sm tail in
    cc

-- the run of passing bytes, followed by one that doesn't pass
pub run_len : (p : ℕ → Bool) (bytes rest : List ℕ) → AllAre p bytes → Stops p rest → prefix_len p (bytes ++ rest) ≡ length bytes
run_len p [] [] passes stops = refl
run_len p [] (b ∷ rest) passes stops = cond-false (p b) _ _ stops
run_len p (b ∷ bytes) rest passes stops =
    cond-true (p b) _ _ passes.0 ∙ one-add (prefix_len p (bytes ++ rest)) ∙ ap suc (run_len p bytes rest passes.1 stops)
