-- The values of the parameters from what is set.
use Rattle.std.proofs.Common.{◌≡◌, ℕ, zero, suc, ◌+◌, ◌<◌, ◌^◌, List, [], ◌∷◌, length, get_or, take, Option, Some, None, refl, sym, ap, subst, ◌∙◌, arith, inl, inr}
use Rattle.std.specs.Prelude.{ℤ, map, All, IfSome, unsigned_abs, ◌++◌, Ok, Err}
use Rattle.std.proofs.lemmas.List.{take_more, map-append}
use Rattle.std.proofs.lemmas.List.Elements.{All-nil, All-cons, All-head, All-tail}
use Rattle.az_lin.specs.Affine.{IsEntry, IsCoordinate, HoldsSome}
use Rattle.az_ast.specs.System.{System}
use Rattle.az_ast.specs.declared.reason.Reason.TheVariants as reason
use Rattle.session_state.specs.Settings.{Settings}
use Rattle.session_state.specs.Steps.{TakesAlone}
use Rattle.session_state.specs.declared.refusal.Refusal.TheVariants.{Command}
use Rattle.session_state.specs.declared.stop.Stop.{Stop}
use Rattle.session_state.specs.declared.stop.Stop.TheVariants.{Refused}
use Rattle.data_commands.specs.Parameters.{all_set, params}

abbrev some : ℤ → Option ℤ
some z = Some z

-- one value more
pub value_more : (settings : Settings) (values after : List ℤ) (i : ℕ) (z : ℤ) (d : Option ℤ) → i < length settings → get_or settings i d ≡ Some z
    → map some values ≡ take i settings → after ≡ values ++ z ∷ [] → map some after ≡ take (i + 1) settings
value_more settings values after i z d within here so_far more =
    ap (map some) more ∙ map-append some values (z ∷ []) ∙ ap (λ (s : Settings). s ++ Some z ∷ []) so_far
    ∙ ap (λ (o : Option ℤ). take i settings ++ o ∷ []) (sym here) ∙ sym (take_more settings i d within)

-- where one isn't set, there are no values
pub unset_at : (settings : Settings) (i : ℕ) (d : Option ℤ) → i < length settings → get_or settings i d ≡ None → (values : List ℤ) → map some values ≡ settings → ⊥
unset_at [] i d within here values is = absurd (omega arith)
unset_at (s ∷ ss) i d within here [] is = cc
unset_at (s ∷ ss) zero d within here (z ∷ zs) is = let set : Some z ≡ s = cc in let none : Some z ≡ None = set ∙ here in cc
unset_at (s ∷ ss) (suc i) d within here (z ∷ zs) is =
    let rest : map some zs ≡ ss = cc in
    let l : i < length ss = omega arith in
    unset_at ss i d l here zs rest

entry_of : (z : ℤ) → IsCoordinate z → IsEntry z
entry_of z small = let l : unsigned_abs z < 2 ^ 40 = small in omega (arith, l)

pub entries : (values : List ℤ) (settings : Settings) → map some values ≡ settings → All (λ setting. IfSome setting IsCoordinate) settings → All IsEntry values
entries [] settings is small = All-nil IsEntry
entries (z ∷ zs) [] is small = cc
entries (z ∷ zs) (s ∷ ss) is small =
    let here : s ≡ Some z = cc in
    let rest : map some zs ≡ ss = cc in
    All-cons IsEntry z zs (entry_of z (subst (λ (o : Option ℤ). IfSome o IsCoordinate) here (All-head (λ o. IfSome o IsCoordinate) s ss small)))
    (entries zs ss rest (All-tail (λ o. IfSome o IsCoordinate) s ss small))

pub same_values : (xs ys : List ℤ) → map some xs ≡ map some ys → xs ≡ ys
same_values [] [] is = refl
same_values [] (y ∷ ys) is = cc
same_values (x ∷ xs) [] is = cc
same_values (x ∷ xs) (y ∷ ys) is =
    let here : x ≡ y = cc in
    let rest : map some xs ≡ map some ys = cc in
    ap (λ z. z ∷ xs) here ∙ ap (λ zs. y ∷ zs) (same_values xs ys rest)

-- the values lie outside the parameters' domain
pub outside : (p : System) (settings : Settings) (values : List ℤ) (stop : Stop) → all_set settings (Ok values) → (HoldsSome p.pdom values → ⊥)
    → stop ≡ Refused (Command reason.Params) → TakesAlone (params p settings) (Err stop)
outside p settings values stop set out is =
    subst (λ (s : Stop). TakesAlone (params p settings) (Err s)) (sym is) (inr (values, set, inl (refl, out)))
