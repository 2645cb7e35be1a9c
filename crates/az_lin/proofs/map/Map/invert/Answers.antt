use Rattle.std.proofs.Common.{◌≡◌, ◌+◌, ◌<◌, ◌∙◌, sym, ap, subst, ℕ, length, All, List, Err, to_z, of_z, arith, rules}
use Rattle.std.proofs.lemmas.Bool.{false≢true}
use Rattle.az_lin.specs.Affine.{Affine, HasWidth}
use Rattle.az_lin.specs.Inversion.{Tableau, HavePivots, inverse_numerators}
use Rattle.az_lin.proofs.InversionEnd.{final_sound, final_pivots, rest_some, rest_none, IsSound, length-inverse_numerators}
use Rattle.az_lin.specs.InversionAnswer.{IsInversion}
use Rattle.az_lin.proofs.Undone.{ok_undoes, rational_undoes}
use Rattle.std.specs.Int.{w128}
use Rattle.az_lin.specs.declared.fault.LinFault.TheVariants.{NoInverse}
use Rattle.az_lin.specs.declared.fault.NoInverse.TheVariants.{Kernel, Rational}
use Rattle.az_lin.proofs.KernelLaws.{kernel_refused}
use Rattle.az_lin.proofs.LeastDenominator.{rational_least, kernel_shortest}
use Rattle.az_lin.proofs.map.Map.invert.Goals as goal

widths_of : (params width : ℕ) (rows counted : List Affine) → width ≡ params + length rows → counted ≡ rows → All (HasWidth width) counted → All (HasWidth (params + length rows)) rows
widths_of params width rows counted square same h = subst (λ w. All (HasWidth w) rows) square (subst (All (HasWidth width)) same h)

pub eliminated-requires-clause-widths : goal.eliminated-requires-clause-widths
eliminated-requires-clause-widths c = widths_of c.args.params c.args.self.now.width c.args.self.now.rows c.rows-count.result.now c.requires.square c.rows-count.ensures.value c.rows-count.ensures.widths

pub kernel-requires-clause-pivots : goal.kernel-requires-clause-pivots
kernel-requires-clause-pivots c =
    let rows = c.args.self.now.rows in
    let wide = widths_of c.args.params c.args.self.now.width rows c.rows-count.result.now c.requires.square c.rows-count.ensures.value c.rows-count.ensures.widths in
    let found = rw c.in-Some.is at c.in_ok-reduced.ensures.exact in
    subst (λ (t : Tableau). HavePivots 0 t.pivots) (sym found.1) (final_pivots c.args.params rows wide)

pub kernel-requires-clause-widths : goal.kernel-requires-clause-widths
kernel-requires-clause-widths c =
    let rows = c.args.self.now.rows in
    let wide = widths_of c.args.params c.args.self.now.width rows c.rows-count.result.now c.requires.square c.rows-count.ensures.value c.rows-count.ensures.widths in
    let found = rw c.in-Some.is at c.in_ok-reduced.ensures.exact in
    let sound : IsSound (length rows) c.in-Some.reduced = subst (IsSound (length rows)) (sym found.1) (final_sound c.args.params rows wide) in
    subst (λ m. All (λ (row : Affine). length row.coefs ≡ m + m) c.in-Some.reduced.pivots) (sym (ap length c.rows-count.ensures.value)) sound.size.pivot_widths

pub kernel-requires-clause-short : goal.kernel-requires-clause-short
kernel-requires-clause-short c =
    let rows = c.args.self.now.rows in
    let wide = widths_of c.args.params c.args.self.now.width rows c.rows-count.result.now c.requires.square c.rows-count.ensures.value c.rows-count.ensures.widths in
    let found = rw c.in-Some.is at c.in_ok-reduced.ensures.exact in
    let sound : IsSound (length rows) c.in-Some.reduced = subst (IsSound (length rows)) (sym found.1) (final_sound c.args.params rows wide) in
    let short : length c.in-Some.reduced.pivots < length rows =
    rest_some (length rows) c.in-Some.reduced sound.size (λ none. false≢true (sym c.if-not-is_whole.true ∙ c.is_whole.ensures.1 none)) in
    omega (arith, short, ap length c.rows-count.ensures.value)

pub inverse_over-requires-clause-pivots : goal.inverse_over-requires-clause-pivots
inverse_over-requires-clause-pivots c =
    let rows = c.args.self.now.rows in
    let wide = widths_of c.args.params c.args.self.now.width rows c.rows-count.result.now c.requires.square c.rows-count.ensures.value c.rows-count.ensures.widths in
    let found = rw c.in-Some.is at c.in_ok-reduced.ensures.exact in
    subst (λ (t : Tableau). HavePivots 0 t.pivots) (sym found.1) (final_pivots c.args.params rows wide)

pub inverse_over-requires-clause-widths : goal.inverse_over-requires-clause-widths
inverse_over-requires-clause-widths c =
    let rows = c.args.self.now.rows in
    let wide = widths_of c.args.params c.args.self.now.width rows c.rows-count.result.now c.requires.square c.rows-count.ensures.value c.rows-count.ensures.widths in
    let found = rw c.in-Some.is at c.in_ok-reduced.ensures.exact in
    let sound : IsSound (length rows) c.in-Some.reduced = subst (IsSound (length rows)) (sym found.1) (final_sound c.args.params rows wide) in
    subst (λ m. All (λ (row : Affine). length row.coefs ≡ m + m) c.in-Some.reduced.pivots) (sym (ap length c.rows-count.ensures.value)) sound.size.pivot_widths

pub inverse_over-requires-clause-full : goal.inverse_over-requires-clause-full
inverse_over-requires-clause-full c =
    let rows = c.args.self.now.rows in
    let wide = widths_of c.args.params c.args.self.now.width rows c.rows-count.result.now c.requires.square c.rows-count.ensures.value c.rows-count.ensures.widths in
    let found = rw c.in-Some.is at c.in_ok-reduced.ensures.exact in
    let sound : IsSound (length rows) c.in-Some.reduced = subst (IsSound (length rows)) (sym found.1) (final_sound c.args.params rows wide) in
    rest_none (length rows) c.in-Some.reduced sound.size (c.is_whole.ensures.0 c.if-not-is_whole.false) ∙ sym (ap length c.rows-count.ensures.value)

pub inverse-requires-clause-numbers : goal.inverse-requires-clause-numbers
inverse-requires-clause-numbers c =
    let rows = c.args.self.now.rows in
    let wide = widths_of c.args.params c.args.self.now.width rows c.rows-count.result.now c.requires.square c.rows-count.ensures.value c.rows-count.ensures.widths in
    let found = rw c.in-Some.is at c.in_ok-reduced.ensures.exact in
    let sound : IsSound (length rows) c.in-Some.reduced = subst (IsSound (length rows)) (sym found.1) (final_sound c.args.params rows wide) in
    let over = rw c.in-Some-3.is at c.in_ok-nums.ensures.exact in
    let counted : length c.rows-count.result.now ≡ length rows = ap length c.rows-count.ensures.value in
    let n = c.rows-count.result.now in
    ap length (c.as_slice.ensures.value ∙ sym (ap (λ q. q.nums.items) c.in-Some-3.field-0-is) ∙ over.2)
    ∙ ap (λ m. length (inverse_numerators m c.in-Some.reduced)) counted
    ∙ length-inverse_numerators (length rows) c.in-Some.reduced sound.size (rest_none (length rows) c.in-Some.reduced sound.size (c.is_whole.ensures.0 c.if-not-is_whole.false))

pub returns-then-den-eq1-clause-undone : goal.returns-then-den-eq1-clause-undone
returns-then-den-eq1-clause-undone c =
    let wide = widths_of c.args.params c.args.self.now.width c.args.self.now.rows c.rows-count.result.now c.requires.square c.rows-count.ensures.value c.rows-count.ensures.widths in
    let exact : IsInversion c.args.params c.args.self.now c.inverse.result = search rules in
    λ p z long count. ok_undoes c.args.params c.args.self.now c.inverse.result p z wide exact long count

pub returns-clause-rational : goal.returns-clause-rational
returns-clause-rational c =
    let wide = widths_of c.args.params c.args.self.now.width c.args.self.now.rows c.rows-count.result.now c.requires.square c.rows-count.ensures.value c.rows-count.ensures.widths in
    let den = to_z w128 (of_z w128 c.in-Some-3.field-0.den) in
    let exact : IsInversion c.args.params c.args.self.now (Err (NoInverse (Rational c.from_vec-nums.result den))) = search rules in
    λ z count. rational_undoes c.args.params c.args.self.now c.from_vec-nums.result den z wide exact count

pub returns-clause-least : goal.returns-clause-least
returns-clause-least c =
    let wide = widths_of c.args.params c.args.self.now.width c.args.self.now.rows c.rows-count.result.now c.requires.square c.rows-count.ensures.value c.rows-count.ensures.widths in
    let den = to_z w128 (of_z w128 c.in-Some-3.field-0.den) in
    let exact : IsInversion c.args.params c.args.self.now (Err (NoInverse (Rational c.from_vec-nums.result den))) = search rules in
    rational_least c.args.params c.args.self.now c.from_vec-nums.result den wide exact

pub returns-then-not-is_whole-clause-kernel : goal.returns-then-not-is_whole-clause-kernel
returns-then-not-is_whole-clause-kernel c =
    let wide = widths_of c.args.params c.args.self.now.width c.args.self.now.rows c.rows-count.result.now c.requires.square c.rows-count.ensures.value c.rows-count.ensures.widths in
    let exact : IsInversion c.args.params c.args.self.now (Err (NoInverse (Kernel c.from_vec-vector.result))) = search rules in
    kernel_refused c.args.params c.args.self.now c.from_vec-vector.result wide exact

pub returns-then-not-is_whole-clause-least : goal.returns-then-not-is_whole-clause-least
returns-then-not-is_whole-clause-least c =
    let wide = widths_of c.args.params c.args.self.now.width c.args.self.now.rows c.rows-count.result.now c.requires.square c.rows-count.ensures.value c.rows-count.ensures.widths in
    let exact : IsInversion c.args.params c.args.self.now (Err (NoInverse (Kernel c.from_vec-vector.result))) = search rules in
    kernel_shortest c.args.params c.args.self.now c.from_vec-vector.result wide exact
