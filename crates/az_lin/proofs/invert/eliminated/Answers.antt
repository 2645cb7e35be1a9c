use Rattle.std.proofs.Common.{◌≡◌, sym, subst, ℕ, length, SomeIff, Option}
use Rattle.az_lin.specs.Inversion.{Tableau, HasSize, start, reduced, ReducesWide}
use Rattle.az_lin.proofs.TableauSteps.{ok_weaker}
use Rattle.az_lin.proofs.InversionEnd.{HasSize-started, length-beside_identity}
use Rattle.az_lin.proofs.invert.eliminated.Goals as goal

pub reduce-requires : goal.reduce-requires
reduce-requires c =
    subst (λ (t : Tableau). HasSize (length t.rest) t) (sym c.in_ok-started.ensures.ok) (HasSize-started c.args.params c.args.map.now.rows c.requires.widths)

pub returns-clause-exact : goal.returns-clause-exact
returns-clause-exact c =
    let rows = c.args.map.now.rows in
    let params = c.args.params in
    let Found : Option Tableau → ℕ → Tableau → Type 0 = λ got n t. SomeIff got (ReducesWide n t) (reduced n t) in
    let is = c.in_ok-started.ensures.ok in
    let count : length (start params rows).rest ≡ length rows = length-beside_identity params (length rows) 0 rows in
    ok_weaker c.reduce.result _ _ (λ got h. subst (λ n. Found got n (start params rows)) count (subst (λ (t : Tableau). Found got (length t.rest) t) is h)) c.reduce.ensures.exact
