-- A changed program has the parameters that it had, so the numbers that are set for them stay.
use Rattle.std.proofs.Common.{◌≡◌, ℕ, List, Ok, ap}
use Rattle.az_ast.specs.System.{System}
use Rattle.change_basis.specs.Basis.{BasisFits, rebased}
use Rattle.command_script.specs.Resolved.{meant}
use Rattle.inline_eqs.specs.Inlining.{InliningFits, inlined}
use Rattle.inline_eqs.specs.Removal.{without}
use Rattle.script_grammar.specs.declared.command.MapText.{MapText}
use Rattle.rewrite_commands.specs.Changes.{accepted, rebasing, inlining, removal}

accepted_same : (fits : Type 0) (q r : System) → accepted fits q (Ok r) → r ≡ q
accepted_same fits q r (u, fit, (v, within, certified)) = certified.0

pub rebasing_params : (name : List ℕ) (text : MapText) (p q : System) → rebasing name text p (Ok q) → q.params ≡ p.params
rebasing_params name text p q (x, named, (a, names, (b, size, (c, entry, (inverse, inverts, made))))) =
    ap (λ (s : System). s.params) (accepted_same (BasisFits p x (meant p.params text) inverse) (rebased p x (meant p.params text) inverse) q made)

pub inlining_params : (into target : List ℕ) (p q : System) → inlining into target p (Ok q) → q.params ≡ p.params
inlining_params into target p q (y, from, (x, to, (a, reason, made))) = ap (λ (s : System). s.params) (accepted_same (InliningFits p y x) (inlined p y x) q made)

pub removal_params : (name : List ℕ) (p q : System) → removal name p (Ok q) → q.params ≡ p.params
removal_params name p q (x, named, (a, reason, made)) = ap (λ (s : System). s.params) (accepted_same (Unit {0}) (without p x) q made)
