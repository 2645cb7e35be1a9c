use Rattle.std.proofs.Common.{add-one, ℕ, ◌+◌, ◌≡◌, ◌∙◌, ◌∷◌, ◌++◌, List, [], Some, suc, take, drop, length, rules, refl, ap, sym, subst}
use Rattle.std.specs.Prelude.{slice_get, MatchOption}
use Rattle.std.proofs.lemmas.List.{take_rest}
use Rattle.std.proofs.lemmas.Option.{slice_get_read}
use Rattle.az_ast.specs.declared.program.Variable.{Variable}
use Rattle.change_basis.specs.Basis.{moved_variable, DomainFits}
use Rattle.change_basis.proofs.Changed.{changed-spliced, one-between}
use Rattle.change_basis.proofs.rebasing.moved_variables.Goals as goal

pub returns : goal.returns
returns c =
    let vs = c.args.variables.now in
    let t = c.args.target in
    let variable = c.index-variables-target.result in
    let change : Variable → Variable = λ (v : Variable). moved_variable c.args.params c.args.inverse.now v in
    let found : slice_get vs t ≡ Some variable = slice_get_read vs (length vs) t variable refl c.requires.declared c.index-variables-target.is in
    let before : c.push_copies.new.to.items ≡ take t vs = search rules in
    let behind : c.push_copies-2.new.to.items ≡ c.push.new.self.items ++ drop (suc t) vs
    = c.in_ok-push_copies-2.ensures.ok ∙ ap (λ (l : List Variable). c.push.new.self.items ++ l) (take_rest vs (t + 1) ∙ ap (λ (n : ℕ). drop n vs) (add-one t)) in
    let spliced : c.from_vec.result ≡ take t vs ++ (c.in_ok-moved.moved ∷ drop (suc t) vs)
    = c.from_vec.ensures ∙ behind ∙ ap (λ (l : List Variable). l ++ drop (suc t) vs) (c.in_ok-push.ensures.items ∙ ap (λ (l : List Variable). l ++ (c.in_ok-moved.moved ∷ [])) before)
    ∙ one-between (take t vs) c.in_ok-moved.moved (drop (suc t) vs) in (
      spliced ∙ ap (λ (v : Variable). take t vs ++ (v ∷ drop (suc t) vs)) c.in_ok-moved.ensures.0 ∙ changed-spliced change vs t variable found,
      subst (λ o. MatchOption o (Unit {0}) (DomainFits c.args.params c.args.inverse.now)) (sym found) c.in_ok-moved.ensures.1,
    )
