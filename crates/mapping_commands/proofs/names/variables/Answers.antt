use Rattle.std.proofs.Common.{◌≡◌, ◌<◌, ◌++◌, ◌∷◌, [], ℕ, List, rules, sym, subst, ap, All, length}
use Rattle.std.specs.Prelude.{Ok, Err}
use Rattle.std.proofs.lemmas.List.Elements.{All-push}
use Rattle.session_state.proofs.Each.{takes_one, stops_at}
use Rattle.session_state.proofs.Taking.{stops_first}
use Rattle.session_state.specs.Steps.{TakesAlone, gives}
use Rattle.mapping_commands.specs.Names.{variable, one_more}
use Rattle.mapping_commands.proofs.names.variables.Goals as goal

pub returns-in_err-variable-clause-answer : goal.returns-in_err-variable-clause-answer
returns-in_err-variable-clause-answer c =
    let p = c.args.program.now in
    let name = c.name-item.result in
    let numbers = c.names.numbers.items in
    let stop = c.in_err-variable.field-0.0 in
    let handed : c.from_residual.result ≡ Err stop = search rules in
    let stopped : TakesAlone (variable p name) (Err stop) = subst (λ (n : List ℕ). TakesAlone (variable p n) (Err stop)) c.as_str.ensures c.in_err-variable.ensures.answer in
    rw handed (stops_at (λ call. ⊥) (one_more p) c.args.names.now [] numbers c.names.name-index name c.names-test.true c.name-item.is stop c.names.invariant.taken
    (stops_first (λ call. ⊥) (variable p name) (λ number. gives (numbers ++ number ∷ [])) stop stopped))

pub names-preserved : goal.names-preserved
names-preserved c =
    let p = c.args.program.now in
    let name = c.name-item.result in
    let numbers = c.names.numbers.items in
    let x = c.in_ok-variable.field-0 in
    let pushed : c.push.new.self.items ≡ numbers ++ x ∷ [] = c.in_ok-push.ensures.items in
    let found : variable p name (Ok x) = subst (λ (n : List ℕ). variable p n (Ok x)) c.as_str.ensures c.in_ok-variable.ensures.answer in
    let Declared : ℕ → Type 0 = λ number. number < length p.variables in
    record {
      taken =
          takes_one (λ call. ⊥) (one_more p) c.args.names.now [] numbers c.names.name-index name c.names-test.true c.name-item.is c.push.new.self.items c.names.invariant.taken
          (x, found, ap (λ (xs : List ℕ). Ok xs) pushed);
      declared = subst (All Declared) (sym pushed) (All-push Declared numbers x c.names.invariant.declared c.in_ok-variable.ensures.declared);
    }
