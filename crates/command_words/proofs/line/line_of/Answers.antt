use Rattle.std.proofs.Common.{◌≡◌, ◌∙◌, rules, sym, ap, subst, ⊎_elim, true, false, [], Some}
use Rattle.clap.specs.Words.{IsAmong, fault_of, found_of, is_simple, is_simple_and_free, kind_of, matches_of, rows_of}
use Rattle.clap.specs.declared.error.kind.ErrorKind.TheVariants.{OutOfMemory}
use Rattle.command_words.specs.Parsing.{has_empty, line_app, line_in}
use Rattle.command_words.specs.Words.{texts}
use Rattle.command_words.proofs.LineReads.{found, not_found, no_line}
use Rattle.command_words.proofs.line.line_of.Goals as goal

pub returns-then-has_empty : goal.returns-then-has_empty
returns-then-has_empty c =
    let some : has_empty (texts c.args.words.now) ≡ true = search rules in
    no_line (texts c.args.words.now) some

pub returns-in-Ok : goal.returns-in-Ok
returns-in-Ok c =
    let words = texts c.args.words.now in
    let none : has_empty words ≡ false = search rules in
    let app = c.in_ok-line_command.ensures in
    let passes : fault_of line_app words ≡ [] = sym (ap (λ a. fault_of a words) app) ∙ c.in-Ok.ensures.kinds (ap is_simple_and_free app) in
    let rows : rows_of (found_of c.in-Ok.matches) ≡ matches_of line_app words = (c.in-Ok.ensures.matches (ap is_simple app)).0 ∙ ap (λ a. matches_of a words) app in
    ap Some (c.in_ok-found_line-in-Ok.ensures ∙ ap line_in rows) ∙ found c.args.words.now none passes

pub returns : goal.returns
returns c =
    let words = texts c.args.words.now in
    let none : has_empty words ≡ false = search rules in
    let app = c.in_ok-line_command.ensures in
    let memory : kind_of c.in-Err.error ≡ OutOfMemory → ⊥ = λ is.
    let same = rw (c.kind.ensures ∙ is) at c.eq.ensures in
    let bad : false ≡ true = sym c.if-eq.false ∙ same in
    cc in
    ⊎_elim (λ is. absurd (memory is)) (λ among. not_found c.args.words.now none (kind_of c.in-Err.error) (subst (λ a. IsAmong (kind_of c.in-Err.error) (fault_of a words)) app among))
    (c.in-Err.ensures.kinds (ap is_simple_and_free app))
