use Rattle.std.proofs.Common.{List, ℕ, subst, sym}
use Rattle.std.specs.Borrow.{Bor}
use Rattle.std.specs.Prelude.{map}
use Rattle.command_words.specs.Evaluations.{HasPlain}
use Rattle.command_words.specs.Lines.{told}
use Rattle.command_words.proofs.Found.{no_evaluation}
use Rattle.command_words.proofs.request.eval.Goals as goal

pub returns-in-None : goal.returns-in-None
returns-in-None c =
    let none = rw c.in-None.is at c.in_ok-evaluation.ensures.none in
    no_evaluation (told c.args.line.now.plain.items c.args.line.now.workers)
    (λ e has. none e (subst (λ (items : List (Bor (List ℕ))). HasPlain (map (λ (word : Bor (List ℕ)). word.now) items) e) (sym c.as_slice.ensures.value) has))
