use Rattle.std.proofs.Common.{◌≡◌, rules, true, false, [], arith}
use Rattle.std.specs.Prelude.{Some, None}
use Rattle.std.proofs.lemmas.Bool.Decides.{nat_tests}
use Rattle.command_words.proofs.Cuts.{no_table, no_bytes}
use Rattle.command_words.proofs.binding.table.Goals as goal
use Rattle.command_words.proofs.binding.table.Goals.{else-is_word-via-then-is_word+else-not-is_empty, else-is_word-via-else-is_word}

pub returns-in_err-name-clause-none : goal.returns-in_err-name-clause-none
returns-in_err-name-clause-none c = rw c.from_residual.ensures (no_table c.args.word.now None c.in_err-name.ensures.cases tt)

pub returns-else-is_word-clause-none : goal.returns-else-is_word-clause-none
returns-else-is_word-clause-none c =
    elim c.else-is_word.branch [
      | else-is_word-via-then-is_word+else-not-is_empty w ↦
          let empty : c.in_ok-name.file.now ≡ [] =
          no_bytes _ (first_of (search rules, grind (arith, nat_tests, w.is_empty.ensures, w.if-not-is_empty.false))) in
          no_table c.args.word.now (Some (c.in_ok-name.name, c.in_ok-name.file)) c.in_ok-name.ensures.cases (λ is some. some empty)
      | else-is_word-via-else-is_word w ↦
          no_table c.args.word.now (Some (c.in_ok-name.name, c.in_ok-name.file)) c.in_ok-name.ensures.cases
          (λ is some. let bad : false ≡ true = w.if-is_word.ensures.1 is in cc)
    ]
