use Rattle.std.proofs.Common.{◌≡◌, ◌++◌}
use Rattle.std.specs.Fmt.{decimal, signed_decimal}
use Rattle.std.specs.Prelude.{string_bytes}
use Rattle.cert_text.proofs.Texts.{step_pieces}
use Rattle.cert_text.proofs.writing.push_step.Goals as goal

pub returns : goal.returns
returns c =
    let step = c.args.step.now in
    step_pieces (string_bytes c.args.text.now) (string_bytes c.push_pair.new.text) (string_bytes c.push_pair-2.new.text) (string_bytes c.push_divisor.new.text)
    (signed_decimal step.a) (decimal step.i) (signed_decimal step.b) (decimal step.j) (signed_decimal step.g)
    c.in_ok-push_pair.ensures c.in_ok-push_pair-2.ensures c.in_ok-push_divisor.ensures
