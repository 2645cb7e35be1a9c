use Rattle.line_fields.proofs.Splits.{fields_are_one}
use Rattle.line_fields.proofs.words.fields_are_one.Goals as goal

pub returns : goal.returns
returns c = fields_are_one
