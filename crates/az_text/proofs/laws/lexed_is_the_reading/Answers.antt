use Rattle.az_text.proofs.Given.{lexed_is_the_reading}
use Rattle.az_text.proofs.laws.lexed_is_the_reading.Goals as goal

pub returns : goal.returns
returns c = lexed_is_the_reading
