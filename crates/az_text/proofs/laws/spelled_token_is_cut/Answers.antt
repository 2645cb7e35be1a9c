use Rattle.az_text.proofs.Longest.{spelled_token_is_cut}
use Rattle.az_text.proofs.laws.spelled_token_is_cut.Goals as goal

pub returns : goal.returns
returns c = spelled_token_is_cut
