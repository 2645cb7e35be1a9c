use Rattle.std.proofs.Common.{◌≡◌, take}
use Rattle.std.specs.Prelude.{string_bytes}
use Rattle.session_state.specs.Chains.{chain_text}
use Rattle.session_state.proofs.chains.chain_text.Given as goal

abbrev pub invariant-points : goal.invariant-points
invariant-points l = string_bytes l.text ≡ chain_text l.names (take l.at-index l.chain)
