use Rattle.std.proofs.Common.{◌≡◌, ℕ, List, Some, length, refl, subst}
use Rattle.std.specs.Prelude.{MatchOption, slice_get}
use Rattle.std.proofs.lemmas.Option.{slice_get_read}
use Rattle.cert_read.specs.Inner.Found.{IsVersionLine}
use Rattle.cert_read.proofs.Takings.{taken_here, version_here}
use Rattle.cert_read.proofs.reading.version_at.Goals as goal

pub returns : goal.returns
returns c =
    let lines = c.args.lines.now in
    let place = c.args.place in
    let line = c.in-Some.line in
    let item = c.in-Some.ensures.lookup in
    let here : slice_get lines place ≡ Some line.now = slice_get_read lines (length lines) place line.now refl item.3.0 item.1 in
    let found = c.read_version.result in
    let read = subst (λ (bytes : List ℕ). MatchOption found ((version : ℕ) → IsVersionLine version bytes → ⊥) (λ version. IsVersionLine version bytes)) c.bytes.ensures c.read_version.ensures in
    version_here lines place line.now (taken_here lines place line.now here) found read
