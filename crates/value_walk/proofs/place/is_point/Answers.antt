use Rattle.std.proofs.Common.{sym, ◌∙◌}
use Rattle.std.proofs.lemmas.Bool.Decides.{Decides-int_eq}
use Rattle.std.proofs.lemmas.Slice.Eq.{slice_eq-Decides}
use Rattle.value_walk.proofs.place.is_point.Goals as goal

pub returns : goal.returns
returns c h = sym c.as_slice.ensures ∙ (slice_eq-Decides Decides-int_eq c.as_slice.result.now c.args.k.now c.eq.result c.eq.ensures).0 h
