use Rattle.std.proofs.Common.{◌++◌, ◌∙◌, sym, subst, All}
use Rattle.az_lin.specs.Affine.{IsEntry}
use Rattle.mapping_commands.proofs.Zeros.{zeros_fit}
use Rattle.mapping_commands.proofs.maps.shape_of.Goals as goal

pub zero_map-requires : goal.zero_map-requires
zero_map-requires c = subst (All IsEntry) (sym (c.as_slice-2.ensures.value ∙ c.in_ok-zeros.ensures)) (zeros_fit (c.args.params.now ++ c.as_slice.result.now))
