use Rattle.std.proofs.Common.{length}
use Rattle.az_ast.specs.Meaning.{ReadTo}
use Rattle.expr_maps.proofs.PutLaws.{put-same}
use Rattle.expr_maps.proofs.laws.put_means_at_image.Goals as goal

pub returns : goal.returns
returns c = λ p tables depth f e z y v carries. put-same (length p.params) (ReadTo p tables depth) e f z y v carries
