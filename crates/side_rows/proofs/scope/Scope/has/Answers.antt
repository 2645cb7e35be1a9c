use Rattle.std.proofs.Common.{sym, ap, ◌∙◌}
use Rattle.std.specs.List.{list_any}
use Rattle.std.specs.Str.{bytes_eq}
use Rattle.side_rows.proofs.Sums.{list_any-map}
use Rattle.side_rows.proofs.scope.Scope.has.Goals as goal

pub returns : goal.returns
returns c =
    let test = bytes_eq c.args.name.now in
    c.is_among.ensures ∙ (sym (list_any-map test (λ n. n.now) c.names.result.now) ∙ ap (list_any test) c.names.ensures)
