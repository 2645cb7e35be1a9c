use Rattle.std.proofs.Common.{rules, ◌≡◌, None, refl}
use Rattle.command_script.specs.Resolved.{scope_of, sides_of, meant, first_unknown, first_twice, has_row_out, refusal_of}
use Rattle.command_script.proofs.resolution.resolve_map.Goals as goal

-- none of the three reasons
pub returns : goal.returns
returns c =
    let params = c.args.params.now in
    let text = c.args.map.now in
    let unknown : first_unknown (scope_of params text) (sides_of text) ≡ None = search rules in
    let twice : first_twice params text.indices ≡ None = search rules in
    let out : has_row_out (scope_of params text) (sides_of text) ≡ None = search rules in
    let none : refusal_of params text ≡ None = rw (unknown, twice, out) refl in
    let is : c.in_ok-meant.meant ≡ meant params text = search rules in
    (none, is)
