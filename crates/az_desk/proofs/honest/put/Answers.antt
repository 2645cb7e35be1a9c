use Rattle.std.proofs.Common.{rules, ◌≡◌, ◌∷◌, [], ◌++◌, position, None, sym, ◌∙◌}
use Rattle.std.specs.Str.{bytes_eq}
use Rattle.az_desk.proofs.FileLemmas.{with_file_at_end}
use Rattle.az_desk.proofs.honest.put.Goals as goal

pub returns-in_ok-push-in-None-clause-ok : goal.returns-in_ok-push-in-None-clause-ok
returns-in_ok-push-in-None-clause-ok c =
    let absent : position (λ file. bytes_eq file.0 c.args.name) c.args.files.now.items ≡ None = search rules in
    let added : c.push.new.self.items ≡ c.args.files.now.items ++ (c.args.name, c.args.bytes) ∷ [] = c.in_ok-push-in-None.ensures.items in
    added ∙ sym (with_file_at_end c.args.files.now.items c.args.name c.args.bytes absent)
