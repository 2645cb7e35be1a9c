use Rattle.std.proofs.Common.{rules, ◌≡◌, position, Some, None, sym}
use Rattle.std.specs.Str.{bytes_eq}
use Rattle.az_desk.proofs.FileLemmas.{file_of_at_place, file_of_absent}
use Rattle.az_desk.proofs.honest.HonestDesk.file.Goals as goal

pub returns-in-Some : goal.returns-in-Some
returns-in-Some c =
    let found : position (λ file. bytes_eq file.0 c.args.name.now) c.args.self.now.files ≡ Some c.in-Some.place = search rules in
    let file = file_of_at_place c.args.self.now.files c.args.name.now c.in-Some.place c.index.result.now found in
    cc

pub returns-in-None : goal.returns-in-None
returns-in-None c =
    let absent : position (λ file. bytes_eq file.0 c.args.name.now) c.args.self.now.files ≡ None = search rules in
    sym (file_of_absent c.args.self.now.files c.args.name.now absent)
