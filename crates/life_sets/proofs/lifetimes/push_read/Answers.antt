use Rattle.std.proofs.Common.{map}
use Rattle.expr_places.specs.Lent.{read_of}
use Rattle.life_sets.specs.Fits.{FitsReading}
use Rattle.life_sets.specs.Lifetimes.{life_of}
use Rattle.life_sets.specs.Ready.{IsReading}
use Rattle.life_sets.proofs.LifeListing.{read_appends}
use Rattle.order_sets.proofs.Formulas.{lacks, has}
use Rattle.target_map.specs.Storage.{writers_of}
use Rattle.life_sets.proofs.lifetimes.push_read.Goals as goal

pub returns-in_default : goal.returns-in_default
returns-in_default c = λ fits.
    let p = c.args.target.now.program.now in
    let m = c.args.target.now.mapping.now in
    let read = read_of c.args.read.now in
    lacks (FitsReading p m c.args.x read) (IsReading p m c.args.x read) c.in_ok-reading.field-0 c.in_ok-reading.ensures c.in_default.not-Some fits.reading

pub push_writers-requires-clause-reading : goal.push_writers-requires-clause-reading
push_writers-requires-clause-reading c =
    let p = c.args.target.now.program.now in
    let m = c.args.target.now.mapping.now in
    let read = read_of c.args.read.now in
    let there = has (FitsReading p m c.args.x read) (IsReading p m c.args.x read) c.in_ok-reading.field-0 c.in-Some.reading c.in_ok-reading.ensures c.in-Some.is in
    there.0

pub returns : goal.returns
returns c =
    let p = c.args.target.now.program.now in
    let m = c.args.target.now.mapping.now in
    let read = read_of c.args.read.now in
    let there = has (FitsReading p m c.args.x read) (IsReading p m c.args.x read) c.in_ok-reading.field-0 c.in-Some.reading c.in_ok-reading.ensures c.in-Some.is in
    read_appends p m c.args.x (map (life_of p m c.args.x c.args.number read) (writers_of p m read.variable)) c.args.list.now.items c.push_writers.new.list.items read c.push_writers.result there.1 c.push_writers.ensures
