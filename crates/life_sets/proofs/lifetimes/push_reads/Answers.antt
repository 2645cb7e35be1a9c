use Rattle.std.proofs.Common.{◌≡◌, ◌∙◌, ◌+◌, ◌<◌, List, [], ◌∷◌, ◌++◌, length, map, take, ap, sym, subst, All, arith}
use Rattle.std.proofs.lemmas.List.{length-map, length-take-le}
use Rattle.domain_check.proofs.Grown.{mapped_at, taken_all}
use Rattle.expr_places.specs.Lent.{place_of, read_of}
use Rattle.expr_places.specs.Reads.{ReadPlace, reads_of}
use Rattle.life_sets.specs.Fits.{FitsRead}
use Rattle.life_sets.specs.Lifetimes.{life_of, lives_from}
use Rattle.life_sets.specs.Ready.{IsOwn}
use Rattle.life_sets.proofs.LifeListing.{lives_next, many_more}
use Rattle.order_sets.specs.Reading.{IsReadOf}
use Rattle.order_sets.specs.Stated.{stated_claim}
use Rattle.order_sets.proofs.Listing.{mapped_next, all_more, still_stopped}
use Rattle.order_sets.proofs.ReadLists.{reads_are}
use Rattle.target_map.specs.Storage.{writers_of}
use Rattle.life_sets.proofs.lifetimes.push_reads.Goals as goal

pub push_read-requires-clause-read : goal.push_read-requires-clause-read
push_read-requires-clause-read c =
    let p = c.args.target.now.program.now in
    let e = c.args.equation.now in
    let items = c.in_ok-reads.reads.items in
    let list : map read_of items ≡ reads_of p e =
    reads_are p e c.variables.result.now (map place_of c.as_slice.result.now) (map read_of items) c.in_ok-reads.ensures c.variables.ensures.value (ap (map place_of) c.as_slice.ensures.value ∙ c.in_ok-places.ensures.list) in
    let here : c.reads.number < length items = omega (arith, c.in_ok-reads.reads.ok.0) in
    mapped_at (IsReadOf p e.variable) read_of items c.reads.number c.index-read.result.now here c.index-read.ensures (subst (All (IsReadOf p e.variable)) (sym list) c.requires.ready.reads.each)

pub push_read-requires-clause-writers : goal.push_read-requires-clause-writers
push_read-requires-clause-writers c =
    let p = c.args.target.now.program.now in
    let m = c.args.target.now.mapping.now in
    let e = c.args.equation.now in
    let items = c.in_ok-reads.reads.items in
    let list : map read_of items ≡ reads_of p e =
    reads_are p e c.variables.result.now (map place_of c.as_slice.result.now) (map read_of items) c.in_ok-reads.ensures c.variables.ensures.value (ap (map place_of) c.as_slice.ensures.value ∙ c.in_ok-places.ensures.list) in
    let here : c.reads.number < length items = omega (arith, c.in_ok-reads.reads.ok.0) in
    let P : ReadPlace → Type 0 = λ read. All (IsOwn p) (writers_of p m read.variable) in
    mapped_at P read_of items c.reads.number c.index-read.result.now here c.index-read.ensures (subst (All P) (sym list) c.requires.ready.writers)

pub returns-in-Err : goal.returns-in-Err
returns-in-Err c =
    let p = c.args.target.now.program.now in
    let m = c.args.target.now.mapping.now in
    let e = c.args.equation.now in
    let x = e.variable in
    let items = c.in_ok-reads.reads.items in
    let read = read_of c.index-read.result.now in
    let list : map read_of items ≡ reads_of p e =
    reads_are p e c.variables.result.now (map place_of c.as_slice.result.now) (map read_of items) c.in_ok-reads.ensures c.variables.ensures.value (ap (map place_of) c.as_slice.ensures.value ∙ c.in_ok-places.ensures.list) in
    let here : c.reads.number < length items = omega (arith, c.in_ok-reads.reads.ok.0) in
    still_stopped (FitsRead p m x read) (All (FitsRead p m x) (reads_of p e)) (map (life_of p m x c.reads.number read) (writers_of p m read.variable)) (lives_from p m x 0 (reads_of p e))
    c.reads.list.items c.push_read.new.list.items c.args.list.now.items c.push_read.new.list.items c.in-Err.fault c.in-Err.ensures
    (λ all. mapped_at (FitsRead p m x) read_of items c.reads.number c.index-read.result.now here c.index-read.ensures (subst (All (FitsRead p m x)) (sym list) all))

pub reads-preserved : goal.reads-preserved
reads-preserved c =
    let p = c.args.target.now.program.now in
    let m = c.args.target.now.mapping.now in
    let x = c.args.equation.now.variable in
    let i = c.reads.number in
    let items = c.in_ok-reads.reads.items in
    let read = read_of c.index-read.result.now in
    let here : i < length items = omega (arith, c.in_ok-reads.reads.ok.0) in
    let done : List ReadPlace = map read_of (take i items) in
    let next : map read_of (take (i + 1) items) ≡ done ++ read ∷ [] = mapped_next read_of items i c.index-read.result.now here c.index-read.ensures in
    let count : i ≡ length done = omega (arith, length-map (take i items) read_of, length-take-le i items (omega (arith, here))) in
    record {
      so_far = many_more c.args.list.now.items c.reads.list.items c.push_read.new.list.items (lives_from p m x 0 done) (map (life_of p m x i read) (writers_of p m read.variable)) (lives_from p m x 0 (map read_of (take (i + 1) items)))
          c.reads.invariant.so_far c.in-Ok.ensures.0 (lives_next p m x done (map read_of (take (i + 1) items)) i read count next);
      fits = all_more (FitsRead p m x) done (map read_of (take (i + 1) items)) read next c.reads.invariant.fits c.in-Ok.ensures.1;
    }

pub returns : goal.returns
returns c =
    let p = c.args.target.now.program.now in
    let m = c.args.target.now.mapping.now in
    let e = c.args.equation.now in
    let items = c.in_ok-reads.reads.items in
    let list : map read_of items ≡ reads_of p e =
    reads_are p e c.variables.result.now (map place_of c.as_slice.result.now) (map read_of items) c.in_ok-reads.ensures c.variables.ensures.value (ap (map place_of) c.as_slice.ensures.value ∙ c.in_ok-places.ensures.list) in
    let end : c.reads.number ≡ length items = omega (arith, c.in_ok-reads.reads.ok.0) in
    let whole : map read_of (take c.reads.number items) ≡ reads_of p e = ap (map read_of) (taken_all items c.reads.number end) ∙ list in (
      c.reads.invariant.so_far ∙ ap (λ (reads : List ReadPlace). map stated_claim c.args.list.now.items ++ lives_from p m e.variable 0 reads) whole,
      subst (All (FitsRead p m e.variable)) whole c.reads.invariant.fits,
    )
