-- The plain data of what a walk lends.
use Rattle.std.specs.Prelude.{map}
use Rattle.expr_places.specs.Places.{Part, case_over, reduction_over, access_to, Place}
use Rattle.expr_places.specs.Reads.{ReadPlace}
use Rattle.expr_places.specs.declared.place.Part.{Part as LentPart}
use Rattle.expr_places.specs.declared.place.Part.TheVariants.{Case, Reduction, Access}
use Rattle.expr_places.specs.declared.place.Place.{Place as LentPlace}
use Rattle.expr_places.specs.declared.read.Read.{Read}

abbrev pub part_of : LentPart → Part
part_of (Case branches) = case_over (map (λ branch. branch.domain) branches.now)
part_of (Reduction extra domain) = reduction_over extra domain.now
part_of (Access x f) = access_to x f.now

abbrev pub place_of : LentPlace → Place
place_of place = record { part = part_of place.part; scope = place.scope }

abbrev pub read_of : Read → ReadPlace
read_of read = record { variable = read.variable; map = read.map.now; scope = read.scope }
