-- What the negation of one row answers.
use Rattle.std.specs.Prelude.{◌≡◌, Result, Ok, Err}
use Rattle.az_lin.specs.Affine.{Affine, HasEntries}
use Rattle.az_lin.specs.Negation.{negated}
use Rattle.formula_refute.specs.declared.fault.RefuteFault.{RefuteFault}
use Rattle.formula_refute.specs.declared.fault.RefuteFault.TheVariants.{Overflow, Entry, Limit, Memory}

abbrev pub NegatesRow : Affine → Result Affine RefuteFault → Type 0
NegatesRow row (Ok got) = (got ≡ negated row) × HasEntries (negated row)
NegatesRow row (Err Entry) = HasEntries (negated row) → ⊥
NegatesRow row (Err (Overflow number)) = ⊥
NegatesRow row (Err (Limit limit)) = ⊥
NegatesRow row (Err Memory) = Unit {0}
