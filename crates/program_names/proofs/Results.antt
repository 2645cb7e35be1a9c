-- What is answered where an exact row fits.
use Rattle.std.proofs.Common.{◌≡◌, refl, ◌∙◌}
use Rattle.std.specs.Prelude.{Result, Ok, Err, IfOk, IfErr}
use Rattle.az_lin.specs.Answers.{IsExactly}
use Rattle.az_lin.specs.declared.fault.LinFault.{LinFault}
use Rattle.az_lin.specs.declared.fault.LinFault.TheVariants.{Entry, NoInverse, Overflow, Memory}

module _ {A : Type 0} (fits : A → Type 0) (value other : A) (same : value ≡ other) where
  pub exactly-ok : (r : Result A LinFault) → IsExactly fits value r → IfOk r (λ got. got ≡ other)
  exactly-ok (Ok got) h = h.0 ∙ same
  exactly-ok (Err fault) h = tt

  pub exactly-cause : (r : Result A LinFault) → fits value → IsExactly fits value r → IfErr r (λ fault. fault ≡ Memory)
  exactly-cause (Ok got) f h = tt
  exactly-cause (Err Entry) f h = absurd (h f)
  exactly-cause (Err (NoInverse n)) f h = absurd h
  exactly-cause (Err Overflow) f h = absurd h
  exactly-cause (Err Memory) f h = refl
