-- The rows that a call is given.
use Rattle.std.proofs.Common.{◌≡◌, sym, subst, List, IfOk, IfErr, Result, Ok, Err}
use Rattle.std.specs.Global.{Vec}
use Rattle.farkas_find.specs.declared.numbered.Numbered.{Numbered}
use Rattle.farkas_find.specs.declared.fault.FindFault.{FindFault}
use Rattle.farkas_find.specs.declared.fault.FindFault.TheVariants.{Memory}
use Rattle.farkas_find.specs.Stages.{HasFew}
use Rattle.farkas_find.specs.Inner.Nexts.{GivenAnswers}

pub given_answers : (wanted : List Numbered) (result : Result (Vec Numbered) FindFault) → HasFew wanted → IfOk result (λ got. got.items ≡ wanted)
    → IfErr result (λ fault. fault ≡ Memory) → GivenAnswers wanted result
given_answers wanted (Ok got) few ok err = (few, ok)
given_answers wanted (Err fault) few ok err =
    let P : FindFault → Type 0 = λ f. GivenAnswers wanted (Err f) in
    subst P (sym err) tt
