use Rattle.std.proofs.Common.{ℕ, zero, suc, List, [], ◌∷◌, subst, sym, arith, ⊎_elim}
use Rattle.std.specs.Prelude.{ℤ}
use Rattle.std.specs.Str.{IsAscii}
use Rattle.std.specs.Str.Parse.{AllDigits}
use Rattle.std.proofs.lemmas.Str.{IsUtf8-from_ascii}
use Rattle.std.proofs.lemmas.Str.Parse.{digit_from_value}
use Rattle.table_data.specs.Numbers.{IsNumber}
use Rattle.table_data.proofs.number.number.Goals as goal

digits-ascii : (ds : List ℕ) → AllDigits 10 ds → IsAscii ds
digits-ascii [] h i = omega arith
digits-ascii (d ∷ ds) h zero = let r = digit_from_value d h.0 in omega (arith, r.1)
digits-ascii (d ∷ ds) h (suc i) = digits-ascii ds h.1 i

signed-ascii : (ds : List ℕ) → IsAscii ds → IsAscii (45 ∷ ds)
signed-ascii ds h zero = omega arith
signed-ascii ds h (suc i) = h i

number-ascii : (field : List ℕ) (z : ℤ) → IsNumber field z → IsAscii field
number-ascii field z h =
    ⊎_elim (λ u. digits-ascii field u.0.1) (λ s. subst IsAscii (sym s.1) (signed-ascii s.0 (digits-ascii s.0 s.2.0.1))) h.1

pub returns-in_default : goal.returns-in_default
returns-in_default c z h = c.in_default.ensures.cases.0 (IsUtf8-from_ascii c.args.field.now (number-ascii c.args.field.now z h))
