-- The test of a remainder and what it says.
use Rattle.std.proofs.Common.{◌≡◌, ℕ, ◌%◌, ◌↔◌, IsTrue, nat_eq, eq-eqb, eqb-true, subst, sym}
use Rattle.std.proofs.lemmas.Nat.Gcd.{dvd_of_mod-eq-zero, mod-eq-zero_of_dvd}
use Prim.Native.Nat.{◌∣◌}

pub no_rest_iff_divides : (d n m : ℕ) → m ≡ n → IsTrue (nat_eq (m % d) 0) ↔ (d ∣ n)
no_rest_iff_divides d n m same =
    let P : ℕ → Type 0 = λ k. d ∣ k in
    (λ t. subst P same (dvd_of_mod-eq-zero d (eqb-true (m % d) 0 t)), λ h. eq-eqb (m % d) 0 (mod-eq-zero_of_dvd d (subst P (sym same) h)))
