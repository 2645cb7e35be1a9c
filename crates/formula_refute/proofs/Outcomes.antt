-- What follows from a clause on the outcome of a call.
use Rattle.std.proofs.Common.{Result, Ok, Err, IfOk, OnOk}

pub ok_then : {A E : Type 0} (P Q : A → Type 0) → ((a : A) → P a → Q a) → (result : Result A E) → IfOk result P → IfOk result Q
ok_then P Q step (Ok a) p = step a p
ok_then P Q step (Err e) p = tt

pub on_ok_then : {A E : Type 0} (P Q : Type 0) → (P → Q) → (result : Result A E) → OnOk result P → OnOk result Q
on_ok_then P Q step (Ok a) p = step p
on_ok_then P Q step (Err e) p = tt
