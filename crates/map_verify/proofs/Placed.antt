-- A formula in memory, and its claim at the same place in the list of claims.
use Rattle.std.proofs.Common.{◌≡◌, ℕ, ◌<◌, List, length, map, get_or, All, Some, sym, ap, subst, ◌∙◌, arith}
use Rattle.std.specs.Prelude.{slice_get}
use Rattle.std.proofs.lemmas.List.{get_or-map, length-map}
use Rattle.std.proofs.lemmas.Option.{slice_get-get_or}
use Rattle.std.proofs.lemmas.List.Elements.{All-get_or}
use Rattle.order_sets.specs.Orders.{StatedClaim}
use Rattle.order_sets.specs.Stated.{stated_claim}
use Rattle.order_sets.specs.declared.stated.Stated.{Stated}

module _ (list : List Stated) (i : ℕ) (stated : Stated) (here : i < length list) (is : stated ≡ get_or list i stated) where
  claim_is : get_or (map stated_claim list) i (stated_claim stated) ≡ stated_claim stated
  claim_is = get_or-map stated_claim list i stated (stated_claim stated) here ∙ ap stated_claim (sym is)

  pub claim_here : stated_claim stated ≡ get_or (map stated_claim list) i (stated_claim stated)
  claim_here = sym claim_is

  pub claim_within : i < length (map stated_claim list)
  claim_within = let same : length (map stated_claim list) ≡ length list = length-map list stated_claim in omega (arith, same, here)

  pub claim_placed : slice_get (map stated_claim list) i ≡ Some (stated_claim stated)
  claim_placed = slice_get-get_or (map stated_claim list) i (stated_claim stated) claim_within ∙ ap Some claim_is

  pub claim_has : (P : StatedClaim → Type 0) → All P (map stated_claim list) → P (stated_claim stated)
  claim_has P all = subst P claim_is (All-get_or P (map stated_claim list) i (stated_claim stated) claim_within all)
