-- Points listed one after another.
use Rattle.std.proofs.Common.{◌≡◌, inl, inr, ⊎_elim, ℕ, zero, suc, ◌+◌, ◌<◌, ◌≤◌, List, [], ◌∷◌, ◌++◌, length, refl, sym, ap, subst, ◌∙◌, arith, append_assoc, append-nil, length-append, All, Contains}
use Rattle.std.specs.Prelude.{ℤ}
use Rattle.std.proofs.lemmas.List.{map-append, length-map}
use Rattle.std.proofs.lemmas.List.Elements.{All-nil, All-push, All-contains, Contains-append_right}
use Rattle.az_lin.specs.Affine.{AffineMap, IsCoordinate, image_of}
use Rattle.az_lin.specs.Substitution.{Point}
use Rattle.az_lin.specs.declared.limit.Limit.TheVariants.{Instances}
use Rattle.loop_scan.specs.Members.{IsPoint}
use Rattle.loop_scan.specs.declared.fault.ScanFault.{ScanFault}
use Rattle.loop_scan.specs.declared.fault.ScanFault.TheVariants.{Limit}
use Rattle.target_map.specs.Settings.{TargetMapping}
use Rattle.tile_waves.specs.Answers.{most_instances}
use Rattle.tile_waves.specs.Inner.Items.{IsItem}
use Rattle.tile_waves.specs.Inner.Listed.{instance, IsNear, IsTooFar, IsListing, RefusesPoints}
use Rattle.tile_waves.specs.declared.item.Item.{Item}

pub far_is : (f g : AffineMap) (y z : List ℤ) (fault : ScanFault) → f ≡ g → y ≡ z → IsTooFar (All IsCoordinate (image_of f y)) fault → IsTooFar (All IsCoordinate (image_of g z)) fault
far_is f g y z fault same equal h = subst (λ x. IsTooFar (All IsCoordinate (image_of g x)) fault) equal (subst (λ e. IsTooFar (All IsCoordinate (image_of e y)) fault) same h)

module _ (m : TargetMapping) (params : List ℤ) (x : ℕ) (before : List Item) (all : List Point) where
  pub listing_start : IsListing m params x before before all all
  listing_start = record {
    given = [];
    whole = refl;
    more = record { added = []; whole = sym (append-nil before); instances = refl; keys = All-nil (IsItem m params) };
    near = All-nil (λ point. IsNear m params (instance x point));
  }

  module _ (now : List Item) (to_come rest : List Point) (point : Point) (listing : IsListing m params x before now all to_come) (next : to_come ≡ point ∷ rest) where
    pub listing_step :
        (item : Item) (after : List Item) → IsItem m params item → item.instance ≡ instance x point → IsNear m params (instance x point) → after ≡ now ++ item ∷ [] →
        IsListing m params x before after all rest
    listing_step item after key is near pushed =
        let more = listing.more in
        record {
          given = listing.given ++ point ∷ [];
          whole = append_assoc listing.given (point ∷ []) rest ∙ ((λ i. listing.given ++ sym next i) ∙ listing.whole);
          more = record {
            added = more.added ++ item ∷ [];
            whole = pushed ∙ ((λ i. more.whole i ++ item ∷ []) ∙ append_assoc before more.added (item ∷ []));
            instances =
                map-append (λ (i : Item). i.instance) more.added (item ∷ [])
                ∙ ((λ i. more.instances i ++ is i ∷ []) ∙ sym (map-append (λ (k : Point). instance x k) listing.given (point ∷ [])));
            keys = All-push (IsItem m params) more.added item more.keys key;
          };
          near = All-push (λ k. IsNear m params (instance x k)) listing.given point listing.near near;
        }

    pub point_listed : Contains all point
    point_listed = subst (λ ps. Contains ps point) listing.whole (Contains-append_right listing.given to_come point (subst (λ ps. Contains ps point) (sym next) (zero, omega arith, refl)))

    pub point_near : (width : ℕ) → All (IsPoint width) all → All IsCoordinate point
    point_near width points = let one = All-contains (IsPoint width) all point points point_listed in one.1

    given_long : length now ≡ length before + length listing.given
    given_long =
        let more = listing.more in
        let one = ap length more.whole in
        let two = length-append before more.added in
        let three = ap length more.instances in
        let four = length-map more.added (λ (i : Item). i.instance) in
        let five = length-map listing.given (λ (k : Point). instance x k) in
        omega (arith, one, two, three, four, five)

    pub too_many : most_instances ≤ length now → RefusesPoints m params x before all (Limit Instances)
    too_many past =
        let long = given_long in
        let whole = ap length listing.whole in
        let parts = length-append listing.given to_come in
        let some = ap length next in
        inr (inl (refl, more_than (length now) (length before) (length listing.given) (length all) (length to_come) (length rest) past long (sym whole ∙ parts) some))
      where
        more_than : (now before given all left rest : ℕ) → most_instances ≤ now → now ≡ before + given → all ≡ given + left → left ≡ suc rest → most_instances < before + all
        more_than now before given all left rest a b c d = omega (arith, a, b, c, d)

    pub too_far : (fault : ScanFault) → IsTooFar (IsNear m params (instance x point)) fault → RefusesPoints m params x before all fault
    too_far fault h = ⊎_elim (λ memory. inl memory) (λ far. inr (inr (far.0, (point, point_listed, far.1)))) h
