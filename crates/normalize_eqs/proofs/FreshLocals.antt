-- The locals that are taken out: behind all others in order, of names that nothing else has.
use Rattle.std.proofs.Common.{◌≡◌, ℕ, suc, ◌+◌, ◌<◌, ◌≤◌, ◌^◌, List, [], ◌∷◌, ◌++◌, length, map, Bool, true, false, refl, sym, ap, ◌∙◌, arith, length-append}
use Rattle.std.specs.List.{list_any, AllByRecursion}
use Rattle.std.specs.Str.{bytes_eq}
use Rattle.std.proofs.lemmas.List.{length-map}
use Rattle.std.proofs.lemmas.List.Folds.{list_any-append}
use Rattle.std.proofs.lemmas.Slice.Eq.{bytes_eq-Decides}
use Rattle.az_ast.proofs.ShapeParts.{neither}
use Rattle.az_ast.specs.Placed.{AreInOrder, rank}
use Rattle.az_ast.specs.Shapes.{is_index_name}
use Rattle.az_ast.specs.System.{System}
use Rattle.az_ast.specs.declared.program.Role.{Role}
use Rattle.az_ast.specs.declared.program.Role.TheVariants.{Input, Output, Local}
use Rattle.az_ast.specs.declared.program.Variable.{Variable}
use Rattle.rewriting.proofs.FineParts.{has_name_of}
use Rattle.rewriting.proofs.Items.{Apart, each-map}
use Rattle.rewriting.specs.Definitions.{Definition}
use Rattle.rewriting.specs.Named.{name_of}
use Rattle.normalize_eqs.specs.Normal.{fresh_name, fresh_variables, domain_of, normal}
use Rattle.normalize_eqs.specs.Outlines.{Fresh, OutlinedPieces, outline_all}
use Rattle.normalize_eqs.specs.Pieces.{rows_of, pieces}
use Rattle.normalize_eqs.proofs.FreshNames.{fresh-is_free, numbered-no_index}

pub each-append : {A : Type 0} (P : A → Type 0) (xs ys : List A) → AllByRecursion P xs → AllByRecursion P ys → AllByRecursion P (xs ++ ys)
each-append P [] ys h g = g
each-append P (x ∷ xs) ys h g = (h.0, each-append P xs ys h.1 g)

pub apart-append : {A : Type 0} (hits : A → A → Bool) (xs ys : List A) → Apart hits xs → Apart hits ys → AllByRecursion (λ x. AllByRecursion (λ y. hits x y ≡ false) ys) xs → Apart hits (xs ++ ys)
apart-append hits [] ys h g between = g
apart-append hits (x ∷ xs) ys h g between = (each-append (λ y. hits x y ≡ false) xs ys h.0 between.0, apart-append hits xs ys h.1 g between.1)

-- a local, and a name that none of these is
abbrev pub IsLocal : Variable → Type 0
IsLocal v = v.role ≡ Local

abbrev pub IsNew : List (List ℕ) → Variable → Type 0
IsNew names v = list_any (bytes_eq v.name) names ≡ false

new-parts : (names more : List (List ℕ)) (v : Variable) → IsNew (names ++ more) v → IsNew names v × IsNew more v
new-parts names more v h = neither (list_any (bytes_eq v.name) names) (list_any (bytes_eq v.name) more) (sym (list_any-append (bytes_eq v.name) names more) ∙ h)

turned : (a b : List ℕ) → bytes_eq a b ≡ false → bytes_eq b a ≡ false
turned a b h = by (bytes_eq b a) refl
  where
    by : (c : Bool) → bytes_eq b a ≡ c → c ≡ false
    by true is = let same : bytes_eq a b ≡ true = (bytes_eq-Decides a b).1 (sym ((bytes_eq-Decides b a).0 is)) in cc
    by false is = refl

-- each of these beside each of those
crossed : (us vs : List Variable) → AllByRecursion (IsNew (map (λ (u : Variable). u.name) us)) vs → AllByRecursion (λ u. AllByRecursion (λ v. has_name_of u v ≡ false) vs) us
crossed [] vs all = tt
crossed (u ∷ us) vs all =
    let names = map (λ (w : Variable). w.name) us in (
      each-map (IsNew (u.name ∷ names)) (λ v. has_name_of u v ≡ false) (λ v h. turned v.name u.name (neither (bytes_eq v.name u.name) (list_any (bytes_eq v.name) names) h).0) vs all,
      crossed us vs (each-map (IsNew (u.name ∷ names)) (IsNew names) (λ v h. (neither (bytes_eq v.name u.name) (list_any (bytes_eq v.name) names) h).1) vs all),
    )

pub record AreFresh (names : List (List ℕ)) (vs : List Variable) : Type 0 where
  pub local : AllByRecursion IsLocal vs
  pub unreserved : AllByRecursion (λ v. is_index_name v.name ≡ false) vs
  pub new : AllByRecursion (IsNew names) vs
  pub apart : Apart has_name_of vs

-- and further ones beside them
pub fresh-more : (names : List (List ℕ)) (us vs : List Variable) → AreFresh names us → AreFresh (names ++ map (λ (u : Variable). u.name) us) vs → AreFresh names (us ++ vs)
fresh-more names us vs a b =
    let own = map (λ (u : Variable). u.name) us in
    record {
      local = each-append IsLocal us vs a.local b.local;
      unreserved = each-append (λ v. is_index_name v.name ≡ false) us vs a.unreserved b.unreserved;
      new = each-append (IsNew names) us vs a.new (each-map (IsNew (names ++ own)) (IsNew names) (λ v h. (new-parts names own v h).0) vs b.new);
      apart = apart-append has_name_of us vs a.apart b.apart (crossed us vs (each-map (IsNew (names ++ own)) (IsNew own) (λ v h. (new-parts names own v h).1) vs b.new));
    }

pub fresh_variables-fresh : (names : List (List ℕ)) (name : List ℕ) (fresh : List Fresh) → length names + length fresh < 2 ^ 32 → AreFresh names (fresh_variables names name fresh)
fresh_variables-fresh names name [] few = record { local = tt; unreserved = tt; new = tt; apart = tt }
fresh_variables-fresh names name (f ∷ rest) few =
    let chosen = fresh_name names name in
    let first : Variable = record { name = chosen; role = Local; domain = f.domain } in
    fresh-more names (first ∷ []) (fresh_variables (names ++ chosen ∷ []) name rest)
    (record { local = (refl, tt); unreserved = (numbered-no_index name _, tt); new = (fresh-is_free name names (omega (arith, few)), tt); apart = (tt, tt) })
    (fresh_variables-fresh (names ++ chosen ∷ []) name rest (omega (arith, few, length-append names (chosen ∷ []))))

-- those of all equations
module _ (p : System) where
  abbrev made : ℕ → Definition → OutlinedPieces
  made next d = outline_all (length p.params) next (record { width = (domain_of p d.0).width; rows = rows_of (domain_of p d.0) }) (pieces d.1)

  fresh-count : (names : List (List ℕ)) (name : List ℕ) (fresh : List Fresh) → length (fresh_variables names name fresh) ≡ length fresh
  fresh-count names name [] = refl
  fresh-count names name (f ∷ rest) = ap suc (fresh-count (names ++ fresh_name names name ∷ []) name rest)

  pub normal-fresh : (ds : List Definition) (names : List (List ℕ)) (next : ℕ) → length names + length (normal p names next ds).locals < 2 ^ 32 → AreFresh names (normal p names next ds).locals
  normal-fresh [] names next few = record { local = tt; unreserved = tt; new = tt; apart = tt }
  normal-fresh (d ∷ rest) names next few =
      let own = fresh_variables names (name_of p d.0) (made next d).fresh in
      let more = names ++ map (λ (v : Variable). v.name) own in
      let others = normal p more (next + length (made next d).fresh) rest in
      let count = fresh-count names (name_of p d.0) (made next d).fresh in
      let whole = length-append own others.locals in
      let longer = length-append names (map (λ (v : Variable). v.name) own) in
      let same = length-map own (λ (v : Variable). v.name) in
      fresh-more names own others.locals
      (fresh_variables-fresh names (name_of p d.0) (made next d).fresh (omega (arith, few, whole, count)))
      (normal-fresh rest more (next + length (made next d).fresh) (omega (arith, few, whole, longer, same)))

-- behind all others
locals-in_order : (vs : List Variable) → AllByRecursion IsLocal vs → AreInOrder vs
locals-in_order [] all = tt
locals-in_order (v ∷ vs) all =
    (each-map IsLocal (λ (u : Variable). rank v.role ≤ rank u.role) (λ u local. omega (arith, ap rank local, ap rank all.0)) vs all.1, locals-in_order vs all.1)

rank-most : (v : Variable) → rank v.role ≤ 2
rank-most v = by v.role
  where
    by : (role : Role) → rank role ≤ 2
    by Input = omega arith
    by Output = omega arith
    by Local = omega arith

pub order-with_locals : (us vs : List Variable) → AreInOrder us → AllByRecursion IsLocal vs → AreInOrder (us ++ vs)
order-with_locals [] vs order all = locals-in_order vs all
order-with_locals (u ∷ us) vs order all =
    (each-append (λ (v : Variable). rank u.role ≤ rank v.role) us vs order.0 (each-map IsLocal (λ (v : Variable). rank u.role ≤ rank v.role) (λ v local. omega (arith, ap rank local, rank-most u)) vs all), order-with_locals us vs order.1 all)

pub names-with_locals : (us vs : List Variable) → Apart has_name_of us → AreFresh (map (λ (u : Variable). u.name) us) vs → Apart has_name_of (us ++ vs)
names-with_locals us vs apart fresh = apart-append has_name_of us vs apart fresh.apart (crossed us vs fresh.new)
