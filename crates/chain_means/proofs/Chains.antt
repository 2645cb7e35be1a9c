-- Rows that are at least 0, and comparisons that hold.
use Rattle.std.proofs.Common.{◌≡◌, ◌↔◌, List, [], ◌∷◌, ◌++◌, Bool, true, false, refl, sym, ap, subst, ◌∙◌, arith}
use Rattle.std.specs.Prelude.{map, flat_map, None, ℤ, pos, ◌+ℤ◌, ◌-ℤ◌, ◌≤ℤ◌, ◌<ℤ◌}
use Rattle.std.specs.List.{AllByRecursion}
use Rattle.std.proofs.lemmas.Int.{ints}
use Rattle.std.proofs.lemmas.List.{map-append}
use Rattle.std.proofs.lemmas.List.Elements.{recursion_from_All, All-from_recursion}
use Rattle.az_lin.specs.Affine.{Affine, IsAtLeastZero, value_at}
use Rattle.az_lin.specs.Substitution.{Point}
use Rattle.grammar_rules.specs.declared.term.Term.{Term}
use Rattle.program_grammar.specs.declared.tree.Chain.{Chain}
use Rattle.program_grammar.specs.declared.tree.Link.{Link}
use Rattle.program_grammar.specs.declared.tree.Relation.{Relation}
use Rattle.program_grammar.specs.declared.tree.Relation.TheVariants.{AtMost, Below, AtLeast, Above, Equal}
use Rattle.program_names.specs.Sides.{Scope, Difference, row_of, less, differences, of_links, of_chain, of_chains, gap_of}
use Rattle.chain_means.specs.Comparisons.{AreDifferent, side_at, Compare, LinksHold, ChainHolds, ChainsHold}
use Rattle.chain_means.proofs.SideValues.{row_value}

all_joined : {A : Type 0} (P : A → Type 0) (xs ys : List A) → AllByRecursion P xs → AllByRecursion P ys → AllByRecursion P (xs ++ ys)
all_joined P [] ys here there = there
all_joined P (x ∷ xs) ys here there = (here.0, all_joined P xs ys here.1 there)

all_parted : {A : Type 0} (P : A → Type 0) (xs ys : List A) → AllByRecursion P (xs ++ ys) → AllByRecursion P xs × AllByRecursion P ys
all_parted P [] ys all = (tt, all)
all_parted P (x ∷ xs) ys all = let rest = all_parted P xs ys all.1 in ((all.0, rest.0), rest.1)

module _ (scope : Scope) (z : Point) (once : AreDifferent scope) where
  abbrev Hold : List Difference → Type 0
  Hold ds = AllByRecursion (IsAtLeastZero z) (map (row_of scope) ds)

  joined : (ds es : List Difference) → Hold ds → Hold es → Hold (ds ++ es)
  joined ds es here there =
      subst (AllByRecursion (IsAtLeastZero z)) (sym (map-append (row_of scope) ds es)) (all_joined (IsAtLeastZero z) (map (row_of scope) ds) (map (row_of scope) es) here there)

  parted : (ds es : List Difference) → Hold (ds ++ es) → Hold ds × Hold es
  parted ds es all =
      all_parted (IsAtLeastZero z) (map (row_of scope) ds) (map (row_of scope) es) (subst (AllByRecursion (IsAtLeastZero z)) (map-append (row_of scope) ds es) all)

  -- a side less another
  above : (left right : List Term) → pos 0 ≤ℤ value_at (row_of scope (less left right false)) z → side_at scope z right ≤ℤ side_at scope z left
  above left right h = let is = row_value scope z once (less left right false) in omega (arith, ints, is, h)

  from_above : (left right : List Term) → side_at scope z right ≤ℤ side_at scope z left → pos 0 ≤ℤ value_at (row_of scope (less left right false)) z
  from_above left right h = let is = row_value scope z once (less left right false) in omega (arith, ints, is, h)

  strictly : (left right : List Term) → pos 0 ≤ℤ value_at (row_of scope (less left right true)) z → side_at scope z right <ℤ side_at scope z left
  strictly left right h = let is = row_value scope z once (less left right true) in omega (arith, ints, is, h)

  from_strictly : (left right : List Term) → side_at scope z right <ℤ side_at scope z left → pos 0 ≤ℤ value_at (row_of scope (less left right true)) z
  from_strictly left right h = let is = row_value scope z once (less left right true) in omega (arith, ints, is, h)

  both_ways : (a b : ℤ) → b ≤ℤ a → a ≤ℤ b → a ≡ b
  both_ways a b low high = omega (arith, ints, low, high)

  compares : (relation : Relation) (a b : List Term) → Hold (differences relation a b) → Compare relation (side_at scope z a) (side_at scope z b)
  compares AtMost a b h = above b a h.0
  compares Below a b h = strictly b a h.0
  compares AtLeast a b h = above a b h.0
  compares Above a b h = strictly a b h.0
  compares Equal a b h = both_ways (side_at scope z a) (side_at scope z b) (above a b h.0) (above b a h.1.0)

  from_comparison : (relation : Relation) (a b : List Term) → Compare relation (side_at scope z a) (side_at scope z b) → Hold (differences relation a b)
  from_comparison AtMost a b h = (from_above b a h, tt)
  from_comparison Below a b h = (from_strictly b a h, tt)
  from_comparison AtLeast a b h = (from_above a b h, tt)
  from_comparison Above a b h = (from_strictly a b h, tt)
  from_comparison Equal a b h = (from_above a b (omega (arith, ints, h)), (from_above b a (omega (arith, ints, h)), tt))

  links : (side : List Term) (rest : List Link) → Hold (of_links side rest) → LinksHold scope z side rest
  links side [] h = tt
  links side (link ∷ rest) h =
      let parts = parted (differences link.relation side link.side) (of_links link.side rest) h in
      (compares link.relation side link.side parts.0, links link.side rest parts.1)

  from_links : (side : List Term) (rest : List Link) → LinksHold scope z side rest → Hold (of_links side rest)
  from_links side [] h = tt
  from_links side (link ∷ rest) h =
      joined (differences link.relation side link.side) (of_links link.side rest) (from_comparison link.relation side link.side h.0) (from_links link.side rest h.1)

  chains_of : (chains : List Chain) → Hold (of_chains chains) → AllByRecursion (ChainHolds scope z) chains
  chains_of [] h = tt
  chains_of (chain ∷ chains) h =
      let parts = parted (of_chain chain) (of_chains chains) h in
      (links chain.first chain.links parts.0, chains_of chains parts.1)

  from_chains : (chains : List Chain) → AllByRecursion (ChainHolds scope z) chains → Hold (of_chains chains)
  from_chains [] h = tt
  from_chains (chain ∷ chains) h = joined (of_chain chain) (of_chains chains) (from_links chain.first chain.links h.0) (from_chains chains h.1)

pub chains_hold : ChainsHold
chains_hold scope chains z once = (
  λ holds. All-from_recursion (ChainHolds scope z) chains
      (chains_of scope z once chains (recursion_from_All (IsAtLeastZero z) (map (row_of scope) (of_chains chains)) holds)),
  λ all. All-from_recursion (IsAtLeastZero z) (map (row_of scope) (of_chains chains))
      (from_chains scope z once chains (recursion_from_All (ChainHolds scope z) chains all)),
)
