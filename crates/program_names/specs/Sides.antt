-- The rows of chains, and the domains that they make.
pub use Rattle.side_rows.specs.Sides.{Scope, is_of, signed, sum_of, Difference, gap_of, entry_of, row_of, less, alone, map_of}
use Rattle.std.specs.Prelude.{true, false, List, [], ◌∷◌, ◌++◌, length, map, flat_map}
use Rattle.az_lin.specs.Affine.{Polyhedron, Union}
use Rattle.program_grammar.specs.declared.tree.Chain.{Chain}
use Rattle.program_grammar.specs.declared.tree.Link.{Link}
use Rattle.program_grammar.specs.declared.tree.Relation.{Relation}
use Rattle.program_grammar.specs.declared.tree.Relation.TheVariants.{AtMost, Below, AtLeast, Above, Equal}
use Rattle.grammar_rules.specs.declared.term.Term.{Term}

-- the rows of two neighbours in a chain, which are at least 0 where the relation holds
abbrev pub differences : Relation → List Term → List Term → List Difference
differences AtMost a b = less b a false ∷ []
differences Below a b = less b a true ∷ []
differences AtLeast a b = less a b false ∷ []
differences Above a b = less a b true ∷ []
differences Equal a b = less a b false ∷ less b a false ∷ []

abbrev pub of_links : List Term → List Link → List Difference
of_links side [] = []
of_links side (link ∷ links) = differences link.relation side link.side ++ of_links link.side links

abbrev pub of_chain : Chain → List Difference
of_chain chain = of_links chain.first chain.links

abbrev pub of_chains : List Chain → List Difference
of_chains chains = flat_map of_chain chains

-- domains over a scope
abbrev pub conjunction_of : Scope → List Chain → Polyhedron
conjunction_of scope chains = record { width = length scope; rows = map (row_of scope) (of_chains chains) }

-- what is written has a list of chains at least, which may be empty; nothing is read as one empty list
abbrev pub written : List (List Chain) → List (List Chain)
written [] = [] ∷ []
written (chains ∷ more) = chains ∷ more

abbrev pub union_of : Scope → List (List Chain) → Union
union_of scope disjuncts = record { width = length scope; disjuncts = map (conjunction_of scope) (written disjuncts) }
