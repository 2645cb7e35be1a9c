-- Where each output and local has its meanings, there is no closed chain.
use Rattle.std.proofs.Common.{◌≡◌, ℕ, ◌-◌, ◌<◌, List, [], ◌∷◌, length, Option, Some, None, sym, subst, ◌∙◌, arith}
use Rattle.std.specs.Prelude.{ℤ, pos, map, All, Contains, MatchOption, slice_get, slice_index_or, ◌++◌}
use Rattle.std.specs.FinMap.{get}
use Rattle.std.proofs.Math.ListN.{get_or-map}
use Rattle.std.proofs.lemmas.List.{length-map}
use Rattle.az_ast.specs.Dependences.{PointReads, TermReads, IsRead}
use Rattle.az_ast.specs.Meaning.{Means, RoleGives, body_of}
use Rattle.az_ast.specs.Points.{IsPointOf, IsMember}
use Rattle.az_ast.specs.System.{System}
use Rattle.az_ast.specs.Tables.{Tables, Rows}
use Rattle.az_ast.specs.declared.program.Role.{Role}
use Rattle.az_ast.specs.declared.program.Role.TheVariants.{Input, Output, Local}
use Rattle.az_ast.specs.declared.program.Variable.{Variable}
use Rattle.az_ast.proofs.DependenceLaws.{closed_chain-none, ReadsAlong as Along}
use Rattle.value_walk.specs.Chains.{IsClosedChain, ReadsAlong}
use Rattle.value_walk.specs.Meanings.{IsMeaningTable, AreMeanings}
use Rattle.value_walk.specs.declared.refusal.PointName.{PointName}

abbrev first : List ℤ × ℤ → List ℤ
first row = row.0

module _ (p : System) (tables : Tables) (params : List ℤ) (values : Tables) (means : AreMeanings p tables params values) where
  at_row : (x : ℕ) (rows : Rows) → All (λ row. Means p tables params x row.0 row.1) rows → (k : List ℤ) → Contains (map first rows) k → (v : ℤ) × Means p tables params x k v
  at_row x rows each k at =
      let d : List ℤ × ℤ = (k, pos 0) in
      let found : (slice_index_or rows at.0 d).0 ≡ k = sym (get_or-map first rows at.0 d) ∙ at.2 in
      let within : at.0 < length rows = let l = at.1 in omega (arith, l, length-map rows first) in
      let v : ℤ = (slice_index_or rows at.0 d).1 in
      (v, subst (λ (l : List ℤ). Means p tables params x l v) found (each at.0 d within))

  module _ (x : ℕ) (k : List ℤ) (variable : Variable) (member : IsMember variable.domain params (variable.domain.width - length p.params) k) where
    at_table : (o : Option Rows) → MatchOption o ⊥ (IsMeaningTable p tables params x variable) → (v : ℤ) × Means p tables params x k v
    at_table None table = absurd table
    at_table (Some rows) table = at_row x rows table.values k (table.points.every k member)

    at_role : (role : Role) (reads : Type 0) → RoleGives role ⊥ reads → RoleGives role (get values x ≡ None) (MatchOption (get values x) ⊥ (IsMeaningTable p tables params x variable))
        → (v : ℤ) × Means p tables params x k v
    at_role Input reads none table = absurd none
    at_role Output reads some table = at_table (get values x) table
    at_role Local reads some table = at_table (get values x) table

  -- a point whose equation reads something has a meaning
  reader_means : (x : ℕ) (k : List ℤ) (y : ℕ) (l : List ℤ) → PointReads p params x k y l → (v : ℤ) × Means p tables params x k v
  reader_means x k y l reads = by (slice_get p.variables x) reads (means x)
    where
      by : (o : Option Variable)
          → MatchOption o ⊥ (λ variable. IsPointOf (length p.params) variable.domain params k × RoleGives variable.role ⊥ (MatchOption (body_of p.equations x) ⊥ (λ body. TermReads (length p.params) (IsRead y params l) body (params ++ k))))
          → MatchOption o (get values x ≡ None) (λ variable. RoleGives variable.role (get values x ≡ None) (MatchOption (get values x) ⊥ (IsMeaningTable p tables params x variable)))
          → (v : ℤ) × Means p tables params x k v
      by None h table = absurd h
      by (Some variable) h table = at_role x k variable h.0.member variable.role _ h.1 table

  abbrev pair : PointName → ℕ × List ℤ
  pair at = (at.variable, at.point)

  along : (from : PointName) (rest : List PointName) (last : PointName) → ReadsAlong p params from rest last → Along p tables params from.variable from.point (map pair rest) last.variable last.point
  along from [] last reads = reads
  along from (next ∷ rest) last reads = (reads.0, along next rest last reads.1)

  begins : (from : PointName) (rest : List PointName) (last : PointName) → ReadsAlong p params from rest last → (v : ℤ) × Means p tables params from.variable from.point v
  begins from [] last reads = reader_means from.variable from.point last.variable last.point reads
  begins from (next ∷ rest) last reads = reader_means from.variable from.point next.variable next.point reads.0

  pub no_closed_chain : (chain : List PointName) → IsClosedChain p params chain → ⊥
  no_closed_chain [] closed = closed
  no_closed_chain (from ∷ rest) closed =
      let meaning = begins from rest from closed in
      closed_chain-none p tables params from.variable from.point (map pair rest) (along from rest from closed) meaning.0 meaning.1
