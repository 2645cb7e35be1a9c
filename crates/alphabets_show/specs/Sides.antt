-- Rows, maps and domains as text. A column is shown by its name: first stand the parameters, then the indices
-- `i0`, `i1` and so on of the declaration, or of the equation and its reductions.
use Rattle.std.specs.Prelude.{ℕ, zero, suc, Bool, true, false, not, ◌-◌, ◌==◌, if◌then◌else◌, List, [], ◌∷◌, ◌++◌, length, slice_get, unwrap_or, Option, Some, None, ℤ, pos, negsuc, unsigned_abs, decimal}
use Rattle.std.specs.List.{list_any}
use Rattle.az_lin.specs.Affine.{Affine, Polyhedron, Union}
use Rattle.az_text.specs.declared.mark.MarkKind.TheVariants.{OpenBrace, CloseBrace, Bar, BarBar, GreaterEqual, AndAnd, Plus, Minus, Star}
use Rattle.az_text.specs.Lumps.{Lump}
use Rattle.alphabets_show.specs.Pieces.{mark, word, number, space, spaced, comma, joined, is_empty, names}

abbrev pub Names : Type 0
Names = List (List ℕ)

abbrev pub index_name : ℕ → List ℕ
index_name n = 105 ∷ decimal n

-- the names of so many indices, from a number on
abbrev pub indices : ℕ → ℕ → Names
indices from zero = []
indices from (suc count) = index_name from ∷ indices (suc from) count

-- the name of a column, by its place
abbrev pub column_name : Names → ℕ → List ℕ
column_name params column = unwrap_or (slice_get params column) (index_name (column - length params))

-- What is shown of a row: its coefficients, each with its column's name, and then its constant, as far as they
-- aren't zero.
abbrev pub Summand : Type 0
Summand = ℤ × Option (List ℕ)

abbrev pub nonzero : ℤ → Option (List ℕ) → List Summand
nonzero c name = if unsigned_abs c == 0 then [] else (c, name) ∷ []

abbrev pub coefficients : Names → ℕ → List ℤ → List Summand
coefficients params column [] = []
coefficients params column (c ∷ rest) = nonzero c (Some (column_name params column)) ++ coefficients params (suc column) rest

abbrev pub summands : Names → Affine → List Summand
summands params row = coefficients params 0 row.coefs ++ nonzero row.konst None

-- without its sign
abbrev pub magnitude : ℕ → Option (List ℕ) → List Lump
magnitude n None = number n ∷ []
magnitude n (Some name) = if n == 1 then word name ∷ [] else number n ∷ mark Star ∷ word name ∷ []

-- the first has no `+`
abbrev pub sign : Bool → ℤ → List Lump
sign first (pos n) = if first then [] else mark Plus ∷ []
sign first (negsuc n) = mark Minus ∷ []

abbrev pub terms : Bool → List Summand → List Lump
terms first [] = []
terms first (t ∷ rest) = sign first t.0 ++ (magnitude (unsigned_abs t.0) t.1 ++ terms false rest)

abbrev pub side : List Summand → List Lump
side [] = number 0 ∷ []
side (t ∷ rest) = terms true (t ∷ rest)

abbrev pub affine : Names → Affine → List Lump
affine params row = side (summands params row)

abbrev pub affines : Names → List Affine → List Lump
affines params rows = joined (affine params) comma rows

-- domains
abbrev pub comparison : Names → Affine → List Lump
comparison params row = affine params row ++ mark GreaterEqual ∷ number 0 ∷ []

abbrev pub conjunction : Names → Polyhedron → List Lump
conjunction params conj = joined (comparison params) (spaced AndAnd) conj.rows

abbrev pub disjunction : Names → List Polyhedron → List Lump
disjunction params disjuncts = joined (conjunction params) (spaced BarBar) disjuncts

-- a space where something follows
abbrev pub space_if : Bool → List Lump → List Lump
space_if some rest = if some then space ∷ rest else rest

abbrev pub has_rows : Polyhedron → Bool
has_rows conj = not (is_empty conj.rows)

abbrev pub behind_bar : Names → Union → List Lump
behind_bar params domain =
    mark Bar ∷ space_if (list_any has_rows domain.disjuncts) (disjunction params domain.disjuncts ++ mark CloseBrace ∷ [])

-- a domain with the names that it brings, and a restriction, which brings none
abbrev pub domain : Names → Names → Union → List Lump
domain brought params d = mark OpenBrace ∷ (names brought ++ space_if (not (is_empty brought)) (behind_bar params d))

abbrev pub restriction : Names → Union → List Lump
restriction params d = mark OpenBrace ∷ behind_bar params d
