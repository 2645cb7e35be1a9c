-- A text cut into its lines: each ends with a line feed, and what stands behind the last one is no line.
use Rattle.std.specs.Prelude.{◌≡◌, ℕ, List, [], ◌∷◌, ◌++◌}
use Rattle.std.specs.List.{AllByRecursion}
use Rattle.az_text.specs.Tokens.{is_before_line_feed, AllAre}

-- bytes without a line feed
abbrev pub IsLine : List ℕ → Type 0
IsLine bytes = AllAre is_before_line_feed bytes

-- the lines one after another, each with its end
abbrev pub joined : List (List ℕ) → List ℕ
joined [] = []
joined (line ∷ lines) = line ++ (10 ∷ joined lines)

pub record IsCut (text : List ℕ) (lines : List (List ℕ)) (rest : List ℕ) : Type 0 where
  pub whole : text ≡ joined lines ++ rest
  pub ended : AllByRecursion IsLine lines
  pub unended : IsLine rest

-- A text is cut in one way, so lines that were written are read as the same.
abbrev pub LinesAreOne : Type 0
LinesAreOne = (text : List ℕ) (lines others : List (List ℕ)) (rest later : List ℕ) → IsCut text lines rest → IsCut text others later → (lines ≡ others) × (rest ≡ later)
