-- The words of the command line.
use Rattle.std.specs.Prelude.{ℕ, List, [], ◌∷◌, Bool, true, false, not, ◌==◌, String, string_bytes, map}
use Rattle.std.specs.declared.alloc.Global.{Global}

abbrev pub texts : List (String Global) → List (List ℕ)
texts words = map string_bytes words

-- what is no option wherever it stands: it isn't empty and doesn't begin with a dash, or it is a dash
abbrev pub is_plain : List ℕ → Bool
is_plain [] = false
is_plain (b ∷ []) = true
is_plain (b ∷ c ∷ rest) = not (b == 45)
