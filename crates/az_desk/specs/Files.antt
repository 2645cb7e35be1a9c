-- Files by name: a list of pairs, each a name and the bytes under it. Of several files with one name
-- the first counts.
use Rattle.std.specs.Prelude.{ℕ, List, [], ◌∷◌, Option, Some, None, if◌then◌else◌, unwrap_or}
use Rattle.std.specs.Str.{bytes_eq}

abbrev pub Files : Type 0
Files = List (List ℕ × List ℕ)

-- the bytes under a name
abbrev pub file_of : Files → List ℕ → Option (List ℕ)
file_of [] name = None
file_of (file ∷ files) name = if bytes_eq file.0 name then Some file.1 else file_of files name

-- the bytes that a reader gets: a file that isn't there has none
abbrev pub content_of : Files → List ℕ → List ℕ
content_of files name = unwrap_or (file_of files name) []

-- the files after these bytes were put under the name; a new file goes to the end
abbrev pub with_file : List ℕ → List ℕ → Files → Files
with_file name bytes [] = (name, bytes) ∷ []
with_file name bytes (file ∷ files) =
    if bytes_eq file.0 name then (name, bytes) ∷ files else file ∷ with_file name bytes files

-- what a desk in memory holds: its files, and the bytes said so far
pub record Contents : Type 0 where
  pub files : Files
  pub said : List ℕ
