-- Files by name: where the first file of a name stands, and what a write leaves under each name.
use Rattle.std.proofs.Common.{◌≡◌, ◌≢◌, ℕ, ◌+◌, ◌<◌, ◌≤◌, List, [], ◌∷◌, ◌++◌, length, position, true, false, not, cond, Some, None, refl, ap, ◌∙◌, arith}
use Rattle.std.proofs.Math.ListN.{set, get_or}
use Rattle.std.proofs.lemmas.Slice.Eq.{bytes_eq-Decides}
use Rattle.std.specs.List.{position_or_len}
use Rattle.std.specs.Str.{bytes_eq}
use Rattle.az_desk.specs.Files.{Files, file_of, with_file}

abbrev place_of : Files → List ℕ → ℕ
place_of files name = position_or_len (λ file. bytes_eq file.0 name) files

get_next : (file other : List ℕ × List ℕ) (files : Files) (place : ℕ) → get_or (file ∷ files) (1 + place) other ≡ get_or files place other
get_next file other files place = grind arith

set_next : (file other : List ℕ × List ℕ) (files : Files) (place : ℕ) → set (file ∷ files) (1 + place) other ≡ file ∷ set files place other
set_next file other files place = grind arith

found_at : (name : List ℕ) (other : List ℕ × List ℕ) (files : Files) → place_of files name < length files → file_of files name ≡ Some (get_or files (place_of files name) other).1
found_at name other [] = λ small. absurd (omega arith)
found_at name other (file ∷ files) =
    elim (bytes_eq file.0 name) as (λ b. cond (not b) (1 + place_of files name) 0 < length (file ∷ files) → cond b (Some file.1) (file_of files name) ≡ Some (get_or (file ∷ files) (cond (not b) (1 + place_of files name) 0) other).1) [
      | true ↦ λ _. refl
      | false ↦ λ small. rw (get_next file other files (place_of files name)) (found_at name other files (omega arith))
    ]

absent : (name : List ℕ) (files : Files) → length files ≤ place_of files name → file_of files name ≡ None
absent name [] = λ _. refl
absent name (file ∷ files) =
    elim (bytes_eq file.0 name) as (λ b. length (file ∷ files) ≤ cond (not b) (1 + place_of files name) 0 → cond b (Some file.1) (file_of files name) ≡ None) [
      | true ↦ λ none. absurd (omega arith)
      | false ↦ λ none. absent name files (omega arith)
    ]

at_place : (name bytes : List ℕ) (files : Files) → place_of files name < length files → with_file name bytes files ≡ set files (place_of files name) (name, bytes)
at_place name bytes [] = λ small. absurd (omega arith)
at_place name bytes (file ∷ files) =
    elim (bytes_eq file.0 name) as (λ b. cond (not b) (1 + place_of files name) 0 < length (file ∷ files) → cond b ((name, bytes) ∷ files) (file ∷ with_file name bytes files) ≡ set (file ∷ files) (cond (not b) (1 + place_of files name) 0) (name, bytes)) [
      | true ↦ λ _. refl
      | false ↦ λ small. rw (set_next file (name, bytes) files (place_of files name)) (ap (λ rest. file ∷ rest) (at_place name bytes files (omega arith)))
    ]

at_end : (name bytes : List ℕ) (files : Files) → length files ≤ place_of files name → with_file name bytes files ≡ files ++ (name, bytes) ∷ []
at_end name bytes [] = λ _. refl
at_end name bytes (file ∷ files) =
    elim (bytes_eq file.0 name) as (λ b. length (file ∷ files) ≤ cond (not b) (1 + place_of files name) 0 → cond b ((name, bytes) ∷ files) (file ∷ with_file name bytes files) ≡ (file ∷ files) ++ (name, bytes) ∷ []) [
      | true ↦ λ none. absurd (omega arith)
      | false ↦ λ none. ap (λ rest. file ∷ rest) (at_end name bytes files (omega arith))
    ]

-- the bytes of a name that is there, and of one that isn't
pub file_of_at_place : (files : Files) (name : List ℕ) (place : ℕ) (other : List ℕ × List ℕ) → position (λ file. bytes_eq file.0 name) files ≡ Some place → file_of files name ≡ Some (get_or files place other).1
file_of_at_place files name place other is = grind (arith, found_at name other files)

pub file_of_absent : (files : Files) (name : List ℕ) → position (λ file. bytes_eq file.0 name) files ≡ None → file_of files name ≡ None
file_of_absent files name none = grind (arith, absent name files)

-- a write to a name that is there, and to one that isn't
pub with_file_at_place : (files : Files) (name bytes : List ℕ) (place : ℕ) → position (λ file. bytes_eq file.0 name) files ≡ Some place → with_file name bytes files ≡ set files place (name, bytes)
with_file_at_place files name bytes place is = grind (arith, at_place name bytes files)

pub with_file_at_end : (files : Files) (name bytes : List ℕ) → position (λ file. bytes_eq file.0 name) files ≡ None → with_file name bytes files ≡ files ++ (name, bytes) ∷ []
with_file_at_end files name bytes none = grind (arith, at_end name bytes files)

-- what a write leaves under each name
same_name : (name : List ℕ) → bytes_eq name name ≡ true
same_name name = (bytes_eq-Decides name name).1 refl

pub file_of_written : (files : Files) (name bytes : List ℕ) → file_of (with_file name bytes files) name ≡ Some bytes
file_of_written [] name bytes = rw (same_name name)
file_of_written (file ∷ files) name bytes =
    elim (bytes_eq file.0 name) as (λ b. bytes_eq file.0 name ≡ b → file_of (cond b ((name, bytes) ∷ files) (file ∷ with_file name bytes files)) name ≡ Some bytes) [
      | true ↦ λ _. rw (same_name name)
      | false ↦ λ is. rw is (file_of_written files name bytes)
    ] refl

other_name : (name other : List ℕ) → other ≢ name → bytes_eq name other ≡ false
other_name name other differs = grind (arith, bytes_eq-Decides name other)

pub file_of_unwritten : (files : Files) (name bytes other : List ℕ) → other ≢ name → file_of (with_file name bytes files) other ≡ file_of files other
file_of_unwritten [] name bytes other differs = rw (other_name name other differs)
file_of_unwritten (file ∷ files) name bytes other differs =
    elim (bytes_eq file.0 name) as (λ b. bytes_eq file.0 name ≡ b → file_of (cond b ((name, bytes) ∷ files) (file ∷ with_file name bytes files)) other ≡ cond (bytes_eq file.0 other) (Some file.1) (file_of files other)) [
      | true ↦ λ is.
          let apart : bytes_eq file.0 other ≡ false = other_name file.0 other (λ same. differs (same ∙ (bytes_eq-Decides file.0 name).0 is)) in
          rw (apart, other_name name other differs)
      | false ↦ λ is. ap (cond (bytes_eq file.0 other) (Some file.1)) (file_of_unwritten files name bytes other differs)
    ] refl
