-- The words behind a command: plain words, and a count of workers.
use Rattle.std.specs.Prelude.{ℕ, List, [], ◌∷◌, Bool, true, false, codes, take, drop, map, Option, Some, None, is_none, option_map, if◌then◌else◌}
use Rattle.std.specs.Borrow.{Bor}
use Rattle.std.specs.Option.{option_and_then}
use Rattle.std.specs.Str.{bytes_eq}
use Rattle.command_words.specs.Words.{is_plain}

-- the plain words behind a command, and what `--workers` has, where it stands
pub record Line : Type 0 where
  pub plain : List (List ℕ)
  pub workers : Option (List ℕ)

-- a word more at the front
abbrev pub with_word : List ℕ → Line → Line
with_word word line = record line { plain = word ∷ line.plain }

-- `--workers` may stand once
abbrev pub with_workers : List ℕ → Line → Option Line
with_workers count line = if is_none line.workers then Some (record line { workers = Some count }) else None

-- what stands behind `--workers=` in one word
abbrev pub joined_count : List ℕ → Option (List ℕ)
joined_count word = if bytes_eq (take 10 word) (codes "--workers=") then Some (drop 10 word) else None

-- The line of words, where they have one. The count of `--workers` is the rest of its word, or the next word, which
-- `waits` says of the first. Behind the first `--`, which counts for nothing, each word is plain.
abbrev pub line_from : Bool → List (List ℕ) → Option Line
line_from true [] = None
line_from true (word ∷ words) = if is_plain word then option_and_then (with_workers word) (line_from false words) else None
line_from false [] = Some (record { plain = []; workers = None })
line_from false (word ∷ words) =
    if bytes_eq word (codes "--") then Some (record { plain = words; workers = None })
    else (if is_plain word then option_map (with_word word) (line_from false words)
    else (if bytes_eq word (codes "--workers") then line_from true words
    else option_and_then (λ count. option_and_then (with_workers count) (line_from false words)) (joined_count word)))

abbrev pub line_of : List (List ℕ) → Option Line
line_of words = line_from false words

-- what words are, without where they lie
abbrev pub told : List (Bor (List ℕ)) → Option (Bor (List ℕ)) → Line
told plain workers = record { plain = map (λ word. word.now) plain; workers = option_map (λ word. word.now) workers }
