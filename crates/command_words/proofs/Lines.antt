-- The words so far before a line.
use Rattle.std.proofs.Common.{◌≡◌, ℕ, List, [], ◌∷◌, ◌++◌, map, unwrap_or, refl, sym, ap, append_assoc, Bor}
use Rattle.std.specs.Option.{option_and_then}
use Rattle.std.specs.Prelude.{Option, Some, None, option_map}
use Rattle.command_words.specs.Lines.{Line, with_word, with_workers, line_of}

abbrev pub before : List (List ℕ) → Option (List ℕ) → Line → Option Line
before plain None line = Some (record { plain = plain ++ line.plain; workers = line.workers })
before plain (Some count) line = option_map (λ (l : Line). record l { plain = plain ++ l.plain }) (with_workers count line)

abbrev pub joins : List (List ℕ) → Option (List ℕ) → Option Line → Option Line
joins plain workers rest = option_and_then (before plain workers) rest

pub nothing_joined : (words : List (List ℕ)) → line_of words ≡ joins [] None (line_of words)
nothing_joined words = by (line_of words)
  where
    by : (o : Option Line) → o ≡ joins [] None o
    by None = refl
    by (Some line) = refl

module _ (plain : List (List ℕ)) where
  -- one plain word more
  pub word_joins : (workers : Option (List ℕ)) (word : List ℕ) (rest : Option Line) → joins plain workers (option_map (with_word word) rest) ≡ joins (plain ++ word ∷ []) workers rest
  word_joins workers word None = refl
  word_joins None word (Some line) = ap (λ ws. Some (record line { plain = ws })) (sym (append_assoc plain (word ∷ []) line.plain))
  word_joins (Some count) word (Some line) = by line.workers
    where
      by : (o : Option (List ℕ)) → option_map (λ (l : Line). record l { plain = plain ++ l.plain }) (with_workers count (record { plain = word ∷ line.plain; workers = o }))
          ≡ option_map (λ (l : Line). record l { plain = (plain ++ word ∷ []) ++ l.plain }) (with_workers count (record { plain = line.plain; workers = o }))
      by None = ap (λ ws. Some (record { plain = ws; workers = Some count })) (sym (append_assoc plain (word ∷ []) line.plain))
      by (Some other) = refl

  -- the count of workers
  pub count_joins : (count : List ℕ) (rest : Option Line) → joins plain None (option_and_then (with_workers count) rest) ≡ joins plain (Some count) rest
  count_joins count None = refl
  count_joins count (Some line) = by line.workers
    where
      by : (o : Option (List ℕ)) → joins plain None (with_workers count (record { plain = line.plain; workers = o })) ≡ option_map (λ (l : Line). record l { plain = plain ++ l.plain }) (with_workers count (record { plain = line.plain; workers = o }))
      by None = refl
      by (Some other) = refl

  -- a second count
  pub twice_joins : (count other : List ℕ) (rest : Option Line) → joins plain (Some count) (option_and_then (with_workers other) rest) ≡ None
  twice_joins count other None = refl
  twice_joins count other (Some line) = by line.workers
    where
      by : (o : Option (List ℕ)) → joins plain (Some count) (with_workers other (record { plain = line.plain; workers = o })) ≡ None
      by None = refl
      by (Some third) = refl

-- the texts in a list that may not be there
pub texts_or_none : (o : Option (Bor (List (Bor (List ℕ))))) (d : Bor (List (Bor (List ℕ)))) → d.now ≡ []
    → map (λ (w : Bor (List ℕ)). w.now) (unwrap_or o d).now ≡ unwrap_or (option_map (λ (s : Bor (List (Bor (List ℕ)))). map (λ (w : Bor (List ℕ)). w.now) s.now) o) []
texts_or_none None d none = ap (map (λ (w : Bor (List ℕ)). w.now)) none
texts_or_none (Some words) d none = refl
