-- Sides and domains as they are shown stand apart.
use Rattle.std.proofs.Common.{◌≡◌, ℕ, zero, suc, ◌+◌, ◌<◌, ◌^◌, Bool, true, false, not, ◌||◌, List, [], ◌∷◌, ◌++◌, length, Option, Some, None, refl, sym, ap, subst, ◌∙◌, arith}
use Rattle.std.specs.Prelude.{◌==◌, if◌then◌else◌, flat_map, ℤ, pos, negsuc, unsigned_abs}
use Rattle.std.specs.List.{list_any, AllByRecursion}
use Rattle.az_lin.specs.Affine.{Affine, Polyhedron, Union}
use Rattle.az_text.specs.Lumps.{Lump, bytes_of}
use Rattle.az_text.specs.Pieces.{EndsAt}
use Rattle.az_text.specs.Tokens.{IsWord}
use Rattle.az_text.specs.declared.mark.MarkKind.TheVariants.{OpenBrace, CloseBrace, Bar, BarBar, AndAnd, GreaterEqual, Plus, Minus, Star}
use Rattle.az_text.specs.declared.token.TokenKind.TheVariants.{Mark}
use Rattle.alphabets_show.specs.Pieces.{mark, word, number, space, spaced, comma, joined, is_empty, names}
use Rattle.alphabets_show.specs.Sides.{Names, Summand, nonzero, column_name, coefficients, summands, magnitude, sign, terms, side, affine, affines, comparison, conjunction, disjunction, space_if, has_rows, behind_bar, domain, restriction}
use Rattle.program_grammar.specs.Written.{IsName}
use Rattle.show_grammar.specs.Showable.{IsSpelled, IsSpelledRow, AreSpelledRows, IsSpelledConj}
use Rattle.show_grammar.proofs.Apart.{IsOpen, Spelled, Opens, nothing_spelled, nothing_opens, spelled_append, word_spelled, number_spelled, mark_spelled, blank_spelled, number_no_arrow, word_no_arrow, minus_spelled, spaced_spelled, comma_spelled, joined_spelled}
use Rattle.show_grammar.proofs.SideWithin.{NameOk, AreNames}

abbrev IsOk : Summand → Type 0
IsOk t = IsSpelled t.0 × NameOk t.1

abbrev AreOk : List Summand → Type 0
AreOk ts = AllByRecursion IsOk ts

magnitude_spelled : (n : ℕ) (name : Option (List ℕ)) → n < 2 ^ 127 → NameOk name → Spelled (magnitude n name)
magnitude_spelled n None few ok = number_spelled n [] few nothing_opens nothing_spelled
magnitude_spelled n (Some x) few ok = by (n == 1)
  where
    by : (b : Bool) → Spelled (if b then word x ∷ [] else number n ∷ mark Star ∷ word x ∷ [])
    by true = word_spelled x [] ok.0 nothing_opens nothing_spelled
    by false =
        number_spelled n (mark Star ∷ word x ∷ []) few (λ after opened. refl)
        (mark_spelled Star (word x ∷ []) (λ b. refl) (word_spelled x [] ok.0 nothing_opens nothing_spelled))

magnitude_no_arrow : (n : ℕ) (name : Option (List ℕ)) (rest : List Lump) (after : List ℕ) → n < 2 ^ 127 → NameOk name → EndsAt (Mark Minus) (bytes_of (magnitude n name ++ rest) ++ after)
magnitude_no_arrow n None rest after few ok = number_no_arrow n rest after few
magnitude_no_arrow n (Some x) rest after few ok = by (n == 1)
  where
    by : (b : Bool) → EndsAt (Mark Minus) (bytes_of ((if b then word x ∷ [] else number n ∷ mark Star ∷ word x ∷ []) ++ rest) ++ after)
    by true = word_no_arrow x rest after ok.0
    by false = number_no_arrow n (mark Star ∷ word x ∷ rest) after few

sign_opens : (c : ℤ) (rest : List Lump) (after : List ℕ) → IsOpen (bytes_of (sign false c ++ rest) ++ after)
sign_opens (pos n) rest after = refl
sign_opens (negsuc n) rest after = refl

terms_open : (ts : List Summand) → Opens (terms false ts)
terms_open [] = nothing_opens
terms_open (t ∷ ts) = λ after opened. sign_opens t.0 (magnitude (unsigned_abs t.0) t.1 ++ terms false ts) after

signed_spelled : (first : Bool) (c : ℤ) (name : Option (List ℕ)) (rest : List Lump) → IsSpelled c → NameOk name → Opens rest → Spelled rest → Spelled (sign first c ++ (magnitude (unsigned_abs c) name ++ rest))
signed_spelled true (pos n) name rest few ok opens spelled = spelled_append (magnitude n name) rest (magnitude_spelled n name few ok) opens spelled
signed_spelled false (pos n) name rest few ok opens spelled =
    mark_spelled Plus (magnitude n name ++ rest) (λ b. refl) (spelled_append (magnitude n name) rest (magnitude_spelled n name few ok) opens spelled)
signed_spelled first (negsuc n) name rest few ok opens spelled =
    minus_spelled (magnitude (suc n) name ++ rest) (λ after opened. magnitude_no_arrow (suc n) name rest after few ok)
    (spelled_append (magnitude (suc n) name) rest (magnitude_spelled (suc n) name few ok) opens spelled)

terms_spelled : (first : Bool) (ts : List Summand) → AreOk ts → Spelled (terms first ts)
terms_spelled first [] ok = nothing_spelled
terms_spelled first (t ∷ ts) ok = signed_spelled first t.0 t.1 (terms false ts) ok.0.0 ok.0.1 (terms_open ts) (terms_spelled false ts ok.1)

side_spelled : (ts : List Summand) → AreOk ts → Spelled (side ts)
side_spelled [] ok = number_spelled 0 [] (omega arith) nothing_opens nothing_spelled
side_spelled (t ∷ ts) ok = terms_spelled true (t ∷ ts) ok

-- the summands of a row
ok-append : (xs ys : List Summand) → AreOk xs → AreOk ys → AreOk (xs ++ ys)
ok-append [] ys one two = two
ok-append (x ∷ xs) ys one two = (one.0, ok-append xs ys one.1 two)

nonzero_ok : (c : ℤ) (name : Option (List ℕ)) → IsSpelled c → NameOk name → AreOk (nonzero c name)
nonzero_ok c name few ok = by (unsigned_abs c == 0)
  where
    by : (b : Bool) → AreOk (if b then [] else (c, name) ∷ [])
    by true = tt
    by false = ((few, ok), tt)

coefficients_ok : (params : Names) → AreNames params → (column : ℕ) (cs : List ℤ) → AllByRecursion IsSpelled cs → AreOk (coefficients params column cs)
coefficients_ok params named column [] few = tt
coefficients_ok params named column (c ∷ cs) few =
    ok-append (nonzero c (Some (column_name params column))) (coefficients params (suc column) cs) (nonzero_ok c (Some (column_name params column)) few.0 (named column)) (coefficients_ok params named (suc column) cs few.1)

module _ (params : Names) (named : AreNames params) where
  pub affine_spelled : (row : Affine) → IsSpelledRow row → Spelled (affine params row)
  affine_spelled row is =
      side_spelled (summands params row)
      (ok-append (coefficients params 0 row.coefs) (nonzero row.konst None) (coefficients_ok params named 0 row.coefs is.0) (nonzero_ok row.konst None is.1 tt))

  pub affines_spelled : (rows : List Affine) → AreSpelledRows rows → Spelled (affines params rows)
  affines_spelled rows is = joined_spelled IsSpelledRow (affine params) comma (λ a rest after. refl) affine_spelled comma_spelled rows is

  comparison_spelled : (row : Affine) → IsSpelledRow row → Spelled (comparison params row)
  comparison_spelled row is =
      spelled_append (affine params row) (mark GreaterEqual ∷ number 0 ∷ []) (affine_spelled row is) (λ after opened. refl)
      (mark_spelled GreaterEqual (number 0 ∷ []) (λ b. refl) (side_spelled [] tt))

  conjunction_spelled : (conj : Polyhedron) → IsSpelledConj conj → Spelled (conjunction params conj)
  conjunction_spelled conj is =
      joined_spelled IsSpelledRow (comparison params) (spaced AndAnd) (λ a rest after. refl) comparison_spelled (λ rest spelled. spaced_spelled AndAnd rest refl spelled) conj.rows is

  disjunction_spelled : (ds : List Polyhedron) → AllByRecursion IsSpelledConj ds → Spelled (disjunction params ds)
  disjunction_spelled ds is =
      joined_spelled IsSpelledConj (conjunction params) (spaced BarBar) (λ a rest after. refl) conjunction_spelled (λ rest spelled. spaced_spelled BarBar rest refl spelled) ds is

  -- a bar is followed by no bar
  bar_ends : (ds : List Polyhedron) (after : List ℕ) → list_any has_rows ds ≡ false → EndsAt (Mark Bar) (bytes_of (disjunction params ds ++ mark CloseBrace ∷ []) ++ after)
  bar_ends [] after none = refl
  bar_ends (conj ∷ ds) after none = by conj.rows none
    where
      rest : (ds : List Polyhedron) → EndsAt (Mark Bar) (bytes_of (flat_map (λ next. spaced BarBar (conjunction params next)) ds ++ mark CloseBrace ∷ []) ++ after)
      rest [] = refl
      rest (d ∷ ds) = refl

      by : (rows : List Affine) → (not (is_empty rows) || list_any has_rows ds) ≡ false
          → EndsAt (Mark Bar) (bytes_of ((joined (comparison params) (spaced AndAnd) rows ++ flat_map (λ next. spaced BarBar (conjunction params next)) ds) ++ mark CloseBrace ∷ []) ++ after)
      by [] none = rest ds
      by (row ∷ rows) none = absurd (cc)

  closed_spelled : (ds : List Polyhedron) → AllByRecursion IsSpelledConj ds → Spelled (disjunction params ds ++ mark CloseBrace ∷ [])
  closed_spelled ds is = spelled_append (disjunction params ds) (mark CloseBrace ∷ []) (disjunction_spelled ds is) (λ after opened. refl) (mark_spelled CloseBrace [] (λ b. refl) nothing_spelled)

  behind_bar_spelled : (d : Union) → AllByRecursion IsSpelledConj d.disjuncts → Spelled (behind_bar params d)
  behind_bar_spelled d is = by (list_any has_rows d.disjuncts) refl
    where
      by : (b : Bool) → list_any has_rows d.disjuncts ≡ b → Spelled (mark Bar ∷ space_if b (disjunction params d.disjuncts ++ mark CloseBrace ∷ []))
      by true some = λ after opened. (tt, refl, (refl, closed_spelled d.disjuncts is after opened))
      by false none = λ after opened. (tt, bar_ends d.disjuncts after none, closed_spelled d.disjuncts is after opened)

  pub restriction_spelled : (d : Union) → AllByRecursion IsSpelledConj d.disjuncts → Spelled (restriction params d)
  restriction_spelled d is = mark_spelled OpenBrace (behind_bar params d) (λ b. refl) (behind_bar_spelled d is)

  pub names_spelled : (all : Names) → AllByRecursion IsName all → Spelled (names all)
  names_spelled all is =
      joined_spelled IsName (λ name. word name ∷ []) comma (λ a rest after. refl) (λ name ok. word_spelled name [] ok.0 nothing_opens nothing_spelled) comma_spelled all is

  pub domain_spelled : (brought : Names) (d : Union) → AllByRecursion IsName brought → AllByRecursion IsSpelledConj d.disjuncts → Spelled (domain brought params d)
  domain_spelled brought d are is =
      mark_spelled OpenBrace (names brought ++ space_if (not (is_empty brought)) (behind_bar params d)) (λ b. refl)
      (spelled_append (names brought) (space_if (not (is_empty brought)) (behind_bar params d)) (names_spelled brought are) (opens (not (is_empty brought))) (spelled (not (is_empty brought))))
    where
      opens : (b : Bool) → Opens (space_if b (behind_bar params d))
      opens true = λ after opened. refl
      opens false = λ after opened. refl

      spelled : (b : Bool) → Spelled (space_if b (behind_bar params d))
      spelled true = blank_spelled 32 (behind_bar params d) refl (behind_bar_spelled d is)
      spelled false = behind_bar_spelled d is
