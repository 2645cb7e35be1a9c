-- Affine expressions as they are shown, by the grammar.
use Rattle.std.proofs.Common.{◌≡◌, ℕ, suc, ◌+◌, Bool, true, false, List, [], ◌∷◌, ◌++◌, Option, Some, None, refl, sym, ap, subst, ◌∙◌, append_assoc}
use Rattle.std.specs.Prelude.{◌==◌, if◌then◌else◌, map, flat_map, ℤ, pos, negsuc, unsigned_abs}
use Rattle.std.specs.List.{AllByRecursion}
use Rattle.std.proofs.lemmas.Bool.{eqb-true}
use Rattle.az_lin.specs.Affine.{Affine}
use Rattle.az_text.specs.Lumps.{Lump}
use Rattle.az_text.specs.declared.mark.MarkKind.TheVariants.{Star, Plus, Minus, Comma, OpenBracket, CloseBracket}
use Rattle.az_text.specs.declared.token.TokenKind.TheVariants.{Mark}
use Rattle.alphabets_show.specs.Pieces.{mark, word, number, comma, joined, in_brackets, names}
use Rattle.alphabets_show.specs.Sides.{Names, Summand, nonzero, column_name, coefficients, summands, magnitude, sign, terms, side, affine, affines}
use Rattle.grammar_rules.specs.Rules.{many, sequence}
use Rattle.grammar_rules.specs.Sides as sides
use Rattle.grammar_rules.specs.Tokens.{chosen_of}
use Rattle.grammar_rules.specs.declared.term.Term.{Term}
use Rattle.grammar_rules.proofs.Within.{Within, one_token, none_of, with_value, in_sequence, first_choice, second_choice, in_option, no_option, none_of_many, one_of_many, in_list}
use Rattle.program_grammar.specs.Grammar as grammar
use Rattle.program_grammar.specs.Values.{behind, before, pair, Scaled, once, signed}
use Rattle.program_grammar.specs.Words as words
use Rattle.program_grammar.specs.Words.{reserved, signs}
use Rattle.program_grammar.specs.Written.{IsName}
use Rattle.show_grammar.specs.WrittenOf.{is_negative, term_of, zero_side, side_of, row_of}
use Rattle.show_grammar.proofs.NameWithin.{name_within, number_within, mark_within, same_lumps, joined_within}

-- a name behind a number, if there is one
abbrev pub NameOk : Option (List ℕ) → Type 0
NameOk None = Unit {0}
NameOk (Some x) = IsName x

abbrev pub AreNamed : List Summand → Type 0
AreNamed ts = AllByRecursion (λ (t : Summand). NameOk t.1) ts

scaled_within : (n : ℕ) (name : Option (List ℕ)) → NameOk name → Within grammar.scaled (magnitude n name) 0 (n, name)
scaled_within n None ok = first_choice (in_sequence pair (number_within 0 n) no_option)
scaled_within n (Some x) ok = by (n == 1) refl
  where
    by : (b : Bool) → (n == 1) ≡ b → Within grammar.scaled (if b then word x ∷ [] else number n ∷ mark Star ∷ word x ∷ []) 0 (n, Some x)
    by true is = subst (λ (m : ℕ). Within grammar.scaled (word x ∷ []) 0 (m, Some x)) (sym (eqb-true n 1 is)) (second_choice (with_value once (name_within 0 x ok)))
    by false is = first_choice (in_sequence pair (number_within 0 n) (in_option (first_choice (in_sequence behind (mark_within Star 0) (name_within 0 x ok)))))

minus_within : Within (words.one_of signs 0) (mark Minus ∷ []) 0 true
minus_within = one_token (chosen_of reserved signs) 0 (Mark Minus) true (λ at. refl)

plus_within : Within (words.one_of signs 0) (mark Plus ∷ []) 0 false
plus_within = one_token (chosen_of reserved signs) 0 (Mark Plus) false (λ at. refl)

first_within : (c : ℤ) (name : Option (List ℕ)) → NameOk name → Within (sides.first_term reserved) (sign true c ++ magnitude (unsigned_abs c) name) 0 (term_of (c, name))
first_within (pos n) name ok = second_choice (with_value (signed false) (scaled_within n name ok))
first_within (negsuc n) name ok = first_choice (in_sequence signed minus_within (scaled_within (suc n) name ok))

next_within : (c : ℤ) (name : Option (List ℕ)) → NameOk name → Within (sides.signed_term reserved) (sign false c ++ magnitude (unsigned_abs c) name) 0 (term_of (c, name))
next_within (pos n) name ok = in_sequence signed plus_within (scaled_within n name ok)
next_within (negsuc n) name ok = in_sequence signed minus_within (scaled_within (suc n) name ok)

terms_within : (ts : List Summand) → AreNamed ts → Within (many (sides.signed_term reserved)) (terms false ts) 0 (map term_of ts)
terms_within [] ok = none_of_many
terms_within (t ∷ ts) ok =
    same_lumps (append_assoc (sign false t.0) (magnitude (unsigned_abs t.0) t.1) (terms false ts)) (one_of_many (next_within t.0 t.1 ok.0) (terms_within ts ok.1))

pub zero_within : Within grammar.affine (number 0 ∷ []) 0 zero_side
zero_within = in_list (second_choice (with_value (signed false) (scaled_within 0 None tt))) none_of_many

side_within : (ts : List Summand) → AreNamed ts → Within grammar.affine (side ts) 0 (side_of ts)
side_within [] ok = zero_within
side_within (t ∷ ts) ok =
    same_lumps (append_assoc (sign true t.0) (magnitude (unsigned_abs t.0) t.1) (terms false ts)) (in_list (first_within t.0 t.1 ok.0) (terms_within ts ok.1))

-- the names of columns
abbrev pub AreNames : Names → Type 0
AreNames params = (column : ℕ) → IsName (column_name params column)

named-append : (xs ys : List Summand) → AreNamed xs → AreNamed ys → AreNamed (xs ++ ys)
named-append [] ys one two = two
named-append (x ∷ xs) ys one two = (one.0, named-append xs ys one.1 two)

nonzero_named : (c : ℤ) (name : Option (List ℕ)) → NameOk name → AreNamed (nonzero c name)
nonzero_named c name ok = by (unsigned_abs c == 0)
  where
    by : (b : Bool) → AreNamed (if b then [] else (c, name) ∷ [])
    by true = tt
    by false = (ok, tt)

coefficients_named : (params : Names) → AreNames params → (column : ℕ) (cs : List ℤ) → AreNamed (coefficients params column cs)
coefficients_named params ok column [] = tt
coefficients_named params ok column (c ∷ cs) =
    named-append (nonzero c (Some (column_name params column))) (coefficients params (suc column) cs) (nonzero_named c (Some (column_name params column)) (ok column)) (coefficients_named params ok (suc column) cs)

summands_named : (params : Names) → AreNames params → (row : Affine) → AreNamed (summands params row)
summands_named params ok row = named-append (coefficients params 0 row.coefs) (nonzero row.konst None) (coefficients_named params ok 0 row.coefs) (nonzero_named row.konst None tt)

pub affine_within : (params : Names) → AreNames params → (row : Affine) → Within grammar.affine (affine params row) 0 (row_of params row)
affine_within params ok row = side_within (summands params row) (summands_named params ok row)

-- lists of names and of sides
abbrev AnyRow : Affine → Type 0
AnyRow row = Unit {0}

any_rows : (rows : List Affine) → AllByRecursion AnyRow rows
any_rows [] = tt
any_rows (row ∷ rows) = (tt, any_rows rows)

pub affines_within : (params : Names) → AreNames params → (rows : List Affine) → Within (sides.comma_list grammar.affine) (affines params rows) 0 (map (row_of params) rows)
affines_within params ok [] = second_choice (none_of [])
affines_within params ok (row ∷ rows) =
    first_choice (joined_within AnyRow (affine params) (row_of params) comma (λ r _. affine_within params ok r) (λ r _. in_sequence behind (mark_within Comma 0) (affine_within params ok r)) row rows (any_rows (row ∷ rows)))

same : (xs : Names) → map (λ (name : List ℕ). name) xs ≡ xs
same [] = refl
same (x ∷ xs) = ap (λ (rest : Names). x ∷ rest) (same xs)

pub names_within : (all : Names) → AllByRecursion IsName all → Within grammar.names (names all) 0 all
names_within [] ok = second_choice (none_of [])
names_within (x ∷ all) ok =
    subst (λ (xs : Names). Within grammar.names (names (x ∷ all)) 0 xs) (same (x ∷ all))
    (first_choice (joined_within IsName (λ name. word name ∷ []) (λ name. name) comma (name_within 0) (λ name is. in_sequence behind (mark_within Comma 0) (name_within 0 name is)) x all ok))

pub indices_within : (all : Names) → AllByRecursion IsName all → Within grammar.indices (in_brackets (names all)) 0 all
indices_within all ok = in_sequence behind (mark_within OpenBracket 0) (in_sequence before (names_within all ok) (mark_within CloseBracket 0))

pub rows_in_brackets_within : (params : Names) → AreNames params → (rows : List Affine) → Within grammar.rows_in_brackets (in_brackets (affines params rows)) 0 (map (row_of params) rows)
rows_in_brackets_within params ok rows = in_sequence behind (mark_within OpenBracket 0) (in_sequence before (affines_within params ok rows) (mark_within CloseBracket 0))
