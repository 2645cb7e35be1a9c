-- A text of spelled tokens that stand apart has those tokens.
use Rattle.std.proofs.Common.{◌≡◌, ℕ, suc, ◌+◌, ◌<◌, true, List, [], ◌∷◌, ◌++◌, length, Result, Ok, refl, sym, subst, arith, add-zero}
use Rattle.std.proofs.lemmas.Bool.Decides.{nat_tests}
use Rattle.std.proofs.lemmas.Fmt.{decimal_is_IsNumeral_wide}
use Rattle.std.specs.Char.{is_ascii_digit, digit_value}
use Rattle.std.specs.Fmt.{decimal}
use Rattle.std.specs.Str.Parse.{IsNumeral, AllDigits}
use Rattle.az_text.specs.declared.fault.LexFault.{LexFault}
use Rattle.az_text.specs.declared.token.Token.{Token}
use Rattle.az_text.specs.declared.token.TokenKind.{TokenKind}
use Rattle.az_text.specs.declared.token.TokenKind.TheVariants.{Word, Number, Quoted, Mark}
use Rattle.az_text.specs.Pieces.{IsSpellable, spelling, Piece, text_of, StandApart, tokens_from, PiecesAreRead}
use Rattle.az_text.specs.Reading.{IsNarrow, Reads}
use Rattle.az_text.specs.Reading.Reads.{ended, blank, token}
use Rattle.az_text.specs.Tokens.{is_blank, AllAre, IsNumber, Spells}
use Rattle.az_text.proofs.Longest.{spelled_token_is_cut}

digit_test : (c : ℕ) → digit_value c < 10 → is_ascii_digit c ≡ true
digit_test c h = grind (arith, nat_tests)

all_digits : (ds : List ℕ) → AllDigits 10 ds → AllAre is_ascii_digit ds
all_digits [] h = tt
all_digits (d ∷ ds) h = (digit_test d h.0, all_digits ds h.1)

number_from_numeral : (ds : List ℕ) → IsNumeral 10 ds → IsNumber ds
number_from_numeral [] h = absurd (omega (arith, h.0))
number_from_numeral (d ∷ ds) h = all_digits (d ∷ ds) h.1

pub spells_spelling : (kind : TokenKind) → IsSpellable kind → Spells kind (spelling kind)
spells_spelling (Word name) h = (h, refl)
spells_spelling (Number n) h =
    let numeral = decimal_is_IsNumeral_wide n (omega (arith, h)) in
    (number_from_numeral (decimal n) numeral.0, sym numeral.1)
spells_spelling (Quoted inner) h = (h, refl)
spells_spelling (Mark kind) h = refl

pub narrow_spelling : (kind : TokenKind) → IsSpellable kind → IsNarrow kind
narrow_spelling (Word name) h = tt
narrow_spelling (Number n) h = h
narrow_spelling (Quoted inner) h = tt
narrow_spelling (Mark kind) h = tt

reads_blanks : (at : ℕ) (blanks rest : List ℕ) (answer : Result (List Token) LexFault) → AllAre is_blank blanks → Reads (at + length blanks) rest answer → Reads at (blanks ++ rest) answer
reads_blanks at [] rest answer passes reads = let P : ℕ → Type 0 = λ n. Reads n rest answer in subst P (add-zero at) reads
reads_blanks at (b ∷ blanks) rest answer passes reads =
    let P : ℕ → Type 0 = λ n. Reads n rest answer in
    let place : at + length (b ∷ blanks) ≡ suc at + length blanks = omega arith in
    blank passes.0 (reads_blanks (suc at) blanks rest answer passes.1 (subst P place reads))

ending : (at : ℕ) (end : List ℕ) → AllAre is_blank end → Reads at end (Ok [])
ending at [] passes = ended
ending at (b ∷ end) passes = blank passes.0 (ending (suc at) end passes.1)

reads_pieces : (pieces : List Piece) (end : List ℕ) (at : ℕ) → StandApart pieces end → Reads at (text_of pieces end) (Ok (tokens_from at pieces))
reads_pieces [] end at apart = ending at end apart
reads_pieces (piece ∷ pieces) end at apart =
    let begins = spelled_token_is_cut piece.kind (spelling piece.kind) (text_of pieces end) (spells_spelling piece.kind apart.1) apart.2 in
    let from = at + length piece.blanks in
    let further = reads_pieces pieces end (from + length (spelling piece.kind)) apart.3 in
    reads_blanks at piece.blanks (spelling piece.kind ++ text_of pieces end) _ apart.0
    (token piece.kind (spelling piece.kind) (text_of pieces end) begins (narrow_spelling piece.kind apart.1) further)

pub pieces_are_read : PiecesAreRead
pieces_are_read pieces end apart = reads_pieces pieces end 0 apart
