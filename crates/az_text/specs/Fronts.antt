-- What a text begins with, computed from its first bytes, and so the answer of a whole text.
-- The laws in `proofs/` say that these are the tokens of `Tokens.antt` and the readings of `Reading.antt`.
use Rattle.std.specs.Prelude.{◌≡◌, ℕ, zero, suc, ◌+◌, ◌-◌, ◌^◌, if◌then◌else◌, ◌==◌, nat_lt, List, [], ◌∷◌, take, slice_index, Option, Some, None, Result, Ok, Err}
use Rattle.std.specs.Char.{is_ascii_alphabetic, is_ascii_digit}
use Rattle.std.specs.List.{prefix_len}
use Rattle.std.specs.Str.Parse.{digits_value}
use Rattle.az_text.specs.declared.fault.LexFault.{LexFault}
use Rattle.az_text.specs.declared.fault.LexFault.TheVariants.{BadByte, WideNumber}
use Rattle.az_text.specs.declared.front.Front.{Front}
use Rattle.az_text.specs.declared.front.Front.TheVariants.{Between, Cut, Wide, Nothing}
use Rattle.az_text.specs.declared.mark.MarkKind.{MarkKind}
use Rattle.az_text.specs.declared.mark.MarkKind.TheVariants.{OpenBrace, CloseBrace, OpenBracket, CloseBracket, OpenParen, CloseParen, Bar, BarBar, Comma, Colon, Semicolon, Dot, Equal, EqualEqual, LessEqual, Less, GreaterEqual, Greater, AndAnd, Plus, Minus, Star, Arrow}
use Rattle.az_text.specs.declared.token.Token.{Token}
use Rattle.az_text.specs.declared.token.TokenKind.TheVariants.{Word, Number, Quoted, Mark}
use Rattle.az_text.specs.Tokens.{is_blank, is_word_byte, is_inner, is_before_line_feed}
use Rattle.az_text.specs.Reading.{and_then, token_at, Reads}

-- the marks of one byte and of two
abbrev pub single_marks : List (ℕ × MarkKind)
single_marks = (123, OpenBrace) ∷ (125, CloseBrace) ∷ (91, OpenBracket) ∷ (93, CloseBracket) ∷ (40, OpenParen) ∷ (41, CloseParen) ∷ (124, Bar) ∷ (44, Comma) ∷ (58, Colon) ∷ (59, Semicolon) ∷ (46, Dot) ∷ (61, Equal) ∷ (60, Less) ∷ (62, Greater) ∷ (43, Plus) ∷ (45, Minus) ∷ (42, Star) ∷ []

abbrev pub double_marks : List (ℕ × ℕ × MarkKind)
double_marks = (124, 124, BarBar) ∷ (61, 61, EqualEqual) ∷ (60, 61, LessEqual) ∷ (62, 61, GreaterEqual) ∷ (38, 38, AndAnd) ∷ (45, 62, Arrow) ∷ []

abbrev pub lookup : List (ℕ × MarkKind) → ℕ → Option MarkKind
lookup [] b = None
lookup (e ∷ es) b = if b == e.0 then Some e.1 else lookup es b

abbrev pub lookup_two : List (ℕ × ℕ × MarkKind) → ℕ → ℕ → Option MarkKind
lookup_two [] b c = None
lookup_two (e ∷ es) b c = if b == e.0 then (if c == e.1 then Some e.2 else lookup_two es b c) else lookup_two es b c

abbrev pub mark_or_nothing : Option MarkKind → ℕ → Front → Front
mark_or_nothing (Some kind) len other = Cut (Mark kind) len
mark_or_nothing None len other = other

abbrev pub single_front : ℕ → Front
single_front b = mark_or_nothing (lookup single_marks b) 1 Nothing

unfoldable pub mark_front : List ℕ → Front
mark_front [] = Nothing
mark_front (b ∷ []) = single_front b
mark_front (b ∷ c ∷ rest) = mark_or_nothing (lookup_two double_marks b c) 2 (single_front b)

unfoldable pub word_front : List ℕ → Front
word_front text = let n = prefix_len is_word_byte text in Cut (Word (take n text)) n

-- the value of digits where it is below the limit
abbrev pub value_below : ℕ → List ℕ → Option ℕ
value_below limit digits = if nat_lt (digits_value 10 digits) limit then Some (digits_value 10 digits) else None

abbrev pub number_or_wide : Option ℕ → ℕ → Front
number_or_wide (Some value) len = Cut (Number value) len
number_or_wide None len = Wide

unfoldable pub number_front : List ℕ → Front
number_front text =
    let n = prefix_len is_ascii_digit text in number_or_wide (value_below (2 ^ 127) (take n text)) n

-- the text after an opening quote
unfoldable pub quoted_front : List ℕ → Front
quoted_front text =
    let n = prefix_len is_inner text in
    if slice_index text n == 34 then Cut (Quoted (take n text)) (n + 2) else Nothing

-- the text after a slash
unfoldable pub comment_front : List ℕ → Front
comment_front [] = Nothing
comment_front (b ∷ text) = if b == 47 then Between (2 + prefix_len is_before_line_feed text) else Nothing

unfoldable pub front_of : List ℕ → Front
front_of [] = Nothing
front_of (b ∷ rest) =
    if is_blank b then Between 1
    else (if is_ascii_alphabetic b then word_front (b ∷ rest)
    else (if is_ascii_digit b then number_front (b ∷ rest)
    else (if b == 34 then quoted_front rest
    else (if b == 47 then comment_front rest
    else mark_front (b ∷ rest)))))

-- the answer at a place, from what the text begins with there and the answer further on
abbrev pub step_at : ℕ → Front → (ℕ → Result (List Token) LexFault) → Result (List Token) LexFault
step_at at (Between len) go_on = go_on (len - 1)
step_at at (Cut kind len) go_on = and_then (token_at at kind len) (go_on (len - 1))
step_at at Wide go_on = Err (WideNumber at)
step_at at Nothing go_on = Err (BadByte at)

-- the answer of what is left from the place `at` on, where `skip` bytes of it are read already
unfoldable pub lexed_from : ℕ → ℕ → List ℕ → Result (List Token) LexFault
lexed_from at skip [] = Ok []
lexed_from at zero (b ∷ rest) = step_at at (front_of (b ∷ rest)) (λ len. lexed_from (suc at) len rest)
lexed_from at (suc skip) (b ∷ rest) = lexed_from (suc at) skip rest

unfoldable pub lexed : List ℕ → Result (List Token) LexFault
lexed text = lexed_from 0 0 text

-- Each text has one answer by the grammar, and this is it.
abbrev pub LexedIsTheReading : Type 0
LexedIsTheReading = (text : List ℕ) → Reads 0 text (lexed text) × ((answer : Result (List Token) LexFault) → Reads 0 text answer → answer ≡ lexed text)
