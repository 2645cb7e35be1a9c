-- Tokens and blanks, put together.
use Rattle.std.specs.Prelude.{ℕ, Bool, true, false, List, [], ◌∷◌, ◌++◌, flat_map}
use Rattle.az_text.specs.declared.mark.MarkKind.{MarkKind}
use Rattle.az_text.specs.declared.mark.MarkKind.TheVariants.{OpenBracket, CloseBracket, OpenParen, CloseParen, Comma}
use Rattle.az_text.specs.declared.token.TokenKind.TheVariants.{Word, Number, Mark}
use Rattle.az_text.specs.Lumps.{Lump}
use Rattle.az_text.specs.Lumps.Lump.{ink, blank}

abbrev pub mark : MarkKind → Lump
mark kind = ink (Mark kind)

abbrev pub word : List ℕ → Lump
word bytes = ink (Word bytes)

abbrev pub number : ℕ → Lump
number n = ink (Number n)

abbrev pub space : Lump
space = blank 32

abbrev pub line_end : Lump
line_end = blank 10

-- before what follows: a mark with a space on each side, a comma, and one with a space behind it
abbrev pub spaced : MarkKind → List Lump → List Lump
spaced kind rest = space ∷ mark kind ∷ space ∷ rest

abbrev pub comma : List Lump → List Lump
comma rest = mark Comma ∷ rest

abbrev pub comma_space : List Lump → List Lump
comma_space rest = mark Comma ∷ space ∷ rest

abbrev pub in_parentheses : List Lump → List Lump
in_parentheses inner = mark OpenParen ∷ (inner ++ mark CloseParen ∷ [])

abbrev pub in_brackets : List Lump → List Lump
in_brackets inner = mark OpenBracket ∷ (inner ++ mark CloseBracket ∷ [])

-- items, with something before each but the first
abbrev pub joined : {A : Type 0} → (A → List Lump) → (List Lump → List Lump) → List A → List Lump
joined shown before [] = []
joined shown before (first ∷ rest) = shown first ++ flat_map (λ next. before (shown next)) rest

abbrev pub names : List (List ℕ) → List Lump
names all = joined (λ name. word name ∷ []) comma all

abbrev pub is_empty : {A : Type 0} → List A → Bool
is_empty [] = true
is_empty (first ∷ rest) = false
