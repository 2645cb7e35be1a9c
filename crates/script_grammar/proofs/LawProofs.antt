-- No script is heavy, and numbers stay as they are.
use Rattle.std.proofs.Common.{◌≡◌, ℕ, ◌^◌, ◌-◌, ◌<◌, ◌≤◌, min, true, false, Bool, if◌then◌else◌, List, [], ◌∷◌, Ok, Err, refl, arith, ℤ, ap, sym, subst}
use Rattle.std.specs.Prelude.{pos, neg_ℤ}
use Rattle.std.specs.List.{AllByRecursion}
use Rattle.az_text.specs.declared.mark.MarkKind.TheVariants.{OpenParen, CloseParen, OpenBracket, CloseBracket, Comma, Semicolon, Minus, Arrow, Star}
use Rattle.az_text.specs.declared.mark.MarkKind.{MarkKind}
use Rattle.az_text.specs.declared.token.Token.{Token}
use Rattle.az_text.specs.Reading.{IsNarrow, Reads, AreIn}
use Rattle.az_text.specs.declared.token.TokenKind.{TokenKind}
use Rattle.az_text.specs.declared.token.TokenKind.TheVariants.{Number}
use Rattle.az_text.proofs.Spans.{tokens_in}
use Rattle.grammar_rules.specs.Rules.{Rule}
use Rattle.grammar_rules.specs.Sides as sides
use Rattle.grammar_rules.specs.Sides.{comma_list, in_brackets, once}
use Rattle.grammar_rules.specs.TokenRules as tokens
use Rattle.grammar_rules.specs.TokenRules.{mark, signs}
use Rattle.grammar_rules.specs.Tokens.{mark_of, number_of, name_of, quoted_of, chosen_of}
use Rattle.grammar_rules.specs.TokenRules.{worded_of}
use Rattle.grammar_rules.proofs.Weightless.{IsWeightless, never_heavy, token_weightless, give_weightless, mapped_weightless, followed_weightless, sequence_weightless, choice_weightless, optional_weightless, list_of_weightless}
use Rattle.script_grammar.specs.declared.command.Command.TheVariants as form
use Rattle.script_grammar.specs.declared.command.KindText.TheVariants as dimension
use Rattle.script_grammar.specs.declared.words.CommandWord.{CommandWord}
use Rattle.script_grammar.specs.declared.words.CommandWord.TheVariants as word
use Rattle.script_grammar.specs.declared.words.KindWord.{KindWord}
use Rattle.script_grammar.specs.declared.words.KindWord.TheVariants as kind_word
use Rattle.script_grammar.specs.Laws.{NoScriptIsHeavy, NumbersStay, HasItsValue, written}
use Rattle.script_grammar.specs.Values as value
use Rattle.script_grammar.specs.Values.{behind, before, pair, signed}
use Rattle.script_grammar.specs.Words.{reserved, command_words, kind_words}
use Rattle.script_grammar.specs.Grammar.{name, behind_comma, variables, file, magnitude, number, vector, factors, row, map, kind_of, kind, named, arguments, call, command_of, command, script}

-- tokens
mark_weightless : (kind : MarkKind) → IsWeightless (mark kind 0)
mark_weightless kind = token_weightless (mark_of kind)

name_weightless : IsWeightless name
name_weightless = token_weightless (name_of reserved)

number_token_weightless : IsWeightless (tokens.number 0)
number_token_weightless = token_weightless number_of

-- parts
comma_weightless : {A : Type 0} {p : Rule Token A} → IsWeightless p → IsWeightless (behind_comma p)
comma_weightless is = sequence_weightless behind (mark_weightless Comma) is

some_weightless : {A : Type 0} {p : Rule Token A} → IsWeightless p → IsWeightless (comma_list p)
some_weightless is = choice_weightless (list_of_weightless is (comma_weightless is)) (give_weightless [])

brackets_weightless : {A : Type 0} {p : Rule Token A} → IsWeightless p → IsWeightless (in_brackets p)
brackets_weightless is = sequence_weightless behind (mark_weightless OpenBracket) (sequence_weightless before is (mark_weightless CloseBracket))

magnitude_weightless : IsWeightless magnitude
magnitude_weightless = mapped_weightless (signed false) number_token_weightless

number_weightless : IsWeightless number
number_weightless = choice_weightless (sequence_weightless behind (mark_weightless Minus) (mapped_weightless (signed true) number_token_weightless)) magnitude_weightless

vector_weightless : IsWeightless vector
vector_weightless = brackets_weightless (some_weightless number_weightless)

variables_weightless : IsWeightless variables
variables_weightless = list_of_weightless name_weightless (comma_weightless name_weightless)

file_weightless : IsWeightless file
file_weightless = token_weightless quoted_of

scaled_weightless : IsWeightless (sides.scaled reserved)
scaled_weightless =
    choice_weightless
    (sequence_weightless pair number_token_weightless (optional_weightless (choice_weightless (sequence_weightless behind (mark_weightless Star) name_weightless) name_weightless)))
    (mapped_weightless once name_weightless)

term_weightless : IsWeightless (sides.signed_term reserved)
term_weightless = sequence_weightless sides.signed (token_weightless (chosen_of reserved signs)) scaled_weightless

affine_weightless : IsWeightless (sides.affine reserved)
affine_weightless = list_of_weightless (choice_weightless term_weightless (mapped_weightless (sides.signed false) scaled_weightless)) term_weightless

row_weightless : IsWeightless row
row_weightless = mapped_weightless value.row_text affine_weightless

map_weightless : IsWeightless map
map_weightless =
    sequence_weightless behind (mark_weightless OpenParen)
    (sequence_weightless value.map_text (some_weightless name_weightless)
    (sequence_weightless behind (mark_weightless Arrow) (sequence_weightless before (some_weightless row_weightless) (mark_weightless CloseParen))))

kind_of_weightless : (w : KindWord) → IsWeightless (kind_of w)
kind_of_weightless kind_word.Outer = give_weightless dimension.Outer
kind_of_weightless kind_word.Band = mapped_weightless dimension.Band number_weightless
kind_of_weightless kind_word.Processor = mapped_weightless value.processor (optional_weightless number_weightless)
kind_of_weightless kind_word.Inner = give_weightless dimension.Inner

kind_weightless : IsWeightless kind
kind_weightless = followed_weightless behind (token_weightless (worded_of kind_words)) kind_of_weightless

-- commands
named_weightless : {A B : Type 0} {p : Rule Token A} (f : List ℕ → A → B) → IsWeightless p → IsWeightless (named f p)
named_weightless f is = sequence_weightless f name_weightless (comma_weightless is)

arguments_weightless : (w : CommandWord) → IsWeightless (arguments w)
arguments_weightless word.ReadAlphabets = mapped_weightless form.ReadAlphabets file_weightless
arguments_weightless word.CheckProgram = give_weightless form.CheckProgram
arguments_weightless word.Show = give_weightless form.Show
arguments_weightless word.FindSchedule = mapped_weightless form.FindSchedule variables_weightless
arguments_weightless word.CoB = named_weightless form.CoB map_weightless
arguments_weightless word.Normalize = give_weightless form.Normalize
arguments_weightless word.Inline = named_weightless form.Inline name_weightless
arguments_weightless word.RemoveUnused = mapped_weightless form.RemoveUnused name_weightless
arguments_weightless word.SimplifyReduction = named_weightless form.SimplifyReduction vector_weightless
arguments_weightless word.FactorReduction = mapped_weightless form.FactorReduction name_weightless
arguments_weightless word.SplitReduction = named_weightless form.SplitReduction number_weightless
arguments_weightless word.SetDimensionKinds = mapped_weightless form.SetDimensionKinds (some_weightless kind_weightless)
arguments_weightless word.SetSpaceTimeMap = named_weightless form.SetSpaceTimeMap map_weightless
arguments_weightless word.SetMemoryMap =
    named_weightless value.memory_map (named_weightless pair (sequence_weightless pair map_weightless (comma_weightless (brackets_weightless (some_weightless magnitude_weightless)))))
arguments_weightless word.SetStatementOrder = mapped_weightless form.SetStatementOrder variables_weightless
arguments_weightless word.VerifyTargetMapping = give_weightless form.VerifyTargetMapping
arguments_weightless word.WriteCertificate = mapped_weightless form.WriteCertificate file_weightless
arguments_weightless word.SetParameter = named_weightless form.SetParameter number_weightless
arguments_weightless word.ReadInput = named_weightless form.ReadInput file_weightless
arguments_weightless word.Run = give_weightless form.Run
arguments_weightless word.Interleave = sequence_weightless form.Interleave number_weightless (comma_weightless vector_weightless)
arguments_weightless word.ShowLoops = give_weightless form.ShowLoops
arguments_weightless word.RunLoops = give_weightless form.RunLoops
arguments_weightless word.SpreadReduce = named_weightless form.SpreadReduce vector_weightless

command_weightless : IsWeightless command
command_weightless =
    followed_weightless behind (token_weightless (worded_of command_words))
    (λ w. sequence_weightless behind (mark_weightless OpenParen)
    (sequence_weightless before (arguments_weightless w) (sequence_weightless behind (mark_weightless CloseParen) (mark_weightless Semicolon))))

pub no_script_is_heavy : NoScriptIsHeavy
no_script_is_heavy = never_heavy (choice_weightless (list_of_weightless command_weightless command_weightless) (give_weightless [])) 0

-- numbers
narrow_stays : (n : ℕ) → n < 2 ^ 127 → (negative : Bool) → signed negative n ≡ written negative n
narrow_stays n narrow negative =
    let same : min n value.greatest ≡ n = omega arith in
    ap (λ (m : ℕ). if negative then neg_ℤ (pos m) else pos m) same

kind_narrow : (k : TokenKind) → IsNarrow k → (n : ℕ) → k ≡ Number n → n < 2 ^ 127
kind_narrow k narrow n is = subst IsNarrow is narrow

all_stay : (bytes : List ℕ) (at : ℕ) (ts : List Token) → AreIn bytes at ts → AllByRecursion HasItsValue ts
all_stay bytes at [] h = tt
all_stay bytes at (t ∷ ts) h = (λ n is. narrow_stays n (kind_narrow t.kind h.3 n is), all_stay bytes t.to ts h.4)

pub numbers_stay : NumbersStay
numbers_stay bytes ts reads = all_stay bytes 0 ts (tokens_in bytes ts reads)
