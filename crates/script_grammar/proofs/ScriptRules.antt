-- The readers follow their rules.
use Rattle.std.proofs.Common.{◌≡◌, ℕ, true, false, List, [], ◌∷◌, refl, arith, ℤ}
use Rattle.az_text.specs.declared.mark.MarkKind.TheVariants.{OpenParen, CloseParen, OpenBracket, CloseBracket, Comma, Semicolon, Minus, Arrow}
use Rattle.az_text.specs.declared.token.Token.{Token}
use Rattle.grammar_rules.specs.Rules.{Rule}
use Rattle.grammar_rules.specs.Readers.{Reader}
use Rattle.grammar_rules.specs.Exactness.{Shape, Exact, is_disjoint, token_shape, nothing_shape, sequence_shape, choice_shape, many_shape}
use Rattle.grammar_rules.specs.Sides.{comma_list}
use Rattle.grammar_rules.specs.Tokens.{quoted_of}
use Rattle.grammar_rules.specs.Whole.{IsVerdict, verdict}
use Rattle.grammar_rules.proofs.Choice.{choice_exact, optional_exact}
use Rattle.grammar_rules.proofs.LookAhead.{disjoint_none}
use Rattle.grammar_rules.proofs.Many.{list_of_exact}
use Rattle.grammar_rules.proofs.Mapped.{mapped_exact}
use Rattle.grammar_rules.proofs.Sequence.{sequence_exact, followed_exact}
use Rattle.grammar_rules.proofs.SideRules as sides
use Rattle.grammar_rules.proofs.SideRules.{affine_shape}
use Rattle.grammar_rules.proofs.Token.{token_exact, nothing_exact}
use Rattle.grammar_rules.proofs.Tokens.{quoted_within}
use Rattle.grammar_rules.proofs.Whole.{verdict_exact}
use Rattle.grammar_rules.proofs.Wider.{IsWider, wider_exact}
use Rattle.script_grammar.specs.declared.command.Command.{Command}
use Rattle.script_grammar.specs.declared.command.Command.TheVariants as form
use Rattle.script_grammar.specs.declared.command.KindText.TheVariants as dimension
use Rattle.script_grammar.specs.declared.words.CommandWord.{CommandWord}
use Rattle.script_grammar.specs.declared.words.CommandWord.TheVariants as word
use Rattle.script_grammar.specs.declared.words.KindWord.{KindWord}
use Rattle.script_grammar.specs.declared.words.KindWord.TheVariants as kind_word
use Rattle.script_grammar.specs.Values as value
use Rattle.script_grammar.specs.Values.{behind, before, pair, signed}
use Rattle.script_grammar.specs.Words.{reserved, class, command_words, kind_words}
use Rattle.script_grammar.specs.Grammar.{name, behind_comma, variables, file, magnitude, number, vector, factors, row, map, kind_of, kind, named, arguments, call, command_of, command, script}
use Rattle.script_grammar.specs.Readers.{read_name, read_behind_comma, read_variables, read_file, read_magnitude, read_number, read_vector, read_factors, read_row, read_rows, read_map, read_kind_of, read_kind, read_kinds, read_named, read_arguments, read_call, read_command_of, read_command, read_script}

abbrev pub Follows : {A : Type 0} → Shape → Rule Token A → Reader Token A → Type 0
Follows shape rule reader = Exact class shape 1 rule rule reader

-- names, files and numbers
name_exact : Follows (token_shape (25 ∷ [])) name read_name
name_exact = sides.name_exact reserved 0 1

behind_comma_exact : {A : Type 0} {shape : Shape} {p : Rule Token A} {reader : Reader Token A} → Follows shape p reader → Follows (sequence_shape (token_shape (8 ∷ [])) shape) (behind_comma p) (read_behind_comma reader)
behind_comma_exact {shape = shape} exact = sequence_exact behind (sides.mark_exact reserved Comma 0 1) exact (disjoint_none shape.first)

abbrev variables_shape : Shape
variables_shape = record { first = 25 ∷ []; empty = false; more = 8 ∷ [] }

variables_exact : Follows variables_shape variables read_variables
variables_exact = list_of_exact (8 ∷ []) name_exact (behind_comma_exact name_exact) refl refl refl refl

file_exact : Follows (token_shape (24 ∷ [])) file read_file
file_exact = token_exact class (24 ∷ []) quoted_of 0 (quoted_within reserved) 1

magnitude_exact : Follows (token_shape (23 ∷ [])) magnitude read_magnitude
magnitude_exact = mapped_exact (signed false) (sides.number_exact reserved 0 1)

abbrev number_shape : Shape
number_shape = token_shape (20 ∷ 23 ∷ [])

number_exact : Follows number_shape number read_number
number_exact =
    choice_exact (20 ∷ []) (sequence_exact behind (sides.mark_exact reserved Minus 0 1) (mapped_exact (signed true) (sides.number_exact reserved 0 1)) refl) magnitude_exact refl refl refl

vector_exact : Follows (token_shape (2 ∷ [])) vector read_vector
vector_exact =
    sequence_exact behind (sides.mark_exact reserved OpenBracket 0 1)
    (sequence_exact before
    (choice_exact (20 ∷ 23 ∷ []) (list_of_exact (8 ∷ []) number_exact (behind_comma_exact number_exact) refl refl refl refl) (nothing_exact class [] 1) refl refl refl)
    (sides.mark_exact reserved CloseBracket 0 1) refl) refl

factors_exact : Follows (token_shape (2 ∷ [])) factors read_factors
factors_exact =
    sequence_exact behind (sides.mark_exact reserved OpenBracket 0 1)
    (sequence_exact before
    (choice_exact (23 ∷ []) (list_of_exact (8 ∷ []) magnitude_exact (behind_comma_exact magnitude_exact) refl refl refl refl) (nothing_exact class [] 1) refl refl refl)
    (sides.mark_exact reserved CloseBracket 0 1) refl) refl

-- maps and kinds
row_exact : Follows affine_shape row read_row
row_exact = mapped_exact value.row_text (sides.affine_exact reserved 1)

abbrev rows_shape : Shape
rows_shape = choice_shape (19 ∷ 20 ∷ 23 ∷ 25 ∷ []) (sequence_shape affine_shape (many_shape (8 ∷ []) (sequence_shape (token_shape (8 ∷ [])) affine_shape))) nothing_shape

rows_exact : Follows rows_shape (comma_list row) read_rows
rows_exact = choice_exact (19 ∷ 20 ∷ 23 ∷ 25 ∷ []) (list_of_exact (8 ∷ []) row_exact (behind_comma_exact row_exact) refl refl refl refl) (nothing_exact class [] 1) refl refl refl

map_exact : Follows (token_shape (4 ∷ [])) map read_map
map_exact =
    sequence_exact behind (sides.mark_exact reserved OpenParen 0 1)
    (sequence_exact value.map_text (sides.names_exact reserved 1)
    (sequence_exact behind (sides.mark_exact reserved Arrow 0 1)
    (sequence_exact before rows_exact (sides.mark_exact reserved CloseParen 0 1) refl) refl) refl) refl

abbrev size_shape : Shape
size_shape = record { first = 20 ∷ 23 ∷ []; empty = true; more = 20 ∷ 23 ∷ [] }

kind_of_exact : (w : KindWord) → Follows size_shape (kind_of w) (read_kind_of w)
kind_of_exact kind_word.Outer = wider_exact size_shape (record { first = refl; empty = refl; more = refl }) (nothing_exact class dimension.Outer 1)
kind_of_exact kind_word.Band = wider_exact size_shape (record { first = refl; empty = refl; more = refl }) (mapped_exact dimension.Band number_exact)
kind_of_exact kind_word.Processor =
    wider_exact size_shape (record { first = refl; empty = refl; more = refl }) (mapped_exact value.processor (optional_exact (20 ∷ 23 ∷ []) number_exact refl refl))
kind_of_exact kind_word.Inner = wider_exact size_shape (record { first = refl; empty = refl; more = refl }) (nothing_exact class dimension.Inner 1)

abbrev kind_shape : Shape
kind_shape = record { first = 25 ∷ []; empty = false; more = 20 ∷ 23 ∷ [] }

kind_exact : Follows kind_shape kind read_kind
kind_exact = wider_exact kind_shape (record { first = refl; empty = refl; more = refl }) (followed_exact behind (sides.word_of_exact reserved kind_words 0 1) kind_of_exact refl)

abbrev kinds_shape : Shape
kinds_shape = choice_shape (25 ∷ []) (sequence_shape kind_shape (many_shape (8 ∷ []) (sequence_shape (token_shape (8 ∷ [])) kind_shape))) nothing_shape

kinds_exact : Follows kinds_shape (comma_list kind) read_kinds
kinds_exact = choice_exact (25 ∷ []) (list_of_exact (8 ∷ []) kind_exact (behind_comma_exact kind_exact) refl refl refl refl) (nothing_exact class [] 1) refl refl refl

-- commands
named_exact : {A B : Type 0} {shape : Shape} {p : Rule Token A} {reader : Reader Token A} (f : List ℕ → A → B) → Follows shape p reader
    → Follows (sequence_shape (token_shape (25 ∷ [])) (sequence_shape (token_shape (8 ∷ [])) shape)) (named f p) (read_named f reader)
named_exact f exact = sequence_exact f name_exact (behind_comma_exact exact) refl

abbrev call_shape : Shape → Shape
call_shape shape = sequence_shape (token_shape (4 ∷ [])) (sequence_shape shape (token_shape (5 ∷ [])))

call_exact : {A : Type 0} {shape : Shape} {p : Rule Token A} {reader : Reader Token A} → Follows shape p reader → is_disjoint (5 ∷ []) shape.more ≡ true → Follows (call_shape shape) (call p) (read_call reader)
call_exact {shape = shape} exact apart =
    sequence_exact behind (sides.mark_exact reserved OpenParen 0 1)
    (sequence_exact before exact (sequence_exact behind (sides.mark_exact reserved CloseParen 0 1) (sides.mark_exact reserved Semicolon 0 1) refl) apart)
    (disjoint_none (sequence_shape shape (token_shape (5 ∷ []))).first)

command_of_exact : (w : CommandWord) → Follows (token_shape (4 ∷ [])) (command_of w) (read_command_of w)
command_of_exact word.ReadAlphabets = call_exact (mapped_exact form.ReadAlphabets file_exact) refl
command_of_exact word.CheckProgram = call_exact (nothing_exact class form.CheckProgram 1) refl
command_of_exact word.Show = call_exact (nothing_exact class form.Show 1) refl
command_of_exact word.FindSchedule = call_exact (mapped_exact form.FindSchedule variables_exact) refl
command_of_exact word.CoB = call_exact (named_exact form.CoB map_exact) refl
command_of_exact word.Normalize = call_exact (nothing_exact class form.Normalize 1) refl
command_of_exact word.Inline = call_exact (named_exact form.Inline name_exact) refl
command_of_exact word.RemoveUnused = call_exact (mapped_exact form.RemoveUnused name_exact) refl
command_of_exact word.SimplifyReduction = call_exact (named_exact form.SimplifyReduction vector_exact) refl
command_of_exact word.FactorReduction = call_exact (mapped_exact form.FactorReduction name_exact) refl
command_of_exact word.SplitReduction = call_exact (named_exact form.SplitReduction number_exact) refl
command_of_exact word.SetDimensionKinds = call_exact (mapped_exact form.SetDimensionKinds kinds_exact) refl
command_of_exact word.SetSpaceTimeMap = call_exact (named_exact form.SetSpaceTimeMap map_exact) refl
command_of_exact word.SetMemoryMap =
    call_exact (named_exact value.memory_map (named_exact pair (sequence_exact pair map_exact (behind_comma_exact factors_exact) refl))) refl
command_of_exact word.SetStatementOrder = call_exact (mapped_exact form.SetStatementOrder variables_exact) refl
command_of_exact word.VerifyTargetMapping = call_exact (nothing_exact class form.VerifyTargetMapping 1) refl
command_of_exact word.WriteCertificate = call_exact (mapped_exact form.WriteCertificate file_exact) refl
command_of_exact word.SetParameter = call_exact (named_exact form.SetParameter number_exact) refl
command_of_exact word.ReadInput = call_exact (named_exact form.ReadInput file_exact) refl
command_of_exact word.Run = call_exact (nothing_exact class form.Run 1) refl
command_of_exact word.Interleave = call_exact (sequence_exact form.Interleave number_exact (behind_comma_exact vector_exact) refl) refl
command_of_exact word.ShowLoops = call_exact (nothing_exact class form.ShowLoops 1) refl
command_of_exact word.RunLoops = call_exact (nothing_exact class form.RunLoops 1) refl
command_of_exact word.SpreadReduce = call_exact (named_exact form.SpreadReduce vector_exact) refl

command_exact : Follows (token_shape (25 ∷ [])) command read_command
command_exact =
    wider_exact (token_shape (25 ∷ [])) (record { first = refl; empty = refl; more = refl }) (followed_exact behind (sides.word_of_exact reserved command_words 0 1) command_of_exact refl)

abbrev script_shape : Shape
script_shape = record { first = 25 ∷ []; empty = true; more = 25 ∷ 25 ∷ [] }

script_exact : Follows script_shape script read_script
script_exact =
    choice_exact (25 ∷ []) (list_of_exact (25 ∷ []) command_exact command_exact refl refl refl refl) (nothing_exact class [] 1) refl refl refl

pub script_verdict : (ts : List Token) → IsVerdict script 0 ts (verdict (read_script 0 ts))
script_verdict ts = verdict_exact script_exact 0 ts (omega arith)
