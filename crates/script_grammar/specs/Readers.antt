-- The readers of the rules, with their look-ahead sets.
use Rattle.std.specs.Prelude.{ℕ, true, false, List, [], ◌∷◌, ℤ}
use Rattle.az_text.specs.declared.mark.MarkKind.TheVariants.{OpenParen, CloseParen, Comma, Semicolon, Minus, Arrow}
use Rattle.az_text.specs.declared.token.Token.{Token}
use Rattle.grammar_rules.specs.CommaLists as commas
use Rattle.grammar_rules.specs.Readers.{Reader, read_token, read_nothing, read_mapped, read_sequence, read_followed, read_choice, read_optional, read_list_of}
use Rattle.grammar_rules.specs.SideReaders as sides
use Rattle.grammar_rules.specs.SideReaders.{side_classes}
use Rattle.grammar_rules.specs.TokenRules as tokens
use Rattle.grammar_rules.specs.TokenRules.{read_mark, read_word_of}
use Rattle.grammar_rules.specs.Tokens.{mark_class, number_class, name_class, quoted_of}
use Rattle.script_grammar.specs.declared.command.Command.{Command}
use Rattle.script_grammar.specs.declared.command.Command.TheVariants as form
use Rattle.script_grammar.specs.declared.command.KindText.{KindText}
use Rattle.script_grammar.specs.declared.command.KindText.TheVariants as dimension
use Rattle.script_grammar.specs.declared.command.MapText.{MapText}
use Rattle.script_grammar.specs.declared.command.TermText.{TermText}
use Rattle.script_grammar.specs.declared.words.CommandWord.{CommandWord}
use Rattle.script_grammar.specs.declared.words.CommandWord.TheVariants as word
use Rattle.script_grammar.specs.declared.words.KindWord.{KindWord}
use Rattle.script_grammar.specs.declared.words.KindWord.TheVariants as kind_word
use Rattle.script_grammar.specs.Values as value
use Rattle.script_grammar.specs.Values.{behind, before, pair, signed}
use Rattle.script_grammar.specs.Words.{reserved, class, command_words, kind_words}

-- the tokens with which a number begins
abbrev pub number_classes : List ℕ
number_classes = mark_class Minus ∷ number_class ∷ []

-- names, files and numbers
abbrev pub read_name : Reader Token (List ℕ)
read_name = tokens.read_name reserved 0

abbrev pub read_behind_comma : {A : Type 0} → Reader Token A → Reader Token A
read_behind_comma p = read_sequence behind (read_mark Comma 0) p

abbrev pub read_variables : Reader Token (List (List ℕ))
read_variables = commas.read_some_items reserved read_name

abbrev pub read_file : Reader Token (List ℕ)
read_file = read_token quoted_of 0

abbrev pub read_magnitude : Reader Token ℤ
read_magnitude = read_mapped (signed false) (tokens.read_number 0)

abbrev pub read_number : Reader Token ℤ
read_number = read_choice class (mark_class Minus ∷ []) (read_sequence behind (read_mark Minus 0) (read_mapped (signed true) (tokens.read_number 0))) read_magnitude

abbrev pub read_numbers : Reader Token (List ℤ)
read_numbers = commas.read_items reserved number_classes read_number

abbrev pub read_vector : Reader Token (List ℤ)
read_vector = commas.read_in_brackets read_numbers

abbrev pub read_magnitudes : Reader Token (List ℤ)
read_magnitudes = commas.read_items reserved (number_class ∷ []) read_magnitude

abbrev pub read_factors : Reader Token (List ℤ)
read_factors = commas.read_in_brackets read_magnitudes

-- maps and kinds
abbrev pub read_row : Reader Token (List TermText)
read_row = read_mapped value.row_text (sides.read_affine reserved)

abbrev pub read_rows : Reader Token (List (List TermText))
read_rows = commas.read_items reserved side_classes read_row

abbrev pub read_map : Reader Token MapText
read_map =
    read_sequence behind (read_mark OpenParen 0)
    (read_sequence value.map_text (sides.read_names reserved) (read_sequence behind (read_mark Arrow 0) (read_sequence before read_rows (read_mark CloseParen 0))))

abbrev pub read_kind_of : KindWord → Reader Token KindText
read_kind_of kind_word.Outer = read_nothing dimension.Outer
read_kind_of kind_word.Band = read_mapped dimension.Band read_number
read_kind_of kind_word.Processor = read_mapped value.processor (read_optional class number_classes read_number)
read_kind_of kind_word.Inner = read_nothing dimension.Inner

abbrev pub read_kind : Reader Token KindText
read_kind = read_followed behind (read_word_of kind_words 0) read_kind_of

abbrev pub read_kinds : Reader Token (List KindText)
read_kinds = commas.read_items reserved (name_class ∷ []) read_kind

-- commands
abbrev pub read_named : {A B : Type 0} → (List ℕ → A → B) → Reader Token A → Reader Token B
read_named f p = read_sequence f read_name (read_behind_comma p)

abbrev pub read_arguments : CommandWord → Reader Token Command
read_arguments word.ReadAlphabets = read_mapped form.ReadAlphabets read_file
read_arguments word.CheckProgram = read_nothing form.CheckProgram
read_arguments word.Show = read_nothing form.Show
read_arguments word.FindSchedule = read_mapped form.FindSchedule read_variables
read_arguments word.CoB = read_named form.CoB read_map
read_arguments word.Normalize = read_nothing form.Normalize
read_arguments word.Inline = read_named form.Inline read_name
read_arguments word.RemoveUnused = read_mapped form.RemoveUnused read_name
read_arguments word.SimplifyReduction = read_named form.SimplifyReduction read_vector
read_arguments word.FactorReduction = read_mapped form.FactorReduction read_name
read_arguments word.SplitReduction = read_named form.SplitReduction read_number
read_arguments word.SetDimensionKinds = read_mapped form.SetDimensionKinds read_kinds
read_arguments word.SetSpaceTimeMap = read_named form.SetSpaceTimeMap read_map
read_arguments word.SetMemoryMap = read_named value.memory_map (read_named pair (read_sequence pair read_map (read_behind_comma read_factors)))
read_arguments word.SetStatementOrder = read_mapped form.SetStatementOrder read_variables
read_arguments word.VerifyTargetMapping = read_nothing form.VerifyTargetMapping
read_arguments word.WriteCertificate = read_mapped form.WriteCertificate read_file
read_arguments word.SetParameter = read_named form.SetParameter read_number
read_arguments word.ReadInput = read_named form.ReadInput read_file
read_arguments word.Run = read_nothing form.Run
read_arguments word.Interleave = read_sequence form.Interleave read_number (read_behind_comma read_vector)
read_arguments word.ShowLoops = read_nothing form.ShowLoops
read_arguments word.RunLoops = read_nothing form.RunLoops
read_arguments word.SpreadReduce = read_named form.SpreadReduce read_vector

abbrev pub read_call : {A : Type 0} → Reader Token A → Reader Token A
read_call p = read_sequence behind (read_mark OpenParen 0) (read_sequence before p (read_sequence behind (read_mark CloseParen 0) (read_mark Semicolon 0)))

abbrev pub read_command_of : CommandWord → Reader Token Command
read_command_of w = read_call (read_arguments w)

abbrev pub read_command : Reader Token Command
read_command = read_followed behind (read_word_of command_words 0) read_command_of

abbrev pub read_script : Reader Token (List Command)
read_script = read_choice class (name_class ∷ []) (read_list_of class (name_class ∷ []) read_command read_command) (read_nothing [])
