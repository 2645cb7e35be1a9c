-- The grammar of scripts: a list of commands, each a word, its arguments in parentheses, and a semicolon.
-- No token weighs anything.
use Rattle.std.specs.Prelude.{ℕ, true, false, List, [], Option, ℤ}
use Rattle.az_text.specs.declared.mark.MarkKind.TheVariants.{OpenParen, CloseParen, Comma, Semicolon, Minus, Arrow}
use Rattle.az_text.specs.declared.token.Token.{Token}
use Rattle.grammar_rules.specs.Rules.{Rule, token, give, mapped_to, sequence, followed, choice, optional, list_of}
use Rattle.grammar_rules.specs.Sides as sides
use Rattle.grammar_rules.specs.Sides.{comma_list, in_brackets}
use Rattle.grammar_rules.specs.TokenRules as tokens
use Rattle.grammar_rules.specs.TokenRules.{mark, word_of}
use Rattle.grammar_rules.specs.Tokens.{quoted_of}
use Rattle.script_grammar.specs.declared.command.Command.{Command}
use Rattle.script_grammar.specs.declared.command.Command.TheVariants as form
use Rattle.script_grammar.specs.declared.command.KindText.{KindText}
use Rattle.script_grammar.specs.declared.command.KindText.TheVariants as dimension
use Rattle.script_grammar.specs.declared.command.MapText.{MapText}
use Rattle.script_grammar.specs.declared.command.TermText.{TermText}
use Rattle.script_grammar.specs.declared.words.CommandWord.{CommandWord}
use Rattle.script_grammar.specs.declared.words.CommandWord.TheVariants as word
use Rattle.script_grammar.specs.declared.words.KindWord.{KindWord}
use Rattle.script_grammar.specs.declared.words.KindWord.TheVariants as kind_word
use Rattle.script_grammar.specs.Values as value
use Rattle.script_grammar.specs.Values.{behind, before, pair, signed}
use Rattle.script_grammar.specs.Words.{reserved, command_words, kind_words}

-- names, files and numbers
abbrev pub name : Rule Token (List ℕ)
name = tokens.name reserved 0

abbrev pub behind_comma : {A : Type 0} → Rule Token A → Rule Token A
behind_comma p = sequence behind (mark Comma 0) p

abbrev pub variables : Rule Token (List (List ℕ))
variables = list_of name (behind_comma name)

abbrev pub file : Rule Token (List ℕ)
file = token quoted_of 0

abbrev pub magnitude : Rule Token ℤ
magnitude = mapped_to (signed false) (tokens.number 0)

abbrev pub number : Rule Token ℤ
number = choice (sequence behind (mark Minus 0) (mapped_to (signed true) (tokens.number 0))) magnitude

abbrev pub vector : Rule Token (List ℤ)
vector = in_brackets (comma_list number)

abbrev pub factors : Rule Token (List ℤ)
factors = in_brackets (comma_list magnitude)

-- maps and kinds
abbrev pub row : Rule Token (List TermText)
row = mapped_to value.row_text (sides.affine reserved)

abbrev pub map : Rule Token MapText
map =
    sequence behind (mark OpenParen 0)
    (sequence value.map_text (sides.names reserved) (sequence behind (mark Arrow 0) (sequence before (comma_list row) (mark CloseParen 0))))

abbrev pub kind_of : KindWord → Rule Token KindText
kind_of kind_word.Outer = give dimension.Outer
kind_of kind_word.Band = mapped_to dimension.Band number
kind_of kind_word.Processor = mapped_to value.processor (optional number)
kind_of kind_word.Inner = give dimension.Inner

abbrev pub kind : Rule Token KindText
kind = followed behind (word_of kind_words 0) kind_of

-- commands: a name and then more, or other arguments
abbrev pub named : {A B : Type 0} → (List ℕ → A → B) → Rule Token A → Rule Token B
named f p = sequence f name (behind_comma p)

abbrev pub arguments : CommandWord → Rule Token Command
arguments word.ReadAlphabets = mapped_to form.ReadAlphabets file
arguments word.CheckProgram = give form.CheckProgram
arguments word.Show = give form.Show
arguments word.FindSchedule = mapped_to form.FindSchedule variables
arguments word.CoB = named form.CoB map
arguments word.Normalize = give form.Normalize
arguments word.Inline = named form.Inline name
arguments word.RemoveUnused = mapped_to form.RemoveUnused name
arguments word.SimplifyReduction = named form.SimplifyReduction vector
arguments word.FactorReduction = mapped_to form.FactorReduction name
arguments word.SplitReduction = named form.SplitReduction number
arguments word.SetDimensionKinds = mapped_to form.SetDimensionKinds (comma_list kind)
arguments word.SetSpaceTimeMap = named form.SetSpaceTimeMap map
arguments word.SetMemoryMap = named value.memory_map (named pair (sequence pair map (behind_comma factors)))
arguments word.SetStatementOrder = mapped_to form.SetStatementOrder variables
arguments word.VerifyTargetMapping = give form.VerifyTargetMapping
arguments word.WriteCertificate = mapped_to form.WriteCertificate file
arguments word.SetParameter = named form.SetParameter number
arguments word.ReadInput = named form.ReadInput file
arguments word.Run = give form.Run
arguments word.Interleave = sequence form.Interleave number (behind_comma vector)
arguments word.ShowLoops = give form.ShowLoops
arguments word.RunLoops = give form.RunLoops
arguments word.SpreadReduce = named form.SpreadReduce vector

-- what stands behind the word of a command
abbrev pub call : {A : Type 0} → Rule Token A → Rule Token A
call p = sequence behind (mark OpenParen 0) (sequence before p (sequence behind (mark CloseParen 0) (mark Semicolon 0)))

abbrev pub command_of : CommandWord → Rule Token Command
command_of w = call (arguments w)

abbrev pub command : Rule Token Command
command = followed behind (word_of command_words 0) command_of

-- the whole script: nothing, or commands one after another
abbrev pub script : Rule Token (List Command)
script = choice (list_of command command) (give [])
