-- Why a text is no program: the faults of the grammar and those of the names, as one kind.
use Rattle.alphabets_read.specs.declared.fault.ReadFault.{ReadFault}
use Rattle.alphabets_read.specs.declared.fault.ReadFault.TheVariants.{Lex, Syntax, Shape, Limit, Memory}
use Rattle.az_ast.specs.declared.fault.ShapeFault.{ShapeFault}
use Rattle.az_ast.specs.declared.fault.ShapeFault.TheVariants as shape
use Rattle.az_lin.specs.declared.limit.Limit.TheVariants.{Size}
use Rattle.grammar_rules.specs.declared.fault.TextFault.{TextFault}
use Rattle.grammar_rules.specs.declared.fault.TextFault.TheVariants as text

abbrev pub of_text : TextFault → ReadFault
of_text (text.Lex fault) = Lex fault
of_text (text.Syntax place) = Syntax place
of_text text.Size = Limit Size
of_text text.Memory = Memory

abbrev pub of_shape : ShapeFault → ReadFault
of_shape (shape.Shape kind item) = Shape kind item
of_shape (shape.Limit limit) = Limit limit
of_shape shape.Memory = Memory
