-- Why a text is no program.
--
-- The limits come first, in their order. Then the items are looked at: item 0 is the header, the
-- declarations and then the equations follow. The first item with a fault is answered, with its first
-- kind; an output or local without an equation is answered last, at its declaration.
pub use Rattle.side_rows.specs.Scopes.{repeats, is_unknown_in}
pub use Rattle.side_rows.specs.Entries.{is_out, has_entry_out}
use Rattle.std.specs.Prelude.{ℕ, ◌+◌, ◌^◌, ◌-◌, ◌==◌, nat_lt, Bool, false, not, ◌||◌, if◌then◌else◌, List, [], ◌∷◌, ◌++◌, length, map, Option, ℤ, unsigned_abs}
use Rattle.std.specs.Option.{is_none, option_or, option_map_or}
use Rattle.std.specs.List.{list_any, find}
use Rattle.std.specs.Str.{bytes_eq}
use Rattle.az_lin.specs.Affine.{Affine}
use Rattle.az_lin.specs.declared.limit.Limit.TheVariants.{Names, Columns, Size, Disjuncts}
use Rattle.az_ast.specs.declared.fault.ShapeFault.{ShapeFault}
use Rattle.az_ast.specs.declared.fault.ShapeFault.TheVariants.{Limit}
use Rattle.az_ast.specs.declared.fault.ShapeKind.{ShapeKind}
use Rattle.az_ast.specs.declared.fault.ShapeKind.TheVariants.{Reserved, TwiceName, UnknownName, Literal, Entry, Arity, InputEquation, TwoEquations, BadReduce, NoEquation}
use Rattle.az_ast.specs.Shapes.{first_of, first_kind, kinds_after, is_index_name, is_sub}
use Rattle.program_grammar.specs.declared.tree.Declaration.{Declaration}
use Rattle.program_grammar.specs.declared.tree.Equation.{Equation}
use Rattle.program_grammar.specs.declared.tree.ProgramText.{ProgramText}
use Rattle.grammar_rules.specs.declared.term.Term.{Term}
use Rattle.program_grammar.specs.Nodes.{nodes}
use Rattle.program_names.specs.Extras.{extra_under}
use Rattle.program_names.specs.Pieces.{Piece, number, row, place, names, domain, operator, header_pieces, declaration_pieces, equation_pieces}
use Rattle.program_names.specs.Resolved.{op_of, declarations}
use Rattle.program_names.specs.Sides.{Scope, row_of}

-- the tests of one piece

abbrev pub is_twice : Piece → Bool
is_twice (number negative n) = false
is_twice (row scope d) = false
is_twice (place x count) = false
is_twice (names scope more) = repeats scope more
is_twice (domain count) = false
is_twice (operator op) = false

-- the first declaration of a name
abbrev pub is_named : List ℕ → Declaration → Bool
is_named x declaration = bytes_eq x declaration.name

abbrev pub declaration_of : ProgramText → List ℕ → Option Declaration
declaration_of text x = option_or (find (is_named x) text.inputs) (option_or (find (is_named x) text.outputs) (find (is_named x) text.locals))

-- a name in a row that is none of the scope's, or a variable that isn't declared
abbrev pub is_unknown : ProgramText → Piece → Bool
is_unknown text (number negative n) = false
is_unknown text (row scope d) = list_any (is_unknown_in scope) d.left || list_any (is_unknown_in scope) d.right
is_unknown text (place x count) = is_none (declaration_of text x)
is_unknown text (names scope more) = false
is_unknown text (domain count) = false
is_unknown text (operator op) = false

-- a constant outside -2^63 to 2^63 - 1
abbrev pub is_wide_literal : Piece → Bool
is_wide_literal (number negative n) = nat_lt (if negative then 2 ^ 63 else 2 ^ 63 - 1) n
is_wide_literal (row scope d) = false
is_wide_literal (place x count) = false
is_wide_literal (names scope more) = false
is_wide_literal (domain count) = false
is_wide_literal (operator op) = false

-- a row with an entry outside ±(2^60 - 1)
abbrev pub is_wide_row : Piece → Bool
is_wide_row (number negative n) = false
is_wide_row (row scope d) = has_entry_out (row_of scope d)
is_wide_row (place x count) = false
is_wide_row (names scope more) = false
is_wide_row (domain count) = false
is_wide_row (operator op) = false

-- a declared variable at another number of indices than it has
abbrev pub is_other_arity : ProgramText → Piece → Bool
is_other_arity text (number negative n) = false
is_other_arity text (row scope d) = false
is_other_arity text (place x count) = option_map_or (λ declaration. not (count == length declaration.indices)) (declaration_of text x) false
is_other_arity text (names scope more) = false
is_other_arity text (domain count) = false
is_other_arity text (operator op) = false

abbrev pub is_bad_operator : Piece → Bool
is_bad_operator (number negative n) = false
is_bad_operator (row scope d) = false
is_bad_operator (place x count) = false
is_bad_operator (names scope more) = false
is_bad_operator (domain count) = false
is_bad_operator (operator op) = is_sub (op_of op)

-- a domain of more than 8 disjuncts
abbrev pub has_many_disjuncts : Piece → Bool
has_many_disjuncts (number negative n) = false
has_many_disjuncts (row scope d) = false
has_many_disjuncts (place x count) = false
has_many_disjuncts (names scope more) = false
has_many_disjuncts (domain count) = nat_lt 8 count
has_many_disjuncts (operator op) = false

-- the limits

-- whether a declaration passes the test
abbrev pub any_declaration : (Declaration → Bool) → ProgramText → Bool
any_declaration test text = list_any test text.inputs || (list_any test text.outputs || list_any test text.locals)

-- whether a piece of a declaration passes the test, or one of an equation
abbrev pub some_declared : (Piece → Bool) → ProgramText → Bool
some_declared test text = any_declaration (λ declaration. list_any test (declaration_pieces text.params declaration)) text

abbrev pub some_equated : (Piece → Bool) → ProgramText → Bool
some_equated test text = list_any (λ equation. list_any test (equation_pieces text.params equation)) text.equations

-- an expression under more than 16 indices of its equation and its reductions
abbrev pub stands_under_many : Equation → Bool
stands_under_many equation = nat_lt 16 (length equation.indices + extra_under equation.body)

abbrev pub has_many_names : ProgramText → Bool
has_many_names text = nat_lt 256 (length text.inputs + length text.outputs + length text.locals) || nat_lt 8 (length text.params)

abbrev pub has_many_indices : Declaration → Bool
has_many_indices declaration = nat_lt 8 (length declaration.indices)

abbrev pub has_many_columns : ProgramText → Bool
has_many_columns text = any_declaration has_many_indices text || list_any stands_under_many text.equations

abbrev pub has_many_nodes : ProgramText → Bool
has_many_nodes text = list_any (λ equation. nat_lt 512 (nodes equation.body)) text.equations

abbrev pub limit_of : ProgramText → Option ShapeFault
limit_of text =
    first_of
    ((has_many_names text, Limit Names) ∷ (has_many_columns text, Limit Columns) ∷ (has_many_nodes text, Limit Size)
    ∷ (some_declared has_many_disjuncts text || some_equated has_many_disjuncts text, Limit Disjuncts) ∷ [])

-- the kinds of one item

abbrev pub header_kind : ProgramText → Option ShapeKind
header_kind text =
    let some = λ (test : Piece → Bool). list_any test (header_pieces text) in
    first_of
    ((list_any is_index_name text.params, Reserved) ∷ (some is_twice, TwiceName) ∷ (some (is_unknown text), UnknownName)
    ∷ (some is_wide_row, Entry) ∷ [])

-- a declaration after others
abbrev pub declaration_kind : ProgramText → List Declaration → Declaration → Option ShapeKind
declaration_kind text earlier declaration =
    let some = λ (test : Piece → Bool). list_any test (declaration_pieces text.params declaration) in
    let is_declared = list_any (λ other. bytes_eq other.name declaration.name) earlier in
    first_of
    ((is_index_name declaration.name, Reserved) ∷ (is_declared, TwiceName) ∷ (some is_twice, TwiceName)
    ∷ (some (is_unknown text), UnknownName) ∷ (some is_wide_row, Entry) ∷ [])

-- the kinds of what stands in an equation, and then of what it is for
abbrev pub written_kind : ProgramText → Equation → Option ShapeKind
written_kind text equation =
    let some = λ (test : Piece → Bool). list_any test (equation_pieces text.params equation) in
    first_of
    ((some is_twice, TwiceName) ∷ (some (is_unknown text), UnknownName) ∷ (some is_wide_literal, Literal) ∷ (some is_wide_row, Entry) ∷ [])

abbrev pub meant_kind : ProgramText → List Equation → Equation → Option ShapeKind
meant_kind text earlier equation =
    let some = λ (test : Piece → Bool). list_any test (equation_pieces text.params equation) in
    first_of
    ((some (is_other_arity text), Arity) ∷ (list_any (λ input. bytes_eq input.name equation.variable) text.inputs, InputEquation)
    ∷ (list_any (λ other. bytes_eq other.variable equation.variable) earlier, TwoEquations) ∷ (some is_bad_operator, BadReduce) ∷ [])

-- an equation after others
abbrev pub equation_kind : ProgramText → List Equation → Equation → Option ShapeKind
equation_kind text earlier equation = option_or (written_kind text equation) (meant_kind text earlier equation)

-- an output or local
abbrev pub missing_kind : List Equation → Declaration → Option ShapeKind
missing_kind equations declaration =
    first_of ((not (list_any (λ equation. bytes_eq equation.variable declaration.name) equations), NoEquation) ∷ [])

-- the items in order

abbrev pub item_kinds : ProgramText → List (Option ShapeKind)
item_kinds text =
    header_kind text
    ∷ (kinds_after (declaration_kind text) [] (declarations text) ++ kinds_after (equation_kind text) [] text.equations)

abbrev pub missing_kinds : ProgramText → List (Option ShapeKind)
missing_kinds text = map (missing_kind text.equations) (text.outputs ++ text.locals)

abbrev pub shape_of : ProgramText → Option ShapeFault
shape_of text = option_or (first_kind 0 (item_kinds text)) (first_kind (1 + length text.inputs) (missing_kinds text))

-- the refusal, or none of a program
abbrev pub refusal_of : ProgramText → Option ShapeFault
refusal_of text = option_or (limit_of text) (shape_of text)
