-- The text of a program: its header, its variables by their roles, its equations and a dot, each on lines of its own.
use Rattle.std.specs.Prelude.{ℕ, ◌==◌, if◌then◌else◌, Bool, List, [], ◌∷◌, ◌++◌, length, flat_map, codes, slice_get}
use Rattle.std.specs.List.{list_any}
use Rattle.std.specs.Option.{option_map_or}
use Rattle.az_ast.specs.declared.program.Equation.{Equation}
use Rattle.az_ast.specs.declared.program.Role.{Role}
use Rattle.az_ast.specs.declared.program.Role.TheVariants.{Input, Output, Local}
use Rattle.az_ast.specs.declared.program.Variable.{Variable}
use Rattle.az_ast.specs.Placed.{rank}
use Rattle.az_ast.specs.Shapes.{indices as count}
use Rattle.az_ast.specs.System.{System}
use Rattle.az_ast.specs.Term.{term}
use Rattle.az_text.specs.declared.mark.MarkKind.TheVariants.{Semicolon, Dot, Equal}
use Rattle.az_text.specs.Lumps.{Lump, bytes_of}
use Rattle.alphabets_show.specs.Pieces.{mark, word, space, spaced, line_end, in_brackets, names}
use Rattle.alphabets_show.specs.Sides.{Names, indices, domain}
use Rattle.alphabets_show.specs.Expressions.{name_of, expression}

abbrev pub declaration : Names → Variable → List Lump
declaration params variable =
    let brought = indices 0 (count (length params) variable) in
    space ∷ space ∷ word variable.name ∷ space ∷ (domain brought params variable.domain ++ mark Semicolon ∷ line_end ∷ [])

-- the variables of one role, under its word
abbrev pub has_role : Role → Variable → Bool
has_role role variable = rank variable.role == rank role

abbrev pub declaration_if : Names → Role → Variable → List Lump
declaration_if params role variable = if has_role role variable then declaration params variable else []

abbrev pub declarations : Names → Role → List Variable → List Lump
declarations params role variables = flat_map (declaration_if params role) variables

abbrev pub section : List ℕ → Role → Names → List Variable → List Lump
section heading role params variables =
    if list_any (has_role role) variables then word heading ∷ line_end ∷ declarations params role variables else []

-- how many indices the variable with this number has
abbrev pub count_of : Names → List Variable → ℕ → ℕ
count_of params variables x = option_map_or (count (length params)) (slice_get variables x) 0

abbrev pub equation : Names → List Variable → Equation → List Lump
equation params variables e =
    let brought = count_of params variables e.variable in
    space ∷ space ∷ word (name_of variables e.variable)
    ∷ (in_brackets (names (indices 0 brought)) ++ spaced Equal (expression params variables (term e.body) brought ++ mark Semicolon ∷ line_end ∷ []))

abbrev pub program : System → List Lump
program p =
    word (codes "affine") ∷ space ∷ word p.name ∷ space ∷ (domain p.params p.params p.pdom ++ line_end
    ∷ (section (codes "input") Input p.params p.variables
    ++ (section (codes "output") Output p.params p.variables
    ++ (section (codes "local") Local p.params p.variables
    ++ word (codes "let") ∷ line_end ∷ (flat_map (equation p.params p.variables) p.equations ++ mark Dot ∷ line_end ∷ [])))))

abbrev pub shown : System → List ℕ
shown p = bytes_of (program p)
