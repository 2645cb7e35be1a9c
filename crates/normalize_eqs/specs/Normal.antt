-- A program in normal form: in each equation cases stand at the top alone, and each reduction is the whole equation,
-- or a whole branch of it.
--
-- What is taken out of an equation becomes a local of its own. Fresh locals stand behind all others, and their
-- equations behind all others, in the order in which they are taken out.
use Rattle.std.specs.Prelude.{ℕ, suc, ◌+◌, not, List, [], ◌∷◌, ◌++◌, length, map, find, decimal, slice_get}
use Rattle.std.specs.List.{list_any, range_with_len}
use Rattle.std.specs.Option.{option_map_or}
use Rattle.std.specs.Str.{bytes_eq}
use Rattle.az_lin.specs.Affine.{Union}
use Rattle.az_ast.specs.System.{System}
use Rattle.az_ast.specs.declared.program.Role.TheVariants.{Local}
use Rattle.az_ast.specs.declared.program.Variable.{Variable}
use Rattle.rewriting.specs.Definitions.{Definition, definitions, with_parts}
use Rattle.rewriting.specs.Named.{name_of}
use Rattle.normalize_eqs.specs.Outlines.{Fresh, outline_all}
use Rattle.normalize_eqs.specs.Pieces.{rows_of, pieces, put_together}

-- the variable's name, `_r` and a number
abbrev pub numbered_name : List ℕ → ℕ → List ℕ
numbered_name name n = name ++ (95 ∷ 114 ∷ decimal n)

-- with the least number from 1 whose name nothing has; among one number more than there are names such a one is
abbrev pub fresh_name : List (List ℕ) → List ℕ → List ℕ
fresh_name names name =
    numbered_name name (option_map_or (λ n. n) (find (λ n. not (list_any (bytes_eq (numbered_name name n)) names)) (range_with_len 1 (suc (length names)))) 0)

-- the locals of what was taken out of a variable's equation, beside variables with these names
abbrev pub fresh_variables : List (List ℕ) → List ℕ → List Fresh → List Variable
fresh_variables names name [] = []
fresh_variables names name (fresh ∷ rest) =
    let chosen = fresh_name names name in
    record { name = chosen; role = Local; domain = fresh.domain } ∷ fresh_variables (names ++ chosen ∷ []) name rest

abbrev pub fresh_definitions : ℕ → List Fresh → List Definition
fresh_definitions next [] = []
fresh_definitions next (fresh ∷ rest) = (next, fresh.body) ∷ fresh_definitions (suc next) rest

-- equations in normal form, and the locals with their equations that were taken out
pub record Normal : Type 0 where
  pub kept : List Definition
  pub locals : List Variable
  pub added : List Definition

abbrev pub domain_of : System → ℕ → Union
domain_of p x = option_map_or (λ (variable : Variable). variable.domain) (slice_get p.variables x) p.pdom

-- beside variables with these names, of which there are `next`
abbrev pub normal : System → List (List ℕ) → ℕ → List Definition → Normal
normal p names next [] = record { kept = []; locals = []; added = [] }
normal p names next (d ∷ rest) =
    let domain = domain_of p d.0 in
    let here = outline_all (length p.params) next (record { width = domain.width; rows = rows_of domain }) (pieces d.1) in
    let locals = fresh_variables names (name_of p d.0) here.fresh in
    let others = normal p (names ++ map (λ (variable : Variable). variable.name) locals) (next + length here.fresh) rest in
    record {
      kept = (d.0, put_together domain.width here.pieces) ∷ others.kept;
      locals = locals ++ others.locals;
      added = fresh_definitions next here.fresh ++ others.added;
    }

abbrev pub normalized : System → System
normalized p =
    let made = normal p (map (λ (variable : Variable). variable.name) p.variables) (length p.variables) (definitions p) in
    with_parts p (p.variables ++ made.locals) (made.kept ++ made.added)
