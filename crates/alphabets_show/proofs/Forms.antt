-- The bytes of each form, part by part.
use Rattle.std.proofs.Common.{◌≡◌, ℕ, ◌+◌, ◌<◌, ◌^◌, List, [], ◌∷◌, ◌++◌, length, take, refl, sym, ap, ◌∙◌, arith, append_assoc}
use Rattle.std.specs.Prelude.{codes, All, slice_index_or}
use Rattle.std.specs.List.{AllByRecursion}
use Rattle.std.proofs.Math.Nat.{le-max_left, le-max_right}
use Rattle.std.proofs.lemmas.List.Elements.{All-from_recursion}
use Rattle.az_lin.specs.Affine.{Union}
use Rattle.az_ast.specs.declared.expr.Branch.{Branch}
use Rattle.az_ast.specs.declared.expr.Expr.{Expr}
use Rattle.az_ast.specs.declared.expr.Expr.TheVariants.{Neg, Bin, Cases, Reduce}
use Rattle.az_ast.specs.declared.op.Op.{Op}
use Rattle.az_ast.specs.declared.op.Op.TheVariants.{Add, Sub, Mul, And, Or, Xor, Max, Min}
use Rattle.az_ast.specs.declared.program.Equation.{Equation}
use Rattle.az_ast.specs.declared.program.Role.TheVariants.{Input, Output, Local}
use Rattle.az_ast.specs.declared.program.Variable.{Variable}
use Rattle.az_ast.specs.System.{System}
use Rattle.az_ast.specs.Term.{Term, term}
use Rattle.az_ast.specs.Walks.{extra_under, extra_below}
use Rattle.az_ast.proofs.Terms.{term-Neg, term-Bin, term-Reduce}
use Rattle.az_ast.proofs.Walks.{below, of_cases}
use Rattle.az_text.specs.Lumps.{Lump, bytes_of}
use Rattle.az_text.specs.declared.mark.MarkKind.TheVariants.{OpenParen, CloseParen, CloseBracket, Comma, Colon, Semicolon, Plus, Minus, Star, Equal}
use Rattle.az_text.proofs.LumpLaws.{bytes_of-append}
use Rattle.alphabets_show.specs.Pieces.{mark, word, space, line_end, spaced, comma_space, in_brackets, names}
use Rattle.alphabets_show.specs.Sides.{Names, indices, restriction, domain}
use Rattle.alphabets_show.specs.Expressions.{operation, operator, name_of, expression, branch_list}
use Rattle.alphabets_show.specs.Shown.{section, equation, count_of, shown}
use Rattle.alphabets_show.specs.Inner.{before_left, before_right, reduction_head, equations_end}
use Rattle.alphabets_show.proofs.Texts.{branch_lumps, branch_more, take_all}

-- operators
operands : (left right between : List Lump) → bytes_of ((left ++ (between ++ right)) ++ mark CloseParen ∷ []) ≡ bytes_of left ++ (bytes_of between ++ (bytes_of right ++ 41 ∷ []))
operands left right between =
    let end = 41 ∷ [] in
    bytes_of-append (left ++ (between ++ right)) (mark CloseParen ∷ [])
    ∙ (ap (λ (b : List ℕ). b ++ end) (bytes_of-append left (between ++ right) ∙ ap (λ (b : List ℕ). bytes_of left ++ b) (bytes_of-append between right))
    ∙ (append_assoc (bytes_of left) (bytes_of between ++ bytes_of right) end ∙ ap (λ (b : List ℕ). bytes_of left ++ b) (append_assoc (bytes_of between) (bytes_of right) end)))

operation_bytes : (op : Op) (left right : List Lump) → before_left op ++ (bytes_of left ++ (before_right op ++ (bytes_of right ++ 41 ∷ []))) ≡ bytes_of (operation op left right)
operation_bytes Add left right = sym (ap (λ (b : List ℕ). codes "(" ++ b) (operands left right (space ∷ mark Plus ∷ space ∷ [])))
operation_bytes Sub left right = sym (ap (λ (b : List ℕ). codes "(" ++ b) (operands left right (space ∷ mark Minus ∷ space ∷ [])))
operation_bytes Mul left right = sym (ap (λ (b : List ℕ). codes "(" ++ b) (operands left right (space ∷ mark Star ∷ space ∷ [])))
operation_bytes And left right = sym (ap (λ (b : List ℕ). codes "and(" ++ b) (operands left right (mark Comma ∷ space ∷ [])))
operation_bytes Or left right = sym (ap (λ (b : List ℕ). codes "or(" ++ b) (operands left right (mark Comma ∷ space ∷ [])))
operation_bytes Xor left right = sym (ap (λ (b : List ℕ). codes "xor(" ++ b) (operands left right (mark Comma ∷ space ∷ [])))
operation_bytes Max left right = sym (ap (λ (b : List ℕ). codes "max(" ++ b) (operands left right (mark Comma ∷ space ∷ [])))
operation_bytes Min left right = sym (ap (λ (b : List ℕ). codes "min(" ++ b) (operands left right (mark Comma ∷ space ∷ [])))

module _ (params : Names) (variables : List Variable) where
  abbrev lumps : Term → ℕ → List Lump
  lumps t count = expression params variables t count

  abbrev bytes : Expr → ℕ → List ℕ
  bytes e count = bytes_of (expression params variables (term e) count)

  pub negation_bytes : (e inner got : Expr) (count : ℕ) → e ≡ Neg inner → got ≡ inner → codes "-(" ++ (bytes got count ++ codes ")") ≡ bytes e count
  negation_bytes e inner got count is same =
      ap (λ (x : Expr). codes "-(" ++ (bytes x count ++ codes ")")) same
      ∙ sym (ap (λ (x : Expr). bytes x count) is ∙ (ap (λ (t : Term). bytes_of (lumps t count)) (term-Neg inner)
      ∙ ap (λ (b : List ℕ). codes "-(" ++ b) (bytes_of-append (lumps (term inner) count) (mark CloseParen ∷ []))))

  pub binary_bytes : (e : Expr) (op : Op) (a b got_a got_b : Expr) (left right : List ℕ) (count : ℕ) → e ≡ Bin op a b → got_a ≡ a → got_b ≡ b → left ≡ before_left op → right ≡ before_right op
      → left ++ (bytes got_a count ++ (right ++ (bytes got_b count ++ codes ")"))) ≡ bytes e count
  binary_bytes e op a b got_a got_b left right count is one two first second =
      (λ i. first i ++ (bytes (one i) count ++ (second i ++ (bytes (two i) count ++ codes ")"))))
      ∙ (operation_bytes op (lumps (term a) count) (lumps (term b) count)
      ∙ sym (ap (λ (x : Expr). bytes x count) is ∙ ap (λ (t : Term). bytes_of (lumps t count)) (term-Bin op a b)))

  pub cases_bytes : (e : Expr) (branches items : List Branch) (count i : ℕ) → e ≡ Cases branches → items ≡ branches → i ≡ length items
      → codes "case " ++ (bytes_of (branch_list params variables (below (take i items)) count) ++ codes "esac") ≡ bytes e count
  cases_bytes e branches items count i is same end =
      let all = branch_list params variables (below items) count in
      ap (λ (bs : List Branch). codes "case " ++ (bytes_of (branch_list params variables (below bs) count) ++ codes "esac")) (ap (λ (k : ℕ). take k items) end ∙ take_all items)
      ∙ (sym (ap (λ (b : List ℕ). codes "case " ++ b) (bytes_of-append all (word (codes "esac") ∷ [])))
      ∙ sym (of_cases (λ t. bytes_of (lumps t count)) (λ cs. codes "case " ++ bytes_of (branch_list params variables cs count ++ word (codes "esac") ∷ [])) (λ cs. refl) e branches items is same))

  pub branch_bytes : (b : Branch) (count : ℕ) → bytes_of (restriction params b.domain) ++ (codes " : " ++ (bytes b.body count ++ codes "; ")) ≡ bytes_of (branch_lumps params variables count b)
  branch_bytes b count =
      let limits = restriction params b.domain in
      let body = lumps (term b.body) count in
      sym (bytes_of-append limits (spaced Colon (body ++ mark Semicolon ∷ space ∷ []))
      ∙ ap (λ (r : List ℕ). bytes_of limits ++ (codes " : " ++ r)) (bytes_of-append body (mark Semicolon ∷ space ∷ [])))

  pub branch_written : (bs : List Branch) (i : ℕ) (b : Branch) (count : ℕ) → i < length bs → b ≡ slice_index_or bs i b
      → bytes_of (branch_list params variables (below (take (i + 1) bs)) count)
      ≡ bytes_of (branch_list params variables (below (take i bs)) count) ++ (bytes_of (restriction params b.domain) ++ (codes " : " ++ (bytes b.body count ++ codes "; ")))
  branch_written bs i b count within here =
      branch_more params variables count bs i b within here
      ∙ ap (λ (r : List ℕ). bytes_of (branch_list params variables (below (take i bs)) count) ++ r) (sym (branch_bytes b count))

  pub reduction_bytes : (e : Expr) (op : Op) (extra : ℕ) (d : Union) (inner got : Expr) (count : ℕ) → e ≡ Reduce op extra d inner → got ≡ inner
      → bytes_of (reduction_head params op count extra d) ++ (bytes got (count + extra) ++ codes ")") ≡ bytes e count
  reduction_bytes e op extra d inner got count is same =
      let body = lumps (term inner) (count + extra) in
      let brought = in_brackets (names (indices count extra)) in
      let limits = restriction params d in
      let head = reduction_head params op count extra d in
      let end = mark CloseParen ∷ [] in
      let colon = space ∷ mark Colon ∷ space ∷ [] in
      let opened = λ (r : List Lump). word (codes "reduce") ∷ mark OpenParen ∷ operator op ∷ comma_space r in
      let left : head ++ (body ++ end) ≡ opened (brought ++ comma_space (limits ++ (colon ++ (body ++ end)))) =
      ap opened (append_assoc brought (comma_space (limits ++ colon)) (body ++ end) ∙ ap (λ (r : List Lump). brought ++ comma_space r) (append_assoc limits colon (body ++ end))) in
      let right : opened ((brought ++ comma_space (limits ++ spaced Colon body)) ++ end) ≡ opened (brought ++ comma_space (limits ++ (colon ++ (body ++ end)))) =
      ap opened (append_assoc brought (comma_space (limits ++ spaced Colon body)) end ∙ ap (λ (r : List Lump). brought ++ comma_space r) (append_assoc limits (spaced Colon body) end)) in
      ap (λ (x : Expr). bytes_of head ++ (bytes x (count + extra) ++ codes ")")) same
      ∙ (ap (λ (b : List ℕ). bytes_of head ++ b) (sym (bytes_of-append body end))
      ∙ (sym (bytes_of-append head (body ++ end))
      ∙ (ap bytes_of (left ∙ sym right)
      ∙ sym (ap (λ (x : Expr). bytes x count) is ∙ ap (λ (t : Term). bytes_of (lumps t count)) (term-Reduce op extra d inner)))))

  -- an equation
  pub equation_bytes : (e : Equation) (brought : ℕ) → brought ≡ count_of params variables e.variable
      → codes "  " ++ (name_of variables e.variable ++ (codes "[" ++ (bytes_of (names (indices 0 brought)) ++ (codes "] = " ++ (bytes e.body brought ++ codes ";\n")))))
      ≡ bytes_of (equation params variables e)
  equation_bytes e brought same =
      let count = count_of params variables e.variable in
      let body = lumps (term e.body) count in
      let shown_names = names (indices 0 count) in
      let end = mark Semicolon ∷ line_end ∷ [] in
      ap (λ (n : ℕ). codes "  " ++ (name_of variables e.variable ++ (codes "[" ++ (bytes_of (names (indices 0 n)) ++ (codes "] = " ++ (bytes e.body n ++ codes ";\n")))))) same
      ∙ sym (ap (λ (b : List ℕ). codes "  " ++ (name_of variables e.variable ++ (codes "[" ++ b)))
      (ap bytes_of (append_assoc shown_names (mark CloseBracket ∷ []) (spaced Equal (body ++ end)))
      ∙ (bytes_of-append shown_names (mark CloseBracket ∷ spaced Equal (body ++ end)) ∙ ap (λ (b : List ℕ). bytes_of shown_names ++ (codes "] = " ++ b)) (bytes_of-append body end))))

-- a program
pub program_bytes : (p : System)
    → codes "affine " ++ (p.name ++ (codes " " ++ (bytes_of (domain p.params p.params p.pdom) ++ (codes "\n" ++ (bytes_of (section (codes "input") Input p.params p.variables)
    ++ (bytes_of (section (codes "output") Output p.params p.variables) ++ (bytes_of (section (codes "local") Local p.params p.variables) ++ bytes_of (equations_end p.params p.variables p.equations))))))))
    ≡ shown p
program_bytes p =
    let parameters = domain p.params p.params p.pdom in
    let inputs = section (codes "input") Input p.params p.variables in
    let outputs = section (codes "output") Output p.params p.variables in
    let locals = section (codes "local") Local p.params p.variables in
    let rest = equations_end p.params p.variables p.equations in
    sym (ap (λ (b : List ℕ). codes "affine " ++ (p.name ++ (codes " " ++ b)))
    (bytes_of-append parameters (line_end ∷ (inputs ++ (outputs ++ (locals ++ rest))))
    ∙ ap (λ (b : List ℕ). bytes_of parameters ++ (codes "\n" ++ b))
    (bytes_of-append inputs (outputs ++ (locals ++ rest)) ∙ ap (λ (b : List ℕ). bytes_of inputs ++ b) (bytes_of-append outputs (locals ++ rest) ∙ ap (λ (b : List ℕ). bytes_of outputs ++ b) (bytes_of-append locals rest)))))

-- the branches of a case stand under few indices where the case does
few_below : (count : ℕ) (bs : List Branch) → count + extra_below (below bs) < 2 ^ 64 → AllByRecursion (λ (b : Branch). count + extra_under (term b.body) < 2 ^ 64) bs
few_below count [] few = tt
few_below count (b ∷ bs) few =
    let one = le-max_left (extra_under (term b.body)) (extra_below (below bs)) in
    let two = le-max_right (extra_under (term b.body)) (extra_below (below bs)) in
    (omega (arith, one, few), few_below count bs (omega (arith, two, few)))

pub few_branches : (e : Expr) (branches items : List Branch) (count : ℕ) → e ≡ Cases branches → items ≡ branches → count + extra_under (term e) < 2 ^ 64 → All (λ (b : Branch). count + extra_under (term b.body) < 2 ^ 64) items
few_branches e branches items count is same few =
    let whole : extra_under (term e) ≡ extra_below (below items) = of_cases extra_under extra_below (λ b. refl) e branches items is same in
    All-from_recursion (λ (b : Branch). count + extra_under (term b.body) < 2 ^ 64) items (few_below count items (omega (arith, whole, few)))
