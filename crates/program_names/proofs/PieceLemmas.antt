-- The pieces of each form of expression.
use Rattle.std.proofs.Common.{false, refl, sym, ap, subst, ◌∙◌, ◌≡◌, ℕ, ◌++◌, List, [], ◌∷◌, length, Bool, rules}
use Rattle.std.specs.Prelude.{map, flat_map, Result, IfOk, ◌||◌}
use Rattle.std.specs.List.{list_any}
use Rattle.std.proofs.lemmas.List.Folds.{list_any-append}
use Rattle.az_lin.specs.declared.fault.LinFault.{LinFault}
use Rattle.program_grammar.specs.declared.tree.Branch.{Branch}
use Rattle.program_grammar.specs.declared.tree.Chain.{Chain}
use Rattle.program_grammar.specs.declared.tree.Expr.{Expr}
use Rattle.program_grammar.specs.declared.tree.Expr.TheVariants.{Constant, Index, Access, Negation, Binary, Cases, Reduction}
use Rattle.program_grammar.specs.declared.tree.Expr.TheFolds.{the_lemmas}
use Rattle.program_grammar.specs.declared.tree.Operator.{Operator}
use Rattle.grammar_rules.specs.declared.term.Term.{Term}
use Rattle.program_names.specs.Pieces.{Piece, number, row, place, names, operator, rows, domain_pieces, pieces, pieces_of_branches}
use Rattle.program_names.specs.Sides.{Scope, alone}

pub pieces-Constant : (negative : Bool) (n : ℕ) (scope : Scope) → pieces (Constant negative n) scope ≡ number negative n ∷ []
pieces-Constant negative n scope = search (rules, the_lemmas)

pub pieces-Index : (side : List Term) (scope : Scope) → pieces (Index side) scope ≡ row scope (alone side) ∷ []
pieces-Index side scope = search (rules, the_lemmas)

pub pieces-Access : (x : List ℕ) (sides : List (List Term)) (scope : Scope) → pieces (Access x sides) scope ≡ place x (length sides) ∷ map (λ side. row scope (alone side)) sides
pieces-Access x sides scope = search (rules, the_lemmas)

pub pieces-Negation : (e : Expr) (scope : Scope) → pieces (Negation e) scope ≡ pieces e scope
pieces-Negation e scope = search (rules, the_lemmas)

pub pieces-Binary : (op : Operator) (a b : Expr) (scope : Scope) → pieces (Binary op a b) scope ≡ pieces a scope ++ pieces b scope
pieces-Binary op a b scope = search (rules, the_lemmas)

abbrev branch_pieces : Branch → Scope → List Piece
branch_pieces b s = domain_pieces s b.disjuncts ++ pieces b.body s

flat_map-map : {A B C : Type 0} (f : B → List C) (g : A → B) (xs : List A) → flat_map f (map g xs) ≡ flat_map (λ x. f (g x)) xs
flat_map-map f g [] = refl
flat_map-map f g (x ∷ xs) = ap (λ rest. f (g x) ++ rest) (flat_map-map f g xs)

cases-layer : (branches : List Branch) (scope : Scope) → pieces (Cases branches) scope ≡ flat_map (λ (of_branch : Scope → List Piece). of_branch scope) (map branch_pieces branches)
cases-layer branches scope = search (rules, the_lemmas)

pub pieces-Cases : (branches : List Branch) (scope : Scope) → pieces (Cases branches) scope ≡ pieces_of_branches branches scope
pieces-Cases branches scope = cases-layer branches scope ∙ flat_map-map (λ (of_branch : Scope → List Piece). of_branch scope) branch_pieces branches

pub pieces-Reduction : (op : Operator) (extra : List (List ℕ)) (chains : List Chain) (e : Expr) (scope : Scope) →
    pieces (Reduction op extra chains e) scope ≡ operator op ∷ names scope extra ∷ (rows (scope ++ extra) chains ++ pieces e (scope ++ extra))
pieces-Reduction op extra chains e scope = search (rules, the_lemmas)

-- where neither the operator nor the names nor the domain of a reduction pass, its body decides
skip : (a b : Bool) → a ≡ false → (a || b) ≡ b
skip a b h = ap (λ x. x || b) h

pub reduction-rest :
    (wants : Piece → Bool) (expr : Expr) (scope : Scope) (op : Operator) (extra : List (List ℕ)) (chains : List Chain) (body : Expr) (r : Result Bool LinFault)
    → expr ≡ Reduction op extra chains body → wants (operator op) ≡ false → wants (names scope extra) ≡ false → list_any wants (rows (scope ++ extra) chains) ≡ false
    → IfOk r (λ found. found ≡ list_any wants (pieces body (scope ++ extra))) → IfOk r (λ found. found ≡ list_any wants (pieces expr scope))
reduction-rest wants expr scope op extra chains body r is no_operator no_names no_row rest =
    let inner = scope ++ extra in
    let same : list_any wants (pieces expr scope) ≡ list_any wants (pieces body inner) =
    ap (λ e. list_any wants (pieces e scope)) is
    ∙ (ap (list_any wants) (pieces-Reduction op extra chains body scope)
    ∙ (skip (wants (operator op)) _ no_operator
    ∙ (skip (wants (names scope extra)) _ no_names
    ∙ (list_any-append wants (rows inner chains) (pieces body inner)
    ∙ skip (list_any wants (rows inner chains)) _ no_row)))) in
    subst (λ b. IfOk r (λ found. found ≡ b)) (sym same) rest
