-- Which expressions of each form are written, and that the values of the rules keep it.
use Rattle.std.proofs.Common.{◌≡◌, ℕ, List, [], ◌∷◌, Bool, false, true, ◌&&◌, Option, Some, None, refl, ◌∙◌, arith, rules}
use Rattle.std.specs.Prelude.{IsTrue, map}
use Rattle.std.specs.List.{list_all, AllByRecursion}
use Rattle.std.proofs.lemmas.Bool.{and_from}
use Rattle.grammar_rules.proofs.Yields.{Items}
use Rattle.program_grammar.specs.declared.tree.Branch.{Branch}
use Rattle.program_grammar.specs.declared.tree.Chain.{Chain}
use Rattle.program_grammar.specs.declared.tree.Expr.{Expr}
use Rattle.program_grammar.specs.declared.tree.Expr.TheVariants.{Constant, Index, Access, Negation, Binary, Cases, Reduction}
use Rattle.program_grammar.specs.declared.tree.Expr.TheFolds.{the_lemmas}
use Rattle.program_grammar.specs.declared.tree.Operator.{Operator}
use Rattle.grammar_rules.specs.declared.term.Term.{Term}
use Rattle.program_grammar.specs.Values as value
use Rattle.program_grammar.specs.Written.{is_written_case, is_written}

pub written-Constant : (negative : Bool) (n : ℕ) → is_written (Constant negative n) ≡ true
written-Constant negative n = search (rules, the_lemmas)

pub written-Index : (terms : List Term) → is_written (Index terms) ≡ true
written-Index terms = search (rules, the_lemmas)

pub written-Access : (name : List ℕ) (rows : List (List Term)) → is_written (Access name rows) ≡ true
written-Access name rows = search (rules, the_lemmas)

pub written-Negation : (e : Expr) → is_written (Negation e) ≡ is_written e
written-Negation e = search (rules, the_lemmas)

pub written-Binary : (op : Operator) (a b : Expr) → is_written (Binary op a b) ≡ (is_written a && is_written b)
written-Binary op a b = search (rules, the_lemmas)

pub written-Cases : (branches : List Branch) → is_written (Cases branches) ≡ is_written_case (map (λ (b : Branch). is_written b.body) branches)
written-Cases branches = search (rules, the_lemmas)

pub written-Reduction : (op : Operator) (names : List (List ℕ)) (domain : List Chain) (e : Expr) → is_written (Reduction op names domain e) ≡ is_written e
written-Reduction op names domain e = search (rules, the_lemmas)

abbrev pub IsWrittenExpr : Expr → Type 0
IsWrittenExpr e = IsTrue (is_written e)

abbrev pub IsWrittenBranch : Branch → Type 0
IsWrittenBranch b = IsTrue (is_written b.body)

-- the values of the rules
pub access_written : (name : List ℕ) (rows : Option (List (List Term))) → IsWrittenExpr (value.read_at name rows)
access_written name None = written-Index (value.signed false (value.once name) ∷ [])
access_written name (Some rows) = written-Access name rows

pub negation_written : (e : Expr) → IsWrittenExpr e → IsWrittenExpr (Negation e)
negation_written e h = written-Negation e ∙ h

pub binary_written : (op : Operator) (a b : Expr) → IsWrittenExpr a → IsWrittenExpr b → IsWrittenExpr (Binary op a b)
binary_written op a b h k = written-Binary op a b ∙ and_from (is_written a) (is_written b) h k

all_written : (branches : List Branch) → AllByRecursion IsWrittenBranch branches → list_all (λ is. is) (map (λ (b : Branch). is_written b.body) branches) ≡ true
all_written [] h = refl
all_written (b ∷ branches) h = and_from (is_written b.body) (list_all (λ is. is) (map (λ (b : Branch). is_written b.body) branches)) h.0 (all_written branches h.1)

pub cases_written : (branches : List Branch) → Items IsWrittenBranch branches → IsWrittenExpr (Cases branches)
cases_written [] h = absurd (omega (arith, h.0))
cases_written (b ∷ branches) h = written-Cases (b ∷ branches) ∙ all_written (b ∷ branches) h.1

pub reduction_written : (op : Operator) (names : List (List ℕ)) (domain : List Chain) (e : Expr) → IsWrittenExpr e → IsWrittenExpr (Reduction op names domain e)
reduction_written op names domain e h = written-Reduction op names domain e ∙ h
