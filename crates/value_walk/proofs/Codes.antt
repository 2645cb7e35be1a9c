-- The data of each form of code, and that what is made ready of an expression keeps its data.
use Rattle.std.proofs.Common.{◌≡◌, ℕ, ◌+◌, ◌<◌, List, [], ◌∷◌, ◌++◌, length, take, Option, Some, None, refl, sym, ap, subst, ◌∙◌, arith, inl, inr, rules}
use Rattle.std.specs.Prelude.{ℤ, map, slice_get, slice_index_or, MatchOption}
use Rattle.az_lin.specs.Affine.{Affine, AffineMap, Union}
use Rattle.az_ast.specs.declared.op.Op.{Op}
use Rattle.az_ast.specs.Term as ast
use Rattle.az_ast.specs.declared.expr.Branch.{Branch}
use Rattle.az_lin.proofs.Mapped.{map-take-more, map-take-all}
use Rattle.std.proofs.lemmas.List.{map-append, take_all, get_or_append_left}
use Rattle.std.proofs.lemmas.Option.{slice_get-get_or}
use Rattle.std.specs.Prelude.{Result, Ok, Err, IfOk, option_map}
use Rattle.std.proofs.Common.{length-append, ◌≤◌}
use Rattle.az_ast.specs.Meaning.{body_of, equation_of}
use Rattle.az_ast.specs.declared.program.Equation.{Equation}
use Rattle.az_ast.specs.declared.expr.Expr.{Expr}
use Rattle.az_ast.specs.declared.expr.Expr.TheVariants as expr
use Rattle.az_ast.proofs.Terms as terms
use Rattle.std.proofs.Math.Seq.{get_or-append_seam}
use Rattle.std.proofs.lemmas.Bool.{cases_lt}
use Rattle.az_ast.specs.System.{System}
use Rattle.az_ast.specs.Term.{Term, constant, index, access, negation, binary, cases, reduction, choices}
use Rattle.value_walk.specs.Inner.Codes.{term, IsCodeAt}
use Rattle.value_walk.specs.declared.code.Code.{Code}
use Rattle.value_walk.specs.declared.code.Choice.{Choice}
use Rattle.value_walk.specs.declared.code.Code.TheVariants.{Const, Index, Access, Neg, Bin, Cases, Reduce}
use Rattle.value_walk.specs.declared.code.Code.TheFolds.{the_lemmas}

pub term-Const : (v : ℤ) → term (Const v) ≡ constant v
term-Const v = search (rules, the_lemmas)

pub term-Index : (row : Affine) → term (Index row) ≡ index row
term-Index row = search (rules, the_lemmas)

pub term-Access : (x : ℕ) (f : AffineMap) → term (Access x f) ≡ access x f
term-Access x f = search (rules, the_lemmas)

pub term-Neg : (e : Code) → term (Neg e) ≡ negation (term e)
term-Neg e = search (rules, the_lemmas)

pub term-Bin : (op : Op) (a b : Code) → term (Bin op a b) ≡ binary op (term a) (term b)
term-Bin op a b = search (rules, the_lemmas)

pub term-Cases : (branches : List Choice) → term (Cases branches) ≡ cases (choices (map (λ (b : Choice). (b.domain, term b.body)) branches))
term-Cases branches = search (rules, the_lemmas)

pub term-Reduce : (op : Op) (extra : ℕ) (domain : Union) (e : Code) → term (Reduce op extra domain e) ≡ reduction op extra domain (term e)
term-Reduce op extra domain e = search (rules, the_lemmas)

-- a choice and a branch as a domain and a body
abbrev pub part_of : Choice → Union × Term
part_of choice = (choice.domain, term choice.body)

abbrev pub branch_part : Branch → Union × Term
branch_part branch = (branch.domain, ast.term branch.body)

pub choice-more :
    (choices after : List Choice) (branches : List Branch) (i : ℕ) (branch : Branch) (choice : Choice) → i < length branches → branch ≡ slice_index_or branches i branch →
    choice.domain ≡ branch.domain → term choice.body ≡ ast.term branch.body → after ≡ choices ++ choice ∷ [] → map part_of choices ≡ map branch_part (take i branches) →
    map part_of after ≡ map branch_part (take (i + 1) branches)
choice-more choices after branches i branch choice h is domain body pushed so_far =
    map-take-more branch_part branches i branch (part_of choice) (map part_of choices) (map part_of after) h so_far
    ((λ t. (domain t, body t)) ∙ ap branch_part is) (ap (map part_of) pushed ∙ map-append part_of choices (choice ∷ []))

pub cases-made :
    (made : List Choice) (items branches : List Branch) (e : Expr) (i : ℕ) → e ≡ expr.Cases branches → items ≡ branches → length items ≤ i → map part_of made ≡ map branch_part (take i items) →
    term (Cases made) ≡ ast.term e
cases-made made items branches e i is same all so_far =
    term-Cases made ∙ (ap (λ parts. cases (choices parts)) (so_far ∙ ap (map branch_part) (take_all i items all ∙ same)) ∙ sym (ap ast.term is ∙ terms.term-Cases branches))

-- ---- the bodies of all variables

pub ok_code :
    {E : Type 0} (p : System) (x : ℕ) (equation : Equation) (r : Result Code E) → Some equation ≡ equation_of p.equations x → IfOk r (λ code. term code ≡ ast.term equation.body) → IfOk r (IsCodeAt p x)
ok_code p x equation (Err e) found h = tt
ok_code p x equation (Ok code) found h = subst (λ o. MatchOption (option_map (λ (q : Equation). ast.term q.body) o) (Unit {0}) (λ body. term code ≡ body)) found h

pub no_code : (p : System) (x : ℕ) (code : Code) → None ≡ equation_of p.equations x → IsCodeAt p x code
no_code p x code none = subst (λ o. MatchOption (option_map (λ (q : Equation). ast.term q.body) o) (Unit {0}) (λ body. term code ≡ body)) none tt

get-before : (codes : List Code) (code : Code) (y : ℕ) → y < length codes → slice_get (codes ++ code ∷ []) y ≡ slice_get codes y
get-before codes code y h =
    slice_get-get_or (codes ++ code ∷ []) y code (omega (arith, length-append codes (code ∷ []))) ∙ (ap (λ (c : Code). Some c) (get_or_append_left codes (code ∷ []) code y h) ∙ sym (slice_get-get_or codes y code h))

get-last : (codes : List Code) (code : Code) → slice_get (codes ++ code ∷ []) (length codes) ≡ Some code
get-last codes code =
    slice_get-get_or (codes ++ code ∷ []) (length codes) code (omega (arith, length-append codes (code ∷ []))) ∙ ap (λ (c : Code). Some c) (get_or-append_seam codes code [] code)

pub record AreCodesTo (p : System) (codes : List Code) (n : ℕ) : Type 0 where
  pub long : length codes ≡ n
  pub each : (x : ℕ) → x < n → MatchOption (slice_get codes x) ⊥ (IsCodeAt p x)

pub codes_more : (p : System) (codes after : List Code) (code : Code) (n : ℕ) → after ≡ codes ++ code ∷ [] → IsCodeAt p n code → AreCodesTo p codes n → AreCodesTo p after (n + 1)
codes_more p codes after code n e here before =
    subst (λ cs. AreCodesTo p cs (n + 1)) (sym e) (record { long = omega (arith, before.long, length-append codes (code ∷ [])); each = each })
  where
    each : (x : ℕ) → x < n + 1 → MatchOption (slice_get (codes ++ code ∷ []) x) ⊥ (IsCodeAt p x)
    each x h = elim (cases_lt x n) [
      | inl less ↦ subst (λ o. MatchOption o ⊥ (IsCodeAt p x)) (sym (get-before codes code x (omega (arith, before.long)))) (before.each x less)
      | inr more ↦ (
          let at : x ≡ n = omega arith in
          let last : slice_get (codes ++ code ∷ []) x ≡ Some code = ap (slice_get (codes ++ code ∷ [])) (at ∙ sym before.long) ∙ get-last codes code in
          subst (λ o. MatchOption o ⊥ (IsCodeAt p x)) (sym last) (subst (λ y. IsCodeAt p y code) (sym at) here))
    ]
