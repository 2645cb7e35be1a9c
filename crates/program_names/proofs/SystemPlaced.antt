-- The parts of a text without a refusal are placed.
use Rattle.std.proofs.Common.{◌≡◌, ℕ, ◌+◌, List, [], ◌∷◌, ◌++◌, length, Option, Some, None, refl, sym, ap, subst, arith}
use Rattle.std.specs.Prelude.{slice_get, MatchOption}
use Rattle.std.specs.List.{list_any}
use Rattle.std.specs.Option.{is_none}
use Rattle.std.proofs.lemmas.List.{length-append, length-map}
use Rattle.std.proofs.lemmas.List.Elements.{All-map, All-from_recursion}
use Rattle.az_ast.specs.declared.program.Variable.{Variable}
use Rattle.az_ast.specs.Placed.{IsPlaced, IsEquationPlaced, IsAtWidth}
use Rattle.az_ast.specs.Term.{Term, term}
use Rattle.program_grammar.specs.declared.tree.Declaration.{Declaration}
use Rattle.program_grammar.specs.declared.tree.Equation.{Equation}
use Rattle.program_grammar.specs.declared.tree.ProgramText.{ProgramText}
use Rattle.program_names.specs.Pieces.{place, names, pieces}
use Rattle.program_names.specs.Refusals.{declaration_of, is_unknown, is_other_arity, written_kind, meant_kind, equation_kind, refusal_of}
use Rattle.program_names.specs.Resolved.{number_of, expression, declarations, declared_names, equation_of, variables_of, system_of}
use Rattle.program_names.proofs.Accepted.{kinds-all, equated}
use Rattle.program_names.proofs.EquationPlaces.{variable-widths, equation-width}
use Rattle.program_names.proofs.ItemLaws.{both-none, written-none, meant-none}
use Rattle.program_names.proofs.PlaceLaws.{in_order, over_params}
use Rattle.program_names.proofs.Sums.{or-left, or-right}
use Rattle.program_names.proofs.WidthLaws.{at-scope}

at-variable : (count w : ℕ) (t : Term) (o : Option Variable) → MatchOption o ⊥ (λ v. v.domain.width ≡ w) → IsAtWidth count t w → MatchOption o ⊥ (λ v. IsAtWidth count t v.domain.width)
at-variable count w t None m a = m
at-variable count w t (Some v) m a = subst (IsAtWidth count t) (sym m) a

module _ (text : ProgramText) where
  count-kept : length (declared_names text) ≡ length (variables_of text)
  count-kept =
      let names = length-map (declarations text) (λ (d : Declaration). d.name) in
      let widths = length-map (variables_of text) (λ (v : Variable). v.domain.width) in
      let indices = length-map (declarations text) (λ (d : Declaration). length (text.params ++ d.indices)) in
      let same = ap length (variable-widths text) in
      omega (arith, names, widths, indices, same)

  equation-placed : (earlier : List Equation) (e : Equation) → equation_kind text earlier e ≡ None → IsEquationPlaced (variables_of text) (equation_of (declared_names text) text.params e)
  equation-placed earlier e h =
      let both = both-none (written_kind text e) (meant_kind text earlier e) h in
      let rest = names text.params e.indices ∷ pieces e.body (text.params ++ e.indices) in
      let unknown = (written-none text e both.0).1.0 in
      let other = (meant-none text earlier e both.1).0 in
      let known = or-left (is_none (declaration_of text e.variable)) (list_any (is_unknown text) rest) unknown in
      let within = or-right (is_none (declaration_of text e.variable)) (list_any (is_unknown text) rest) unknown in
      let arity = or-left (is_other_arity text (place e.variable (length e.indices))) (list_any (is_other_arity text) rest) other in
      let t = term (expression (declared_names text) e.body (text.params ++ e.indices)) in
      at-variable (length (variables_of text)) (length text.params + length e.indices) t (slice_get (variables_of text) (number_of (declared_names text) e.variable))
      (equation-width text e.variable (length e.indices) known arity)
      (subst (λ n. IsAtWidth n t (length text.params + length e.indices)) count-kept
      (subst (IsAtWidth (length (declared_names text)) t) (length-append text.params e.indices) (at-scope text e.body (text.params ++ e.indices) within)))

  pub system_placed : refusal_of text ≡ None → IsPlaced (system_of text)
  system_placed accepted =
      let P = λ (e : Equation). IsEquationPlaced (variables_of text) (equation_of (declared_names text) text.params e) in
      record {
        parameters = refl;
        parameters_plain = refl;
        order = in_order text;
        domains = over_params text;
        bodies = All-map (IsEquationPlaced (variables_of text)) (equation_of (declared_names text) text.params) text.equations
            (All-from_recursion P text.equations (kinds-all (equation_kind text) P equation-placed [] text.equations (equated text accepted)));
      }
