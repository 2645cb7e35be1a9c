-- What there being no reason against it gives: the target is a local with an equation, whose body can be put in.
use Rattle.std.proofs.Common.{◌≡◌, ℕ, List, [], ◌∷◌, length, map, true, false, not, Option, Some, None, All, refl, sym, ap, subst, ◌∙◌, arith}
use Rattle.std.specs.Prelude.{slice_get, slice_index_or, MatchOption, option_map, filter_map, pos, IsTrue, ◌==◌}
use Rattle.std.specs.Option.{option_map_or}
use Rattle.std.proofs.lemmas.Bool.{eqb-true, not-false}
use Rattle.az_lin.specs.Affine.{AffineMap}
use Rattle.az_lin.specs.Columns.{reading}
use Rattle.az_ast.proofs.ShapeParts.{none_holds}
use Rattle.az_ast.specs.Certified.{IsCertified}
use Rattle.az_ast.specs.Meaning.{IsInput, equation_of, body_of}
use Rattle.az_ast.specs.Shapes.{IsProgram, indices}
use Rattle.az_ast.specs.System.{System}
use Rattle.az_ast.specs.Term.{Term, constant, term}
use Rattle.az_ast.specs.declared.program.Equation.{Equation}
use Rattle.az_ast.specs.declared.program.Role.{Role}
use Rattle.az_ast.specs.declared.program.Role.TheVariants.{Input, Output, Local}
use Rattle.az_ast.specs.declared.program.Variable.{Variable}
use Rattle.az_ast.specs.declared.reason.Reason.TheVariants.{SelfInline, NotLocal, NotUsed}
use Rattle.expr_maps.specs.Answers.{EachAccess}
use Rattle.rewriting.proofs.Accesses.{IsAccess, HasPlaceColumns, EachAccess-both}
use Rattle.rewriting.proofs.Bodies.{wide-domain}
use Rattle.rewriting.proofs.FineParts.{AreFine}
use Rattle.rewriting.proofs.Locals.{local-declared, local-written, all-some, reading-rows}
use Rattle.rewriting.proofs.PlaceColumns.{can-put_into, equation-columns, equation-accesses}
use Rattle.rewriting.specs.Definitions.{Definition, definition_of, definitions}
use Rattle.rewriting.specs.Named.{name_of, is_local, is_read_by, has_local_role}
use Rattle.rewriting.specs.Promise.{KeepsMeaning, stays}
use Rattle.inline_eqs.specs.Inlining.{body_with, body_at, inlined, CanPutIn, PutFits, InliningFits, inlining_refusal}
use Rattle.inline_eqs.proofs.InliningFine.{inlining-fine}
use Rattle.inline_eqs.proofs.InliningMeaning.{inlining-keeps}

-- a definition with the body put in
abbrev pub one_of : ℕ → ℕ → ℕ → Term → Definition → Option Definition
one_of params into target body d = Some (d.0, body_with params into target body d.0 d.1)

module _ (p : System) (program : IsProgram p) (into target : ℕ) (free : inlining_refusal p into target ≡ None) (source : Equation) (found : equation_of p.equations target ≡ Some source) where
  abbrev n : ℕ
  n = length p.params

  apart : (into == target) ≡ false
  apart = (none_holds ((into == target, SelfInline) ∷ (not (is_local p target), NotLocal (name_of p target)) ∷ (not (is_read_by p target into), NotUsed) ∷ []) free).0

  local : is_local p target ≡ true
  local = not-false (is_local p target) (none_holds ((into == target, SelfInline) ∷ (not (is_local p target), NotLocal (name_of p target)) ∷ (not (is_read_by p target into), NotUsed) ∷ []) free).1.0

  own : (w : Variable) × (slice_get p.variables target ≡ Some w) × (has_local_role w.role ≡ true)
  own = local-declared p target local

  defined : body_of p.equations target ≡ Some (term source.body)
  defined = ap (option_map (λ (q : Equation). term q.body)) found

  body-is : body_at p target ≡ term source.body
  body-is = ap (λ o. option_map_or (λ t. t) o (constant (pos 0))) defined

  defined-at : body_of p.equations target ≡ Some (body_at p target)
  defined-at = defined ∙ ap Some (sym body-is)

  pub can-put_in : All (λ (q : Equation). IsTrue (q.variable == into) → EachAccess (CanPutIn n target (term source.body)) (term q.body)) p.equations
  can-put_in k d within same = EachAccess-both (IsAccess n p.variables) (HasPlaceColumns n 24) (CanPutIn n target (term source.body)) to (term (slice_index_or p.equations k d).body) (equation-accesses p program k d within) (equation-columns p program k d within)
    where
      to : (x : ℕ) (f : AffineMap) → IsAccess n p.variables x f → HasPlaceColumns n 24 x f → CanPutIn n target (term source.body) x f
      to x f a columns here =
          let arity : length f.rows ≡ indices n own.0
          = subst (λ o. MatchOption o ⊥ (λ (v : Variable). length f.rows ≡ indices n v)) (ap (λ y. slice_get p.variables y) (eqb-true x target here) ∙ own.1) a.arity in
          let wide = wide-domain p program target own.0 own.1 (term source.body) defined in (
            can-put_into p program target own.0 own.1 (term source.body) defined (reading n f) (omega (arith, reading-rows n f, arity, wide)) (omega (arith, columns.few)),
            columns.enough,
          )

  pub given-definitions : filter_map (one_of n into target (term source.body)) (definitions p) ≡ map (λ (d : Definition). (d.0, body_with n into target (body_at p target) d.0 d.1)) (definitions p)
  given-definitions =
      all-some (λ (d : Definition). (d.0, body_with n into target (term source.body) d.0 d.1)) (definitions p)
      ∙ ap (λ t. map (λ (d : Definition). (d.0, body_with n into target t d.0 d.1)) (definitions p)) (sym body-is)

  pub given-fits : All (λ (q : Equation). PutFits n into target (term source.body) (definition_of q)) p.equations → InliningFits p into target
  given-fits all = subst (λ t. All (λ (q : Equation). PutFits n into target t (definition_of q)) p.equations) (sym body-is) all

  pub fits-given : InliningFits p into target → All (λ (q : Equation). PutFits n into target (term source.body) (definition_of q)) p.equations
  fits-given all = subst (λ t. All (λ (q : Equation). PutFits n into target t (definition_of q)) p.equations) body-is all

  pub given-fine : AreFine p p.variables (map (λ (d : Definition). (d.0, body_with n into target (body_at p target) d.0 d.1)) (definitions p))
  given-fine = inlining-fine p program into target own.0 own.1 defined-at

  pub given-keeps : IsCertified p → KeepsMeaning p (inlined p into target) stays
  given-keeps certified = inlining-keeps p program certified into target apart own.0 own.1 (local-written own.0.role own.2) (term source.body) defined
