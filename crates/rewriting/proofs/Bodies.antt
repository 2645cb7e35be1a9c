-- The body of a program's variable: its columns, its shape and its rows, and what each of its accesses has that is
-- reached from a point.
use Rattle.std.proofs.Common.{◌≡◌, ℕ, ◌+◌, ◌≤◌, List, [], ◌∷◌, ◌++◌, length, take, Bool, true, false, cond, Option, Some, None, All, refl, sym, ap, subst, ◌∙◌, arith, length-append}
use Rattle.std.specs.Prelude.{ℤ, slice_get, slice_index_or, MatchOption, option_map, unwrap_or, ◌==◌}
use Rattle.std.specs.List.{AllByRecursion}
use Rattle.std.proofs.lemmas.Bool.{eqb-true}
use Rattle.std.proofs.lemmas.List.Elements.{recursion_from_All, All-weaker}
use Rattle.std.proofs.Math.Seq.{take-append_seam}
use Rattle.std.proofs.lemmas.Option.{get_or_from_slice_get, slice_get_within}
use Rattle.az_lin.specs.Affine.{AffineMap, HoldsSome}
use Rattle.az_ast.proofs.TermShapes.{HasShape, bodies-shaped}
use Rattle.az_ast.specs.Certified.{IsCertified, ReadsWithin}
use Rattle.az_ast.specs.Meaning.{equation_of, body_of}
use Rattle.az_ast.specs.Placed.{IsAtWidth, IsEquationPlaced}
use Rattle.az_ast.specs.Points.{IsPointOf}
use Rattle.az_ast.specs.Rows.{HasRowsAt, HasBodyRows}
use Rattle.az_ast.specs.Shapes.{IsProgram}
use Rattle.az_ast.specs.System.{System}
use Rattle.az_ast.specs.Term.{Term, term}
use Rattle.az_ast.specs.declared.program.Equation.{Equation}
use Rattle.az_ast.specs.declared.program.Variable.{Variable}
use Rattle.expr_maps.specs.Answers.{EachAccess}
use Rattle.expr_places.proofs.Reached.{sound-from, AtPlaces-both}
use Rattle.expr_places.specs.Places.{Part, case_over, reduction_over, access_to}
use Rattle.expr_places.specs.Reached.{AtAccesses, AtPlaces, OnAccess, IsSoundHere, IsSoundFrom}
use Rattle.rewriting.proofs.Accesses.{IsAccess, IsReached, accesses-of_rows, accesses-reached}

-- a fact on all equations is one on a variable's body
pub body-found : (P : Equation → Type 0) (equations : List Equation) → AllByRecursion P equations → (x : ℕ) (e : Term) → body_of equations x ≡ Some e
    → (equation : Equation) × (equation.variable ≡ x) × (term equation.body ≡ e) × P equation
body-found P [] all x e found = cc
body-found P (equation ∷ rest) all x e found = by (equation.variable == x) refl found (λ g. body-found P rest all.1 x e g)
  where
    by : (b : Bool) → (equation.variable == x) ≡ b → option_map (λ (q : Equation). term q.body) (cond b (Some equation) (equation_of rest x)) ≡ Some e
        → (body_of rest x ≡ Some e → (q : Equation) × (q.variable ≡ x) × (term q.body ≡ e) × P q) → (q : Equation) × (q.variable ≡ x) × (term q.body ≡ e) × P q
    by true told h rest_found = (equation, eqb-true equation.variable x told, ap (λ o. unwrap_or o e) h, all.0)
    by false told h rest_found = rest_found h

pub record IsBody (p : System) (e : Term) (width : ℕ) : Type 0 where
  pub placed : IsAtWidth (length p.variables) e width
  pub shape : HasShape (length p.params) p.variables e
  pub rows : HasRowsAt e width

module _ (p : System) (program : IsProgram p) (x : ℕ) (u : Variable) (declared : slice_get p.variables x ≡ Some u) (e : Term) (defined : body_of p.equations x ≡ Some e) where
  -- what an equation has whose variable is declared
  at_declared : (P : Variable → Type 0) (n : ℕ) → n ≡ x → MatchOption (slice_get p.variables n) ⊥ P → P u
  at_declared P n same h = subst (λ o. MatchOption o ⊥ P) (ap (λ m. slice_get p.variables m) same ∙ declared) h

  pub body-of : IsBody p e u.domain.width
  body-of =
      let placed = body-found (IsEquationPlaced p.variables) p.equations (recursion_from_All (IsEquationPlaced p.variables) p.equations program.placed.bodies) x e defined in
      let shaped = body-found (λ (q : Equation). HasShape (length p.params) p.variables (term q.body)) p.equations (recursion_from_All (λ (q : Equation). HasShape (length p.params) p.variables (term q.body)) p.equations (bodies-shaped p program)) x e defined in
      let rowed = body-found (HasBodyRows p.variables) p.equations (recursion_from_All (HasBodyRows p.variables) p.equations program.rows.bodies) x e defined in
      record {
        placed = subst (λ t. IsAtWidth (length p.variables) t u.domain.width) placed.2 (at_declared (λ v. IsAtWidth (length p.variables) (term placed.0.body) v.domain.width) placed.0.variable placed.1 placed.3);
        shape = subst (λ t. HasShape (length p.params) p.variables t) shaped.2 shaped.3;
        rows = subst (λ t. HasRowsAt t u.domain.width) rowed.2 (at_declared (λ v. HasRowsAt (term rowed.0.body) v.domain.width) rowed.0.variable rowed.1 rowed.3);
      }

  pub accesses-of : EachAccess (IsAccess (length p.params) p.variables) e
  accesses-of = accesses-of_rows (length p.params) p.variables e u.domain.width body-of.shape body-of.rows

  -- a domain has the parameters' columns first
  pub wide-domain : length p.params ≤ u.domain.width
  wide-domain =
      subst (λ (v : Variable). length p.params ≤ v.domain.width) (get_or_from_slice_get p.variables x u u declared) (program.placed.domains x u (slice_get_within p.variables x u declared))

  abbrev IsSoundOver : Equation → Variable → Type 0
  IsSoundOver q v = (z : List ℤ) → length z ≡ v.domain.width → HoldsSome p.pdom (take p.pdom.width z) → HoldsSome v.domain z → AtPlaces (IsSoundHere p) (term q.body) z

  module _ (ps k : List ℤ) (point : IsPointOf (length p.params) u.domain ps k) where
    pub point-long : length (ps ++ k) ≡ u.domain.width
    point-long = omega (arith, length-append ps k, point.parameters, point.member.0, wide-domain)

    pub body-reached : (P : ℕ → AffineMap → Type 0) → EachAccess P e → AtAccesses (IsReached (length p.params) (ps ++ k) P) e (ps ++ k)
    body-reached P each =
        accesses-reached (length p.params) (length p.variables) (ps ++ k) P e (omega (arith, point-long, wide-domain))
        (subst (λ n. IsAtWidth (length p.variables) e n) (sym point-long) body-of.placed) each

    -- the parameters of a point
    pub first-of_point : take (length p.params) (ps ++ k) ≡ ps
    first-of_point = ap (λ n. take n (ps ++ k)) (sym point.parameters) ∙ take-append_seam ps k

    -- certification, where the body is evaluated at a point
    pub sound-at_point : IsCertified p → HoldsSome p.pdom ps → AtPlaces (IsSoundHere p) e (ps ++ k)
    sound-at_point certified held =
        let found = body-found (IsSoundFrom p) p.equations (recursion_from_All (IsSoundFrom p) p.equations each) x e defined in
        let sound : IsSoundOver found.0 u = at_declared (IsSoundOver found.0) found.0.variable found.1 found.3 in
        let first : take p.pdom.width (ps ++ k) ≡ ps = ap (λ n. take n (ps ++ k)) program.placed.parameters ∙ first-of_point in
        subst (λ t. AtPlaces (IsSoundHere p) t (ps ++ k)) found.2 (sound (ps ++ k) point-long (subst (HoldsSome p.pdom) (sym first) held) point.member.1)
      where
        wide : All (λ variable. p.pdom.width ≤ variable.domain.width) p.variables
        wide = All-weaker (λ (v : Variable). length p.params ≤ v.domain.width) (λ (v : Variable). p.pdom.width ≤ v.domain.width)
            (λ v h. subst (λ n. n ≤ v.domain.width) (sym program.placed.parameters) h) p.variables program.placed.domains

        each : All (IsSoundFrom p) p.equations
        each i d within = sound-from p (slice_index_or p.equations i d) wide (program.placed.bodies i d within) (certified.sound i d within)

-- two facts at each access that is reached
pub AtAccesses-sound : (p : System) (P Q : ℕ → AffineMap → List ℤ → Type 0) → ((x : ℕ) (f : AffineMap) (y : List ℤ) → P x f y → ReadsWithin p x f y → Q x f y)
    → (e : Term) (z : List ℤ) → AtAccesses P e z → AtPlaces (IsSoundHere p) e z → AtAccesses Q e z
AtAccesses-sound p P Q to e z reached sound = AtPlaces-both (OnAccess P) (IsSoundHere p) (OnAccess Q) on e z reached sound
  where
    on : (part : Part) (y : List ℤ) → OnAccess P part y → IsSoundHere p part y → OnAccess Q part y
    on (case_over domains) y h s = tt
    on (reduction_over extra domain) y h s = tt
    on (access_to x f) y h s = to x f y h s
