-- The rules on shapes, told of an expression form by form: an access has as many rows as its variable has
-- indices, no reduction is by difference, and no place has more than 24 columns.
use Rattle.std.proofs.Common.{◌≡◌, ℕ, ◌+◌, ◌<◌, ◌≤◌, List, [], ◌∷◌, ◌++◌, length, false, not, Option, Some, None, refl, ap, subst, arith, inl, inr, take, ℤ, ◌∙◌}
use Rattle.std.specs.Prelude.{All, MatchOption, slice_get, slice_index_or, ◌==◌, nat_lt}
use Rattle.std.specs.List.{AllByRecursion}
use Rattle.std.specs.Option.{option_map_or}
use Rattle.std.proofs.lemmas.Bool.{eqb-true, ltb-false, not-false}
use Rattle.std.proofs.lemmas.Option.{slice_get_cases}
use Rattle.std.proofs.lemmas.List.{length-map, length-take-le}
use Rattle.az_lin.specs.Affine.{AffineMap, HoldsSome, value_at, image_of}
use Rattle.az_ast.specs.Certified.{ReadsWithin}
use Rattle.az_ast.specs.declared.op.Op.{Op}
use Rattle.az_ast.specs.declared.program.Equation.{Equation}
use Rattle.az_ast.specs.declared.program.Variable.{Variable}
use Rattle.az_ast.specs.Operators.{FoldsFromIdentity}
use Rattle.az_ast.specs.Placed.{IsAtWidth, AreAtWidth}
use Rattle.az_ast.specs.Points.{IsPointOf}
use Rattle.az_ast.specs.Shapes.{indices, is_sub, has_other_arity, reduces_by_sub, stands_under_many, IsProgram}
use Rattle.az_ast.specs.System.{System}
use Rattle.az_ast.specs.Term.{Term, constant, index, access, negation, binary, cases, reduction, Choices, none, choice, term}
use Rattle.az_ast.specs.Walks.{parts, parts_below, extra_under}
use Rattle.az_ast.proofs.ProgramLaws.{has_arities, folds, under_few, few_parts}

module _ (params : ℕ) (variables : List Variable) where
  abbrev mutual
    pub HasShape : Term → Type 0
    HasShape (constant c) = Unit {0}
    HasShape (index row) = Unit {0}
    HasShape (access x f) = MatchOption (slice_get variables x) ⊥ (λ variable. length f.rows ≡ indices params variable)
    HasShape (negation e) = HasShape e
    HasShape (binary op a b) = HasShape a × HasShape b
    HasShape (cases branches) = HaveShape branches
    HasShape (reduction op extra domain e) = FoldsFromIdentity op × HasShape e

    pub HaveShape : Choices → Type 0
    HaveShape none = Unit {0}
    HaveShape (choice domain e rest) = HasShape e × HaveShape rest

  -- each part has the arity of its variable, and folds
  abbrev IsShaped : Term → Type 0
  IsShaped part = (has_other_arity params variables part ≡ false) × (reduces_by_sub part ≡ false)

  split : (xs ys : List Term) → AllByRecursion IsShaped (xs ++ ys) → AllByRecursion IsShaped xs × AllByRecursion IsShaped ys
  split [] ys h = (tt, h)
  split (x ∷ xs) ys h = let rest = split xs ys h.1 in ((h.0, rest.0), rest.1)

  arity : (x : ℕ) (f : AffineMap) → x < length variables → has_other_arity params variables (access x f) ≡ false → MatchOption (slice_get variables x) ⊥ (λ (v : Variable). length f.rows ≡ indices params v)
  arity x f h e = by (slice_get variables x) refl e
    where
      by : (o : Option Variable) → slice_get variables x ≡ o → option_map_or (λ (v : Variable). not (length f.rows == indices params v)) o false ≡ false → MatchOption o ⊥ (λ (v : Variable). length f.rows ≡ indices params v)
      by None n e = absurd (elim (slice_get_cases variables x).1 [ inl a ↦ let g = a.2 in cc | inr b ↦ let g = b.0 in omega (arith, g, h) ])
      by (Some v) s e = eqb-true (length f.rows) (indices params v) (not-false (length f.rows == indices params v) e)

  by_identity : (op : Op) → is_sub op ≡ false → FoldsFromIdentity op
  by_identity op e same = let wrong = ap is_sub same in cc

  mutual
    shape_of_parts : (count : ℕ) → count ≡ length variables → (e : Term) (width : ℕ) → IsAtWidth count e width → AllByRecursion IsShaped (parts e) → HasShape e
    shape_of_parts count c (constant v) width p h = tt
    shape_of_parts count c (index row) width p h = tt
    shape_of_parts count c (access x f) width p h = arity x f (omega (arith, p.0, c)) h.0.0
    shape_of_parts count c (negation e) width p h = shape_of_parts count c e width p h.1
    shape_of_parts count c (binary op a b) width p h =
        let two = split (parts a) (parts b) h.1 in
        (shape_of_parts count c a width p.0 two.0, shape_of_parts count c b width p.1 two.1)
    shape_of_parts count c (cases branches) width p h = shape_of_branches count c branches width p h.1
    shape_of_parts count c (reduction op extra domain e) width p h = (by_identity op h.0.1, shape_of_parts count c e (width + extra) p.2 h.1)

    shape_of_branches : (count : ℕ) → count ≡ length variables → (branches : Choices) (width : ℕ) → AreAtWidth count branches width → AllByRecursion IsShaped (parts_below branches) → HaveShape branches
    shape_of_branches count c none width p h = tt
    shape_of_branches count c (choice domain e rest) width p h =
        let two = split (parts e) (parts_below rest) h in
        (shape_of_parts count c e width p.1 two.0, shape_of_branches count c rest width p.2 two.1)

both : {A : Type 0} (P Q : A → Type 0) (xs : List A) → AllByRecursion P xs → AllByRecursion Q xs → AllByRecursion (λ x. P x × Q x) xs
both P Q [] g h = tt
both P Q (x ∷ xs) g h = ((g.0, h.0), both P Q xs g.1 h.1)

module _ (p : System) (program : IsProgram p) where
  -- so it is in each equation of a program
  pub bodies-shaped : All (λ (e : Equation). HasShape (length p.params) p.variables (term e.body)) p.equations
  bodies-shaped k d h =
      let e = slice_index_or p.equations k d in
      by e (slice_get p.variables e.variable) (program.placed.bodies k d h)
      (both _ _ (parts (term e.body)) (has_arities p program k d h) (folds p program k d h))
    where
      by : (e : Equation) (o : Option Variable) → MatchOption o ⊥ (λ variable. IsAtWidth (length p.variables) (term e.body) variable.domain.width) →
          AllByRecursion (IsShaped (length p.params) p.variables) (parts (term e.body)) → HasShape (length p.params) p.variables (term e.body)
      by e None m h = absurd m
      by e (Some v) m h = shape_of_parts (length p.params) p.variables (length p.variables) refl (term e.body) v.domain.width m h

  -- the columns of a place: those of the variable's domain, and the extra indices around it
  pub few_columns_at : (k : ℕ) (d : Equation) → k < length p.equations → (v : Variable) → slice_get p.variables (slice_index_or p.equations k d).variable ≡ Some v → v.domain.width + extra_under (term (slice_index_or p.equations k d).body) ≤ 24
  few_columns_at k d h v declared =
      let e = slice_index_or p.equations k d in
      let tested : stands_under_many (length p.params) p.variables e ≡ false = under_few p program k d h in
      let here : nat_lt 16 (indices (length p.params) v + extra_under (term e.body)) ≡ false
      = subst (λ o. option_map_or (λ (w : Variable). nat_lt 16 (indices (length p.params) w + extra_under (term e.body))) o false ≡ false) declared tested in
      let few = ltb-false 16 (indices (length p.params) v + extra_under (term e.body)) here in
      let names = (few_parts p program).1 in
      omega (arith, few, names)

-- an access that reads within its variable's domain reads a point of it
pub within-point :
    (p : System) (x : ℕ) (f : AffineMap) (z : List ℤ) → length p.params ≤ length z → HasShape (length p.params) p.variables (access x f) → ReadsWithin p x f z →
    MatchOption (slice_get p.variables x) ⊥ (λ variable. IsPointOf (length p.params) variable.domain (take (length p.params) z) (image_of f z))
within-point p x f z long shape within = by (slice_get p.variables x) shape within
  where
    by : (o : Option Variable) → MatchOption o ⊥ (λ variable. length f.rows ≡ indices (length p.params) variable) →
        MatchOption o ⊥ (λ variable. HoldsSome variable.domain (take (length p.params) z ++ image_of f z)) →
        MatchOption o ⊥ (λ variable. IsPointOf (length p.params) variable.domain (take (length p.params) z) (image_of f z))
    by None s w = absurd w
    by (Some v) s w =
        record {
          parameters = length-take-le (length p.params) z long;
          member = (length-map f.rows (λ row. value_at row z) ∙ s, w);
        }
