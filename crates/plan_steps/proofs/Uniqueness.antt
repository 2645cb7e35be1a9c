-- A body finds as many values at a point, whatever these are.
use Rattle.std.proofs.Common.{◌≡◌, ℕ, List, [], ◌∷◌, ◌++◌, length, refl, sym, ap, subst, ◌∙◌, arith, inl, inr, Option, Some, None, length-append}
use Rattle.std.specs.Prelude.{ℤ, flat_map, slice_get, MatchOption}
use Rattle.std.specs.List.{AllZip}
use Rattle.az_lin.specs.Affine.{image_of}
use Rattle.az_ast.proofs.Members.{AreMembers-unique}
use Rattle.az_ast.specs.Meaning.{RoleGives}
use Rattle.az_ast.specs.System.{System}
use Rattle.az_ast.specs.Tables.{Tables, InputGives}
use Rattle.az_ast.specs.Term.{Term, constant, index, access, negation, binary, cases, reduction, Choices, none, choice}
use Rattle.az_ast.specs.declared.program.Role.{Role}
use Rattle.az_ast.specs.declared.program.Role.TheVariants.{Input, Output, Local}
use Rattle.az_ast.specs.declared.program.Variable.{Variable}
use Rattle.plan_words.specs.Makes.{Find, find_of, TermMakes, ChoiceMakes}

-- parts that are found beside the points
abbrev pub found_in : List (List Find × ℤ) → List Find
found_in parts = flat_map (λ part. part.0) parts

module _ (P : List ℤ → List Find × ℤ → Type 0) (once : (k : List ℤ) (a b : List Find × ℤ) → P k a → P k b → length a.0 ≡ length b.0) where
  pub parts-long : (points : List (List ℤ)) (xs ys : List (List Find × ℤ)) → AllZip P points xs → AllZip P points ys → length (found_in xs) ≡ length (found_in ys)
  parts-long [] [] [] g h = refl
  parts-long [] [] (y ∷ ys) g h = absurd h
  parts-long [] (x ∷ xs) ys g h = absurd g
  parts-long (k ∷ points) [] ys g h = absurd g
  parts-long (k ∷ points) (x ∷ xs) [] g h = absurd h
  parts-long (k ∷ points) (x ∷ xs) (y ∷ ys) g h =
      let first = once k x y g.0 h.0 in
      let rest = parts-long points xs ys g.1 h.1 in
      omega (arith, first, rest, length-append x.0 (found_in xs), length-append y.0 (found_in ys))

module _ (p : System) (tables : Tables) where
  role-long : (role : Role) (x : ℕ) (k : List ℤ) (a b : List Find) (v w : ℤ) → RoleGives role ((a ≡ []) × InputGives tables x k v) (a ≡ find_of x k v ∷ []) →
      RoleGives role ((b ≡ []) × InputGives tables x k w) (b ≡ find_of x k w ∷ []) → length a ≡ length b
  role-long Input x k a b v w g h = ap length g.0 ∙ sym (ap length h.0)
  role-long Output x k a b v w g h = ap length g ∙ sym (ap length h)
  role-long Local x k a b v w g h = ap length g ∙ sym (ap length h)

  access-long : (o : Option Variable) (x : ℕ) (k : List ℤ) (a b : List Find) (v w : ℤ) →
      MatchOption o ⊥ (λ variable. RoleGives variable.role ((a ≡ []) × InputGives tables x k v) (a ≡ find_of x k v ∷ [])) →
      MatchOption o ⊥ (λ variable. RoleGives variable.role ((b ≡ []) × InputGives tables x k w) (b ≡ find_of x k w ∷ [])) → length a ≡ length b
  access-long None x k a b v w g h = absurd g
  access-long (Some variable) x k a b v w g h = role-long variable.role x k a b v w g h

  mutual
    pub makes-long : (e : Term) (z : List ℤ) (a b : List Find) (v w : ℤ) → TermMakes p tables e z a v → TermMakes p tables e z b w → length a ≡ length b
    makes-long (constant c) z a b v w g h = ap length g.0 ∙ sym (ap length h.0)
    makes-long (index row) z a b v w g h = ap length g.0 ∙ sym (ap length h.0)
    makes-long (access x f) z a b v w g h = access-long (slice_get p.variables x) x (image_of f z) a b v w g h
    makes-long (negation e) z a b v w g h = makes-long e z a b g.0 h.0 g.1 h.1
    makes-long (binary op e f) z a b v w g h =
        let left = makes-long e z g.0 h.0 g.2 h.2 g.4 h.4 in
        let right = makes-long f z g.1 h.1 g.3 h.3 g.5 h.5 in
        omega (arith, left, right, ap length g.6, ap length h.6, length-append g.0 g.1, length-append h.0 h.1)
    makes-long (cases branches) z a b v w g h = choice-long branches z a b v w g h
    makes-long (reduction op extra domain e) z a b v w g h =
        let same = AreMembers-unique domain z extra g.points h.points g.members h.members in
        let bodies : AllZip (λ k part. TermMakes p tables e (z ++ k) part.0 part.1) h.points g.parts = subst (λ ps. AllZip (λ k part. TermMakes p tables e (z ++ k) part.0 part.1) ps g.parts) same g.bodies in
        let long = parts-long (λ k part. TermMakes p tables e (z ++ k) part.0 part.1) (λ k c d s t. makes-long e (z ++ k) c.0 d.0 c.1 d.1 s t) h.points g.parts h.parts bodies h.bodies in
        ap length g.whole ∙ (long ∙ sym (ap length h.whole))

    choice-long : (branches : Choices) (z : List ℤ) (a b : List Find) (v w : ℤ) → ChoiceMakes p tables branches z a v → ChoiceMakes p tables branches z b w → length a ≡ length b
    choice-long none z a b v w g h = absurd g
    choice-long (choice domain e rest) z a b v w (inl g) (inl h) = makes-long e z a b v w g.1 h.1
    choice-long (choice domain e rest) z a b v w (inl g) (inr h) = absurd (h.0 g.0)
    choice-long (choice domain e rest) z a b v w (inr g) (inl h) = absurd (g.0 h.0)
    choice-long (choice domain e rest) z a b v w (inr g) (inr h) = choice-long rest z a b v w g.1 h.1
