-- The value of a body in which the reads of outputs and locals have given values.
--
-- Of a case the first branch that holds the point is evaluated, and the body of a reduction at each member of its
-- domain, in increasing order. What is read stands in order of evaluation, the left operand before the right one,
-- each time with a value of its own, also where two reads are of the same instance. A read of an input has what its
-- table gives there, and isn't among them.
use Rattle.std.specs.Prelude.{◌≡◌, ℕ, ℤ, pos, List, [], ◌∷◌, ◌++◌, ◌⊎◌, map, fold, flat_map, slice_get, MatchOption}
use Rattle.std.specs.List.{AllZip}
use Rattle.az_lin.specs.Affine.{Union, value_at, image_of, HoldsSome}
use Rattle.az_ast.specs.declared.op.Op.{Op}
use Rattle.az_ast.specs.declared.op.Op.TheVariants.{Sub}
use Rattle.az_ast.specs.Meaning.{RoleGives}
use Rattle.az_ast.specs.Operators.{wrapped, applied, identity}
use Rattle.az_ast.specs.Points.{AreMembers}
use Rattle.az_ast.specs.System.{System}
use Rattle.az_ast.specs.Tables.{Tables, InputGives}
use Rattle.az_ast.specs.Term.{Term, constant, index, access, negation, binary, cases, reduction, Choices, none, choice}
use Rattle.execution.specs.declared.instance.Instance.{Instance}

-- an instance that is read, and the value that it has
pub record Find : Type 0 where
  pub named : Instance
  pub value : ℤ

abbrev pub find_of : ℕ → List ℤ → ℤ → Find
find_of x k v = record { named = record { variable = x; point = k }; value = v }

abbrev pub Body : Type 1
Body = List ℤ → List Find → ℤ → Type 0

-- the body's values over the members in increasing order, folded from the operator's identity
pub record FoldMakes (op : Op) (extra : ℕ) (domain : Union) (body : Body) (z : List ℤ) (finds : List Find) (v : ℤ) : Type 0 where
  pub points : List (List ℤ)
  pub parts : List (List Find × ℤ)
  pub members : AreMembers domain z extra points
  pub bodies : AllZip (λ k part. body (z ++ k) part.0 part.1) points parts
  pub whole : finds ≡ flat_map (λ part. part.0) parts
  pub result : v ≡ fold (applied op) (identity op) (map (λ part. part.1) parts)

module _ (p : System) (tables : Tables) where
  abbrev pub AccessMakes : ℕ → List ℤ → List Find → ℤ → Type 0
  AccessMakes x k finds v =
      MatchOption (slice_get p.variables x) ⊥ (λ variable. RoleGives variable.role ((finds ≡ []) × InputGives tables x k v) (finds ≡ find_of x k v ∷ []))

  abbrev mutual
    pub TermMakes : Term → List ℤ → List Find → ℤ → Type 0
    TermMakes (constant c) z finds v = (finds ≡ []) × (v ≡ c)
    TermMakes (index row) z finds v = (finds ≡ []) × (v ≡ wrapped (value_at row z))
    TermMakes (access x f) z finds v = AccessMakes x (image_of f z) finds v
    TermMakes (negation e) z finds v = (w : ℤ) × TermMakes e z finds w × (v ≡ applied Sub (pos 0) w)
    TermMakes (binary op a b) z finds v =
        (left : List Find) × (right : List Find) × (x : ℤ) × (y : ℤ) × TermMakes a z left x × TermMakes b z right y × (finds ≡ left ++ right) × (v ≡ applied op x y)
    TermMakes (cases branches) z finds v = ChoiceMakes branches z finds v
    TermMakes (reduction op extra domain e) z finds v = FoldMakes op extra domain (λ y part w. TermMakes e y part w) z finds v

    pub ChoiceMakes : Choices → List ℤ → List Find → ℤ → Type 0
    ChoiceMakes none z finds v = ⊥
    ChoiceMakes (choice domain e rest) z finds v = (HoldsSome domain z × TermMakes e z finds v) ⊎ ((HoldsSome domain z → ⊥) × ChoiceMakes rest z finds v)
