-- The meaning of a program from the laws of the fixed point: the sums of the values so far,
-- `S[i] = case {i=0}: A[0]; {i>=1}: S[i-1] + A[i] esac` over 0<=i<N. It shows that the laws say enough.
use Rattle.std.proofs.Common.{◌≡◌, ℕ, zero, suc, ◌<◌, List, [], ◌∷◌, refl, sym, ap, subst, ◌∙◌, arith, inl, inr}
use Rattle.std.specs.Prelude.{ℤ, pos, negsuc, codes, ◌≤ℤ◌}
use Rattle.std.proofs.lemmas.Int.{ints}
use Rattle.az_lin.specs.Affine.{Affine, AffineMap, Union, Holds, HoldsSome, value_at, image_of}
use Rattle.az_ast.specs.declared.expr.Branch.{Branch}
use Rattle.az_ast.specs.declared.expr.Expr.{Expr}
use Rattle.az_ast.specs.declared.expr.Expr.TheVariants.{Access, Bin, Cases}
use Rattle.az_ast.specs.declared.op.Op.TheVariants.{Add}
use Rattle.az_ast.specs.declared.program.Role.TheVariants.{Input, Output}
use Rattle.az_ast.specs.Meaning.{Means}
use Rattle.az_ast.specs.Operators.{applied}
use Rattle.az_ast.specs.Points.{IsPointOf}
use Rattle.az_ast.specs.System.{System}
use Rattle.az_ast.specs.Tables.{Tables, InputGives}
use Rattle.az_ast.specs.Term.{Term, access, binary, cases, none, choice, term}
use Rattle.az_ast.proofs.FixedPoint.{Meant, With, Means-close}
use Rattle.az_ast.proofs.Laws.{Means-unique}
use Rattle.az_ast.proofs.Terms.{term-Access, term-Bin, term-Cases}

-- the row `a*N + b*i + c`, and the domain over N and i where rows are at least 0
abbrev row : ℤ → ℤ → ℤ → Affine
row a b c = record { coefs = a ∷ b ∷ []; konst = c }

abbrev where_rows : List Affine → Union
where_rows rows = record { width = 2; disjuncts = record { width = 2; rows = rows } ∷ [] }

abbrev places : Union
places = where_rows (row (pos 0) (pos 1) (pos 0) ∷ row (pos 1) (negsuc 0) (negsuc 0) ∷ [])

abbrev first : Union
first = where_rows (row (pos 0) (pos 1) (pos 0) ∷ row (pos 0) (negsuc 0) (pos 0) ∷ [])

abbrev later : Union
later = where_rows (row (pos 0) (pos 1) (negsuc 0) ∷ [])

abbrev at_row : Affine → AffineMap
at_row r = record { width = 2; rows = r ∷ [] }

abbrev start : Expr
start = Access 0 (at_row (row (pos 0) (pos 0) (pos 0)))

abbrev before : Expr
before = Access 1 (at_row (row (pos 0) (pos 1) (negsuc 0)))

abbrev here : Expr
here = Access 0 (at_row (row (pos 0) (pos 1) (pos 0)))

abbrev branches : List Branch
branches = record { domain = first; body = start } ∷ record { domain = later; body = Bin Add before here } ∷ []

abbrev pub prefix : System
prefix =
    record {
      name = codes "Prefix";
      params = codes "N" ∷ [];
      pdom = record { width = 1; disjuncts = record { width = 1; rows = record { coefs = pos 1 ∷ []; konst = negsuc 0 } ∷ [] } ∷ [] };
      variables = record { name = codes "A"; role = Input; domain = places } ∷ record { name = codes "S"; role = Output; domain = places } ∷ [];
      equations = record { variable = 1; body = Cases branches } ∷ [];
    }

abbrev body : Term
body =
    cases (choice first (access 0 (at_row (row (pos 0) (pos 0) (pos 0))))
    (choice later (binary Add (access 1 (at_row (row (pos 0) (pos 1) (negsuc 0)))) (access 0 (at_row (row (pos 0) (pos 1) (pos 0))))) none))

body_is : term (Cases branches) ≡ body
body_is =
    let sum : term (Bin Add before here) ≡ binary Add (access 1 (at_row (row (pos 0) (pos 1) (negsuc 0)))) (access 0 (at_row (row (pos 0) (pos 1) (pos 0))))
    = term-Bin Add before here ∙ (λ i. binary Add (term-Access 1 (at_row (row (pos 0) (pos 1) (negsuc 0))) i) (term-Access 0 (at_row (row (pos 0) (pos 1) (pos 0))) i)) in
    let read : term start ≡ access 0 (at_row (row (pos 0) (pos 0) (pos 0))) = term-Access 0 (at_row (row (pos 0) (pos 0) (pos 0))) in
    term-Cases branches ∙ (λ i. cases (choice first (read i) (choice later (sum i) none)))

module _ (n i : ℕ) where
  abbrev point : List ℤ
  point = pos n ∷ pos i ∷ []

  in_places : i < n → HoldsSome places point
  in_places h = (0, record { width = 2; rows = row (pos 0) (pos 1) (pos 0) ∷ row (pos 1) (negsuc 0) (negsuc 0) ∷ [] }, omega arith, refl, rows)
    where
      rows : Holds (record { width = 2; rows = row (pos 0) (pos 1) (pos 0) ∷ row (pos 1) (negsuc 0) (negsuc 0) ∷ [] }) point
      rows zero d l = omega (arith, ints)
      rows (suc zero) d l = omega (arith, ints)
      rows (suc (suc k)) d l = absurd (omega arith)

  pub is_point : i < n → IsPointOf 1 places (pos n ∷ []) (pos i ∷ [])
  is_point h = record { parameters = refl; member = (refl, in_places h) }

  in_first : i ≡ 0 → HoldsSome first point
  in_first e = (0, record { width = 2; rows = row (pos 0) (pos 1) (pos 0) ∷ row (pos 0) (negsuc 0) (pos 0) ∷ [] }, omega arith, refl, rows)
    where
      rows : Holds (record { width = 2; rows = row (pos 0) (pos 1) (pos 0) ∷ row (pos 0) (negsuc 0) (pos 0) ∷ [] }) point
      rows zero d l = omega (arith, ints)
      rows (suc zero) d l = omega (arith, ints)
      rows (suc (suc k)) d l = absurd (omega arith)

  not_first : 0 < i → HoldsSome first point → ⊥
  not_first h (zero, c, k, e, rows) =
      let held : Holds c point = rows in
      let kept : Holds (record { width = 2; rows = row (pos 0) (pos 1) (pos 0) ∷ row (pos 0) (negsuc 0) (pos 0) ∷ [] }) point = subst (λ p. Holds p point) (sym e) held in
      let last : pos 0 ≤ℤ value_at (row (pos 0) (negsuc 0) (pos 0)) point = kept 1 (row (pos 0) (pos 0) (pos 0)) (omega arith) in
      omega (arith, ints)
  not_first h (suc j, c, k, e, rows) = omega arith

  in_later : 0 < i → HoldsSome later point
  in_later h = (0, record { width = 2; rows = row (pos 0) (pos 1) (negsuc 0) ∷ [] }, omega arith, refl, rows)
    where
      rows : Holds (record { width = 2; rows = row (pos 0) (pos 1) (negsuc 0) ∷ [] }) point
      rows zero d l = omega (arith, ints)
      rows (suc k) d l = absurd (omega arith)

  origin_is : image_of (at_row (row (pos 0) (pos 0) (pos 0))) point ≡ pos 0 ∷ []
  origin_is = ap (λ c. c ∷ []) (omega (arith, ints))

  here_is : image_of (at_row (row (pos 0) (pos 1) (pos 0))) point ≡ pos i ∷ []
  here_is = ap (λ c. c ∷ []) (omega (arith, ints))

before_is : (n i : ℕ) → image_of (at_row (row (pos 0) (pos 1) (negsuc 0))) (pos n ∷ pos (suc i) ∷ []) ≡ pos i ∷ []
before_is n i = ap (λ c. c ∷ []) (omega (arith, ints))

module _ (tables : Tables) (n : ℕ) (a : ℕ → ℤ) (given : (i : ℕ) → i < n → InputGives tables 0 (pos i ∷ []) (a i)) where
  -- the sum of the values from the first to the one at `i`
  abbrev pub sum_to : ℕ → ℤ
  sum_to zero = a 0
  sum_to (suc i) = applied Add (sum_to i) (a (suc i))

  input_means : (i : ℕ) → i < n → Means prefix tables (pos n ∷ []) 0 (pos i ∷ []) (a i)
  input_means i h = Means-close prefix tables (pos n ∷ []) 0 (pos i ∷ []) (a i) (is_point n i h, given i h)

  by_body : (i : ℕ) (v : ℤ) → i < n → With prefix (Meant prefix tables) body (pos n ∷ pos i ∷ []) v → Means prefix tables (pos n ∷ []) 1 (pos i ∷ []) v
  by_body i v h g =
      Means-close prefix tables (pos n ∷ []) 1 (pos i ∷ []) v
      (is_point n i h, subst (λ t. With prefix (Meant prefix tables) t (pos n ∷ pos i ∷ []) v) (sym body_is) g)

  pub sum-means : (i : ℕ) → i < n → Means prefix tables (pos n ∷ []) 1 (pos i ∷ []) (sum_to i)
  sum-means zero h =
      by_body 0 (a 0) h
      (inl (in_first n 0 refl, subst (λ k. Means prefix tables (pos n ∷ []) 0 k (a 0)) (sym (origin_is n 0)) (input_means 0 h)))
  sum-means (suc i) h =
      let left = subst (λ k. Means prefix tables (pos n ∷ []) 1 k (sum_to i)) (sym (before_is n i)) (sum-means i (omega arith)) in
      let right = subst (λ k. Means prefix tables (pos n ∷ []) 0 k (a (suc i))) (sym (here_is n (suc i))) (input_means (suc i) h) in
      by_body (suc i) (sum_to (suc i)) h (inr (not_first n (suc i) (omega arith), inl (in_later n (suc i) (omega arith), (sum_to i, a (suc i), left, right, refl))))

  -- and nothing else
  pub sum-only : (i : ℕ) (v : ℤ) → i < n → Means prefix tables (pos n ∷ []) 1 (pos i ∷ []) v → v ≡ sum_to i
  sum-only i v h m = Means-unique prefix tables (pos n ∷ []) 1 (pos i ∷ []) v (sum_to i) m (sum-means i h)
