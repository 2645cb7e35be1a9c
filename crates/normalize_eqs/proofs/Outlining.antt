-- Reductions taken out of an expression: with a variable for each, what is left has the values of the expression.
use Rattle.std.proofs.Common.{◌≡◌, ℕ, suc, ◌+◌, ◌-◌, ◌<◌, ◌≤◌, List, [], ◌∷◌, ◌++◌, length, take, drop, map, Some, sym, ap, subst, ◌∙◌, arith, length-append, length-drop, length-take}
use Rattle.std.specs.Prelude.{ℤ, slice_get, MatchOption}
use Rattle.std.proofs.lemmas.List.{take-append-le, take_all, take-append-drop}
use Rattle.std.proofs.Math.Seq.{take-append_seam}
use Rattle.az_lin.specs.Affine.{Union, image_of}
use Rattle.az_lin.specs.Columns.{widened, unit_rows}
use Rattle.az_lin.proofs.Columns.{values-unit_rows}
use Rattle.az_ast.proofs.FixedPoint.{Meant, With}
use Rattle.az_ast.proofs.ReadLemmas.{MatchOption-at, RoleGives-body}
use Rattle.az_ast.specs.Meaning.{Reads, RoleGives, IsInput, ReadGives, TermGives, body_of, Means}
use Rattle.az_ast.specs.Placed.{IsConjunction, IsAtWidth}
use Rattle.az_ast.specs.Points.{IsMember, IsPointOf}
use Rattle.az_ast.specs.System.{System}
use Rattle.az_ast.specs.Tables.{Tables, InputGives}
use Rattle.az_ast.specs.Term.{Term, constant, index, access, negation, binary, cases, reduction}
use Rattle.az_ast.specs.declared.op.Op.{Op}
use Rattle.az_ast.specs.declared.program.Role.TheVariants.{Local}
use Rattle.az_ast.specs.declared.program.Variable.{Variable}
use Rattle.expr_maps.proofs.Members.{AllZip-members}
use Rattle.rewriting.proofs.Moved.{meaning-of_body}
use Rattle.normalize_eqs.specs.Pieces.{rows_of, region}
use Rattle.normalize_eqs.specs.Outlines.{Scope, inside, Fresh, outline, outline_inside}
use Rattle.normalize_eqs.proofs.Held.{Hold, hold-append, region_holds, plain_holds, widened-holds}

-- an expression of pieces: no case, and reductions over domains of one disjunct
abbrev pub IsFlat : Term → Type 0
IsFlat (constant c) = Unit {0}
IsFlat (index row) = Unit {0}
IsFlat (access x f) = Unit {0}
IsFlat (negation e) = IsFlat e
IsFlat (binary op a b) = IsFlat a × IsFlat b
IsFlat (cases branches) = ⊥
IsFlat (reduction op extra domain e) = IsConjunction domain × IsFlat e

-- a variable that was made for a reduction, and those made from a number on
pub record IsDeclared (q : System) (y : ℕ) (fresh : Fresh) : Type 0 where
  pub variable : Variable
  pub found : slice_get q.variables y ≡ Some variable
  pub role : variable.role ≡ Local
  pub domain : variable.domain ≡ fresh.domain
  pub body : body_of q.equations y ≡ Some fresh.body

abbrev pub AreDeclared : System → ℕ → List Fresh → Type 0
AreDeclared q y [] = Unit {0}
AreDeclared q y (fresh ∷ rest) = IsDeclared q y fresh × AreDeclared q (suc y) rest

pub declared-parts : (q : System) (y : ℕ) (xs ys : List Fresh) → AreDeclared q y (xs ++ ys) → AreDeclared q y xs × AreDeclared q (y + length xs) ys
declared-parts q y [] ys h = (tt, subst (λ n. AreDeclared q n ys) (omega arith) h)
declared-parts q y (x ∷ xs) ys h =
    let rest = declared-parts q (suc y) xs ys h.1 in
    let next : suc y + length xs ≡ y + length (x ∷ xs) = omega arith in
    ((h.0, rest.0), subst (λ n. AreDeclared q n ys) next rest.1)

-- a point in scope
pub record IsInScope (params : ℕ) (s : Scope) (z : List ℤ) : Type 0 where
  pub long : length z ≡ s.width
  pub wide : params ≤ s.width
  pub held : Hold s.rows z

module _ (params : ℕ) (s : Scope) (z : List ℤ) (here : IsInScope params s z) where
  pub all_indices : image_of (record { width = s.width; rows = unit_rows s.width params (s.width - params) }) z ≡ drop params z
  all_indices =
      values-unit_rows s.width params (s.width - params) z (omega (arith, here.wide)) (omega (arith, here.wide, here.long))
      ∙ take_all (s.width - params) (drop params z) (omega (arith, length-drop params z, here.long))

  pub whole : take params z ++ image_of (record { width = s.width; rows = unit_rows s.width params (s.width - params) }) z ≡ z
  whole = ap (λ (k : List ℤ). take params z ++ k) all_indices ∙ take-append-drop params z

  -- in the body of a reduction
  pub inner : (extra : ℕ) (domain : Union) → IsConjunction domain → (k : List ℤ) → IsMember domain z extra k → IsInScope params (inside s extra domain) (z ++ k)
  inner extra domain plain k member = record {
    long = omega (arith, length-append z k, here.long, member.0);
    wide = omega (arith, here.wide);
    held = hold-append (map (λ row. widened s.width extra row) s.rows) (rows_of domain) (z ++ k) (widened-holds s.rows z k s.width extra here.long member.0 here.held) ((plain_holds domain (z ++ k) plain).0 member.1);
  }

  pub first_kept : (k : List ℤ) → take params (z ++ k) ≡ take params z
  first_kept k = take-append-le params z k (omega (arith, here.long, here.wide))

-- a reduction of which each body has the values of another's
fold-mapped : (params : ℕ) (reads others : Reads) (op : Op) (extra : ℕ) (domain : Union) (e other : Term) (z : List ℤ) (v : ℤ)
    → ((k : List ℤ) (w : ℤ) → IsMember domain z extra k → TermGives params reads e (z ++ k) w → TermGives params others other (z ++ k) w)
    → TermGives params reads (reduction op extra domain e) z v → TermGives params others (reduction op extra domain other) z v
fold-mapped params reads others op extra domain e other z v each g = record {
  points = g.points;
  values = g.values;
  members = g.members;
  bodies = AllZip-members (IsMember domain z extra) (λ k w. TermGives params reads e (z ++ k) w) (λ k w. TermGives params others other (z ++ k) w) (λ k w member h. each k w member h) g.points g.values g.members.only g.bodies;
  result = g.result;
}

module _ (q : System) (tables : Tables) where
  abbrev n : ℕ
  n = length q.params

  -- what a variable that was made for a reduction means
  written : (y : ℕ) (fresh : Fresh) (d : IsDeclared q y fresh) → IsInput d.variable.role → ⊥
  written y fresh d input = subst IsInput d.role input

  fresh-means : (y : ℕ) (fresh : Fresh) → IsDeclared q y fresh → (ps k : List ℤ) (v : ℤ) → IsPointOf n fresh.domain ps k → With q (Meant q tables) fresh.body (ps ++ k) v → Means q tables ps y k v
  fresh-means y fresh d ps k v point g =
      meaning-of_body q tables y d.variable d.found (written y fresh d) fresh.body d.body ps k v (subst (λ (domain : Union). IsPointOf n domain ps k) (sym d.domain) point) g

  -- and what a read of it gives
  module _ (reads : Reads) (y : ℕ) (fresh : Fresh) (d : IsDeclared q y fresh) (ps k : List ℤ) (v : ℤ) where
    abbrev Parts : Variable → Type 0
    Parts u = IsPointOf n u.domain ps k × RoleGives u.role (InputGives tables y k v) (MatchOption (body_of q.equations y) ⊥ (λ body. With q reads body (ps ++ k) v))

    read-fresh : ReadGives q tables (With q reads) y ps k v → IsPointOf n fresh.domain ps k × With q reads fresh.body (ps ++ k) v
    read-fresh g =
        let parts : Parts d.variable = MatchOption-at Parts (slice_get q.variables y) d.variable d.found g in (
          subst (λ (domain : Union). IsPointOf n domain ps k) d.domain parts.0,
          MatchOption-at (λ body. With q reads body (ps ++ k) v) (body_of q.equations y) fresh.body d.body
              (RoleGives-body d.variable.role (InputGives tables y k v) (MatchOption (body_of q.equations y) ⊥ (λ body. With q reads body (ps ++ k) v)) (written y fresh d) parts.1),
        )

  point-of : (s : Scope) (z : List ℤ) → IsInScope n s z → IsPointOf n (region s.width s.rows) (take n z) (drop n z)
  point-of s z here = record {
    parameters = omega (arith, length-take n z, here.wide, here.long);
    member = (omega (arith, length-drop n z, here.long), (region_holds s.width s.rows (take n z ++ drop n z)).1 (subst (λ y. Hold s.rows y) (sym (take-append-drop n z)) here.held));
  }

  -- from the expression to what is left of it, where reads of the one are meanings for the other
  module _ (reads : Reads) (Allowed : List ℤ → Type 0) (to : (x : ℕ) (ps k : List ℤ) (v : ℤ) → Allowed ps → reads x ps k v → Means q tables ps x k v) where
    pub outlined-to : (e : Term) (next : ℕ) (s : Scope) (z : List ℤ) (v : ℤ) → IsFlat e → IsInScope n s z → Allowed (take n z) → AreDeclared q next (outline n next s e).fresh
        → TermGives n reads e z v → With q (Meant q tables) (outline n next s e).value z v
    outlined-to (constant c) next s z v flat here allowed declared g = g
    outlined-to (index row) next s z v flat here allowed declared g = g
    outlined-to (access x f) next s z v flat here allowed declared g = to x (take n z) (image_of f z) v allowed g
    outlined-to (negation e) next s z v flat here allowed declared g = (g.0, outlined-to e next s z g.0 flat here allowed declared g.1, g.2)
    outlined-to (binary op a b) next s z v flat here allowed declared g =
        let left = outline n next s a in
        let right = outline n (next + length left.fresh) s b in
        let two = declared-parts q next left.fresh right.fresh declared in
        (g.0, g.1, outlined-to a next s z g.0 flat.0 here allowed two.0 g.2, outlined-to b (next + length left.fresh) s z g.1 flat.1 here allowed two.1 g.3, g.4)
    outlined-to (cases branches) next s z v flat here allowed declared g = absurd flat
    outlined-to (reduction op extra domain e) next s z v flat here allowed declared g =
        let inside_e = outline n (suc next) (inside s extra domain) e in
        let fresh : Fresh = record { domain = region s.width s.rows; body = reduction op extra domain inside_e.value } in
        let folded : With q (Meant q tables) (reduction op extra domain inside_e.value) z v
        = fold-mapped n reads (Meant q tables) op extra domain e inside_e.value z v
        (λ k w member h. outlined-to e (suc next) (inside s extra domain) (z ++ k) w flat.1 (inner n s z here extra domain flat.0 k member) (subst Allowed (sym (first_kept n s z here k)) allowed) declared.1 h) g in
        subst (λ k. Means q tables (take n z) next k v) (sym (all_indices n s z here))
        (fresh-means next fresh declared.0 (take n z) (drop n z) v (point-of s z here)
        (subst (λ y. With q (Meant q tables) (reduction op extra domain inside_e.value) y v) (sym (take-append-drop n z)) folded))

    fold-to : (e : Term) (next : ℕ) (s : Scope) (op : Op) (extra : ℕ) (domain : Union) (z : List ℤ) (v : ℤ) → IsConjunction domain × IsFlat e → IsInScope n s z → Allowed (take n z)
        → AreDeclared q next (outline n next (inside s extra domain) e).fresh → TermGives n reads (reduction op extra domain e) z v → With q (Meant q tables) (reduction op extra domain (outline n next (inside s extra domain) e).value) z v
    fold-to e next s op extra domain z v flat here allowed declared g =
        fold-mapped n reads (Meant q tables) op extra domain e (outline n next (inside s extra domain) e).value z v
        (λ k w member h. outlined-to e next (inside s extra domain) (z ++ k) w flat.1 (inner n s z here extra domain flat.0 k member) (subst Allowed (sym (first_kept n s z here k)) allowed) declared h) g

    -- and where it stays itself if it is a reduction
    pub outlined_inside-to : (e : Term) (next : ℕ) (s : Scope) (z : List ℤ) (v : ℤ) → IsFlat e → IsInScope n s z → Allowed (take n z) → AreDeclared q next (outline_inside n next s e).fresh
        → TermGives n reads e z v → With q (Meant q tables) (outline_inside n next s e).value z v
    outlined_inside-to (constant c) next s z v flat here allowed declared g = g
    outlined_inside-to (index row) next s z v flat here allowed declared g = g
    outlined_inside-to (access x f) next s z v flat here allowed declared g = outlined-to (access x f) next s z v flat here allowed declared g
    outlined_inside-to (negation e) next s z v flat here allowed declared g = outlined-to (negation e) next s z v flat here allowed declared g
    outlined_inside-to (binary op a b) next s z v flat here allowed declared g = outlined-to (binary op a b) next s z v flat here allowed declared g
    outlined_inside-to (cases branches) next s z v flat here allowed declared g = absurd flat
    outlined_inside-to (reduction op extra domain e) next s z v flat here allowed declared g = fold-to e next s op extra domain z v flat here allowed declared g

  -- and back, for reads that at a variable made for a reduction have what the reduction has
  module _ (count : ℕ) (reads : Reads) (Allowed : List ℤ → Type 0) where
    abbrev IsTakenOut : ℕ → List ℤ → List ℤ → ℤ → Type 0
    IsTakenOut y ps k v =
        (s : Scope) (op : Op) (extra : ℕ) (domain : Union) (e : Term) → AreDeclared q y (outline n y s (reduction op extra domain e)).fresh → IsFlat (reduction op extra domain e)
        → IsAtWidth count (reduction op extra domain e) s.width → n ≤ s.width → Allowed ps → TermGives n reads (reduction op extra domain e) (ps ++ k) v

    abbrev pub Behind : Reads
    Behind x ps k v = (x < count → Allowed ps → reads x ps k v) × (count ≤ x → IsTakenOut x ps k v)

    pub outlined-from : (e : Term) (next : ℕ) (s : Scope) (z : List ℤ) (v : ℤ) → IsFlat e → IsAtWidth count e s.width → count ≤ next → IsInScope n s z → Allowed (take n z)
        → AreDeclared q next (outline n next s e).fresh → With q Behind (outline n next s e).value z v → TermGives n reads e z v
    outlined-from (constant c) next s z v flat placed later here allowed declared g = g
    outlined-from (index row) next s z v flat placed later here allowed declared g = g
    outlined-from (access x f) next s z v flat placed later here allowed declared g = g.0 placed.0 allowed
    outlined-from (negation e) next s z v flat placed later here allowed declared g = (g.0, outlined-from e next s z g.0 flat placed later here allowed declared g.1, g.2)
    outlined-from (binary op a b) next s z v flat placed later here allowed declared g =
        let left = outline n next s a in
        let right = outline n (next + length left.fresh) s b in
        let two = declared-parts q next left.fresh right.fresh declared in (
          g.0,
          g.1,
          outlined-from a next s z g.0 flat.0 placed.0 later here allowed two.0 g.2,
          outlined-from b (next + length left.fresh) s z g.1 flat.1 placed.1 (omega (arith, later)) here allowed two.1 g.3,
          g.4,
        )
    outlined-from (cases branches) next s z v flat placed later here allowed declared g = absurd flat
    outlined-from (reduction op extra domain e) next s z v flat placed later here allowed declared g =
        subst (λ y. TermGives n reads (reduction op extra domain e) y v) (whole n s z here) (g.1 later s op extra domain e declared flat placed here.wide allowed)

    fold-from : (e : Term) (next : ℕ) (s : Scope) (op : Op) (extra : ℕ) (domain : Union) (z : List ℤ) (v : ℤ) → IsConjunction domain × IsFlat e → IsAtWidth count (reduction op extra domain e) s.width → count ≤ next
        → IsInScope n s z → Allowed (take n z) → AreDeclared q next (outline n next (inside s extra domain) e).fresh
        → With q Behind (reduction op extra domain (outline n next (inside s extra domain) e).value) z v → TermGives n reads (reduction op extra domain e) z v
    fold-from e next s op extra domain z v flat placed later here allowed declared g =
        fold-mapped n Behind reads op extra domain (outline n next (inside s extra domain) e).value e z v
        (λ k w member h. outlined-from e next (inside s extra domain) (z ++ k) w flat.1 placed.2 later (inner n s z here extra domain flat.0 k member) (subst Allowed (sym (first_kept n s z here k)) allowed) declared h) g

    pub outlined_inside-from : (e : Term) (next : ℕ) (s : Scope) (z : List ℤ) (v : ℤ) → IsFlat e → IsAtWidth count e s.width → count ≤ next → IsInScope n s z → Allowed (take n z)
        → AreDeclared q next (outline_inside n next s e).fresh → With q Behind (outline_inside n next s e).value z v → TermGives n reads e z v
    outlined_inside-from (constant c) next s z v flat placed later here allowed declared g = g
    outlined_inside-from (index row) next s z v flat placed later here allowed declared g = g
    outlined_inside-from (access x f) next s z v flat placed later here allowed declared g = outlined-from (access x f) next s z v flat placed later here allowed declared g
    outlined_inside-from (negation e) next s z v flat placed later here allowed declared g = outlined-from (negation e) next s z v flat placed later here allowed declared g
    outlined_inside-from (binary op a b) next s z v flat placed later here allowed declared g = outlined-from (binary op a b) next s z v flat placed later here allowed declared g
    outlined_inside-from (cases branches) next s z v flat placed later here allowed declared g = absurd flat
    outlined_inside-from (reduction op extra domain e) next s z v flat placed later here allowed declared g = fold-from e next s op extra domain z v flat placed later here allowed declared g

    -- a read of a variable made for a reduction
    pub taken-out : (y : ℕ) (ps k : List ℤ) (v : ℤ) → count ≤ y → ReadGives q tables (With q Behind) y ps k v → IsTakenOut y ps k v
    taken-out y ps k v later g s op extra domain e declared flat placed wide allowed =
        let inside_e = outline n (suc y) (inside s extra domain) e in
        let fresh : Fresh = record { domain = region s.width s.rows; body = reduction op extra domain inside_e.value } in
        let own = declared.0 in
        let parts = read-fresh Behind y fresh own ps k v g in
        let point = parts.0 in
        let first : take n (ps ++ k) ≡ ps = ap (λ m. take m (ps ++ k)) (sym point.parameters) ∙ take-append_seam ps k in
        let here : IsInScope n s (ps ++ k) = record { long = omega (arith, length-append ps k, point.parameters, point.member.0, wide); wide = wide; held = (region_holds s.width s.rows (ps ++ k)).0 point.member.1 } in
        fold-from e (suc y) s op extra domain (ps ++ k) v flat placed (omega (arith, later)) here (subst Allowed (sym first) allowed) declared.1 parts.1
