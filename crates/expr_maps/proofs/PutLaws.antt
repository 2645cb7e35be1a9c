-- An expression with a map put in has at a point the values of the expression at the point's image.
use Rattle.std.proofs.Common.{◌≡◌, ◌↔◌, ℕ, ◌+◌, ◌≤◌, List, ◌++◌, length, take, drop, map, replicate, All, subst, sym, ap, ◌∙◌, arith, length-append, length-take, length-drop, inl, inr, ⊎_elim}
use Rattle.std.specs.Prelude.{ℤ, pos}
use Rattle.std.specs.List.{range_with_len}
use Rattle.std.proofs.lemmas.List.{take-append-le, length-replicate, length-set}
use Rattle.std.proofs.lemmas.List.Elements.{All-append, All-map, All-weaker}
use Rattle.std.proofs.Math.Seq.{take-append_seam, drop-append_seam}
use Rattle.az_lin.specs.Affine.{Affine, AffineMap, Union, HasWidth, HoldsSome, image_of, value_at}
use Rattle.az_lin.specs.Substitution.{composed, composed_map}
use Rattle.az_lin.proofs.Substitution.{value_at-composed, image_of-composed}
use Rattle.az_ast.specs.Meaning.{Reads, TermGives, ChoiceGives}
use Rattle.az_ast.specs.Operators.{wrapped}
use Rattle.az_ast.specs.Points.{IsMember}
use Rattle.az_ast.specs.Term.{Term, constant, index, access, negation, binary, cases, reduction, Choices, none, choice}
use Rattle.az_poly.specs.Operations.{domain_before}
use Rattle.az_poly.proofs.Held.{before_holds}
use Rattle.az_lin.specs.Columns.{widened, unit_row, unit_rows, extended, reading}
use Rattle.expr_maps.specs.Put.{put, put_below, Carries}
use Rattle.az_lin.proofs.Columns.{image_of-extended, image_of-reading}
use Rattle.expr_maps.proofs.Members.{AllZip-members, AreMembers-same}

-- the rows of an extended map are as wide as it is
widened-wide : (place count : ℕ) (row : Affine) → HasWidth place row → HasWidth (place + count) (widened place count row)
widened-wide place count row wide =
    omega (
      arith,
      length-append (take place row.coefs) (replicate count (pos 0) ++ drop place row.coefs),
      length-append (replicate count (pos 0)) (drop place row.coefs),
      length-replicate count (pos 0),
      length-take place row.coefs,
      length-drop place row.coefs,
    )

unit-wide : (width column : ℕ) → HasWidth width (unit_row width column)
unit-wide width column = length-set (replicate width (pos 0)) column (pos 1) ∙ length-replicate width (pos 0)

unit_rows-wide : (width : ℕ) (columns : List ℕ) → All (HasWidth width) (map (λ column. unit_row width column) columns)
unit_rows-wide width columns = All-map (HasWidth width) (λ column. unit_row width column) columns (λ k d within. unit-wide width _)

pub extended-wide : (count : ℕ) (f : AffineMap) → All (HasWidth f.width) f.rows → All (HasWidth (extended count f).width) (extended count f).rows
extended-wide count f wide =
    All-append (HasWidth (f.width + count)) (map (λ row. widened f.width count row) f.rows) (unit_rows (f.width + count) f.width count)
    (All-map (HasWidth (f.width + count)) (λ row. widened f.width count row) f.rows
    (All-weaker (HasWidth f.width) (λ row. HasWidth (f.width + count) (widened f.width count row)) (λ row h. widened-wide f.width count row h) f.rows wide))
    (unit_rows-wide (f.width + count) (range_with_len f.width count))

module _ (params : ℕ) where
  -- below a reduction, the map extended by its indices
  pub carried : (f : AffineMap) (z y : List ℤ) (extra : ℕ) (k : List ℤ) → Carries params f z y → length k ≡ extra → Carries params (extended extra f) (z ++ k) (y ++ k)
  carried f z y extra k carries long =
      let whole : length (z ++ k) ≡ f.width + extra = omega (arith, length-append z k, carries.long, long) in
      let first : take f.width (z ++ k) ≡ z = ap (λ n. take n (z ++ k)) (sym carries.long) ∙ take-append_seam z k in
      let rest : drop f.width (z ++ k) ≡ k = ap (λ n. drop n (z ++ k)) (sym carries.long) ∙ drop-append_seam z k in
      let narrow : params ≤ length z = omega (arith, length-take params z, length-take params y, ap length carries.kept, carries.wide) in
      record {
        rows = extended-wide extra f carries.rows;
        long = whole;
        image = image_of-extended extra f (z ++ k) whole ∙ (ap (λ p. image_of f p ++ drop f.width (z ++ k)) first ∙ (ap (λ p. image_of f z ++ p) rest ∙ ap (λ p. p ++ k) carries.image));
        wide = omega (arith, length-append y k, carries.wide);
        kept = take-append-le params y k carries.wide ∙ (carries.kept ∙ sym (take-append-le params z k narrow));
      }

  -- an access's map after the parameters carries to the point that it reads
  pub carries-reading : (f : AffineMap) (z : List ℤ) → All (HasWidth f.width) f.rows → length z ≡ f.width → params ≤ f.width → Carries params (reading params f) z (take params z ++ image_of f z)
  carries-reading f z wide long narrow =
      let there : params ≤ length z = omega (arith, long) in
      let size : length (take params z) ≡ params = omega (arith, length-take params z) in
      record {
        rows = All-append (HasWidth f.width) (unit_rows f.width 0 params) f.rows (unit_rows-wide f.width (range_with_len 0 params)) wide;
        long = long;
        image = image_of-reading params f z narrow there;
        wide = omega (arith, size, length-append (take params z) (image_of f z));
        kept = ap (λ n. take n (take params z ++ image_of f z)) (sym size) ∙ take-append_seam (take params z) (image_of f z);
      }

  pub domain_same : (f : AffineMap) (domain : Union) (z y : List ℤ) → Carries params f z y → HoldsSome (domain_before f domain) z ↔ HoldsSome domain y
  domain_same f domain z y carries = subst (λ p. HoldsSome (domain_before f domain) z ↔ HoldsSome domain p) carries.image (before_holds f domain z carries.rows)

  pub member_same : (f : AffineMap) (domain : Union) (z y : List ℤ) (extra : ℕ) → Carries params f z y → (k : List ℤ) → IsMember (domain_before (extended extra f) domain) z extra k ↔ IsMember domain y extra k
  member_same f domain z y extra carries k = (
    λ member. (member.0, (domain_same (extended extra f) domain (z ++ k) (y ++ k) (carried f z y extra k carries member.0)).0 member.1),
    λ member. (member.0, (domain_same (extended extra f) domain (z ++ k) (y ++ k) (carried f z y extra k carries member.0)).1 member.1),
  )

module _ (params : ℕ) (reads : Reads) where
  row_same : (row : Affine) (f : AffineMap) (z y : List ℤ) → Carries params f z y → value_at (composed row f) z ≡ value_at row y
  row_same row f z y carries = value_at-composed row f z carries.rows ∙ ap (λ p. value_at row p) carries.image

  read_same : (x : ℕ) (g f : AffineMap) (z y : List ℤ) (v : ℤ) → Carries params f z y → reads x (take params z) (image_of (composed_map g f) z) v ↔ reads x (take params y) (image_of g y) v
  read_same x g f z y v carries =
      let point : image_of (composed_map g f) z ≡ image_of g y = image_of-composed g f z carries.rows ∙ ap (λ p. image_of g p) carries.image in (
        λ h. subst (λ p. reads x p (image_of g y) v) (sym carries.kept) (subst (λ p. reads x (take params z) p v) point h),
        λ h. subst (λ p. reads x (take params z) p v) (sym point) (subst (λ p. reads x p (image_of g y) v) carries.kept h),
      )

  mutual
    pub put-to : (e : Term) (f : AffineMap) (z y : List ℤ) (v : ℤ) → Carries params f z y → TermGives params reads (put f e) z v → TermGives params reads e y v
    put-to (constant c) f z y v carries g = g
    put-to (index row) f z y v carries g = g ∙ ap wrapped (row_same row f z y carries)
    put-to (access x m) f z y v carries g = (read_same x m f z y v carries).0 g
    put-to (negation e) f z y v carries g = (g.0, put-to e f z y g.0 carries g.1, g.2)
    put-to (binary op a b) f z y v carries g = (g.0, g.1, put-to a f z y g.0 carries g.2, put-to b f z y g.1 carries g.3, g.4)
    put-to (cases branches) f z y v carries g = put_below-to branches f z y v carries g
    put-to (reduction op extra domain e) f z y v carries g =
        record {
          points = g.points;
          values = g.values;
          members = AreMembers-same (domain_before (extended extra f) domain) domain z y extra (member_same params f domain z y extra carries) g.points g.members;
          bodies = AllZip-members (IsMember (domain_before (extended extra f) domain) z extra) (λ k w. TermGives params reads (put (extended extra f) e) (z ++ k) w) (λ k w. TermGives params reads e (y ++ k) w)
              (λ k w member h. put-to e (extended extra f) (z ++ k) (y ++ k) w (carried params f z y extra k carries member.0) h) g.points g.values g.members.only g.bodies;
          result = g.result;
        }

    put_below-to : (branches : Choices) (f : AffineMap) (z y : List ℤ) (v : ℤ) → Carries params f z y → ChoiceGives params reads (put_below f branches) z v → ChoiceGives params reads branches y v
    put_below-to none f z y v carries g = g
    put_below-to (choice domain e rest) f z y v carries g =
        ⊎_elim
        (λ here. inl ((domain_same params f domain z y carries).0 here.0, put-to e f z y v carries here.1))
        (λ there. inr (λ held. there.0 ((domain_same params f domain z y carries).1 held), put_below-to rest f z y v carries there.1))
        g

  mutual
    pub put-from : (e : Term) (f : AffineMap) (z y : List ℤ) (v : ℤ) → Carries params f z y → TermGives params reads e y v → TermGives params reads (put f e) z v
    put-from (constant c) f z y v carries g = g
    put-from (index row) f z y v carries g = g ∙ ap wrapped (sym (row_same row f z y carries))
    put-from (access x m) f z y v carries g = (read_same x m f z y v carries).1 g
    put-from (negation e) f z y v carries g = (g.0, put-from e f z y g.0 carries g.1, g.2)
    put-from (binary op a b) f z y v carries g = (g.0, g.1, put-from a f z y g.0 carries g.2, put-from b f z y g.1 carries g.3, g.4)
    put-from (cases branches) f z y v carries g = put_below-from branches f z y v carries g
    put-from (reduction op extra domain e) f z y v carries g =
        record {
          points = g.points;
          values = g.values;
          members = AreMembers-same domain (domain_before (extended extra f) domain) y z extra (λ k. let same = member_same params f domain z y extra carries k in (same.1, same.0)) g.points g.members;
          bodies = AllZip-members (IsMember domain y extra) (λ k w. TermGives params reads e (y ++ k) w) (λ k w. TermGives params reads (put (extended extra f) e) (z ++ k) w)
              (λ k w member h. put-from e (extended extra f) (z ++ k) (y ++ k) w (carried params f z y extra k carries member.0) h) g.points g.values g.members.only g.bodies;
          result = g.result;
        }

    put_below-from : (branches : Choices) (f : AffineMap) (z y : List ℤ) (v : ℤ) → Carries params f z y → ChoiceGives params reads branches y v → ChoiceGives params reads (put_below f branches) z v
    put_below-from none f z y v carries g = g
    put_below-from (choice domain e rest) f z y v carries g =
        ⊎_elim
        (λ here. inl ((domain_same params f domain z y carries).1 here.0, put-from e f z y v carries here.1))
        (λ there. inr (λ held. there.0 ((domain_same params f domain z y carries).0 held), put_below-from rest f z y v carries there.1))
        g

  pub put-same : (e : Term) (f : AffineMap) (z y : List ℤ) (v : ℤ) → Carries params f z y → TermGives params reads (put f e) z v ↔ TermGives params reads e y v
  put-same e f z y v carries = (put-to e f z y v carries, put-from e f z y v carries)
