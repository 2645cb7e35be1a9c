-- In normal form each variable that was there means what it meant.
use Rattle.std.proofs.Common.{◌≡◌, inl, inr, ⊎_elim, ℕ, zero, suc, ◌+◌, ◌<◌, ◌≤◌, ◌||◌, List, [], ◌∷◌, ◌++◌, length, take, map, Bool, true, false, Option, Some, None, refl, sym, ap, subst, ◌∙◌, arith}
use Rattle.std.specs.Prelude.{ℤ, slice_get, MatchOption, flat_map, ◌==◌}
use Rattle.std.specs.List.{AllByRecursion, list_any}
use Rattle.std.specs.Option.{option_map_or}
use Rattle.std.proofs.lemmas.List.Elements.{recursion_from_All}
use Rattle.std.proofs.lemmas.Option.{slice_get_within}
use Rattle.az_lin.specs.Affine.{Union, HoldsSome}
use Rattle.az_ast.proofs.FixedPoint.{Meant, With, Means-close, Means-least}
use Rattle.az_ast.specs.Certified.{IsCertified}
use Rattle.az_ast.specs.Meaning.{Means, Reads, IsInput, ReadGives, body_of}
use Rattle.az_ast.specs.Placed.{IsConjunction, IsAtWidth}
use Rattle.az_ast.specs.Points.{IsPointOf}
use Rattle.az_ast.specs.Shapes.{IsProgram, IsPlain, all_domains, is_input, indices}
use Rattle.az_ast.specs.System.{System}
use Rattle.az_ast.specs.Tables.{Tables}
use Rattle.az_ast.specs.Term.{Term, term}
use Rattle.az_ast.specs.Walks.{domains}
use Rattle.az_ast.specs.declared.program.Equation.{Equation}
use Rattle.az_ast.specs.declared.program.Role.{Role}
use Rattle.az_ast.specs.declared.program.Role.TheVariants.{Input, Output, Local}
use Rattle.az_ast.specs.declared.program.Variable.{Variable}
use Rattle.rewriting.proofs.Bodies.{body-found, IsBody, body-of, wide-domain, point-long, first-of_point, sound-at_point}
use Rattle.rewriting.proofs.FineParts.{parts-fine}
use Rattle.rewriting.proofs.Lookups.{body_of-defined}
use Rattle.rewriting.proofs.Moved.{read_moved, Carried, Means-carried}
use Rattle.rewriting.specs.Definitions.{Definition, definitions, defined_as}
use Rattle.rewriting.specs.Promise.{KeepsMeaning, stays, HasIndices}
use Rattle.normalize_eqs.specs.Normal.{domain_of, normalized}
use Rattle.normalize_eqs.specs.Outlines.{Scope, holding, outline_inside, outline_all}
use Rattle.normalize_eqs.specs.Pieces.{Piece, rows_of, pieces, put_together}
use Rattle.normalize_eqs.proofs.Held.{hold-append, plain_holds}
use Rattle.normalize_eqs.proofs.NormalParts.{slice-left, defined-here, defined-later, HasNormalBody, normal-body, result}
use Rattle.normalize_eqs.proofs.Outlining.{AreDeclared, declared-parts, IsInScope, outlined_inside-to, Behind, outlined_inside-from, taken-out}
use Rattle.normalize_eqs.proofs.Picked.{Counts, NoneCount, Picks, picks-counts}
use Rattle.normalize_eqs.proofs.PiecesSame.{CanSplit, pieces-same}
use Rattle.normalize_eqs.proofs.PiecesSuit.{picks-of_all, FitsAt, pieces-fit, can-split}
use Rattle.normalize_eqs.proofs.PutTogether.{together-same}

-- what is left of the piece that counts
module _ (q : System) (params : ℕ) (s : Scope) (z : List ℤ) (chosen : Piece) where
  pub record IsOutlinedAt (least : ℕ) (ps : List Piece) : Type 0 where
    pub next : ℕ
    pub later : least ≤ next
    pub picks : Picks ps z (record { rows = chosen.rows; value = (outline_inside params next (holding s chosen.rows) chosen.value).value })
    pub declared : AreDeclared q next (outline_inside params next (holding s chosen.rows) chosen.value).fresh

  none-outlined : (ps : List Piece) (next : ℕ) → NoneCount ps z → NoneCount (outline_all params next s ps).pieces z
  none-outlined [] next h = tt
  none-outlined (piece ∷ ps) next h = (h.0, none-outlined ps (next + length (outline_inside params next (holding s piece.rows) piece.value).fresh) h.1)

  pub outlined-pick : (ps : List Piece) (next : ℕ) → Picks ps z chosen → AreDeclared q next (outline_all params next s ps).fresh → IsOutlinedAt next (outline_all params next s ps).pieces
  outlined-pick [] next picks declared = absurd picks
  outlined-pick (piece ∷ ps) next picks declared =
      let first = outline_inside params next (holding s piece.rows) piece.value in
      let rest = outline_all params (next + length first.fresh) s ps in
      let two = declared-parts q next first.fresh rest.fresh declared in
      ⊎_elim
      (λ here. by piece here.0 here.1 (none-outlined ps (next + length first.fresh) here.2) two.0)
      (λ there.
      let later = outlined-pick ps (next + length first.fresh) there.1 two.1 in
      record { next = later.next; later = omega (arith, later.later); picks = inr (there.0, later.picks); declared = later.declared })
      picks
    where
      by : (piece : Piece) → piece ≡ chosen → Counts piece z → NoneCount (outline_all params (next + length (outline_inside params next (holding s piece.rows) piece.value).fresh) s ps).pieces z
          → AreDeclared q next (outline_inside params next (holding s piece.rows) piece.value).fresh
          → IsOutlinedAt next (record { rows = piece.rows; value = (outline_inside params next (holding s piece.rows) piece.value).value } ∷ (outline_all params (next + length (outline_inside params next (holding s piece.rows) piece.value).fresh) s ps).pieces)
      by piece same counts none declared = record {
        next = next;
        later = omega arith;
        picks = inl (ap (λ (r : Piece). record { rows = r.rows; value = (outline_inside params next (holding s r.rows) r.value).value }) same, counts, none);
        declared = subst (λ (r : Piece). AreDeclared q next (outline_inside params next (holding s r.rows) r.value).fresh) same declared;
      }

-- a fact on a list that a longer one has
each-left : (P : Union → Type 0) (xs ys : List Union) → AllByRecursion P (xs ++ ys) → AllByRecursion P xs
each-left P [] ys h = tt
each-left P (x ∷ xs) ys h = (h.0, each-left P xs ys h.1)

each-right : (P : Union → Type 0) (xs ys : List Union) → AllByRecursion P (xs ++ ys) → AllByRecursion P ys
each-right P [] ys h = h
each-right P (x ∷ xs) ys h = each-right P xs ys h.1

each-equation : (P : Union → Type 0) (equations : List Equation) → AllByRecursion P (flat_map (λ (e : Equation). domains (term e.body)) equations) → AllByRecursion (λ (e : Equation). AllByRecursion P (domains (term e.body))) equations
each-equation P [] h = tt
each-equation P (e ∷ es) h =
    (each-left P (domains (term e.body)) (flat_map (λ (o : Equation). domains (term o.body)) es) h, each-equation P es (each-right P (domains (term e.body)) (flat_map (λ (o : Equation). domains (term o.body)) es) h))

each-variable : (P : Union → Type 0) (variables : List Variable) (x : ℕ) (u : Variable) → slice_get variables x ≡ Some u → AllByRecursion P (map (λ (v : Variable). v.domain) variables) → P u.domain
each-variable P [] x u found h = cc
each-variable P (v ∷ variables) zero u found h = subst (λ (w : Variable). P w.domain) (ap (λ o. option_map_or (λ (w : Variable). w) o u) found) h.0
each-variable P (v ∷ variables) (suc x) u found h = each-variable P variables x u found h.1

find-any : (ds : List Definition) (x : ℕ) → list_any (λ (d : Definition). d.0 == x) ds ≡ true → (e : Term) × (defined_as ds x ≡ Some e)
find-any [] x h = cc
find-any (d ∷ ds) x h = by (d.0 == x) refl h (λ g. find-any ds x g)
  where
    by : (b : Bool) → (d.0 == x) ≡ b → (b || list_any (λ (o : Definition). o.0 == x) ds) ≡ true → (list_any (λ (o : Definition). o.0 == x) ds ≡ true → (e : Term) × (defined_as ds x ≡ Some e)) → (e : Term) × (defined_as (d ∷ ds) x ≡ Some e)
    by true is t rest = (d.1, defined-here d ds x is)
    by false other t rest = let later = rest t in (later.0, defined-later d ds x other ∙ later.1)

module _ (p : System) (program : IsProgram p) (plain : IsPlain p) (certified : IsCertified p) where
  abbrev q : System
  q = normalized p

  abbrev n : ℕ
  n = length p.params

  abbrev count : ℕ
  count = length p.variables

  abbrev Allowed : List ℤ → Type 0
  Allowed ps = HoldsSome p.pdom ps

  plain-domains : AllByRecursion IsConjunction (all_domains p)
  plain-domains = recursion_from_All IsConjunction (all_domains p) plain

  plain-variable : (x : ℕ) (u : Variable) → slice_get p.variables x ≡ Some u → IsConjunction u.domain
  plain-variable x u declared =
      each-variable IsConjunction p.variables x u declared
      (each-left IsConjunction (map (λ (v : Variable). v.domain) p.variables) (flat_map (λ (e : Equation). domains (term e.body)) p.equations) plain-domains.1)

  plain-body : (x : ℕ) (e : Term) → body_of p.equations x ≡ Some e → AllByRecursion IsConjunction (domains e)
  plain-body x e defined =
      let found = body-found (λ (o : Equation). AllByRecursion IsConjunction (domains (term o.body))) p.equations
      (each-equation IsConjunction p.equations (each-right IsConjunction (map (λ (v : Variable). v.domain) p.variables) (flat_map (λ (o : Equation). domains (term o.body)) p.equations) plain-domains.1)) x e defined in
      subst (λ t. AllByRecursion IsConjunction (domains t)) found.2 found.3

  -- a body at a point of its variable
  module _ (tables : Tables) (x : ℕ) (u : Variable) (declared : slice_get p.variables x ≡ Some u) (e : Term) (defined : body_of p.equations x ≡ Some e)
      (ps k : List ℤ) (point : IsPointOf n u.domain ps k) (held : Allowed ps) where
    abbrev normal_here : HasNormalBody p program x e
    normal_here = normal-body p program x e defined

    abbrev scope : Scope
    scope = record { width = (domain_of p x).width; rows = rows_of (domain_of p x) }

    own-domain : domain_of p x ≡ u.domain
    own-domain = ap (λ o. option_map_or (λ (v : Variable). v.domain) o p.pdom) declared

    body-is : IsBody p e u.domain.width
    body-is = body-of p program x u declared e defined

    fit : AllByRecursion (FitsAt n p.variables u.domain.width) (pieces e)
    fit = pieces-fit n p.variables e u.domain.width body-is.placed body-is.shape

    can : CanSplit e
    can = can-split n p.variables e body-is.shape (plain-body x e defined)

    allowed : Allowed (take n (ps ++ k))
    allowed = subst Allowed (sym (first-of_point p program x u declared e defined ps k point)) held

    in-scope : (chosen : Piece) → Picks (pieces e) (ps ++ k) chosen → IsInScope n (holding scope chosen.rows) (ps ++ k)
    in-scope chosen picks =
        subst (λ (domain : Union). IsInScope n (holding (record { width = domain.width; rows = rows_of domain }) chosen.rows) (ps ++ k)) (sym own-domain)
        (record {
          long = point-long p program x u declared e defined ps k point;
          wide = wide-domain p program x u declared e defined;
          held = hold-append (rows_of u.domain) chosen.rows (ps ++ k) ((plain_holds u.domain (ps ++ k) (plain-variable x u declared)).0 point.member.1) (picks-counts (pieces e) (ps ++ k) chosen picks);
        })

    outlined : (chosen : Piece) → Picks (pieces e) (ps ++ k) chosen → IsOutlinedAt q n scope (ps ++ k) chosen normal_here.next (outline_all n normal_here.next scope (pieces e)).pieces
    outlined chosen picks = outlined-pick q n scope (ps ++ k) chosen (pieces e) normal_here.next picks normal_here.declared

    abbrev Body : Term
    Body = put_together (domain_of p x).width (outline_all n normal_here.next scope (pieces e)).pieces

    pub body-to : (v : ℤ) → (reads : Reads) → ((y : ℕ) (qs l : List ℤ) (w : ℤ) → Allowed qs → reads y qs l w → Means q tables qs y l w) → With p reads e (ps ++ k) v → With q (Meant q tables) Body (ps ++ k) v
    body-to v reads to g =
        let one = pieces-same p reads e (ps ++ k) can (sound-at_point p program x u declared e defined ps k point certified held) in
        let there = outlined one.0 one.1 in
        let fits = picks-of_all (FitsAt n p.variables u.domain.width) (pieces e) (ps ++ k) one.0 fit one.1 in
        (together-same n (Meant q tables) (domain_of p x).width (ps ++ k) (outline_all n normal_here.next scope (pieces e)).pieces
        (record { rows = one.0.rows; value = (outline_inside n there.next (holding scope one.0.rows) one.0.value).value }) there.picks v).1
        (outlined_inside-to q tables reads Allowed to one.0.value there.next (holding scope one.0.rows) (ps ++ k) v fits.flat (in-scope one.0 one.1) allowed there.declared ((one.2 v).0 g))

    pub body-from : (v : ℤ) → With q (Behind q tables count (Meant p tables) Allowed) Body (ps ++ k) v → With p (Meant p tables) e (ps ++ k) v
    body-from v g =
        let one = pieces-same p (Meant p tables) e (ps ++ k) can (sound-at_point p program x u declared e defined ps k point certified held) in
        let there = outlined one.0 one.1 in
        let fits = picks-of_all (FitsAt n p.variables u.domain.width) (pieces e) (ps ++ k) one.0 fit one.1 in
        (one.2 v).1
        (outlined_inside-from q tables count (Meant p tables) Allowed one.0.value there.next (holding scope one.0.rows) (ps ++ k) v fits.flat
        (subst (λ (domain : Union). IsAtWidth count one.0.value domain.width) (sym own-domain) fits.placed) (omega (arith, there.later, normal_here.later)) (in-scope one.0 one.1) allowed there.declared
        ((together-same n (Behind q tables count (Meant p tables) Allowed) (domain_of p x).width (ps ++ k) (outline_all n normal_here.next scope (pieces e)).pieces
        (record { rows = one.0.rows; value = (outline_inside n there.next (holding scope one.0.rows) one.0.value).value }) there.picks v).0 g))

  -- the same variables, and further ones
  there-too : (x : ℕ) (u : Variable) → slice_get p.variables x ≡ Some u → slice_get q.variables x ≡ Some u
  there-too x u declared = slice-left p.variables (result p program).locals x (slice_get_within p.variables x u declared) ∙ declared

  here-too : (x : ℕ) (u : Variable) → x < count → slice_get q.variables x ≡ Some u → slice_get p.variables x ≡ Some u
  here-too x u below declared = sym (slice-left p.variables (result p program).locals x below) ∙ declared

  has-body : (x : ℕ) (u : Variable) → slice_get p.variables x ≡ Some u → (IsInput u.role → ⊥) → (e : Term) × (body_of p.equations x ≡ Some e)
  has-body x u declared writes =
      let found = find-any (definitions p) x ((parts-fine p program).complete x u declared (no-input u.role writes)) in
      (found.0, body_of-defined p.equations x ∙ found.1)
    where
      no-input : (role : Role) → (IsInput role → ⊥) → is_input role ≡ false
      no-input Input h = absurd (h tt)
      no-input Output h = refl
      no-input Local h = refl

  module _ (tables : Tables) where
    abbrev Here : ℕ → List ℤ → List ℤ → Type 0
    Here x ps k = Allowed ps

    forth : (x : ℕ) (ps k : List ℤ) (v : ℤ) → Allowed ps → ReadGives p tables (With p (Carried p q tables (λ y. y) (λ y qs l. l) Here)) x ps k v → ReadGives q tables (With q (Meant q tables)) x ps k v
    forth x ps k v held g =
        read_moved p q tables (With p (Carried p q tables (λ y. y) (λ y qs l. l) Here)) (With q (Meant q tables)) x ps k x k v
        (λ u here. (u, there-too x u here.0, refl, here.1))
        (λ u here input t. t)
        (λ u here writes e defined. (
          Body tables x u here.0 e defined ps k here.1 held,
          (normal-body p program x e defined).body,
          λ h. body-to tables x u here.0 e defined ps k here.1 held v (Carried p q tables (λ y. y) (λ y qs l. l) Here) (λ y qs l w allowed r. r allowed) h,
        ))
        g

    abbrev Back : Reads
    Back = Behind q tables count (Meant p tables) Allowed

    old : (x : ℕ) (ps k : List ℤ) (v : ℤ) → x < count → Allowed ps → ReadGives q tables (With q Back) x ps k v → ReadGives p tables (With p (Meant p tables)) x ps k v
    old x ps k v below held g =
        read_moved q p tables (With q Back) (With p (Meant p tables)) x ps k x k v
        (λ u here. (u, here-too x u below here.0, refl, here.1))
        (λ u here input t. t)
        (λ u here writes f there.
        let declared = here-too x u below here.0 in
        let own = has-body x u declared writes in
        let normal = normal-body p program x own.0 own.1 in
        let same : Body tables x u declared own.0 own.1 ps k here.1 held ≡ f = ap (λ o. option_map_or (λ (t : Term). t) o f) (sym normal.body ∙ there) in (
          own.0,
          own.1,
          λ h. body-from tables x u declared own.0 own.1 ps k here.1 held v (subst (λ t. With q Back t (ps ++ k) v) (sym same) h),
        ))
        g

    back : (x : ℕ) (ps k : List ℤ) (v : ℤ) → ReadGives q tables (With q Back) x ps k v → Back x ps k v
    back x ps k v g = (
      λ below held. Means-close p tables ps x k v (old x ps k v below held g),
      λ later. taken-out q tables count (Meant p tables) Allowed x ps k v later g,
    )

  pub normalizing-keeps : KeepsMeaning p q stays
  normalizing-keeps tables params x k v held sized = (
    Means-carried p q tables (λ y. y) (λ y qs l. l) (Here tables) (forth tables) x params k v held,
    λ m. (Means-least q tables (Back tables) (back tables) params x k v m).0 (declared-below (slice_get p.variables x) refl sized) held,
  )
    where
      declared-below : (o : Option Variable) → slice_get p.variables x ≡ o → HasIndices p x k → x < count
      declared-below None is h = absurd (subst (λ o. MatchOption o ⊥ (λ (u : Variable). length k ≡ indices (length p.params) u)) is h)
      declared-below (Some u) is h = slice_get_within p.variables x u is
