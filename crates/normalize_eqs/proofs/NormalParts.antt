-- The equations of a program in normal form, and the locals that were taken out of them, looked up.
use Rattle.std.proofs.Common.{◌≡◌, ℕ, zero, suc, ◌+◌, ◌<◌, ◌≤◌, List, [], ◌∷◌, ◌++◌, length, map, Bool, true, false, cond, Option, Some, None, refl, sym, ap, subst, ◌∙◌, arith}
use Rattle.std.specs.Prelude.{slice_get, MatchOption, option_map, find, ◌==◌}
use Rattle.std.specs.List.{AllByRecursion}
use Rattle.std.specs.Option.{option_map_or}
use Rattle.std.proofs.lemmas.Bool.{eqb-true, eq-eqb, ne_eqb}
use Rattle.std.proofs.lemmas.Option.{slice_get_within}
use Rattle.az_ast.proofs.TermShapes.{HasShape}
use Rattle.az_ast.specs.Meaning.{body_of}
use Rattle.az_ast.specs.Placed.{IsAtWidth}
use Rattle.az_ast.specs.Shapes.{IsProgram, is_input}
use Rattle.az_ast.specs.System.{System}
use Rattle.az_ast.specs.Term.{Term}
use Rattle.az_ast.specs.declared.program.Role.TheVariants.{Local}
use Rattle.az_ast.specs.declared.program.Variable.{Variable}
use Rattle.rewriting.proofs.FineParts.{Defines, parts-fine}
use Rattle.rewriting.proofs.Items.{each-map}
use Rattle.rewriting.proofs.Lookups.{body_of-defined, body_of-defining}
use Rattle.rewriting.specs.Definitions.{Definition, definitions, defined_as}
use Rattle.rewriting.specs.Named.{name_of}
use Rattle.normalize_eqs.specs.Normal.{Normal, fresh_name, fresh_variables, fresh_definitions, domain_of, normal, normalized}
use Rattle.normalize_eqs.specs.Outlines.{Scope, Fresh, OutlinedPieces, outline_all}
use Rattle.normalize_eqs.specs.Pieces.{rows_of, pieces, put_together}
use Rattle.normalize_eqs.proofs.Outlining.{AreDeclared}

pub defined-here : (d : Definition) (ds : List Definition) (x : ℕ) → (d.0 == x) ≡ true → defined_as (d ∷ ds) x ≡ Some d.1
defined-here d ds x is = ap (λ b. option_map (λ (e : Definition). e.1) (cond b (Some d) (find (λ (e : Definition). e.0 == x) ds))) is

pub defined-later : (d : Definition) (ds : List Definition) (x : ℕ) → (d.0 == x) ≡ false → defined_as (d ∷ ds) x ≡ defined_as ds x
defined-later d ds x other = ap (λ b. option_map (λ (e : Definition). e.1) (cond b (Some d) (find (λ (e : Definition). e.0 == x) ds))) other

pub defined-first : (ds more : List Definition) (x : ℕ) (t : Term) → defined_as ds x ≡ Some t → defined_as (ds ++ more) x ≡ Some t
defined-first [] more x t h = cc
defined-first (d ∷ ds) more x t h = by (d.0 == x) refl (λ g. defined-first ds more x t g)
  where
    by : (b : Bool) → (d.0 == x) ≡ b → (defined_as ds x ≡ Some t → defined_as (ds ++ more) x ≡ Some t) → defined_as (d ∷ (ds ++ more)) x ≡ Some t
    by true is rest = defined-here d (ds ++ more) x is ∙ (sym (defined-here d ds x is) ∙ h)
    by false other rest = defined-later d (ds ++ more) x other ∙ rest (sym (defined-later d ds x other) ∙ h)

pub defined-past : (ds more : List Definition) (x : ℕ) → AllByRecursion (λ (d : Definition). (d.0 == x) ≡ false) ds → defined_as (ds ++ more) x ≡ defined_as more x
defined-past [] more x h = refl
defined-past (d ∷ ds) more x h = defined-later d (ds ++ more) x h.0 ∙ defined-past ds more x h.1

-- variables in two lists
pub slice-left : (xs ys : List Variable) (i : ℕ) → i < length xs → slice_get (xs ++ ys) i ≡ slice_get xs i
slice-left [] ys i l = absurd (omega (arith, l))
slice-left (x ∷ xs) ys zero l = refl
slice-left (x ∷ xs) ys (suc i) l = slice-left xs ys i (omega (arith, l))

pub slice-right : (xs ys : List Variable) (i : ℕ) → slice_get (xs ++ ys) (length xs + i) ≡ slice_get ys i
slice-right [] ys i = ap (λ m. slice_get ys m) same
  where
    same : 0 + i ≡ i
    same = omega arith
slice-right (x ∷ xs) ys i = ap (λ m. slice_get (x ∷ (xs ++ ys)) m) next ∙ slice-right xs ys i
  where
    next : length (x ∷ xs) + i ≡ suc (length xs + i)
    next = omega arith

-- what was taken out of one equation
fresh-count : (names : List (List ℕ)) (name : List ℕ) (fresh : List Fresh) → length (fresh_variables names name fresh) ≡ length fresh
fresh-count names name [] = refl
fresh-count names name (f ∷ rest) = ap suc (fresh-count (names ++ fresh_name names name ∷ []) name rest)

past-variables : (fresh : List Fresh) (names : List (List ℕ)) (name : List ℕ) (vs : List Variable) (i : ℕ) → slice_get (fresh_variables names name fresh ++ vs) (length fresh + i) ≡ slice_get vs i
past-variables fresh names name vs i =
    ap (λ m. slice_get (fresh_variables names name fresh ++ vs) (m + i)) (sym (fresh-count names name fresh)) ∙ slice-right (fresh_variables names name fresh) vs i

past-definitions : (fresh : List Fresh) (next : ℕ) (ds : List Definition) (x : ℕ) → next + length fresh ≤ x → defined_as (fresh_definitions next fresh ++ ds) x ≡ defined_as ds x
past-definitions [] next ds x l = refl
past-definitions (f ∷ rest) next ds x l =
    defined-later (next, f.body) (fresh_definitions (suc next) rest ++ ds) x (ne_eqb next x (λ same. absurd (omega (arith, same, l))))
    ∙ past-definitions rest (suc next) ds x (omega (arith, l))

module _ (q : System) where
  declared-fresh : (fresh : List Fresh) (names : List (List ℕ)) (name : List ℕ) (next : ℕ) (vs : List Variable) (ds : List Definition)
      → ((i : ℕ) → slice_get q.variables (next + i) ≡ slice_get (fresh_variables names name fresh ++ vs) i)
      → ((i : ℕ) → body_of q.equations (next + i) ≡ defined_as (fresh_definitions next fresh ++ ds) (next + i)) → AreDeclared q next fresh
  declared-fresh [] names name next vs ds here bodies = tt
  declared-fresh (f ∷ rest) names name next vs ds here bodies = (
    record {
      variable = record { name = fresh_name names name; role = Local; domain = f.domain };
      found = ap (λ m. slice_get q.variables m) same ∙ here 0;
      role = refl;
      domain = refl;
      body = ap (λ m. body_of q.equations m) same ∙ (bodies 0 ∙ defined-here (next, f.body) (fresh_definitions (suc next) rest ++ ds) (next + 0) (eq-eqb next (next + 0) same));
    },
    declared-fresh rest (names ++ fresh_name names name ∷ []) name (suc next) vs ds
        (λ i. ap (λ m. slice_get q.variables m) (step i) ∙ here (suc i))
        (λ i.
        ap (λ m. body_of q.equations m) (step i)
        ∙ (bodies (suc i)
        ∙ (defined-later (next, f.body) (fresh_definitions (suc next) rest ++ ds) (next + suc i) (ne_eqb next (next + suc i) (λ e. absurd (omega (arith, e))))
        ∙ ap (λ m. defined_as (fresh_definitions (suc next) rest ++ ds) m) (sym (step i))))),
  )
    where
      same : next ≡ next + 0
      same = omega arith

      step : (i : ℕ) → suc next + i ≡ next + suc i
      step i = omega arith

module _ (p q : System) where
  -- what is in scope in a variable's equation, and what is left of its pieces
  abbrev pub top : ℕ → Scope
  top x = record { width = (domain_of p x).width; rows = rows_of (domain_of p x) }

  abbrev pub outlined_at : ℕ → ℕ → Term → OutlinedPieces
  outlined_at next x e = outline_all (length p.params) next (top x) (pieces e)

  pub record IsNormal (kept : List Definition) (least x : ℕ) (e : Term) : Type 0 where
    pub next : ℕ
    pub later : least ≤ next
    pub body : defined_as kept x ≡ Some (put_together (domain_of p x).width (outlined_at next x e).pieces)
    pub declared : AreDeclared q next (outlined_at next x e).fresh

  -- one equation after others
  module _ (d : Definition) (rest : List Definition) (names : List (List ℕ)) (next : ℕ) where
    abbrev pub made : OutlinedPieces
    made = outlined_at next d.0 d.1

    abbrev pub locals : List Variable
    locals = fresh_variables names (name_of p d.0) made.fresh

    abbrev pub others : Normal
    others = normal p (names ++ map (λ (v : Variable). v.name) locals) (next + length made.fresh) rest

    abbrev pub Here : List Variable → ℕ → Type 0
    Here vs m = (i : ℕ) → slice_get q.variables (m + i) ≡ slice_get vs i

    abbrev pub Bodies : List Definition → ℕ → Type 0
    Bodies ds m = (i : ℕ) → body_of q.equations (m + i) ≡ defined_as ds (m + i)

    apart : (i : ℕ) → next + length made.fresh + i ≡ next + (length made.fresh + i)
    apart i = omega arith

    pub further : Here (locals ++ others.locals) next → Here others.locals (next + length made.fresh)
    further here i =
        ap (λ m. slice_get q.variables m) (apart i) ∙ (here (length made.fresh + i) ∙ past-variables made.fresh names (name_of p d.0) others.locals i)

    pub after : Bodies (fresh_definitions next made.fresh ++ others.added) next → Bodies others.added (next + length made.fresh)
    after bodies i =
        ap (λ m. body_of q.equations m) (apart i)
        ∙ (bodies (length made.fresh + i)
        ∙ (past-definitions made.fresh next others.added (next + (length made.fresh + i)) (omega arith)
        ∙ ap (λ m. defined_as others.added m) (sym (apart i))))

    pub first : Here (locals ++ others.locals) next → Bodies (fresh_definitions next made.fresh ++ others.added) next → AreDeclared q next made.fresh
    first here bodies = declared-fresh q made.fresh names (name_of p d.0) next others.locals others.added here bodies

    abbrev Kept : List Definition
    Kept = (d.0, put_together (domain_of p d.0).width made.pieces) ∷ others.kept

    own : AreDeclared q next made.fresh → IsNormal Kept next d.0 d.1
    own declared = record { next = next; later = omega arith; body = defined-here (d.0, put_together (domain_of p d.0).width made.pieces) others.kept d.0 (eq-eqb d.0 d.0 refl); declared = declared }

    deeper : (x : ℕ) (e : Term) → (d.0 == x) ≡ false → IsNormal others.kept (next + length made.fresh) x e → IsNormal Kept next x e
    deeper x e other found = record {
      next = found.next;
      later = omega (arith, found.later);
      body = defined-later (d.0, put_together (domain_of p d.0).width made.pieces) others.kept x other ∙ found.body;
      declared = found.declared;
    }

    chosen : Here (locals ++ others.locals) next → Bodies (fresh_definitions next made.fresh ++ others.added) next → (x : ℕ) (e : Term) → defined_as (d ∷ rest) x ≡ Some e
        → (Here others.locals (next + length made.fresh) → Bodies others.added (next + length made.fresh) → defined_as rest x ≡ Some e → IsNormal others.kept (next + length made.fresh) x e) → IsNormal Kept next x e
    chosen here bodies x e h later = by (d.0 == x) refl
      where
        by : (b : Bool) → (d.0 == x) ≡ b → IsNormal Kept next x e
        by true is =
            let same : d.1 ≡ e = ap (λ o. option_map_or (λ (t : Term). t) o e) (sym (defined-here d rest x is) ∙ h) in
            subst (λ t. IsNormal Kept next x t) same (subst (λ y. IsNormal Kept next y d.1) (eqb-true d.0 x is) (own (first here bodies)))
        by false other = deeper x e other (later (further here) (after bodies) (sym (defined-later d rest x other) ∙ h))

  pub normal-found : (ds : List Definition) (names : List (List ℕ)) (next : ℕ)
      → ((i : ℕ) → slice_get q.variables (next + i) ≡ slice_get (normal p names next ds).locals i)
      → ((i : ℕ) → body_of q.equations (next + i) ≡ defined_as (normal p names next ds).added (next + i))
      → (x : ℕ) (e : Term) → defined_as ds x ≡ Some e → IsNormal (normal p names next ds).kept next x e
  normal-found [] names next here bodies x e h = cc
  normal-found (d ∷ rest) names next here bodies x e h =
      chosen d rest names next here bodies x e h
      (λ here' bodies' h'. normal-found rest (names ++ map (λ (v : Variable). v.name) (locals d rest names next)) (next + length (made d rest names next).fresh) here' bodies' x e h')

  -- the numbers of what was there
  pub kept-numbers : (P : ℕ → Type 0) (ds : List Definition) (names : List (List ℕ)) (next : ℕ) → AllByRecursion (λ (d : Definition). P d.0) ds → AllByRecursion (λ (d : Definition). P d.0) (normal p names next ds).kept
  kept-numbers P [] names next h = tt
  kept-numbers P (d ∷ rest) names next h =
      (h.0, kept-numbers P rest (names ++ map (λ (v : Variable). v.name) (locals d rest names next)) (next + length (made d rest names next).fresh) h.1)

module _ (p : System) (program : IsProgram p) where
  abbrev pub names : List (List ℕ)
  names = map (λ (v : Variable). v.name) p.variables

  abbrev pub count : ℕ
  count = length p.variables

  abbrev pub result : Normal
  result = normal p names count (definitions p)

  abbrev q : System
  q = normalized p

  declared-number : (d : Definition) → Defines (length p.params) p.variables d → d.0 < count
  declared-number d h = by (slice_get p.variables d.0) refl h
    where
      by : (o : Option Variable) → slice_get p.variables d.0 ≡ o → MatchOption o ⊥ (λ (v : Variable). (is_input v.role ≡ false) × IsAtWidth (length p.variables) d.1 v.domain.width × HasShape (length p.params) p.variables d.1) → d.0 < count
      by None is m = absurd m
      by (Some v) is m = slice_get_within p.variables d.0 v is

  pub numbers-below : AllByRecursion (λ (d : Definition). d.0 < count) (definitions p)
  numbers-below = each-map (Defines (length p.params) p.variables) (λ (d : Definition). d.0 < count) declared-number (definitions p) (parts-fine p program).bodies

  kept-below : AllByRecursion (λ (d : Definition). d.0 < count) result.kept
  kept-below = kept-numbers p q (λ x. x < count) (definitions p) names count numbers-below

  pub bodies-there : (i : ℕ) → body_of q.equations (count + i) ≡ defined_as result.added (count + i)
  bodies-there i =
      body_of-defining (result.kept ++ result.added) (count + i)
      ∙ defined-past result.kept result.added (count + i)
      (each-map (λ (d : Definition). d.0 < count) (λ (d : Definition). (d.0 == count + i) ≡ false) (λ d below. ne_eqb d.0 (count + i) (λ same. absurd (omega (arith, same, below)))) result.kept kept-below)

  pub record HasNormalBody (x : ℕ) (e : Term) : Type 0 where
    pub next : ℕ
    pub later : count ≤ next
    pub body : body_of q.equations x ≡ Some (put_together (domain_of p x).width (outlined_at p q next x e).pieces)
    pub declared : AreDeclared q next (outlined_at p q next x e).fresh

  pub normal-body : (x : ℕ) (e : Term) → body_of p.equations x ≡ Some e → HasNormalBody x e
  normal-body x e defined =
      let found = normal-found p q (definitions p) names count (λ i. slice-right p.variables result.locals i) bodies-there x e (sym (body_of-defined p.equations x) ∙ defined) in
      record {
        next = found.next;
        later = found.later;
        body = body_of-defining (result.kept ++ result.added) x
            ∙ defined-first result.kept result.added x (put_together (domain_of p x).width (outlined_at p q found.next x e).pieces) found.body;
        declared = found.declared;
      }
