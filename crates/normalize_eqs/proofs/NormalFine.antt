-- In normal form a program keeps the rules on places and shapes.
use Rattle.std.proofs.Common.{◌≡◌, ⊎_elim, ℕ, suc, ◌+◌, ◌-◌, ◌<◌, ◌≤◌, List, [], ◌∷◌, ◌++◌, length, map, Bool, true, false, ◌||◌, Option, Some, None, refl, sym, ap, subst, ◌∙◌, arith, length-append}
use Rattle.std.specs.Prelude.{slice_get, MatchOption, ◌==◌}
use Rattle.std.specs.List.{list_any, AllByRecursion}
use Rattle.std.specs.Option.{option_map_or}
use Rattle.std.proofs.lemmas.Bool.{ne_eqb, eqb-false, cases_lt}
use Rattle.std.proofs.lemmas.List.{length-map}
use Rattle.std.proofs.lemmas.List.Folds.{list_any-append}
use Rattle.std.proofs.lemmas.Option.{get_or_from_slice_get, slice_get_within}
use Rattle.az_lin.specs.Affine.{Union}
use Rattle.az_ast.proofs.ReadLemmas.{at-MatchOption}
use Rattle.az_ast.proofs.TermShapes.{HasShape}
use Rattle.az_ast.specs.Meaning.{body_of}
use Rattle.az_ast.specs.Placed.{IsAtWidth}
use Rattle.az_ast.specs.Shapes.{IsProgram, is_input, is_index_name}
use Rattle.az_ast.specs.System.{System}
use Rattle.az_ast.specs.declared.program.Variable.{Variable}
use Rattle.rewriting.proofs.FineParts.{AreFine, Defines, parts-fine}
use Rattle.rewriting.proofs.Items.{Apart, each-map}
use Rattle.rewriting.proofs.Lookups.{defines_same}
use Rattle.rewriting.proofs.Shaped.{Suits}
use Rattle.rewriting.specs.Definitions.{Definition, definitions, defined_as}
use Rattle.rewriting.specs.Named.{name_of}
use Rattle.normalize_eqs.specs.Normal.{Normal, fresh_name, fresh_variables, fresh_definitions, domain_of, normal, normalized}
use Rattle.normalize_eqs.specs.Outlines.{Fresh}
use Rattle.normalize_eqs.specs.Pieces.{pieces, put_together}
use Rattle.normalize_eqs.proofs.FreshLocals.{each-append, apart-append, normal-fresh, order-with_locals, names-with_locals}
use Rattle.normalize_eqs.proofs.NormalParts.{slice-left, slice-right, top, made, locals, others, further, after, first, kept-numbers, names, count, result, numbers-below, bodies-there}
use Rattle.normalize_eqs.proofs.Outlining.{AreDeclared}
use Rattle.normalize_eqs.proofs.OutlinesSuit.{FreshSuits, outlined_all-suit, together-suits}
use Rattle.normalize_eqs.proofs.PiecesSuit.{pieces-fit}

-- definitions of fresh locals
module _ (params : ℕ) (variables : List Variable) (q : System) (enough : length variables ≤ length q.variables)
    (same : (x : ℕ) → x < length variables → slice_get q.variables x ≡ slice_get variables x) where
  fresh-defined : (next : ℕ) (fresh : List Fresh) → AreDeclared q next fresh → AllByRecursion (FreshSuits params variables q enough same) fresh → AllByRecursion (Defines params q.variables) (fresh_definitions next fresh)
  fresh-defined next [] declared suit = tt
  fresh-defined next (f ∷ rest) declared suit =
      let d = declared.0 in
      let at = subst (λ (domain : Union). Suits params q.variables f.body domain.width) (sym d.domain) suit.0.suits in (
        at-MatchOption (λ (v : Variable). (is_input v.role ≡ false) × IsAtWidth (length q.variables) f.body v.domain.width × HasShape params q.variables f.body)
            (slice_get q.variables next) d.variable d.found (ap is_input d.role, at.0, at.1),
        fresh-defined (suc next) rest declared.1 suit.1,
      )

  fresh-wide : (all : List (List ℕ)) (name : List ℕ) (fresh : List Fresh) → AllByRecursion (FreshSuits params variables q enough same) fresh → AllByRecursion (λ (v : Variable). params ≤ v.domain.width) (fresh_variables all name fresh)
  fresh-wide all name [] suit = tt
  fresh-wide all name (f ∷ rest) suit = (suit.0.wide, fresh-wide (all ++ fresh_name all name ∷ []) name rest suit.1)

-- their numbers, one after the other
abbrev IsFrom : ℕ → Definition → Type 0
IsFrom least d = least ≤ d.0

fresh-from : (next least : ℕ) (fresh : List Fresh) → least ≤ next → AllByRecursion (IsFrom least) (fresh_definitions next fresh)
fresh-from next least [] l = tt
fresh-from next least (f ∷ rest) l = (l, fresh-from (suc next) least rest (omega (arith, l)))

-- below a number, and from it on
apart-numbers : (xs ys : List Definition) (bound : ℕ) → AllByRecursion (λ (d : Definition). d.0 < bound) xs → AllByRecursion (IsFrom bound) ys → AllByRecursion (λ (x : Definition). AllByRecursion (λ (y : Definition). defines_same x y ≡ false) ys) xs
apart-numbers [] ys bound below from = tt
apart-numbers (x ∷ xs) ys bound below from =
    (each-map (IsFrom bound) (λ (y : Definition). defines_same x y ≡ false) (λ y h. ne_eqb x.0 y.0 (λ same. absurd (omega (arith, same, h, below.0)))) ys from, apart-numbers xs ys bound below.1 from)

fresh-below : (next bound : ℕ) (fresh : List Fresh) → next + length fresh ≤ bound → AllByRecursion (λ (d : Definition). d.0 < bound) (fresh_definitions next fresh)
fresh-below next bound [] l = tt
fresh-below next bound (f ∷ rest) l = (omega (arith, l), fresh-below (suc next) bound rest (omega (arith, l)))

fresh-apart : (next : ℕ) (fresh : List Fresh) → Apart defines_same (fresh_definitions next fresh)
fresh-apart next [] = tt
fresh-apart next (f ∷ rest) =
    (each-map (IsFrom (suc next)) (λ (d : Definition). (next == d.0) ≡ false) (λ d h. ne_eqb next d.0 (λ same. absurd (omega (arith, same, h)))) (fresh_definitions (suc next) rest) (fresh-from (suc next) (suc next) rest (omega arith)), fresh-apart (suc next) rest)

fresh-any : (next x : ℕ) (fresh : List Fresh) → next ≤ x → x < next + length fresh → list_any (λ (d : Definition). d.0 == x) (fresh_definitions next fresh) ≡ true
fresh-any next x [] l b = absurd (omega (arith, l, b))
fresh-any next x (f ∷ rest) l b = by (next == x) refl (λ above. fresh-any (suc next) x rest above (omega (arith, b)))
  where
    by : (c : Bool) → (next == x) ≡ c → (suc next ≤ x → list_any (λ (d : Definition). d.0 == x) (fresh_definitions (suc next) rest) ≡ true) → (c || list_any (λ (d : Definition). d.0 == x) (fresh_definitions (suc next) rest)) ≡ true
    by true is later = refl
    by false other later = later (omega (arith, l, eqb-false next x other))

module _ (p : System) (program : IsProgram p) where
  abbrev q : System
  q = normalized p

  abbrev n : ℕ
  n = length p.params

  enough : count p program ≤ length q.variables
  enough = omega (arith, length-append p.variables (result p program).locals)

  same : (x : ℕ) → x < length p.variables → slice_get q.variables x ≡ slice_get p.variables x
  same x below = slice-left p.variables (result p program).locals x below

  -- equations in normal form
  pub record AreNormal (made : Normal) : Type 0 where
    pub kept : AllByRecursion (Defines n q.variables) made.kept
    pub added : AllByRecursion (Defines n q.variables) made.added
    pub wide : AllByRecursion (λ (v : Variable). n ≤ v.domain.width) made.locals

  normal-suits : (ds : List Definition) (all : List (List ℕ)) (next : ℕ)
      → ((i : ℕ) → slice_get q.variables (next + i) ≡ slice_get (normal p all next ds).locals i)
      → ((i : ℕ) → body_of q.equations (next + i) ≡ defined_as (normal p all next ds).added (next + i))
      → AllByRecursion (Defines n p.variables) ds → AreNormal (normal p all next ds)
  normal-suits [] all next here bodies defines = record { kept = tt; added = tt; wide = tt }
  normal-suits (d ∷ rest) all next here bodies defines =
      by (slice_get p.variables d.0) refl defines.0
      (normal-suits rest (all ++ map (λ (v : Variable). v.name) (locals p q d rest all next)) (next + length (made p q d rest all next).fresh) (further p q d rest all next here) (after p q d rest all next bodies) defines.1)
    where
      by : (o : Option Variable) → slice_get p.variables d.0 ≡ o → MatchOption o ⊥ (λ (v : Variable). (is_input v.role ≡ false) × IsAtWidth (length p.variables) d.1 v.domain.width × HasShape n p.variables d.1)
          → AreNormal (others p q d rest all next) → AreNormal (normal p all next (d ∷ rest))
      by None is h later = absurd h
      by (Some u) is h later =
          let own = made p q d rest all next in
          let domain : domain_of p d.0 ≡ u.domain = ap (λ o. option_map_or (λ (v : Variable). v.domain) o p.pdom) is in
          let wide : n ≤ (domain_of p d.0).width
          = subst (λ (e : Union). n ≤ e.width) (sym domain) (subst (λ (v : Variable). n ≤ v.domain.width) (get_or_from_slice_get p.variables d.0 u u is) (program.placed.domains d.0 u (slice_get_within p.variables d.0 u is))) in
          let placed : IsAtWidth (length p.variables) d.1 (domain_of p d.0).width = subst (λ (e : Union). IsAtWidth (length p.variables) d.1 e.width) (sym domain) h.1 in
          let declared = first p q d rest all next here bodies in
          let suit = outlined_all-suit n p.variables q enough same (pieces d.1) next (top p q d.0) (pieces-fit n p.variables d.1 (domain_of p d.0).width placed h.2) wide declared in
          let whole = together-suits n q.variables (domain_of p d.0).width own.pieces suit.0 in
          let there : IsAtWidth (length q.variables) (put_together (domain_of p d.0).width own.pieces) u.domain.width
          = subst (λ (e : Union). IsAtWidth (length q.variables) (put_together (domain_of p d.0).width own.pieces) e.width) domain whole.0 in
          record {
            kept = (
              at-MatchOption (λ (v : Variable). (is_input v.role ≡ false) × IsAtWidth (length q.variables) (put_together (domain_of p d.0).width own.pieces) v.domain.width × HasShape n q.variables (put_together (domain_of p d.0).width own.pieces))
                  (slice_get q.variables d.0) u (same d.0 (slice_get_within p.variables d.0 u is) ∙ is) (h.0, there, whole.1),
              later.kept,
            );
            added = each-append (Defines n q.variables) (fresh_definitions next own.fresh) (others p q d rest all next).added (fresh-defined n p.variables q enough same next own.fresh declared suit.1) later.added;
            wide = each-append (λ (v : Variable). n ≤ v.domain.width) (locals p q d rest all next) (others p q d rest all next).locals (fresh-wide n p.variables q enough same all (name_of p d.0) own.fresh suit.1) later.wide;
          }

  -- the numbers of what was added
  added-from : (ds : List Definition) (all : List (List ℕ)) (next least : ℕ) → least ≤ next → AllByRecursion (IsFrom least) (normal p all next ds).added
  added-from [] all next least l = tt
  added-from (d ∷ rest) all next least l =
      each-append (IsFrom least) (fresh_definitions next (made p q d rest all next).fresh) (others p q d rest all next).added (fresh-from next least (made p q d rest all next).fresh l)
      (added-from rest (all ++ map (λ (v : Variable). v.name) (locals p q d rest all next)) (next + length (made p q d rest all next).fresh) least (omega (arith, l)))

  added-apart : (ds : List Definition) (all : List (List ℕ)) (next : ℕ) → Apart defines_same (normal p all next ds).added
  added-apart [] all next = tt
  added-apart (d ∷ rest) all next =
      let more = all ++ map (λ (v : Variable). v.name) (locals p q d rest all next) in
      let fresh = (made p q d rest all next).fresh in
      apart-append defines_same (fresh_definitions next fresh) (others p q d rest all next).added (fresh-apart next fresh) (added-apart rest more (next + length fresh))
      (apart-numbers (fresh_definitions next fresh) (others p q d rest all next).added (next + length fresh) (fresh-below next (next + length fresh) fresh (omega arith)) (added-from rest more (next + length fresh) (next + length fresh) (omega arith)))

  fresh-count : (all : List (List ℕ)) (name : List ℕ) (fresh : List Fresh) → length (fresh_variables all name fresh) ≡ length fresh
  fresh-count all name [] = refl
  fresh-count all name (f ∷ rest) = ap suc (fresh-count (all ++ fresh_name all name ∷ []) name rest)

  any-left : (xs ys : List Definition) (x : ℕ) → list_any (λ (d : Definition). d.0 == x) xs ≡ true → list_any (λ (d : Definition). d.0 == x) (xs ++ ys) ≡ true
  any-left xs ys x h = list_any-append (λ (d : Definition). d.0 == x) xs ys ∙ ap (λ b. b || list_any (λ (d : Definition). d.0 == x) ys) h

  any-right : (xs ys : List Definition) (x : ℕ) → list_any (λ (d : Definition). d.0 == x) ys ≡ true → list_any (λ (d : Definition). d.0 == x) (xs ++ ys) ≡ true
  any-right xs ys x h = list_any-append (λ (d : Definition). d.0 == x) xs ys ∙ by (list_any (λ (d : Definition). d.0 == x) xs)
    where
      by : (b : Bool) → (b || list_any (λ (d : Definition). d.0 == x) ys) ≡ true
      by true = refl
      by false = h

  added-any : (ds : List Definition) (all : List (List ℕ)) (next i : ℕ) → i < length (normal p all next ds).locals → list_any (λ (d : Definition). d.0 == next + i) (normal p all next ds).added ≡ true
  added-any [] all next i l = absurd (omega (arith, l))
  added-any (d ∷ rest) all next i l =
      let fresh = (made p q d rest all next).fresh in
      let more = all ++ map (λ (v : Variable). v.name) (locals p q d rest all next) in
      let whole = length-append (locals p q d rest all next) (others p q d rest all next).locals in
      let counted = fresh-count all (name_of p d.0) fresh in
      ⊎_elim
      (λ below. any-left (fresh_definitions next fresh) (others p q d rest all next).added (next + i) (fresh-any next (next + i) fresh (omega arith) (omega (arith, below))))
      (λ above.
      let same : next + length fresh + (i - length fresh) ≡ next + i = omega (arith, above) in
      any-right (fresh_definitions next fresh) (others p q d rest all next).added (next + i)
      (subst (λ x. list_any (λ (o : Definition). o.0 == x) (others p q d rest all next).added ≡ true) same
      (added-any rest more (next + length fresh) (i - length fresh) (omega (arith, above, l, whole, counted)))))
      (cases_lt i (length fresh))

  kept-any : (ds : List Definition) (all : List (List ℕ)) (next x : ℕ) → list_any (λ (d : Definition). d.0 == x) ds ≡ true → list_any (λ (d : Definition). d.0 == x) (normal p all next ds).kept ≡ true
  kept-any ds all next x h = kept-same ds all next x ∙ h
    where
      kept-same : (ds : List Definition) (all : List (List ℕ)) (next x : ℕ) → list_any (λ (d : Definition). d.0 == x) (normal p all next ds).kept ≡ list_any (λ (d : Definition). d.0 == x) ds
      kept-same [] all next x = refl
      kept-same (d ∷ rest) all next x = ap (λ b. (d.0 == x) || b) (kept-same rest (all ++ map (λ (v : Variable). v.name) (locals p q d rest all next)) (next + length (made p q d rest all next).fresh) x)

  kept-apart : (ds : List Definition) (all : List (List ℕ)) (next : ℕ) → Apart defines_same ds → Apart defines_same (normal p all next ds).kept
  kept-apart [] all next h = tt
  kept-apart (d ∷ rest) all next h =
      let more = all ++ map (λ (v : Variable). v.name) (locals p q d rest all next) in
      (kept-numbers p q (λ y. (d.0 == y) ≡ false) rest more (next + length (made p q d rest all next).fresh) h.0, kept-apart rest more (next + length (made p q d rest all next).fresh) h.1)

  complete : (x : ℕ) (variable : Variable) → slice_get q.variables x ≡ Some variable → is_input variable.role ≡ false
      → list_any (λ (d : Definition). d.0 == x) ((result p program).kept ++ (result p program).added) ≡ true
  complete x variable found written =
      let made = result p program in
      ⊎_elim
      (λ below. any-left made.kept made.added x (kept-any (definitions p) (names p program) (count p program) x ((parts-fine p program).complete x variable (sym (same x below) ∙ found) written)))
      (λ above.
      let is : count p program + (x - count p program) ≡ x = omega (arith, above) in
      let within = slice_get_within q.variables x variable found in
      any-right made.kept made.added x
      (subst (λ y. list_any (λ (d : Definition). d.0 == y) made.added ≡ true) is
      (added-any (definitions p) (names p program) (count p program) (x - count p program) (omega (arith, above, within, length-append p.variables made.locals)))))
      (cases_lt x (count p program))

  pub normal-fine : length q.variables ≤ 256 → AreFine p q.variables ((result p program).kept ++ (result p program).added)
  normal-fine few =
      let fine = parts-fine p program in
      let made = result p program in
      let counted = length-append p.variables made.locals in
      let fresh = normal-fresh p (definitions p) (names p program) (count p program) (omega (arith, few, counted, length-map p.variables (λ (v : Variable). v.name))) in
      let suits = normal-suits (definitions p) (names p program) (count p program) (λ i. slice-right p.variables made.locals i) (bodies-there p program) fine.bodies in
      record {
        order = order-with_locals p.variables made.locals fine.order fresh.local;
        widths = each-append (λ (v : Variable). n ≤ v.domain.width) p.variables made.locals fine.widths suits.wide;
        names = each-append (λ (v : Variable). is_index_name v.name ≡ false) p.variables made.locals fine.names fresh.unreserved;
        named_apart = names-with_locals p.variables made.locals fine.named_apart fresh;
        bodies = each-append (Defines n q.variables) made.kept made.added suits.kept suits.added;
        defined_apart = apart-append defines_same made.kept made.added (kept-apart (definitions p) (names p program) (count p program) fine.defined_apart) (added-apart (definitions p) (names p program) (count p program))
            (apart-numbers made.kept made.added (count p program) (kept-numbers p q (λ y. y < count p program) (definitions p) (names p program) (count p program) (numbers-below p program)) (added-from (definitions p) (names p program) (count p program) (count p program) (omega arith)));
        complete = complete;
      }
