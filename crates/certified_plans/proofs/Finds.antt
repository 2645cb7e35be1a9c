-- What a body finds are reads that it evaluates, of outputs and locals; and where each find is a meaning, so is the value
-- that the body makes.
use Rattle.std.proofs.Common.{◌≡◌, inl, inr, ⊎_elim, ℕ, zero, suc, ◌≤◌, List, [], ◌∷◌, ◌++◌, length, take, map, true, false, not, Option, Some, None, refl, sym, ap, subst, ◌∙◌, arith, length-append}
use Rattle.std.specs.Prelude.{ℤ, Contains, slice_get, MatchOption, flat_map}
use Rattle.std.specs.List.{AllZip}
use Rattle.std.specs.Option.{option_map_or}
use Rattle.std.proofs.lemmas.List.{take-append-le}
use Rattle.std.proofs.lemmas.List.Elements.{Contains-append_left, Contains-append_right, Contains-append_cases}
use Rattle.az_lin.specs.Affine.{Union, image_of}
use Rattle.az_ast.specs.Dependences.{TermReads, ChoiceReads, IsRead}
use Rattle.az_ast.specs.Meaning.{IsInput, RoleGives, TermGives, ChoiceGives, Means}
use Rattle.az_ast.specs.Points.{IsMember, IsPointOf}
use Rattle.az_ast.specs.Shapes.{is_input}
use Rattle.az_ast.specs.System.{System}
use Rattle.az_ast.specs.Tables.{Tables, InputGives}
use Rattle.az_ast.specs.Term.{Term, constant, index, access, negation, binary, cases, reduction, Choices, none, choice}
use Rattle.az_ast.specs.declared.program.Role.{Role}
use Rattle.az_ast.specs.declared.program.Role.TheVariants.{Input, Output, Local}
use Rattle.az_ast.specs.declared.program.Variable.{Variable}
use Rattle.az_ast.proofs.FixedPoint.{Meant, input-means}
use Rattle.az_ast.proofs.Members.{All-Contains}
use Rattle.execution.specs.Plans.{Load}
use Rattle.execution.specs.Sound.{AreFound}
use Rattle.execution.specs.declared.instance.Instance.{Instance}
use Rattle.loop_scan.proofs.Lists.{first_or_rest, Contains-first, Contains-rest, none_contained, Contains-same}
use Rattle.plan_promise.specs.Promise.{finds_of}
use Rattle.plan_words.specs.Makes.{Find, find_of, TermMakes, ChoiceMakes}
use Rattle.target_map.specs.Settings.{is_written}
use Rattle.value_walk.specs.Needs.{IsReady, AreReady}

-- what stands in one part of the finds of a reduction
module _ (R : List ℤ → List Find × ℤ → Type 0) where
  part-with :
      (points : List (List ℤ)) (parts : List (List Find × ℤ)) → AllZip R points parts → (f : Find) → Contains (flat_map (λ part. part.0) parts) f →
      (k : List ℤ) × Contains points k × (part : List Find × ℤ) × R k part × Contains part.0 f
  part-with [] [] all f c = absurd (none_contained f c)
  part-with [] (part ∷ parts) all f c = absurd all
  part-with (k ∷ points) [] all f c = absurd all
  part-with (k ∷ points) (part ∷ parts) all f c = ⊎_elim
      (λ here. (k, Contains-first k points, part, all.0, here))
      (λ later. let rest = part-with points parts all.1 f later in (rest.0, Contains-rest k points rest.0 rest.1, rest.2, rest.3, rest.4))
      (Contains-append_cases part.0 (flat_map (λ part. part.0) parts) f c)

module _ (p : System) (tables : Tables) (params : List ℤ) where
  abbrev count : ℕ
  count = length p.params

  -- a find at an expression, and at a case
  abbrev pub IsFound : Term → List ℤ → Find → Type 0
  IsFound e z f = is_written p f.named.variable × TermReads count (IsRead f.named.variable params f.named.point) e z

  abbrev IsChosen : Choices → List ℤ → Find → Type 0
  IsChosen branches z f = is_written p f.named.variable × ChoiceReads count (IsRead f.named.variable params f.named.point) branches z

  first-further : (z k : List ℤ) → count ≤ length z → take count z ≡ params → take count (z ++ k) ≡ params
  first-further z k wide first = take-append-le count z k wide ∙ first

  wide-further : (z k : List ℤ) → count ≤ length z → count ≤ length (z ++ k)
  wide-further z k wide = omega (arith, wide, length-append z k)

  access-found : (x : ℕ) (k : List ℤ) (finds : List Find) (v : ℤ) (f : Find) →
      MatchOption (slice_get p.variables x) ⊥ (λ variable. RoleGives variable.role ((finds ≡ []) × InputGives tables x k v) (finds ≡ find_of x k v ∷ [])) → Contains finds f → is_written p x × (f ≡ find_of x k v)
  access-found x k finds v f makes c = by (slice_get p.variables x) makes
    where
      only : finds ≡ find_of x k v ∷ [] → f ≡ find_of x k v
      only e = ⊎_elim (λ same. same) (λ later. absurd (none_contained f later)) (first_or_rest (find_of x k v) [] f (Contains-same finds (find_of x k v ∷ []) f e c))

      of_role : (role : Role) → RoleGives role ((finds ≡ []) × InputGives tables x k v) (finds ≡ find_of x k v ∷ []) → (not (is_input role) ≡ true) × (f ≡ find_of x k v)
      of_role Input m = absurd (none_contained f (Contains-same finds [] f m.0 c))
      of_role Output m = (refl, only m)
      of_role Local m = (refl, only m)

      by : (o : Option Variable) → MatchOption o ⊥ (λ variable. RoleGives variable.role ((finds ≡ []) × InputGives tables x k v) (finds ≡ find_of x k v ∷ [])) →
          (option_map_or (λ (variable : Variable). not (is_input variable.role)) o false ≡ true) × (f ≡ find_of x k v)
      by None m = absurd m
      by (Some variable) m = of_role variable.role m

  mutual
    pub found-read : (e : Term) (z : List ℤ) (finds : List Find) (v : ℤ) → count ≤ length z → take count z ≡ params → TermMakes p tables e z finds v → (f : Find) → Contains finds f → IsFound e z f
    found-read (constant c) z finds v wide first makes f h = absurd (none_contained f (Contains-same finds [] f makes.0 h))
    found-read (index row) z finds v wide first makes f h = absurd (none_contained f (Contains-same finds [] f makes.0 h))
    found-read (access x g) z finds v wide first makes f h =
        let found = access-found x (image_of g z) finds v f makes h in
        let variable : f.named.variable ≡ x = ap (λ (q : Find). q.named.variable) found.1 in
        let point : f.named.point ≡ image_of g z = ap (λ (q : Find). q.named.point) found.1 in
        (subst (is_written p) (sym variable) found.0, record { same_variable = sym variable; same_parameters = first; same_indices = sym point })
    found-read (negation e) z finds v wide first makes f h = found-read e z finds makes.0 wide first makes.1 f h
    found-read (binary op a b) z finds v wide first makes f h = ⊎_elim
        (λ l. let found = found-read a z makes.0 makes.2 wide first makes.4 f l in (found.0, inl found.1))
        (λ r. let found = found-read b z makes.1 makes.3 wide first makes.5 f r in (found.0, inr found.1))
        (Contains-append_cases makes.0 makes.1 f (Contains-same finds (makes.0 ++ makes.1) f makes.6 h))
    found-read (cases branches) z finds v wide first makes f h = chosen-read branches z finds v wide first makes f h
    found-read (reduction op extra domain e) z finds v wide first makes f h =
        let part = part-with (λ k part. TermMakes p tables e (z ++ k) part.0 part.1) makes.points makes.parts makes.bodies f
        (Contains-same finds (flat_map (λ part. part.0) makes.parts) f makes.whole h) in
        let k = part.0 in
        let found = found-read e (z ++ k) part.2.0 part.2.1 (wide-further z k wide) (first-further z k wide first) part.3 f part.4 in
        (found.0, (k, All-Contains (IsMember domain z extra) makes.points k makes.members.only part.1, found.1))

    chosen-read : (branches : Choices) (z : List ℤ) (finds : List Find) (v : ℤ) → count ≤ length z → take count z ≡ params → ChoiceMakes p tables branches z finds v → (f : Find) → Contains finds f → IsChosen branches z f
    chosen-read none z finds v wide first makes f h = absurd makes
    chosen-read (choice domain e rest) z finds v wide first makes f h = ⊎_elim
        (λ here. let found = found-read e z finds v wide first here.1 f h in (found.0, inl (here.0, found.1)))
        (λ other. let found = chosen-read rest z finds v wide first other.1 f h in (found.0, inr (other.0, found.1))) makes

  -- the value, where all finds are meanings
  abbrev IsWithin : ℕ → List ℤ → List ℤ → Type 0
  IsWithin y ps l = MatchOption (slice_get p.variables y) ⊥ (λ (v : Variable). IsPointOf count v.domain ps l)

  abbrev AreMeant : List Find → Type 0
  AreMeant finds = (f : Find) → Contains finds f → Means p tables params f.named.variable f.named.point f.value

  module _ (asked : ℕ → Union → List ℤ → Type 0) where
    access-gives : (x : ℕ) (ps k : List ℤ) (finds : List Find) (v : ℤ) → ps ≡ params → IsWithin x ps k →
        MatchOption (slice_get p.variables x) ⊥ (λ variable. RoleGives variable.role ((finds ≡ []) × InputGives tables x k v) (finds ≡ find_of x k v ∷ [])) → AreMeant finds → Means p tables ps x k v
    access-gives x ps k finds v first within makes meant = by (slice_get p.variables x) refl within makes
      where
        only : finds ≡ find_of x k v ∷ [] → Means p tables ps x k v
        only e = subst (λ qs. Means p tables qs x k v) (sym first) (meant (find_of x k v) (Contains-same (find_of x k v ∷ []) finds (find_of x k v) (sym e) (Contains-first (find_of x k v) [])))

        of_role : (variable : Variable) → slice_get p.variables x ≡ Some variable → IsPointOf count variable.domain ps k → (role : Role) → variable.role ≡ role →
            RoleGives role ((finds ≡ []) × InputGives tables x k v) (finds ≡ find_of x k v ∷ []) → Means p tables ps x k v
        of_role variable declared point Input e m = input-means p tables x variable declared ps k v (subst IsInput (sym e) tt) point m.1
        of_role variable declared point Output e m = only m
        of_role variable declared point Local e m = only m

        by : (o : Option Variable) → slice_get p.variables x ≡ o → MatchOption o ⊥ (λ (variable : Variable). IsPointOf count variable.domain ps k) →
            MatchOption o ⊥ (λ variable. RoleGives variable.role ((finds ≡ []) × InputGives tables x k v) (finds ≡ find_of x k v ∷ [])) → Means p tables ps x k v
        by None declared within m = absurd m
        by (Some variable) declared within m = of_role variable declared within variable.role refl m

    -- the bodies of a reduction
    bodies-give : (R : List ℤ → List Find × ℤ → Type 0) (Gives : List ℤ → ℤ → Type 0) →
        (points : List (List ℤ)) (parts : List (List Find × ℤ)) → ((k : List ℤ) → Contains points k → (part : List Find × ℤ) → R k part → AreMeant part.0 → Gives k part.1) →
        AllZip R points parts → AreMeant (flat_map (λ part. part.0) parts) → AllZip Gives points (map (λ part. part.1) parts)
    bodies-give R Gives [] [] each all meant = tt
    bodies-give R Gives [] (part ∷ parts) each all meant = absurd all
    bodies-give R Gives (k ∷ points) [] each all meant = absurd all
    bodies-give R Gives (k ∷ points) (part ∷ parts) each all meant = (
      each k (Contains-first k points) part all.0 (λ f c. meant f (Contains-append_left part.0 (flat_map (λ part. part.0) parts) f c)),
      bodies-give R Gives points parts (λ l c. each l (Contains-rest k points l c)) all.1
          (λ f c. meant f (Contains-append_right part.0 (flat_map (λ part. part.0) parts) f c)),
    )

    mutual
      pub makes-gives : (e : Term) (z : List ℤ) (finds : List Find) (v : ℤ) → count ≤ length z → take count z ≡ params → IsReady count IsWithin asked e z → TermMakes p tables e z finds v → AreMeant finds → TermGives count (Meant p tables) e z v
      makes-gives (constant c) z finds v wide first ready makes meant = makes.1
      makes-gives (index row) z finds v wide first ready makes meant = makes.1
      makes-gives (access x g) z finds v wide first ready makes meant = access-gives x (take count z) (image_of g z) finds v first ready.2 makes meant
      makes-gives (negation e) z finds v wide first ready makes meant = (makes.0, makes-gives e z finds makes.0 wide first ready makes.1 meant, makes.2)
      makes-gives (binary op a b) z finds v wide first ready makes meant = (
        makes.2,
        makes.3,
        makes-gives a z makes.0 makes.2 wide first ready.0 makes.4 (λ f c. meant f (Contains-same (makes.0 ++ makes.1) finds f (sym makes.6) (Contains-append_left makes.0 makes.1 f c))),
        makes-gives b z makes.1 makes.3 wide first ready.1 makes.5 (λ f c. meant f (Contains-same (makes.0 ++ makes.1) finds f (sym makes.6) (Contains-append_right makes.0 makes.1 f c))),
        makes.7,
      )
      makes-gives (cases branches) z finds v wide first ready makes meant = chosen-gives branches z finds v wide first ready makes meant
      makes-gives (reduction op extra domain e) z finds v wide first ready makes meant = record {
        points = makes.points;
        values = map (λ part. part.1) makes.parts;
        members = makes.members;
        bodies = bodies-give (λ k part. TermMakes p tables e (z ++ k) part.0 part.1) (λ k w. TermGives count (Meant p tables) e (z ++ k) w) makes.points makes.parts
            (λ k c part m part_meant. makes-gives e (z ++ k) part.0 part.1 (wide-further z k wide) (first-further z k wide first)
            (ready.4 k (All-Contains (IsMember domain z extra) makes.points k makes.members.only c)) m part_meant)
            makes.bodies (λ f c. meant f (Contains-same (flat_map (λ part. part.0) makes.parts) finds f (sym makes.whole) c));
        result = makes.result;
      }

      chosen-gives : (branches : Choices) (z : List ℤ) (finds : List Find) (v : ℤ) → count ≤ length z → take count z ≡ params → AreReady count IsWithin asked branches z → ChoiceMakes p tables branches z finds v → AreMeant finds → ChoiceGives count (Meant p tables) branches z v
      chosen-gives none z finds v wide first ready makes meant = absurd makes
      chosen-gives (choice domain e rest) z finds v wide first ready makes meant = ⊎_elim
          (λ here. inl (here.0, makes-gives e z finds v wide first (ready.1 here.0) here.1 meant))
          (λ other. inr (other.0, chosen-gives rest z finds v wide first (ready.2 other.0) other.1 meant)) makes

-- the finds of loads
pub loads-found : (means : Instance → ℤ → Type 0) (loads : List Load) (loaded : List ℤ) → AreFound means loads loaded → (f : Find) → Contains (finds_of loads loaded) f → means f.named f.value
loads-found means [] loaded found f c = absurd (none_contained f c)
loads-found means (load ∷ loads) [] found f c = absurd (none_contained f c)
loads-found means (load ∷ loads) (v ∷ loaded) found f c = ⊎_elim
    (λ same. subst (λ (q : Find). means q.named q.value) (sym same) found.0)
    (λ later. loads-found means loads loaded found.1 f later)
    (first_or_rest (record { named = load.named; value = v }) (finds_of loads loaded) f c)

pub load-found : (loads : List Load) (loaded : List ℤ) → length loaded ≡ length loads → (j : ℕ) (load : Load) → slice_get loads j ≡ Some load → (v : ℤ) × Contains (finds_of loads loaded) (record { named = load.named; value = v })
load-found [] loaded long j load e = cc
load-found (first ∷ loads) [] long j load e = absurd (omega (arith, long))
load-found (first ∷ loads) (v ∷ loaded) long zero load e =
    let same : first ≡ load = ap (λ o. option_map_or (λ (l : Load). l) o first) e in
    (v, subst (λ (l : Load). Contains (finds_of (first ∷ loads) (v ∷ loaded)) (record { named = l.named; value = v })) same (Contains-first (record { named = first.named; value = v }) (finds_of loads loaded)))
load-found (first ∷ loads) (v ∷ loaded) long (suc j) load e =
    let rest = load-found loads loaded (omega (arith, long)) j load e in
    (rest.0, Contains-rest (record { named = first.named; value = v }) (finds_of loads loaded) (record { named = load.named; value = rest.0 }) rest.1)
