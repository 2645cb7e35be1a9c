-- The evaluation of an expression by its forms: what is needed and what is given goes over from the parts.
use Rattle.std.proofs.Common.{zero, suc, drop, drop-cons, ◌≡◌, ℕ, ◌+◌, ◌-◌, take, take_all, length-append, ◌<◌, ◌≤◌, List, [], ◌∷◌, ◌++◌, length, Some, None, Option, refl, sym, ap, subst, ◌∙◌, arith, inl}
use Rattle.std.specs.Prelude.{ℤ, map, fold, slice_index_or, All, Contains, option_map, IfSome, IfNone, IfOk, Result, Ok, Err, MatchOption}
use Rattle.std.specs.List.{AllZip}
use Rattle.az_lin.specs.Affine.{AffineMap, Union, HoldsSome, image_of, IsCoordinate}
use Rattle.std.proofs.lemmas.List.Elements.{All-append}
use Rattle.std.proofs.lemmas.List.{take_more}
use Rattle.az_ast.proofs.Members.{All-Contains}
use Rattle.loop_scan.proofs.Lists.{AllZip-push}
use Rattle.value_walk.specs.Boxes.{IsBox}
use Rattle.az_ast.specs.declared.op.Op.{Op}
use Rattle.value_walk.specs.declared.code.Code.{Code}
use Rattle.value_walk.specs.declared.code.Code.TheVariants.{Access, Cases, Reduce}
use Rattle.value_walk.specs.declared.code.Choice.{Choice}
use Rattle.az_ast.specs.Meaning.{ChoiceGives, Means, equation_of, body_of}
use Rattle.az_ast.specs.declared.program.Equation.{Equation}
use Rattle.az_ast.specs.Nodes.{nodes, nodes_below}
use Rattle.az_ast.specs.Operators.{applied, identity}
use Rattle.az_ast.specs.Points.{AreMembers, IsMember}
use Rattle.az_ast.specs.Term as ast
use Rattle.az_ast.specs.Term.{Term, Choices, access, reduction, choices}
use Rattle.value_walk.specs.Inner.Codes.{term, IsCodeAt}
use Rattle.value_walk.proofs.Codes.{term-Access, term-Cases, term-Reduce}
use Rattle.value_walk.specs.Inner.Ready.{IsAnswered, SlotEvaluates, IsReadyAt, MeansIn, Gives, both}
use Rattle.value_walk.specs.Needs.{AreReady}
use Rattle.value_walk.specs.declared.scene.Scene.{Scene}
use Rattle.value_walk.specs.declared.slot.Slot.{Slot}

abbrev pub branches_of : List Choice → Choices
branches_of branches = choices (map (λ (b : Choice). (b.domain, term b.body)) branches)

abbrev pub AreReadyAt : Scene → Slot → Choices → List ℤ → Type 0
AreReadyAt scene slot branches z = AreReady (length scene.program.now.params) (IsAnswered scene slot) (SlotEvaluates scene slot) branches z

abbrev pub ChoosesGive : Scene → Choices → List ℤ → ℤ → Type 0
ChoosesGive scene branches z v = ChoiceGives (length scene.program.now.params) (λ x ps k w. Means scene.program.now scene.inputs.now ps x k w) branches z v

pub record IsLeft (scene : Scene) (slot : Slot) (e : Code) (z : List ℤ) (branches : List Choice) : Type 0 where
  pub ready : AreReadyAt scene slot (branches_of branches) z
  pub gives : (v : ℤ) → ChoosesGive scene (branches_of branches) z v → Gives scene (term e) z v

pub record IsFolded (scene : Scene) (op : Op) (body : Code) (z : List ℤ) (points : List (List ℤ)) (total : ℤ) : Type 0 where
  pub values : List ℤ
  pub bodies : AllZip (λ k w. Gives scene (term body) (z ++ k) w) points values
  pub result : total ≡ fold (applied op) (identity op) values

-- ---- the body of a branch and of a reduction is smaller

-- one of some parts, each of a domain and a body
pub nodes-within : {B : Type 0} (part : B → Union × Term) (branches : List B) (i : ℕ) (d : B) → i < length branches → nodes (part (slice_index_or branches i d)).1 ≤ nodes_below (choices (map part branches))
nodes-within part [] i d h = absurd (omega arith)
nodes-within part (b ∷ branches) zero d h = omega arith
nodes-within part (b ∷ branches) (suc i) d h = let rest = nodes-within part branches i d (omega arith) in omega (arith, rest)

pub branch-smaller : (e : Code) (branches : List Choice) (i : ℕ) (branch : Choice) → e ≡ Cases branches → i < length branches → branch ≡ slice_index_or branches i branch → nodes (term branch.body) < nodes (term e)
branch-smaller e branches i branch is h found =
    let below = nodes-within (λ (b : Choice). (b.domain, term b.body)) branches i branch h in
    let same = ap (λ (b : Choice). nodes (term b.body)) found in
    let form = ap nodes (ap term is ∙ term-Cases branches) in
    omega (arith, below, same, form)

pub body-smaller : (e : Code) (op : Op) (extra : ℕ) (domain : Union) (body : Code) → e ≡ Reduce op extra domain body → nodes (term body) < nodes (term e)
body-smaller e op extra domain body is =
    let form = ap nodes (ap term is ∙ term-Reduce op extra domain body) in
    omega (arith, form)

-- a value over in another property
over_some : (P Q : ℤ → Type 0) (found : Option ℤ) → ((v : ℤ) → P v → Q v) → IfSome found P → IfSome found Q
over_some P Q None f h = tt
over_some P Q (Some v) f h = f v h

pub over_ok : {E : Type 0} (P Q : ℤ → Type 0) (r : Result (Option ℤ) E) → ((v : ℤ) → P v → Q v) → IfOk r (λ found. IfSome found P) → IfOk r (λ found. IfSome found Q)
over_ok P Q (Ok found) f h = over_some P Q found f h
over_ok P Q (Err e) f h = tt

module _ (scene : Scene) (slot : Slot) (z : List ℤ) where
  module _ (e : Code) (branches : List Choice) (i : ℕ) (branch : Choice) (within : i < length branches) (found : branch ≡ slice_index_or branches i branch) (left : IsLeft scene slot e z (drop i branches)) where
    here : IsLeft scene slot e z (branch ∷ drop (suc i) branches)
    here = subst (λ bs. IsLeft scene slot e z bs) (drop-cons branches i branch within ∙ ap (λ b. b ∷ drop (suc i) branches) (sym found)) left

    -- the branch that holds the point
    pub branch-ready : HoldsSome branch.domain z → IsReadyAt scene slot (term branch.body) z
    branch-ready h = here.ready.1 h

    pub branch-gives : HoldsSome branch.domain z → (v : ℤ) → Gives scene (term branch.body) z v → Gives scene (term e) z v
    branch-gives h v g = here.gives v (inl (h, g))

  -- an access has the value that was read
  pub access-gives :
      (e : Code) (x : ℕ) (f : AffineMap) (image : List ℤ) (found : Option ℤ) → e ≡ Access x f → image ≡ image_of f z → IsReadyAt scene slot (term e) z →
      IfSome found (MeansIn scene x image) → IfSome found (Gives scene (term e) z)
  access-gives e x f image None is same ready h = tt
  access-gives e x f image (Some v) is same ready h =
      let form = ap term is ∙ term-Access x f in
      let needs : IsReadyAt scene slot (access x f) z = subst (λ t. IsReadyAt scene slot t z) form ready in
      let parameters = needs.2.0 in
      subst (λ t. Gives scene t z v) (sym form)
      (subst (λ ps. Means scene.program.now scene.inputs.now ps x (image_of f z) v) (sym parameters) (subst (λ k. MeansIn scene x k v) same h))

  module _ (e : Code) (op : Op) (extra : ℕ) (domain : Union) (body : Code) (is : e ≡ Reduce op extra domain body) (ready : IsReadyAt scene slot (term e) z) (points : List (List ℤ)) (box : IsBox domain z points) where
    needs : IsReadyAt scene slot (reduction op extra domain (term body)) z
    needs = subst (λ t. IsReadyAt scene slot t z) (ap term is ∙ term-Reduce op extra domain body) ready

    own : domain.width - length z ≡ extra
    own = omega (arith, needs.1)

    member : (k : List ℤ) → Contains points k → IsMember domain z extra k
    member k c =
        subst (λ n. IsMember domain z n k) own (All-Contains (IsMember domain z (domain.width - length z)) points k box.members.only c)

    -- what the body needs at a member
    pub body-ready : (y k : List ℤ) → y ≡ z ++ k → Contains points k → IsReadyAt scene slot (term body) y
    body-ready y k same c = subst (λ q. IsReadyAt scene slot (term body) q) (sym same) (needs.4 k (member k c))

    pub body-narrow : (y k : List ℤ) → y ≡ z ++ k → Contains points k → length y ≤ 64
    body-narrow y k same c =
        let long = (member k c).0 in
        omega (arith, ap length same, length-append z k, long, needs.1, needs.2)

    pub body-range : (y k : List ℤ) → y ≡ z ++ k → All IsCoordinate z → Contains points k → All IsCoordinate y
    body-range y k same outer (i, h, found) =
        let here : All IsCoordinate k = subst (λ q. All IsCoordinate q) found (box.coordinates i k h) in
        subst (λ q. All IsCoordinate q) (sym same) (All-append IsCoordinate z k outer here)

    -- the fold over all members
    pub fold-gives : (total : Option ℤ) (m i : ℕ) → length points ≤ i → MatchOption total (0 < m) (IsFolded scene op body z (take i points)) → IfSome total (Gives scene (term e) z)
    fold-gives None m i h g = tt
    fold-gives (Some v) m i h g =
        let all : take i points ≡ points = take_all i points h in
        let bodies : AllZip (λ k w. Gives scene (term body) (z ++ k) w) points g.values = subst (λ ps. AllZip (λ k w. Gives scene (term body) (z ++ k) w) ps g.values) all g.bodies in
        subst (λ t. Gives scene t z v) (sym (ap term is ∙ term-Reduce op extra domain body))
        (record {
          points = points;
          values = g.values;
          members = subst (λ n. AreMembers domain z n points) own box.members;
          bodies = bodies;
          result = g.result;
        })

  -- one more member
  fold-more : (f : ℤ → ℤ → ℤ) (unit : ℤ) (vs : List ℤ) (v : ℤ) → fold f unit (vs ++ v ∷ []) ≡ f (fold f unit vs) v
  fold-more f unit [] v = refl
  fold-more f unit (w ∷ vs) v = fold-more f (f unit w) vs v

  pub fold-step :
      (op : Op) (body : Code) (points : List (List ℤ)) (i m n : ℕ) (k y : List ℤ) (total value result : Option ℤ) → i < length points → k ≡ slice_index_or points i k → y ≡ z ++ k → m ≤ n →
      MatchOption total (0 < m) (IsFolded scene op body z (take i points)) → IfSome value (Gives scene (term body) y) → IfNone value (0 < n) →
      result ≡ both (applied op) total value → MatchOption result (0 < n) (IsFolded scene op body z (take (i + 1) points))
  fold-step op body points i m n k y total value result h found same more t v none is =
      subst (λ r. MatchOption r (0 < n) (IsFolded scene op body z (take (i + 1) points))) (sym is) (by total value t v none)
    where
      next : take (i + 1) points ≡ take i points ++ k ∷ []
      next = take_more points i k h ∙ ap (λ q. take i points ++ q ∷ []) (sym found)

      by : (total value : Option ℤ) → MatchOption total (0 < m) (IsFolded scene op body z (take i points)) → IfSome value (Gives scene (term body) y) → IfNone value (0 < n) →
          MatchOption (both (applied op) total value) (0 < n) (IsFolded scene op body z (take (i + 1) points))
      by None value t v none = omega (arith, t, more)
      by (Some a) None t v none = none
      by (Some a) (Some b) t v none =
          record {
            values = t.values ++ b ∷ [];
            bodies =
                subst (λ ps. AllZip (λ q w. Gives scene (term body) (z ++ q) w) ps (t.values ++ b ∷ [])) (sym next)
                (AllZip-push (λ q w. Gives scene (term body) (z ++ q) w) (take i points) t.values k b t.bodies (subst (λ q. Gives scene (term body) q b) same v));
            result = ap (λ q. applied op q b) t.result ∙ sym (fold-more (applied op) (identity op) t.values b);
          }

-- the body of a variable's equation
pub body-found : (equations : List Equation) (x : ℕ) (equation : Equation) → equation_of equations x ≡ Some equation → (P : Term → Type 0) → P (ast.term equation.body) → MatchOption (body_of equations x) ⊥ P
body-found equations x equation e P h = subst (λ o. MatchOption (option_map (λ (q : Equation). ast.term q.body) o) ⊥ P) (sym e) h

-- and the code that is made of it
pub code-has : (o : Option Term) (code : Code) (P : Term → Type 0) → MatchOption o (Unit {0}) (λ body. term code ≡ body) → MatchOption o ⊥ P → P (term code)
code-has None code P same h = absurd h
code-has (Some body) code P same h = subst P (sym same) h

pub code-gives : (o : Option Term) (code : Code) (P Q : Term → Type 0) → MatchOption o (Unit {0}) (λ body. term code ≡ body) → MatchOption o ⊥ P → Q (term code) → MatchOption o ⊥ Q
code-gives None code P Q same h g = absurd h
code-gives (Some body) code P Q same h g = subst Q same g
