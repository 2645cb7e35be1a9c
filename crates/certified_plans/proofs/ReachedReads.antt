-- What an expression reads at a point where it can be evaluated: each read is answered, and it stands at a place of
-- the expression whose context holds the point.
use Rattle.std.proofs.Common.{◌≡◌, ⊎_elim, ℕ, ◌+◌, ◌≤◌, List, [], ◌∷◌, ◌++◌, length, take, sym, ap, subst, ◌∙◌, arith, length-append, append_assoc}
use Rattle.std.specs.Prelude.{ℤ, Contains}
use Rattle.std.specs.List.{AllByRecursion}
use Rattle.std.proofs.lemmas.List.{append-nil, take-append-le, take_all}
use Rattle.std.proofs.lemmas.List.Elements.{Contains-append_left, Contains-append_right}
use Rattle.az_lin.specs.Affine.{AffineMap, Union, image_of, HoldsSome}
use Rattle.az_ast.specs.Certified.{IsInContext}
use Rattle.az_ast.specs.Dependences.{Hits, TermReads, ChoiceReads}
use Rattle.az_ast.specs.Term.{Term, constant, index, access, negation, binary, cases, reduction, Choices, none, choice}
use Rattle.expr_places.specs.Places.{access_to, Place, under_branch, under_reduction, places, places_below}
use Rattle.expr_places.specs.declared.scope.Scope.{Scope}
use Rattle.loop_scan.proofs.Lists.{Contains-first, Contains-rest}
use Rattle.value_walk.specs.Needs.{IsReady, AreReady}

module _ (count : ℕ) (answered : Hits) (asked : ℕ → Union → List ℤ → Type 0) (hits : Hits) where
  -- a read that has an answer
  pub record IsAnswered : Type 0 where
    pub variable : ℕ
    pub params : List ℤ
    pub point : List ℤ
    pub answer : answered variable params point
    pub hit : hits variable params point

  mutual
    pub read-answered : (e : Term) (z : List ℤ) → IsReady count answered asked e z → TermReads count hits e z → IsAnswered
    read-answered (constant c) z r h = absurd h
    read-answered (index row) z r h = absurd h
    read-answered (access x f) z r h = record { variable = x; params = take count z; point = image_of f z; answer = r.2; hit = h }
    read-answered (negation e) z r h = read-answered e z r h
    read-answered (binary op a b) z r h = ⊎_elim (λ l. read-answered a z r.0 l) (λ l. read-answered b z r.1 l) h
    read-answered (cases branches) z r h = branch-answered branches z r h
    read-answered (reduction op extra domain e) z r h = read-answered e (z ++ h.0) (r.4 h.0 h.1) h.2

    branch-answered : (branches : Choices) (z : List ℤ) → AreReady count answered asked branches z → ChoiceReads count hits branches z → IsAnswered
    branch-answered none z r h = absurd h
    branch-answered (choice domain e rest) z r h = ⊎_elim (λ l. read-answered e z (r.1 l.0) l.1) (λ l. branch-answered rest z (r.2 l.0) l.1) h

  -- a read at one of some places
  pub record IsPlaced (listed : List Place) (z : List ℤ) : Type 0 where
    pub variable : ℕ
    pub map : AffineMap
    pub scope : Scope
    pub point : List ℤ
    pub more : List ℤ
    pub here : Contains listed (record { part = access_to variable map; scope = scope })
    pub long : length point ≡ scope.width
    pub in_force : IsInContext scope.domains point
    pub longer : point ≡ z ++ more
    pub hit : hits variable (take count point) (image_of map point)

  among : (some all : List Place) (z : List ℤ) → ((place : Place) → Contains some place → Contains all place) → IsPlaced some z → IsPlaced all z
  among some all z into r = record {
    variable = r.variable;
    map = r.map;
    scope = r.scope;
    point = r.point;
    more = r.more;
    here = into (record { part = access_to r.variable r.map; scope = r.scope }) r.here;
    long = r.long;
    in_force = r.in_force;
    longer = r.longer;
    hit = r.hit;
  }

  -- from a longer point
  shortened : (all : List Place) (z k : List ℤ) → IsPlaced all (z ++ k) → IsPlaced all z
  shortened all z k r = record {
    variable = r.variable;
    map = r.map;
    scope = r.scope;
    point = r.point;
    more = k ++ r.more;
    here = r.here;
    long = r.long;
    in_force = r.in_force;
    longer = r.longer ∙ append_assoc z k r.more;
    hit = r.hit;
  }

  abbrev AreNarrow : List Union → ℕ → Type 0
  AreNarrow context width = AllByRecursion (λ (domain : Union). domain.width ≤ width) context

  narrow-further : (context : List Union) (m n : ℕ) → m ≤ n → AreNarrow context m → AreNarrow context n
  narrow-further [] m n h w = tt
  narrow-further (domain ∷ context) m n h w = (omega (arith, w.0), narrow-further context m n h w.1)

  narrow-push : (context : List Union) (domain : Union) (n : ℕ) → domain.width ≤ n → AreNarrow context n → AreNarrow (context ++ domain ∷ []) n
  narrow-push [] domain n h w = (h, tt)
  narrow-push (first ∷ context) domain n h w = (w.0, narrow-push context domain n h w.1)

  force-further : (context : List Union) (z k : List ℤ) → AreNarrow context (length z) → IsInContext context z → IsInContext context (z ++ k)
  force-further [] z k w h = tt
  force-further (domain ∷ context) z k w h =
      (subst (λ q. HoldsSome domain q) (sym (take-append-le domain.width z k w.0)) h.0, force-further context z k w.1 h.1)

  force-push : (context : List Union) (domain : Union) (z : List ℤ) → domain.width ≡ length z → HoldsSome domain z → IsInContext context z → IsInContext (context ++ domain ∷ []) z
  force-push [] domain z wide held h = (subst (λ q. HoldsSome domain q) (sym (take_all domain.width z (omega (arith, wide)))) held, tt)
  force-push (first ∷ context) domain z wide held h = (h.0, force-push context domain z wide held h.1)

  mutual
    pub read-placed :
        (e : Term) (scope : Scope) (z : List ℤ) → length z ≡ scope.width → AreNarrow scope.domains (length z) → IsInContext scope.domains z →
        IsReady count answered asked e z → TermReads count hits e z → IsPlaced (places e scope) z
    read-placed (constant c) scope z long narrow force r h = absurd h
    read-placed (index row) scope z long narrow force r h = absurd h
    read-placed (access x f) scope z long narrow force r h = record {
      variable = x;
      map = f;
      scope = scope;
      point = z;
      more = [];
      here = Contains-first (record { part = access_to x f; scope = scope }) [];
      long = long;
      in_force = force;
      longer = sym (append-nil z);
      hit = h;
    }
    read-placed (negation e) scope z long narrow force r h = read-placed e scope z long narrow force r h
    read-placed (binary op a b) scope z long narrow force r h = ⊎_elim
        (λ l. among (places a scope) (places a scope ++ places b scope) z (λ place c. Contains-append_left (places a scope) (places b scope) place c) (read-placed a scope z long narrow force r.0 l))
        (λ l. among (places b scope) (places a scope ++ places b scope) z (λ place c. Contains-append_right (places a scope) (places b scope) place c) (read-placed b scope z long narrow force r.1 l)) h
    read-placed (cases branches) scope z long narrow force r h =
        among (places_below branches scope) (places (cases branches) scope) z (λ place c. Contains-rest _ (places_below branches scope) place c) (branch-placed branches scope z long narrow force r h)
    read-placed (reduction op extra domain e) scope z long narrow force r h =
        let k = h.0 in
        let whole : length (z ++ k) ≡ length z + extra = length-append z k ∙ ap (λ q. length z + q) h.1.0 in
        let wide : domain.width ≡ length (z ++ k) = r.1 ∙ sym whole in
        let further = narrow-further scope.domains (length z) (length (z ++ k)) (omega (arith, whole)) narrow in
        among (places e (under_reduction scope domain)) (places (reduction op extra domain e) scope) z (λ place c. Contains-rest _ (places e (under_reduction scope domain)) place c)
        (shortened (places e (under_reduction scope domain)) z k
        (read-placed e (under_reduction scope domain) (z ++ k) (sym wide) (narrow-push scope.domains domain (length (z ++ k)) (omega (arith, wide)) further)
        (force-push scope.domains domain (z ++ k) wide h.1.1 (force-further scope.domains z k narrow force)) (r.4 k h.1) h.2))

    branch-placed :
        (branches : Choices) (scope : Scope) (z : List ℤ) → length z ≡ scope.width → AreNarrow scope.domains (length z) → IsInContext scope.domains z →
        AreReady count answered asked branches z → ChoiceReads count hits branches z → IsPlaced (places_below branches scope) z
    branch-placed none scope z long narrow force r h = absurd h
    branch-placed (choice domain e rest) scope z long narrow force r h =
        let inside = places e (under_branch scope domain) in
        let others = places_below rest scope in
        ⊎_elim
        (λ l. among inside (inside ++ others) z (λ place c. Contains-append_left inside others place c)
        (read-placed e (under_branch scope domain) z long (narrow-push scope.domains domain (length z) (omega (arith, r.0)) narrow) (force-push scope.domains domain z r.0 l.0 force) (r.1 l.0) l.1))
        (λ l. among others (inside ++ others) z (λ place c. Contains-append_right inside others place c) (branch-placed rest scope z long narrow force (r.2 l.0) l.1)) h
