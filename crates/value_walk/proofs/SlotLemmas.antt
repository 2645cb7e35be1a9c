-- Slots and their points, and the states of slots after one is set.
use Rattle.std.proofs.Common.{◌≡◌, ℕ, ◌<◌, List, [], ◌∷◌, ◌++◌, length, Some, sym, ap, subst, ◌∙◌, arith, inl, inr}
use Rattle.std.specs.Prelude.{OnOk, Result, Ok, Err, slice_set, ℤ, slice_index_or, slice_get, unwrap_or, ◌⊎◌, All, Contains}
use Rattle.std.proofs.lemmas.Bool.{cases_lt}
use Rattle.std.proofs.lemmas.List.{get_or_read, get_or_past, get_or-set_same, get_or-set_other, length-set}
use Rattle.std.proofs.lemmas.List.Elements.{All-append, All-cons}
use Rattle.std.proofs.lemmas.Option.{slice_get_within, unwrap_or-slice_get}
use Rattle.value_walk.specs.Inner.Ready.{AreStates, SlotAnswers, SlotReads, MeansIn, IsPending, IsFault, IsBoxRefused, SlotEvaluates}
use Rattle.az_lin.specs.Affine.{Union}
use Rattle.value_walk.specs.Boxes.{IsBoxFault}
use Rattle.value_walk.specs.Inner.Slots.{point_of, IsSlot, States, states_of, state_of, IsKnown, IsMeant}
use Rattle.value_walk.specs.Points.{Points, points_of}
use Rattle.value_walk.specs.Inner.Walks.{IsGood, IsIn, IsDue, IsLinked, IsReadFrom, AreKept, latest, name_of, slot_in, with_state}
use Rattle.value_walk.specs.Meanings.{IsCause, IsRefused}
use Rattle.value_walk.specs.Refusals.{refusal_of}
use Rattle.loop_scan.specs.declared.fault.ScanFault.{ScanFault}
use Rattle.loop_scan.specs.declared.fault.ScanFault.TheVariants.{Overflow, Entry, Limit, Memory}
use Rattle.value_walk.specs.declared.step.Step.{Step}
use Rattle.value_walk.specs.declared.step.Step.TheVariants.{Asked, Begun}
use Rattle.value_walk.specs.declared.scene.Scene.{Scene}
use Rattle.value_walk.specs.declared.slot.Slot.{Slot}
use Rattle.value_walk.specs.declared.slot.State.{State}
use Rattle.value_walk.specs.declared.slot.State.TheVariants.{Unknown, Open, Known}

pub points-read : (points : Points) (x : ℕ) (l : List (List ℤ)) → x < length points → l ≡ slice_index_or points x l → l ≡ points_of points x
points-read points x l h e = get_or_read points x l h e []

-- a variable with a point is one of the list
pub variable-within : (points : Points) (x : ℕ) (k : List ℤ) → Contains (points_of points x) k → x < length points
variable-within points x k (j, h, e) = elim (cases_lt x (length points)) [
  | inl l ↦ l
  | inr g ↦ (let none = ap length (get_or_past points x [] g) in absurd (omega (arith, none, h)))
]

pub within : (points : List (List ℤ)) (place : ℕ) (k : List ℤ) → slice_get points place ≡ Some k → place < length points
within points place k e = slice_get_within points place k e

pub found-point : (points : List (List ℤ)) (place : ℕ) (k : List ℤ) → slice_get points place ≡ Some k → slice_index_or points place [] ≡ k
found-point points place k e = sym (unwrap_or-slice_get points place []) ∙ ap (λ o. unwrap_or o []) e

-- the value of a slot that is known
pub known-means :
    (scene : Scene) (states : States) (slot : Slot) (x : ℕ) (k : List ℤ) (v : ℤ) → AreStates scene states → IsSlot scene.points.now slot → slot.variable ≡ x → point_of scene.points.now slot ≡ k →
    state_of states slot ≡ Known v → MeansIn scene x k v
known-means scene states slot x k v s h ex ek e =
    let meant : IsMeant (λ w. MeansIn scene slot.variable (point_of scene.points.now slot) w) (Known v)
    = subst (λ t. IsMeant (λ w. MeansIn scene slot.variable (point_of scene.points.now slot) w) t) e (s.meant slot h) in
    subst (λ y. MeansIn scene y k v) ex (subst (λ l. MeansIn scene slot.variable l v) ek meant)

pub unsettled : (state : State) → (state ≡ Unknown) ⊎ (state ≡ Open) → IsKnown state → ⊥
unsettled Unknown e k = k
unsettled Open e k = k
unsettled (Known v) e k = elim e [ inl a ↦ cc | inr b ↦ cc ]

pub is_pending :
    (scene : Scene) (states : States) (reader slot : Slot) (x : ℕ) (k : List ℤ) → SlotAnswers scene reader x k → IsSlot scene.points.now slot → slot.variable ≡ x → point_of scene.points.now slot ≡ k →
    (state_of states slot ≡ Unknown) ⊎ (state_of states slot ≡ Open) → IsPending scene reader states slot
is_pending scene states reader slot x k a h ex ek e =
    record {
      listed = h;
      read =
          subst (λ y. SlotReads scene reader y (point_of scene.points.now slot)) (sym ex)
          (subst (λ l. SlotReads scene reader x l) (sym ek) a.read);
      unknown = unsettled (state_of states slot) e;
    }

pub pushed :
    (P : Slot → Type 0) (old new : List Slot) (slot : Slot) → new ≡ old ++ slot ∷ [] → All P old → P slot → All P new
pushed P old new slot e h here = subst (λ l. All P l) (sym e) (All-append P old (slot ∷ []) h (All-cons P slot [] here (λ k d l. absurd (omega arith))))

-- ---- states after one is set

same_or_other : (a b : ℕ) → (a ≡ b) ⊎ (a ≡ b → ⊥)
same_or_other a b = elim (cases_lt a b) [
  | inl l ↦ inr (λ e. omega arith)
  | inr g ↦ elim (cases_lt b a) [ inl l ↦ inr (λ e. omega arith) | inr h ↦ inl (omega arith) ]
]

pub slot_cases : (a b : Slot) → (a ≡ b) ⊎ (a ≡ b → ⊥)
slot_cases a b = elim (same_or_other a.variable b.variable) [
  | inl v ↦ elim (same_or_other a.place b.place) [
    | inl p ↦ inl (λ i. record { variable = v i; place = p i })
    | inr n ↦ inr (λ e. n (ap (λ (s : Slot). s.place) e))
  ]
  | inr n ↦ inr (λ e. n (ap (λ (s : Slot). s.variable) e))
]

module _ (states : States) (slot : Slot) (state : State) (within : slot.place < length (states_of states slot.variable)) where
  variable_within : slot.variable < length states
  variable_within = elim (cases_lt slot.variable (length states)) [
    | inl l ↦ l
    | inr g ↦ (let none = ap length (get_or_past states slot.variable [] g) in absurd (omega (arith, none, within)))
  ]

  own_states : states_of (with_state states slot state) slot.variable ≡ slice_set (states_of states slot.variable) slot.place state
  own_states = get_or-set_same states slot.variable (slice_set (states_of states slot.variable) slot.place state) [] variable_within

  other_states : (x : ℕ) → (x ≡ slot.variable → ⊥) → states_of (with_state states slot state) x ≡ states_of states x
  other_states x n = get_or-set_other states slot.variable x (slice_set (states_of states slot.variable) slot.place state) [] n

  pub state-same : state_of (with_state states slot state) slot ≡ state
  state-same = ap (λ l. slice_index_or l slot.place Unknown) own_states ∙ get_or-set_same (states_of states slot.variable) slot.place state Unknown within

  pub state-other : (other : Slot) → (other ≡ slot → ⊥) → state_of (with_state states slot state) other ≡ state_of states other
  state-other other n = elim (same_or_other other.variable slot.variable) [
    | inl v ↦ (
        let place : other.place ≡ slot.place → ⊥ = λ p. n (λ i. record { variable = v i; place = p i }) in
        ap (λ x. slice_index_or (states_of (with_state states slot state) x) other.place Unknown) v
        ∙ (ap (λ l. slice_index_or l other.place Unknown) own_states
        ∙ (get_or-set_other (states_of states slot.variable) slot.place other.place state Unknown place
        ∙ ap (λ x. slice_index_or (states_of states x) other.place Unknown) (sym v))))
    | inr d ↦ ap (λ l. slice_index_or l other.place Unknown) (other_states other.variable d)
  ]

  pub length-states : (x : ℕ) → length (states_of (with_state states slot state) x) ≡ length (states_of states x)
  length-states x = elim (same_or_other x slot.variable) [
    | inl v ↦ (
        ap (λ y. length (states_of (with_state states slot state) y)) v
        ∙ (ap length own_states ∙ (length-set (states_of states slot.variable) slot.place state ∙ ap (λ y. length (states_of states y)) (sym v))))
    | inr d ↦ ap length (other_states x d)
  ]

-- ---- a value that becomes known

module _ (scene : Scene) (states : States) (slot : Slot) (work : List Step) (v : ℤ) (good : IsGood scene states (Begun slot ∷ work)) where
  listed : IsSlot scene.points.now slot
  listed = good.linked.0

  inside : slot.place < length (states_of states slot.variable)
  inside = let same = good.stated.aligned slot.variable in omega (arith, same, listed)

  abbrev after : States
  after = with_state states slot (Known v)

  pub settled-good : MeansIn scene slot.variable (point_of scene.points.now slot) v → IsGood scene after work
  settled-good means =
      record {
        stated = record {
          points = good.stated.points;
          aligned = λ x. length-states states slot (Known v) inside x ∙ good.stated.aligned x;
          meant = meant;
        };
        linked = good.linked.2;
        open_ones = open_ones;
      }
    where
      meant : (s : Slot) → IsSlot scene.points.now s → IsMeant (λ w. MeansIn scene s.variable (point_of scene.points.now s) w) (state_of after s)
      meant s h = elim (slot_cases s slot) [
        | inl e ↦ subst (λ q. IsMeant (λ w. MeansIn scene q.variable (point_of scene.points.now q) w) (state_of after q)) (sym e)
            (subst (λ t. IsMeant (λ w. MeansIn scene slot.variable (point_of scene.points.now slot) w) t) (sym (state-same states slot (Known v) inside)) means)
        | inr n ↦ subst (λ t. IsMeant (λ w. MeansIn scene s.variable (point_of scene.points.now s) w) t) (sym (state-other states slot (Known v) inside s n)) (good.stated.meant s h)
      ]

      open_ones : (s : Slot) → IsSlot scene.points.now s → state_of after s ≡ Open → IsIn (Begun s) work
      open_ones s h o = elim (slot_cases s slot) [
        | inl e ↦ (let known = state-same states slot (Known v) inside in let here = ap (state_of after) e in cc)
        | inr n ↦ elim (good.open_ones s h (sym (state-other states slot (Known v) inside s n) ∙ o)) [
          | inl e ↦ absurd (n (sym (ap slot_in e)))
          | inr rest ↦ rest
        ]
      ]

  pub settled-kept : AreKept scene states (Begun slot ∷ work) after work
  settled-kept s h due = elim (slot_cases s slot) [
    | inl e ↦ inl (subst (λ q. IsKnown (state_of after q)) (sym e) (subst IsKnown (sym (state-same states slot (Known v) inside)) tt))
    | inr n ↦ elim due [
      | inl known ↦ inl (subst IsKnown (sym (state-other states slot (Known v) inside s n)) known)
      | inr on ↦ elim on [
        | inl asked ↦ elim asked [ inl e ↦ cc | inr rest ↦ inr (inl rest) ]
        | inr begun ↦ elim begun [ inl e ↦ absurd (n (sym (ap slot_in e))) | inr rest ↦ inr (inr rest) ]
      ]
    ]
  ]

-- where nothing waits, any point may be looked at as begun
pub alone-good : (scene : Scene) (states : States) (slot : Slot) → IsSlot scene.points.now slot → IsGood scene states [] → IsGood scene states (Begun slot ∷ [])
alone-good scene states slot h good = record { stated = good.stated; linked = (h, tt, tt); open_ones = λ s l e. absurd (good.open_ones s l e) }

-- ---- what is due stays so where steps are kept
pub due-kept : (states : States) (work more : List Step) (s : Slot) → ((step : Step) → IsIn step work → IsIn step more) → IsDue states work s → IsDue states more s
due-kept states work more s f due = elim due [
  | inl known ↦ inl known
  | inr on ↦ elim on [ inl asked ↦ inr (inl (f (Asked s) asked)) | inr begun ↦ inr (inr (f (Begun s) begun)) ]
]

pub on_ok : {T E P Q : Type 0} (r : Result T E) → (P → Q) → OnOk r P → OnOk r Q
on_ok (Ok x) f h = f h
on_ok (Err e) f h = tt

refused : (scene : Scene) (slot : Slot) (fault : ScanFault) → IsBoxRefused scene slot fault → IsRefused scene.program.now scene.params.now fault
refused scene slot fault f = (f.1, f.2, inr (slot.variable, point_of scene.points.now slot, f.0, f.3), f.4)

-- the refusal of a box is a cause of the walk's
pub fault-cause : (scene : Scene) (slot : Slot) (fault : ScanFault) → IsFault scene slot fault → IsCause scene.program.now scene.params.now (refusal_of fault)
fault-cause scene slot Overflow f = refused scene slot Overflow f
fault-cause scene slot Entry f = refused scene slot Entry f
fault-cause scene slot (Limit limit) f = refused scene slot (Limit limit) f
fault-cause scene slot Memory f = tt

pub asked-linked :
    (scene : Scene) (states : States) (reader slot : Slot) (work : List Step) → IsPending scene reader states slot → latest work ≡ Some reader → IsLinked scene work → IsLinked scene (Asked slot ∷ work)
asked-linked scene states reader slot work pending e linked = (pending.listed, subst (λ o. IsReadFrom scene o (name_of scene slot)) (sym e) pending.read, linked)

-- the refusal of a reduction's box
pub box-fault : (scene : Scene) (slot : Slot) (extra : ℕ) (domain : Union) (outer : List ℤ) (fault : ScanFault) → SlotEvaluates scene slot extra domain outer → IsBoxFault domain outer fault → IsFault scene slot fault
box-fault scene slot extra domain outer Overflow e f = (extra, domain, outer, e, f)
box-fault scene slot extra domain outer Entry e f = (extra, domain, outer, e, f)
box-fault scene slot extra domain outer (Limit limit) e f = (extra, domain, outer, e, f)
box-fault scene slot extra domain outer Memory e f = tt
