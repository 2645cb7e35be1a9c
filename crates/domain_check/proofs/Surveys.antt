-- What is told of several parts together, and the judgement on a program.
use Rattle.std.proofs.Common.{◌≡◌, ℕ, ◌+◌, ◌<◌, List, [], ◌∷◌, ◌++◌, length, map, take, get_or, All, Bool, true, false, ◌||◌, Result, Ok, Err, refl, sym, ap, subst, ◌∙◌, inl, inr}
use Rattle.std.specs.List.{flat_map}
use Rattle.std.proofs.lemmas.List.{map-append}
use Rattle.std.proofs.lemmas.List.Elements.{All-nil, All-cons, All-head, All-append}
use Rattle.az_ast.specs.Shapes.{IsProgram}
use Rattle.az_ast.specs.System.{System}
use Rattle.az_lin.proofs.Lists.{All-left, All-right}
use Rattle.domain_check.specs.Cases.{all_series}
use Rattle.domain_check.specs.Stops.{IsDecidable}
use Rattle.domain_check.specs.Promise.{Refuses}
use Rattle.domain_check.specs.Inner.Ready.{IsReadyProgram}
use Rattle.domain_check.specs.Inner.Walked.{TellsMany, DecidesAll, Judges}
use Rattle.domain_check.specs.declared.fault.CertifyFault.{CertifyFault}
use Rattle.domain_check.specs.declared.fault.CertifyFault.TheVariants.{No, Overflow, Entry, Limit, Memory}
use Rattle.domain_check.proofs.Certified.{refuted_certified}
use Rattle.domain_check.proofs.Grown.{taken_next, flat_next}

tells_both : (P Q R : Type 0) (a b : Bool) → (R → P × Q) → (P → Q → R) → TellsMany P a → TellsMany Q b → TellsMany R (a || b)
tells_both P Q R true b split join h k = λ r. h (split r).0
tells_both P Q R false true split join h k = λ r. k (split r).1
tells_both P Q R false false split join h k = join h k

all_split : {A : Type 0} (P : A → Type 0) (xs ys zs : List A) → zs ≡ xs ++ ys → All P zs → All P xs × All P ys
all_split P xs ys zs is all =
    let Q : List _ → Type 0 = λ l. All P l in
    let both = subst Q is all in
    (All-left P xs ys both, All-right P xs ys both)

all_joined : {A : Type 0} (P : A → Type 0) (xs ys zs : List A) → zs ≡ xs ++ ys → All P xs → All P ys → All P zs
all_joined P xs ys zs is first second = let Q : List _ → Type 0 = λ l. All P l in subst Q (sym is) (All-append P xs ys first second)

mapped_next : {A B : Type 0} (h : A → B) (items : List A) (i : ℕ) (x : A) → i < length items → x ≡ get_or items i x → map h (take (i + 1) items) ≡ map h (take i items) ++ h x ∷ []
mapped_next h items i x here is = ap (map h) (taken_next items i x here is) ∙ map-append h (take i items) (x ∷ [])

module _ {A B : Type 0} (P : B → Type 0) (h : A → B) (items : List A) (i : ℕ) (x : A) (here : i < length items) (is : x ≡ get_or items i x) where
  pub all_more : All P (map h (take i items)) → P (h x) → All P (map h (take (i + 1) items))
  all_more all one = all_joined P (map h (take i items)) (h x ∷ []) (map h (take (i + 1) items)) (mapped_next h items i x here is) all (All-cons P (h x) [] one (All-nil P))

  pub tells_more : (many one : Bool) → TellsMany (All P (map h (take i items))) many → TellsMany (P (h x)) one → TellsMany (All P (map h (take (i + 1) items))) (many || one)
  tells_more many one =
      tells_both (All P (map h (take i items))) (P (h x)) (All P (map h (take (i + 1) items))) many one
      (λ all. let both = all_split P (map h (take i items)) (h x ∷ []) (map h (take (i + 1) items)) (mapped_next h items i x here is) all in (both.0, All-head P (h x) [] both.1)) all_more

module _ {A B : Type 0} (P : B → Type 0) (f : A → List B) (items : List A) (i : ℕ) (x : A) (here : i < length items) (is : x ≡ get_or items i x) where
  pub flat_all_more : All P (flat_map f (take i items)) → All P (f x) → All P (flat_map f (take (i + 1) items))
  flat_all_more = all_joined P (flat_map f (take i items)) (f x) (flat_map f (take (i + 1) items)) (flat_next f items i x here is)

  pub flat_tells_more : (many one : Bool) → TellsMany (All P (flat_map f (take i items))) many → TellsMany (All P (f x)) one → TellsMany (All P (flat_map f (take (i + 1) items))) (many || one)
  flat_tells_more many one =
      tells_both (All P (flat_map f (take i items))) (All P (f x)) (All P (flat_map f (take (i + 1) items))) many one
      (all_split P (flat_map f (take i items)) (f x) (flat_map f (take (i + 1) items)) (flat_next f items i x here is)) flat_all_more

-- what deciding all cases comes to
pub judged : (p : System) → IsProgram p → IsReadyProgram p → IsDecidable p → (r : Result (Unit {0}) CertifyFault) → DecidesAll (all_series p) r → Judges p r
judged p program ready decidable (Ok done) h = (record { decidable = decidable; refuted = h }, refuted_certified p program.placed.bodies ready.places h)
judged p program ready decidable (Err (No found)) h = (decidable, h)
judged p program ready decidable (Err (Overflow kind variable number)) h = (decidable, h)
judged p program ready decidable (Err (Limit limit)) h = inr (h.0, decidable, h.1)
judged p program ready decidable (Err Entry) h = absurd h
judged p program ready decidable (Err Memory) h = tt
