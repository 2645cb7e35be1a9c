-- What is counted goes over from the parts of an expression to the whole, and from the items of a list to the list.
use Rattle.std.proofs.Common.{◌≡◌, ℕ, ◌+◌, ◌-◌, ◌<◌, ◌≤◌, List, [], ◌∷◌, ◌++◌, length, take, get_or, refl, sym, subst, ap, ◌∙◌, arith, inl, inr, ⊎_elim}
use Rattle.std.specs.Prelude.{ℤ, Contains, ◌⊎◌, Result, Ok, Err}
use Rattle.std.specs.List.{AllZip, sum}
use Rattle.std.proofs.lemmas.List.{take_more, take_all}
use Rattle.az_lin.specs.Affine.{Union, HoldsSome}
use Rattle.az_ast.specs.Dependences.{EvaluatesBranch}
use Rattle.az_ast.specs.Term.{Term, Choices, choice}
use Rattle.loop_scan.specs.declared.fault.ScanFault.{ScanFault}
use Rattle.loop_scan.specs.declared.fault.ScanFault.TheVariants.{Overflow, Entry, Limit, Memory}
use Rattle.loop_scan.proofs.Lists.{AllZip-push}
use Rattle.value_walk.specs.Boxes.{UnlessMemory}
use Rattle.value_walk.specs.Chains.{IsReduction}
use Rattle.equation_meaning.specs.Counts.{TermCounts, ChoiceCounts}
use Rattle.equation_meaning.specs.declared.body_count.CountFault.{CountFault}
use Rattle.equation_meaning.specs.declared.body_count.CountFault.TheVariants.{Many, Scan}
use Rattle.equation_meaning.specs.Inner.Counting.{Met, IsCounted, SomeRefused, CountFails, CountAnswers, Evaluated, TermAnswers, ChoiceAnswers}
use Rattle.equation_meaning.proofs.Sums.{sum-none, sum-push, sum-above, Contains-push_cases}

unless-more : (P Q : ScanFault → Type 0) → ((fault : ScanFault) → P fault → Q fault) → (fault : ScanFault) → UnlessMemory P fault → UnlessMemory Q fault
unless-more P Q f Overflow h = f Overflow h
unless-more P Q f Entry h = f Entry h
unless-more P Q f (Limit limit) h = f (Limit limit) h
unless-more P Q f Memory h = tt

-- a refused box of a part
pub refused-more :
    (A B : ℕ → Type 0) (E F : Met) → ((x : ℕ) (d : Union) (o : List ℤ) → E x d o → F x d o) → (fault : ScanFault) → UnlessMemory (SomeRefused A E) fault → UnlessMemory (SomeRefused B F) fault
refused-more A B E F up fault h = unless-more (SomeRefused A E) (SomeRefused B F) (λ f r. (r.0, r.1, r.2, up r.0 r.1 r.2 r.3, r.4)) fault h

-- what counts and meets the same
module _ (A B : ℕ → Type 0) (E F : Met) (to : (n : ℕ) → A n → B n) (back : (n : ℕ) → B n → A n) (up : (x : ℕ) (d : Union) (o : List ℤ) → E x d o → F x d o) (down : (x : ℕ) (d : Union) (o : List ℤ) → F x d o → E x d o) where
  pub carried : (left : ℕ) (result : Result ℕ CountFault) → CountAnswers A E left result → CountAnswers B F left result
  carried left (Ok n) h = record { counts = to n h.counts; few = h.few; boxes = λ x d o m. h.boxes x d o (down x d o m) }
  carried left (Err Many) h = λ n b. h n (back n b)
  carried left (Err (Scan fault)) h = refused-more A B E F up fault h

-- one after the other
module _ (A B : ℕ → Type 0) (E F : Met) where
  abbrev pub Both : ℕ → Type 0
  Both n = (i : ℕ) × (j : ℕ) × A i × B j × (n ≡ i + j)

  abbrev pub Either : Met
  Either x d o = E x d o ⊎ F x d o

  pub both-counted : (left i j : ℕ) → IsCounted A E left i → IsCounted B F (left - i) j → IsCounted Both Either left (i + j)
  both-counted left i j h g =
      record { counts = (i, j, h.counts, g.counts, refl); few = omega (arith, h.few, g.few); boxes = λ x d o m. ⊎_elim (λ e. h.boxes x d o e) (λ f. g.boxes x d o f) m }

  pub first-fails : (left : ℕ) (fault : CountFault) → CountFails A E left fault → CountFails Both Either left fault
  first-fails left Many h = λ n b. let l = h b.0 b.2 in omega (arith, l, b.4)
  first-fails left (Scan fault) h = refused-more A Both E Either (λ x d o e. inl e) fault h

  pub second-fails :
      ((i j : ℕ) → A i → A j → i ≡ j) → (left i : ℕ) (fault : CountFault) → IsCounted A E left i → CountFails B F (left - i) fault → CountFails Both Either left fault
  second-fails once left i Many h g = λ n b. let same = once b.0 i b.2 h.counts in let l = g b.1 b.3 in omega (arith, same, l, b.4, h.few)
  second-fails once left i (Scan fault) h g = refused-more B Both F Either (λ x d o f. inr f) fault g

-- the first of some branches, and the others
module _ (domain : Union) (e : Term) (rest : Choices) (z : List ℤ) (left : ℕ) (result : Result ℕ CountFault) where
  pub chosen : HoldsSome domain z → TermAnswers e z left result → ChoiceAnswers (choice domain e rest) z left result
  chosen h a = carried (λ n. TermCounts e z n) (λ n. ChoiceCounts (choice domain e rest) z n) (Evaluated e z) (λ x d o. EvaluatesBranch (IsReduction x d o) (choice domain e rest) z)
      (λ n c. inl (h, c)) (λ n c. ⊎_elim (λ p. p.1) (λ q. absurd (q.0 h)) c) (λ x d o m. inl (h, m)) (λ x d o m. ⊎_elim (λ p. p.1) (λ q. absurd (q.0 h)) m) left result a

  pub passed : (HoldsSome domain z → ⊥) → ChoiceAnswers rest z left result → ChoiceAnswers (choice domain e rest) z left result
  passed out a =
      carried (λ n. ChoiceCounts rest z n) (λ n. ChoiceCounts (choice domain e rest) z n) (λ x d o. EvaluatesBranch (IsReduction x d o) rest z) (λ x d o. EvaluatesBranch (IsReduction x d o) (choice domain e rest) z)
      (λ n c. inr (out, c)) (λ n c. ⊎_elim (λ p. absurd (out p.0)) (λ q. q.1) c) (λ x d o m. inr (out, m)) (λ x d o m. ⊎_elim (λ p. absurd (out p.0)) (λ q. q.1) m) left result a

-- item by item
module _ {A : Type 0} (P : A → ℕ → Type 0) (M : A → Met) (base : ℕ) where
  abbrev pub Parts : List A → ℕ → Type 0
  Parts points n = (counts : List ℕ) × AllZip P points counts × (n ≡ base + sum counts)

  abbrev pub MetIn : List A → Met
  MetIn points x d o = (a : A) × Contains points a × M a x d o

  module _ (points : List A) (left count : ℕ) (i : ℕ) (a : A) (within : i < length points) (found : a ≡ get_or points i a) (before : IsCounted (Parts (take i points)) (MetIn (take i points)) left count) where
    next : take (i + 1) points ≡ take i points ++ a ∷ []
    next = take_more points i a within ∙ ap (λ q. take i points ++ q ∷ []) (sym found)

    pub step-counted : (n : ℕ) → IsCounted (P a) (M a) (left - count) n → IsCounted (Parts (take (i + 1) points)) (MetIn (take (i + 1) points)) left (count + n)
    step-counted n h = subst (λ ps. IsCounted (Parts ps) (MetIn ps) left (count + n)) (sym next)
        (record {
          counts = (
            before.counts.0 ++ n ∷ [],
            AllZip-push P (take i points) before.counts.0 a n before.counts.1 h.counts,
            (let more = sum-push before.counts.0 n in omega (arith, more, before.counts.2)),
          );
          few = omega (arith, before.few, h.few);
          boxes = λ x d o m. ⊎_elim (λ c. before.boxes x d o (m.0, c, m.2)) (λ e. h.boxes x d o (subst (λ q. M q x d o) e m.2)) (Contains-push_cases (take i points) a m.0 m.1);
        })

    pub step-fails :
        ((a : A) (m n : ℕ) → P a m → P a n → m ≡ n) → (fault : CountFault) → CountFails (P a) (M a) (left - count) fault → CountFails (Parts points) (MetIn points) left fault
    step-fails once Many h = λ n b.
        let above = sum-above P once points i a before.counts.0 b.0 (left - count) within before.counts.1 b.1 (λ m p. h m (subst (λ q. P q m) (sym found) p)) in
        omega (arith, above, before.counts.2, before.few, b.2)
    step-fails once (Scan fault) h = refused-more (P a) (Parts points) (M a) (MetIn points) (λ x d o m. (a, (i, within, sym found), m)) fault h

  pub parts-counted : (points : List A) (left count i : ℕ) → length points ≤ i → IsCounted (Parts (take i points)) (MetIn (take i points)) left count → IsCounted (Parts points) (MetIn points) left count
  parts-counted points left count i h c = subst (λ ps. IsCounted (Parts ps) (MetIn ps) left count) (take_all i points h) c

  pub none-counted : (points : List A) (left n : ℕ) → n ≡ base → n ≤ left → IsCounted (Parts (take 0 points)) (MetIn (take 0 points)) left n
  none-counted points left n e h = record { counts = ([], tt, (let empty = sum-none in omega (arith, e, empty))); few = h; boxes = λ x d o m. absurd (let l = m.1.1 in omega (arith, l)) }
