-- The law of a choice that the next token decides: it is in the set exactly where the first member may
-- begin, and the first member isn't empty.
use Rattle.std.proofs.Common.{◌≡◌, ℕ, ◌+◌, ◌<◌, ◌≤◌, Bool, true, false, if◌then◌else◌, List, [], ◌∷◌, ◌++◌, ◌⊎◌, inl, inr, Some, None, arith, refl, ◌∙◌}
use Rattle.grammar_rules.specs.Rules.{Rule, choice, optional}
use Rattle.grammar_rules.specs.Readers.{Answer, Reader, sees, read_choice, read_optional}
use Rattle.grammar_rules.specs.Readers.Answer.{got, wrong, large}
use Rattle.grammar_rules.specs.Exactness.{Shape, HasShape, Exact, Says, LeavesAtMost, BeginsIn, is_subset, is_disjoint, choice_shape, nothing_shape}
use Rattle.grammar_rules.proofs.LookAhead.{append-has_left, append-has_right, has_disjoint, not_seen, not_seen_after, seen, sees_left, sees_right}
use Rattle.grammar_rules.proofs.Leaves.{leaves_all, leaves_as}
use Rattle.grammar_rules.proofs.Mapped.{mapped_exact}
use Rattle.grammar_rules.proofs.Token.{nothing_exact}

says_left : {T A : Type 0} (p q : Rule T A) (b : ℕ) (ts : List T) (answer : Answer T A) → Says p b ts answer → Says (choice p q) b ts answer
says_left p q b ts (got a rest remaining) says = (says.0, says.1, says.2, says.3, inl says.4)
says_left p q b ts (wrong remaining) says = (says.0, says.1, says.2, says.3, says.4, inl says.5, says.6)
says_left p q b ts large says = (says.0, says.1, says.2, says.3, says.4, inl says.5)

says_right : {T A : Type 0} (p q : Rule T A) (b : ℕ) (ts : List T) (answer : Answer T A) → Says q b ts answer → Says (choice p q) b ts answer
says_right p q b ts (got a rest remaining) says = (says.0, says.1, says.2, says.3, inr says.4)
says_right p q b ts (wrong remaining) says = (says.0, says.1, says.2, says.3, says.4, inr says.5, says.6)
says_right p q b ts large says = (says.0, says.1, says.2, says.3, says.4, inr says.5)

choice_says : {T A : Type 0} (class : T → ℕ) (set : List ℕ) (p q : Rule T A) (first second : Reader T A) (b : ℕ) (ts : List T)
    → Says p b ts (first b ts) → Says q b ts (second b ts) → Says (choice p q) b ts (read_choice class set first second b ts)
choice_says class set p q first second b ts says says' =
    elim (sees class set ts) as (λ x. Says (choice p q) b ts (if x then first b ts else second b ts)) [ true ↦ says_left p q b ts (first b ts) says | false ↦ says_right p q b ts (second b ts) says' ]

begins_first : {T : Type 0} (class : T → ℕ) (first second : List ℕ) (e e' : Bool) (us : List T) → e ≡ false → BeginsIn class first e us → BeginsIn class (first ++ second) e' us
begins_first class first second e e' [] never begins = absurd (cc)
begins_first class first second e e' (u ∷ us) never begins = append-has_left first second (class u) begins

begins_second : {T : Type 0} (class : T → ℕ) (first second : List ℕ) (e : Bool) (us : List T) → BeginsIn class second e us → BeginsIn class (first ++ second) e us
begins_second class first second e [] begins = begins
begins_second class first second e (u ∷ us) begins = append-has_right first second (class u) begins

begins_front_first : {T : Type 0} (class : T → ℕ) (first second : List ℕ) (us : List T) → BeginsIn class first true us → BeginsIn class (first ++ second) true us
begins_front_first class first second [] begins = refl
begins_front_first class first second (u ∷ us) begins = append-has_left first second (class u) begins

begins_full : {T : Type 0} (class : T → ℕ) (first : List ℕ) (e : Bool) (us : List T) → e ≡ false → BeginsIn class first e us → BeginsIn class first false us
begins_full class first e [] never begins = absurd (cc)
begins_full class first e (u ∷ us) never begins = begins

pub choice_shaped : {T A : Type 0} {class : T → ℕ} {one two : Shape} {p q : Rule T A} (set : List ℕ) → HasShape class one p → HasShape class two q → one.empty ≡ false → HasShape class (choice_shape set one two) (choice p q)
choice_shaped {class = class} {one = one} {two = two} {p = p} {q = q} set first second never = record {
  begins = λ us w a takes. elim takes [
    | inl t ↦ begins_first class one.first two.first one.empty two.empty us never (first.begins us w a t)
    | inr t ↦ begins_second class one.first two.first two.empty us (second.begins us w a t)
  ];
  begins_front = λ us w front. elim front [
    | inl t ↦ begins_front_first class one.first two.first us (first.begins_front us w t)
    | inr t ↦ begins_second class one.first two.first true us (second.begins_front us w t)
  ];
  light = λ us w front. elim front [ inl t ↦ first.light us w t | inr t ↦ second.light us w t ];
  empty_front = inl first.empty_front;
  whole_front = λ us w a takes. elim takes [ inl t ↦ inl (first.whole_front us w a t) | inr t ↦ inr (second.whole_front us w a t) ];
}

-- the heads under which a choice is read
pub record Members {T A : Type 0} (class : T → ℕ) (set : List ℕ) (one two : Shape) (depth : ℕ) (sure p sure' q : Rule T A) (first second : Reader T A) : Type 0 where
  pub exact : Exact class one depth sure p first
  pub exact' : Exact class two depth sure' q second
  pub filled : one.empty ≡ false
  pub inside : is_subset one.first set ≡ true
  pub apart : is_disjoint two.first set ≡ true

takes_first : {T A : Type 0} (class : T → ℕ) (set : List ℕ) (first second : Reader T A) (b : ℕ) (ts : List T) → sees class set ts ≡ true → read_choice class set first second b ts ≡ first b ts
takes_first class set first second b ts is = rw is refl

takes_second : {T A : Type 0} (class : T → ℕ) (set : List ℕ) (first second : Reader T A) (b : ℕ) (ts : List T) → sees class set ts ≡ false → read_choice class set first second b ts ≡ second b ts
takes_second class set first second b ts is = rw is refl

choice_gets : {T A : Type 0} (class : T → ℕ) (set : List ℕ) (one two : Shape) (depth : ℕ) (sure p sure' q : Rule T A) (first second : Reader T A) → Members class set one two depth sure p sure' q first second
    → (b : ℕ) (us rest : List T) (w : ℕ) (a : A) → w + b < depth → p.takes us w a ⊎ q.takes us w a → sees class (choice_shape set one two).more rest ≡ false
    → read_choice class set first second (w + b) (us ++ rest) ≡ got a rest b
choice_gets class set one two depth sure p sure' q first second m b us rest w a in_depth (inl t) unseen =
    takes_first class set first second (w + b) (us ++ rest) (seen class one.first set us rest (begins_full class one.first one.empty us m.filled (m.exact.shaped.begins us w a t)) m.inside)
    ∙ m.exact.gets b us rest w a in_depth t (sees_left class one.more two.more rest (not_seen_after class set (one.more ++ two.more) two.empty rest unseen))
choice_gets class set one two depth sure p sure' q first second m b us rest w a in_depth (inr t) unseen =
    takes_second class set first second (w + b) (us ++ rest) (not_seen class two.first set (one.more ++ two.more) two.empty us rest (m.exact'.shaped.begins us w a t) m.apart unseen)
    ∙ m.exact'.gets b us rest w a in_depth t (sees_right class one.more two.more rest (not_seen_after class set (one.more ++ two.more) two.empty rest unseen))

choice_reaches : {T A : Type 0} (class : T → ℕ) (set : List ℕ) (one two : Shape) (depth : ℕ) (sure p sure' q : Rule T A) (first second : Reader T A) → Members class set one two depth sure p sure' q first second
    → (b : ℕ) (us rest : List T) (w : ℕ) → b < depth → p.front us w ⊎ q.front us w → w ≤ b
    → LeavesAtMost rest (read_choice class set first second b (us ++ rest))
choice_reaches class set one two depth sure p sure' q first second m b [] rest w in_depth front fits =
    leaves_all (choice sure sure') b rest (read_choice class set first second b rest) (choice_says class set sure sure' first second b rest (m.exact.says b rest) (m.exact'.says b rest))
choice_reaches class set one two depth sure p sure' q first second m b (u ∷ us) rest w in_depth (inl t) fits =
    leaves_as rest _ _ (takes_first class set first second b (u ∷ (us ++ rest)) (seen class one.first set (u ∷ us) rest (m.exact.shaped.begins_front (u ∷ us) w t) m.inside))
    (m.exact.reaches b (u ∷ us) rest w in_depth t fits)
choice_reaches class set one two depth sure p sure' q first second m b (u ∷ us) rest w in_depth (inr t) fits =
    leaves_as rest _ _ (takes_second class set first second b (u ∷ (us ++ rest)) (has_disjoint two.first set (class u) m.apart (m.exact'.shaped.begins_front (u ∷ us) w t)))
    (m.exact'.reaches b (u ∷ us) rest w in_depth t fits)

choice_exceeds : {T A : Type 0} (class : T → ℕ) (set : List ℕ) (one two : Shape) (depth : ℕ) (sure p sure' q : Rule T A) (first second : Reader T A) → Members class set one two depth sure p sure' q first second
    → (b : ℕ) (us rest : List T) (w : ℕ) → b < depth → p.front us w ⊎ q.front us w → b < w
    → read_choice class set first second b (us ++ rest) ≡ large
choice_exceeds class set one two depth sure p sure' q first second m b [] rest w in_depth (inl t) over = let none : w ≡ 0 = m.exact.shaped.light [] w t in absurd (omega arith)
choice_exceeds class set one two depth sure p sure' q first second m b [] rest w in_depth (inr t) over = let none : w ≡ 0 = m.exact'.shaped.light [] w t in absurd (omega arith)
choice_exceeds class set one two depth sure p sure' q first second m b (u ∷ us) rest w in_depth (inl t) over =
    takes_first class set first second b (u ∷ (us ++ rest)) (seen class one.first set (u ∷ us) rest (m.exact.shaped.begins_front (u ∷ us) w t) m.inside)
    ∙ m.exact.exceeds b (u ∷ us) rest w in_depth t over
choice_exceeds class set one two depth sure p sure' q first second m b (u ∷ us) rest w in_depth (inr t) over =
    takes_second class set first second b (u ∷ (us ++ rest)) (has_disjoint two.first set (class u) m.apart (m.exact'.shaped.begins_front (u ∷ us) w t))
    ∙ m.exact'.exceeds b (u ∷ us) rest w in_depth t over

choice_exact_of : {T A : Type 0} (class : T → ℕ) (set : List ℕ) (one two : Shape) (depth : ℕ) (sure p sure' q : Rule T A) (first second : Reader T A) → Members class set one two depth sure p sure' q first second
    → Exact class (choice_shape set one two) depth (choice sure sure') (choice p q) (read_choice class set first second)
choice_exact_of class set one two depth sure p sure' q first second m = record {
  says = λ b ts. choice_says class set sure sure' first second b ts (m.exact.says b ts) (m.exact'.says b ts);
  gets = choice_gets class set one two depth sure p sure' q first second m;
  reaches = choice_reaches class set one two depth sure p sure' q first second m;
  exceeds = choice_exceeds class set one two depth sure p sure' q first second m;
  sure_shape = choice_shaped set m.exact.sure_shape m.exact'.sure_shape m.filled;
  shaped = choice_shaped set m.exact.shaped m.exact'.shaped m.filled;
}

-- A choice of two members.
pub choice_exact : {T A : Type 0} {class : T → ℕ} {one two : Shape} {depth : ℕ} {sure p sure' q : Rule T A} {first second : Reader T A} (set : List ℕ)
    → Exact class one depth sure p first → Exact class two depth sure' q second
    → one.empty ≡ false → is_subset one.first set ≡ true → is_disjoint two.first set ≡ true
    → Exact class (choice_shape set one two) depth (choice sure sure') (choice p q) (read_choice class set first second)
choice_exact {class = class} {one = one} {two = two} {depth = depth} {sure = sure} {p = p} {sure' = sure'} {q = q} {first = first} {second = second} set exact exact' filled inside apart =
    choice_exact_of class set one two depth sure p sure' q first second (record { exact = exact; exact' = exact'; filled = filled; inside = inside; apart = apart })

-- An optional part.
pub optional_exact : {T A : Type 0} {class : T → ℕ} {one : Shape} {depth : ℕ} {sure p : Rule T A} {reader : Reader T A} (set : List ℕ)
    → Exact class one depth sure p reader → one.empty ≡ false → is_subset one.first set ≡ true
    → Exact class (choice_shape set one nothing_shape) depth (optional sure) (optional p) (read_optional class set reader)
optional_exact {class = class} {depth = depth} set exact filled inside = choice_exact set (mapped_exact Some exact) (nothing_exact class None depth) filled inside refl
