-- A mapping is certified exactly if all its formulas are false at all whole points.
use Rattle.std.proofs.Common.{◌≡◌, ◌↔◌, ℕ, suc, ◌+◌, ℤ, List, [], ◌∷◌, ◌++◌, length, map, All}
use Rattle.std.specs.List.{flat_map}
use Rattle.std.proofs.lemmas.List.Elements.{All-nil, All-cons, All-head, All-tail, All-append}
use Rattle.az_lin.proofs.Lists.{All-left, All-right}
use Rattle.az_ast.specs.Shapes.{IsProgram}
use Rattle.az_ast.specs.System.{System}
use Rattle.az_ast.specs.declared.program.Equation.{Equation}
use Rattle.expr_places.specs.Reads.{ReadPlace, reads_of}
use Rattle.formula_refute.specs.Claims.{IsTrueAt}
use Rattle.target_map.specs.Dependence.{ReadsTooEarly}
use Rattle.target_map.specs.Lifetime.{IsStoredOver, IsOutputLost}
use Rattle.target_map.specs.Promise.{Never, IsRespected, IsKept, IsOutputKept, IsCertifiedMap}
use Rattle.target_map.specs.Settings.{TargetMapping, IsMapping, IsComplete}
use Rattle.target_map.specs.Storage.{writers_of}
use Rattle.target_map.specs.Times.{domain_of, indices_of, outputs_of}
use Rattle.order_sets.specs.Orders.{StatedClaim, order_claim, order_of, orders_from, dependences}
use Rattle.order_sets.proofs.Meaning.{order_is_meant}
use Rattle.life_sets.specs.Laws.{IsLifeMeant, IsKeepMeant, IsFalse, CertifiedByFormulas}
use Rattle.life_sets.specs.Lifetimes.{life_of, keep_of, lives_from, lifetimes}
use Rattle.life_sets.proofs.Meaning.{life_is_meant}

-- what is made of each item of a list
module _ {A B : Type 0} (P Q : A → Type 0) (R : B → Type 0) where
  pub mapped : (f : A → B) (xs : List A) → ((x : A) → P x → Q x → R (f x)) → All P xs → All Q xs → All R (map f xs)
  mapped f [] each first second = All-nil R
  mapped f (x ∷ xs) each first second =
      All-cons R (f x) (map f xs) (each x (All-head P x xs first) (All-head Q x xs second)) (mapped f xs each (All-tail P x xs first) (All-tail Q x xs second))

  pub unmapped : (f : A → B) (xs : List A) → ((x : A) → P x → R (f x) → Q x) → All P xs → All R (map f xs) → All Q xs
  unmapped f [] each first made = All-nil Q
  unmapped f (x ∷ xs) each first made =
      All-cons Q x xs (each x (All-head P x xs first) (All-head R (f x) (map f xs) made)) (unmapped f xs each (All-tail P x xs first) (All-tail R (f x) (map f xs) made))

  pub flattened : (f : A → List B) (xs : List A) → ((x : A) → P x → Q x → All R (f x)) → All P xs → All Q xs → All R (flat_map f xs)
  flattened f [] each first second = All-nil R
  flattened f (x ∷ xs) each first second =
      All-append R (f x) (flat_map f xs) (each x (All-head P x xs first) (All-head Q x xs second)) (flattened f xs each (All-tail P x xs first) (All-tail Q x xs second))

  pub unflattened : (f : A → List B) (xs : List A) → ((x : A) → P x → All R (f x) → Q x) → All P xs → All R (flat_map f xs) → All Q xs
  unflattened f [] each first made = All-nil Q
  unflattened f (x ∷ xs) each first made =
      All-cons Q x xs (each x (All-head P x xs first) (All-left R (f x) (flat_map f xs) made))
      (unflattened f xs each (All-tail P x xs first) (All-right R (f x) (flat_map f xs) made))

module _ (p : System) (m : TargetMapping) where
  abbrev IsOrderMeant : ℕ → ReadPlace → Type 0
  IsOrderMeant x read = (z : List ℤ) → length z ≡ read.scope.width → IsTrueAt z (order_claim p m x read) ↔ ReadsTooEarly p m x read z

  abbrev AreLivesMeant : ℕ → ReadPlace → Type 0
  AreLivesMeant x read = All (IsLifeMeant p m x read) (writers_of p m read.variable)

  abbrev IsKeptBeside : ℕ → ReadPlace → ℕ → Type 0
  IsKeptBeside x read y = Never (read.scope.width + indices_of p y) (IsStoredOver p m x read y)

  abbrev IsOutputKeptBeside : ℕ → ℕ → Type 0
  IsOutputKeptBeside x y = Never ((domain_of p x).width + indices_of p y) (IsOutputLost p m x y)

  -- the reads of one equation, numbered
  orders_to : (x number : ℕ) (reads : List ReadPlace) → All (IsOrderMeant x) reads → All (IsRespected p m x) reads → All IsFalse (orders_from p m x number reads)
  orders_to x number [] meant never = All-nil IsFalse
  orders_to x number (read ∷ reads) meant never =
      All-cons IsFalse (order_of p m x number read) (orders_from p m x (suc number) reads)
      (λ z long holds. All-head (IsRespected p m x) read reads never z long ((All-head (IsOrderMeant x) read reads meant z long).0 holds))
      (orders_to x (suc number) reads (All-tail (IsOrderMeant x) read reads meant) (All-tail (IsRespected p m x) read reads never))

  orders_back : (x number : ℕ) (reads : List ReadPlace) → All (IsOrderMeant x) reads → All IsFalse (orders_from p m x number reads) → All (IsRespected p m x) reads
  orders_back x number [] meant none_true = All-nil (IsRespected p m x)
  orders_back x number (read ∷ reads) meant none_true =
      let here = order_of p m x number read in
      let rest = orders_from p m x (suc number) reads in
      All-cons (IsRespected p m x) read reads
      (λ z long fails. All-head IsFalse here rest none_true z long ((All-head (IsOrderMeant x) read reads meant z long).1 fails))
      (orders_back x (suc number) reads (All-tail (IsOrderMeant x) read reads meant) (All-tail IsFalse here rest none_true))

  lives_to : (x number : ℕ) (reads : List ReadPlace) → All (AreLivesMeant x) reads → All (IsKept p m x) reads → All IsFalse (lives_from p m x number reads)
  lives_to x number [] meant never = All-nil IsFalse
  lives_to x number (read ∷ reads) meant never =
      All-append IsFalse (map (life_of p m x number read) (writers_of p m read.variable)) (lives_from p m x (suc number) reads)
      (mapped (IsLifeMeant p m x read) (IsKeptBeside x read) IsFalse (life_of p m x number read) (writers_of p m read.variable) (λ y law kept z long holds. kept z long ((law z long).0 holds))
      (All-head (AreLivesMeant x) read reads meant) (All-head (IsKept p m x) read reads never))
      (lives_to x (suc number) reads (All-tail (AreLivesMeant x) read reads meant) (All-tail (IsKept p m x) read reads never))

  lives_back : (x number : ℕ) (reads : List ReadPlace) → All (AreLivesMeant x) reads → All IsFalse (lives_from p m x number reads) → All (IsKept p m x) reads
  lives_back x number [] meant none_true = All-nil (IsKept p m x)
  lives_back x number (read ∷ reads) meant none_true =
      let here = map (life_of p m x number read) (writers_of p m read.variable) in
      let rest = lives_from p m x (suc number) reads in
      All-cons (IsKept p m x) read reads
      (unmapped (IsLifeMeant p m x read) (IsKeptBeside x read) IsFalse (life_of p m x number read) (writers_of p m read.variable) (λ y law wrong z long fails. wrong z long ((law z long).1 fails))
      (All-head (AreLivesMeant x) read reads meant) (All-left IsFalse here rest none_true))
      (lives_back x (suc number) reads (All-tail (AreLivesMeant x) read reads meant) (All-right IsFalse here rest none_true))

  abbrev OrdersMeant : Equation → Type 0
  OrdersMeant e = All (IsOrderMeant e.variable) (reads_of p e)

  abbrev LivesMeant : Equation → Type 0
  LivesMeant e = All (AreLivesMeant e.variable) (reads_of p e)

  abbrev EachRespected : Equation → Type 0
  EachRespected e = All (IsRespected p m e.variable) (reads_of p e)

  abbrev EachKept : Equation → Type 0
  EachKept e = All (IsKept p m e.variable) (reads_of p e)

  abbrev KeepsMeant : ℕ → Type 0
  KeepsMeant x = All (IsKeepMeant p m x) (writers_of p m x)

  abbrev orders : Equation → List StatedClaim
  orders e = orders_from p m e.variable 0 (reads_of p e)

  abbrev lives : Equation → List StatedClaim
  lives e = lives_from p m e.variable 0 (reads_of p e)

  abbrev keeps : ℕ → List StatedClaim
  keeps x = map (keep_of p m x) (writers_of p m x)

  module _ (program : IsProgram p) (kept : IsMapping m) (complete : IsComplete p m) where
    all_orders : All OrdersMeant p.equations
    all_orders = order_is_meant p m program kept complete

    all_lives : All LivesMeant p.equations
    all_lives = (life_is_meant p m program kept complete).reads

    all_keeps : All KeepsMeant (outputs_of p)
    all_keeps = (life_is_meant p m program kept complete).outputs

    to_false : IsCertifiedMap p m → All IsFalse (dependences p m ++ lifetimes p m)
    to_false certified =
        All-append IsFalse (dependences p m) (lifetimes p m)
        (flattened OrdersMeant EachRespected IsFalse orders p.equations (λ e meant never. orders_to e.variable 0 (reads_of p e) meant never) all_orders certified.dependences)
        (All-append IsFalse (flat_map lives p.equations) (flat_map keeps (outputs_of p))
        (flattened LivesMeant EachKept IsFalse lives p.equations (λ e meant never. lives_to e.variable 0 (reads_of p e) meant never) all_lives certified.lifetimes)
        (flattened KeepsMeant (IsOutputKept p m) IsFalse keeps (outputs_of p)
        (λ x meant never. mapped (IsKeepMeant p m x) (IsOutputKeptBeside x) IsFalse (keep_of p m x) (writers_of p m x) (λ y law wrong z long holds. wrong z long ((law z long).0 holds)) meant never) all_keeps certified.outputs))

    from_false : All IsFalse (dependences p m ++ lifetimes p m) → IsCertifiedMap p m
    from_false none_true =
        let first = All-left IsFalse (dependences p m) (lifetimes p m) none_true in
        let second = All-right IsFalse (dependences p m) (lifetimes p m) none_true in
        record {
          complete = complete;
          dependences = unflattened OrdersMeant EachRespected IsFalse orders p.equations (λ e meant wrong. orders_back e.variable 0 (reads_of p e) meant wrong) all_orders first;
          lifetimes = unflattened LivesMeant EachKept IsFalse lives p.equations (λ e meant wrong. lives_back e.variable 0 (reads_of p e) meant wrong) all_lives
              (All-left IsFalse (flat_map lives p.equations) (flat_map keeps (outputs_of p)) second);
          outputs = unflattened KeepsMeant (IsOutputKept p m) IsFalse keeps (outputs_of p)
              (λ x meant wrong. unmapped (IsKeepMeant p m x) (IsOutputKeptBeside x) IsFalse (keep_of p m x) (writers_of p m x) (λ y law none_true z long fails. none_true z long ((law z long).1 fails)) meant wrong) all_keeps
              (All-right IsFalse (flat_map lives p.equations) (flat_map keeps (outputs_of p)) second);
        }

pub certified_by_formulas : CertifiedByFormulas
certified_by_formulas p m program kept complete = (to_false p m program kept complete, from_false p m program kept complete)
