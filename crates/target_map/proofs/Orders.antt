-- A certified mapping gives order at each point.
use Rattle.std.proofs.Common.{◌≡◌, ◌⊎◌, inl, inr, ℕ, ◌+◌, Bool, true, false, List, [], ◌∷◌, take, refl, All}
use Rattle.std.specs.Prelude.{ℤ, ◌==◌}
use Rattle.std.proofs.lemmas.Bool.{eqb-true, eqb-false}
use Rattle.std.proofs.lemmas.List.Elements.{All-nil, All-cons, All-head, All-tail}
use Rattle.az_ast.specs.System.{System}
use Rattle.az_ast.specs.declared.program.Equation.{Equation}
use Rattle.expr_places.specs.Reads.{ReadPlace, reads_of}
use Rattle.target_map.specs.Dependence.{point_read, point_of}
use Rattle.target_map.specs.Laws.{IsSame, IsTimely, IsSafeBeside, GivesOrder, CertifiedGivesOrder}
use Rattle.target_map.specs.Lifetime.{writer_point, IsStoredOver}
use Rattle.target_map.specs.Promise.{Never, IsRespected, IsKept, IsCertifiedMap}
use Rattle.target_map.specs.Settings.{TargetMapping}
use Rattle.target_map.specs.Storage.{writers_of}
use Rattle.target_map.specs.Times.{stamp_at, indices_of, IsBefore}
use Rattle.target_map.specs.Kinds.{tile_sizes}
use Rattle.target_map.proofs.Decisions.{before_or_not, same_or_not}

before : (m : TargetMapping) (x : ℕ) (a : List ℤ) (y : ℕ) (b : List ℤ) → IsBefore m x a y b ⊎ (IsBefore m x a y b → ⊥)
before m x a y b = before_or_not (tile_sizes m.kinds) (stamp_at m x a) (stamp_at m y b)

one : (x : ℕ) (a : List ℤ) (y : ℕ) (b : List ℤ) → IsSame x a y b ⊎ (x ≡ y → a ≡ b → ⊥)
one x a y b = by (x == y) refl (same_or_not a b)
  where
    by : (c : Bool) → (x == y) ≡ c → (a ≡ b) ⊎ (a ≡ b → ⊥) → IsSame x a y b ⊎ (x ≡ y → a ≡ b → ⊥)
    by true is (inl point) = inl (eqb-true x y is, point)
    by true is (inr apart) = inr (λ variable point. apart point)
    by false is point = inr (λ variable same. eqb-false x y is variable)

module _ (p : System) (m : TargetMapping) where
  timely : (x : ℕ) (read : ReadPlace) → IsRespected p m x read → IsTimely p m x read
  timely x read never z long held =
      elim (before m read.variable (point_read p read z) x (point_of p x z)) as (λ _. IsBefore m read.variable (point_read p read z) x (point_of p x z)) [
        | inl is ↦ is
        | inr late ↦ absurd (never z long (record { in_force = held; not_before = late }))
      ]

  module _ (x : ℕ) (read : ReadPlace) (y : ℕ) (z : List ℤ) where
    abbrev Safe : Type 0
    Safe =
        let a = point_read p read (take read.scope.width z) in let b = writer_point p read.scope.width z in let w = point_of p x z in
        (IsSame y b read.variable a ⊎ IsBefore m y b read.variable a) ⊎ (IsSame y b x w ⊎ IsBefore m x w y b)

  safe : (x : ℕ) (read : ReadPlace) (ys : List ℕ) → All (λ y. Never (read.scope.width + indices_of p y) (IsStoredOver p m x read y)) ys → All (IsSafeBeside p m x read) ys
  safe x read [] kept = All-nil (IsSafeBeside p m x read)
  safe x read (y ∷ ys) kept =
      let never = All-head (λ y. Never (read.scope.width + indices_of p y) (IsStoredOver p m x read y)) y ys kept in
      All-cons (IsSafeBeside p m x read) y ys
      (λ z long held shares.
      let a = point_read p read (take read.scope.width z) in
      let b = writer_point p read.scope.width z in
      let w = point_of p x z in
      elim (one y b read.variable a) as (λ _. Safe x read y z) [
        | inl same ↦ inl (inl same)
        | inr apart ↦ elim (before m y b read.variable a) as (λ _. Safe x read y z) [
          | inl earlier ↦ inl (inr earlier)
          | inr not_earlier ↦ elim (one y b x w) as (λ _. Safe x read y z) [
            | inl reader ↦ inr (inl reader)
            | inr other ↦ elim (before m x w y b) as (λ _. Safe x read y z) [
              | inl later ↦ inr (inr later)
              | inr not_later ↦ absurd (never z long (record {
                in_force = held;
                over = record { instance = shares.0; same_cell = shares.1; other = apart; not_before = not_earlier };
                other_than_reader = other;
                not_after = not_later;
              }))
            ]
          ]
        ]
      ])
      (safe x read ys (All-tail (λ y. Never (read.scope.width + indices_of p y) (IsStoredOver p m x read y)) y ys kept))

  each_read : (P Q : ReadPlace → Type 0) (reads : List ReadPlace) → ((read : ReadPlace) → P read → Q read) → All P reads → All Q reads
  each_read P Q [] each all = All-nil Q
  each_read P Q (read ∷ reads) each all = All-cons Q read reads (each read (All-head P read reads all)) (each_read P Q reads each (All-tail P read reads all))

  each_equation : (P Q : Equation → Type 0) (equations : List Equation) → ((e : Equation) → P e → Q e) → All P equations → All Q equations
  each_equation P Q [] each all = All-nil Q
  each_equation P Q (e ∷ equations) each all = All-cons Q e equations (each e (All-head P e equations all)) (each_equation P Q equations each (All-tail P e equations all))

  gives : IsCertifiedMap p m → GivesOrder p m
  gives certified = record {
    timely = each_equation (λ e. All (IsRespected p m e.variable) (reads_of p e)) (λ e. All (IsTimely p m e.variable) (reads_of p e)) p.equations
        (λ e all. each_read (IsRespected p m e.variable) (IsTimely p m e.variable) (reads_of p e) (λ read never. timely e.variable read never) all) certified.dependences;
    safe = each_equation (λ e. All (IsKept p m e.variable) (reads_of p e)) (λ e. All (λ read. All (IsSafeBeside p m e.variable read) (writers_of p m read.variable)) (reads_of p e)) p.equations
        (λ e all. each_read (IsKept p m e.variable) (λ read. All (IsSafeBeside p m e.variable read) (writers_of p m read.variable)) (reads_of p e)
        (λ read kept. safe e.variable read (writers_of p m read.variable) kept) all) certified.lifetimes;
  }

pub certified_gives_order : CertifiedGivesOrder
certified_gives_order p m certified = gives p m certified
