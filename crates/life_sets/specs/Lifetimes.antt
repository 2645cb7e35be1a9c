-- The formulas of the lifetimes, in order: for each read of each equation and each writer of the space of what is
-- read, true where the writer stores over what is read before it is; then for each output and each writer of its
-- space, true where the writer stores over its value.
use Rattle.std.specs.Prelude.{ℕ, suc, ◌+◌, List, [], ◌∷◌, ◌++◌, map}
use Rattle.std.specs.List.{flat_map}
use Rattle.az_ast.specs.System.{System}
use Rattle.domain_check.specs.Context.{in_force}
use Rattle.expr_places.specs.Reads.{ReadPlace, reads_of}
use Rattle.expr_places.specs.declared.scope.Scope.{Scope}
use Rattle.formula_refute.specs.Claims.{Claim}
use Rattle.life_sets.specs.Beside.{writer_domain, stores_into, comes_before}
use Rattle.order_sets.specs.Orders.{StatedClaim}
use Rattle.order_sets.specs.Visits.{read_visit, own_visit, writer_visit}
use Rattle.order_sets.specs.declared.visit.Visit.{Visit}
use Rattle.target_map.specs.Settings.{TargetMapping}
use Rattle.target_map.specs.Storage.{writers_of}
use Rattle.target_map.specs.Times.{domain_of, indices_of, outputs_of}
use Rattle.target_map.specs.declared.which.Which.TheVariants.{Life, Keep}

-- the scope with the writer's columns behind its own
abbrev pub with_writer : System → Scope → ℕ → Scope
with_writer p scope y = record scope { width = scope.width + indices_of p y }

abbrev pub output_scope : System → ℕ → Scope
output_scope p x = record { domains = p.pdom ∷ domain_of p x ∷ []; reductions = []; width = (domain_of p x).width }

module _ (p : System) (m : TargetMapping) where
  -- it stores into the cell of what is there, and isn't before it
  abbrev pub stores_over : ℕ → ℕ → Visit → List Claim
  stores_over width y visit = writer_domain p width y ∷ stores_into p m (writer_visit p y width) visit

  -- it isn't the reader, and doesn't come after it
  abbrev pub before_reader : ℕ → ℕ → Visit → List Claim
  before_reader width y reader = comes_before p m (writer_visit p y width) reader

  abbrev pub life_claim : ℕ → ReadPlace → ℕ → Claim
  life_claim x read y =
      let width = read.scope.width in
      in_force (with_writer p read.scope y) (stores_over width y (read_visit p read) ++ before_reader width y (own_visit p x width))

  abbrev pub keep_claim : ℕ → ℕ → Claim
  keep_claim x y =
      let width = (domain_of p x).width in
      in_force (with_writer p (output_scope p x) y) (stores_over width y (own_visit p x width))

  abbrev pub life_of : ℕ → ℕ → ReadPlace → ℕ → StatedClaim
  life_of x number read y = record { which = Life x number y; width = read.scope.width + indices_of p y; claim = life_claim x read y }

  abbrev pub keep_of : ℕ → ℕ → StatedClaim
  keep_of x y = record { which = Keep x y; width = (domain_of p x).width + indices_of p y; claim = keep_claim x y }

  -- the reads from one with this number on
  abbrev pub lives_from : ℕ → ℕ → List ReadPlace → List StatedClaim
  lives_from x number [] = []
  lives_from x number (read ∷ reads) = map (life_of x number read) (writers_of p m read.variable) ++ lives_from x (suc number) reads

  abbrev pub lifetimes : List StatedClaim
  lifetimes =
      flat_map (λ equation. lives_from equation.variable 0 (reads_of p equation)) p.equations
      ++ flat_map (λ x. map (keep_of x) (writers_of p m x)) (outputs_of p)
