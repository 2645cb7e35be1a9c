-- A certificate of a mapping's formulas speaks of variables of the program.
use Rattle.std.proofs.Common.{ℕ, suc, ◌<◌, List, [], ◌∷◌, map, length, All, sym, subst}
use Rattle.std.specs.List.{AllZip, flat_map}
use Rattle.std.proofs.lemmas.List.Elements.{All-nil, All-cons, All-head, All-tail, All-append}
use Rattle.az_ast.specs.Shapes.{IsProgram}
use Rattle.az_ast.specs.System.{System}
use Rattle.az_ast.specs.declared.program.Equation.{Equation}
use Rattle.az_ast.proofs.ShapeParts.{numbers_declared}
use Rattle.cert_text.specs.Lines.{IsOfProgram}
use Rattle.cert_text.specs.declared.certificate.Proved.{Proved}
use Rattle.expr_places.specs.Reads.{ReadPlace, reads_of}
use Rattle.life_sets.specs.Lifetimes.{life_of, keep_of, lives_from, lifetimes}
use Rattle.life_sets.specs.Ready.{IsOwn}
use Rattle.life_sets.proofs.Own.{outputs_own, writers_own}
use Rattle.map_verify.specs.Formulas.{formulas}
use Rattle.map_verify.specs.Verdicts.{IsRefutedAs}
use Rattle.order_sets.specs.Orders.{StatedClaim, order_of, orders_from, dependences}
use Rattle.target_map.specs.Settings.{TargetMapping, IsComplete}
use Rattle.target_map.specs.Storage.{writers_of}
use Rattle.target_map.specs.Times.{outputs_of}
use Rattle.target_map.specs.declared.which.Which.{Which}

module _ (p : System) (program : IsProgram p) (m : TargetMapping) (complete : IsComplete p m) where
  abbrev Named : StatedClaim → Type 0
  Named stated = IsOfProgram p stated.which

  abbrev Declared : Equation → Type 0
  Declared equation = equation.variable < length p.variables

  orders_named : (x number : ℕ) → x < length p.variables → (reads : List ReadPlace) → All Named (orders_from p m x number reads)
  orders_named x number declared [] = All-nil Named
  orders_named x number declared (read ∷ reads) = All-cons Named (order_of p m x number read) (orders_from p m x (suc number) reads) declared (orders_named x (suc number) declared reads)

  lives_named : (x number : ℕ) → x < length p.variables → (read : ReadPlace) (ys : List ℕ) → All (IsOwn p) ys → All Named (map (life_of p m x number read) ys)
  lives_named x number declared read [] own = All-nil Named
  lives_named x number declared read (y ∷ ys) own =
      let here = All-head (IsOwn p) y ys own in
      All-cons Named (life_of p m x number read y) (map (life_of p m x number read) ys) (declared, here.declared) (lives_named x number declared read ys (All-tail (IsOwn p) y ys own))

  keeps_named : (x : ℕ) → x < length p.variables → (ys : List ℕ) → All (IsOwn p) ys → All Named (map (keep_of p m x) ys)
  keeps_named x declared [] own = All-nil Named
  keeps_named x declared (y ∷ ys) own =
      let here = All-head (IsOwn p) y ys own in
      All-cons Named (keep_of p m x y) (map (keep_of p m x) ys) (declared, here.declared) (keeps_named x declared ys (All-tail (IsOwn p) y ys own))

  reads_named : (x number : ℕ) → x < length p.variables → (reads : List ReadPlace) → All Named (lives_from p m x number reads)
  reads_named x number declared [] = All-nil Named
  reads_named x number declared (read ∷ reads) =
      All-append Named (map (life_of p m x number read) (writers_of p m read.variable)) (lives_from p m x (suc number) reads)
      (lives_named x number declared read (writers_of p m read.variable) (writers_own p program m complete read.variable)) (reads_named x (suc number) declared reads)

  abbrev orders : Equation → List StatedClaim
  orders equation = orders_from p m equation.variable 0 (reads_of p equation)

  abbrev lives : Equation → List StatedClaim
  lives equation = lives_from p m equation.variable 0 (reads_of p equation)

  abbrev keeps : ℕ → List StatedClaim
  keeps x = map (keep_of p m x) (writers_of p m x)

  all_orders : (equations : List Equation) → All Declared equations → All Named (flat_map orders equations)
  all_orders [] declared = All-nil Named
  all_orders (equation ∷ equations) declared =
      All-append Named (orders equation) (flat_map orders equations) (orders_named equation.variable 0 (All-head Declared equation equations declared) (reads_of p equation))
      (all_orders equations (All-tail Declared equation equations declared))

  all_lives : (equations : List Equation) → All Declared equations → All Named (flat_map lives equations)
  all_lives [] declared = All-nil Named
  all_lives (equation ∷ equations) declared =
      All-append Named (lives equation) (flat_map lives equations) (reads_named equation.variable 0 (All-head Declared equation equations declared) (reads_of p equation))
      (all_lives equations (All-tail Declared equation equations declared))

  all_keeps : (xs : List ℕ) → All (IsOwn p) xs → All Named (flat_map keeps xs)
  all_keeps [] own = All-nil Named
  all_keeps (x ∷ xs) own =
      let here = All-head (IsOwn p) x xs own in
      All-append Named (keeps x) (flat_map keeps xs) (keeps_named x here.declared (writers_of p m x) (writers_own p program m complete x)) (all_keeps xs (All-tail (IsOwn p) x xs own))

  formulas_named : All Named (formulas p m)
  formulas_named =
      let declared : All Declared p.equations = numbers_declared p program.placed in
      All-append Named (dependences p m) (lifetimes p m) (all_orders p.equations declared)
      (All-append Named (flat_map lives p.equations) (flat_map keeps (outputs_of p)) (all_lives p.equations declared) (all_keeps (outputs_of p) (outputs_own p program)))

  abbrev Speaks : Proved → Type 0
  Speaks proved = IsOfProgram p proved.which

  alongside : (all : List StatedClaim) (proved : List Proved) → AllZip IsRefutedAs all proved → All Named all → All Speaks proved
  alongside [] [] refuted named = All-nil Speaks
  alongside [] (one ∷ proved) refuted named = absurd refuted
  alongside (stated ∷ all) [] refuted named = absurd refuted
  alongside (stated ∷ all) (one ∷ proved) refuted named =
      All-cons Speaks one proved (subst (λ (which : Which). IsOfProgram p which) (sym refuted.0.name) (All-head Named stated all named))
      (alongside all proved refuted.1 (All-tail Named stated all named))

  pub certificate_named : (proved : List Proved) → AllZip IsRefutedAs (formulas p m) proved → All Speaks proved
  certificate_named proved refuted = alongside (formulas p m) proved refuted formulas_named
