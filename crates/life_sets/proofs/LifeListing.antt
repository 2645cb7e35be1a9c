-- The formulas in order, with those of one read more.
use Rattle.std.proofs.Common.{◌≡◌, ℕ, suc, ◌+◌, List, [], ◌∷◌, ◌++◌, length, map, sym, ap, ◌∙◌, arith, append_assoc, append-nil, All, Result, Ok, Err, Some, get_or, ◌<◌}
use Rattle.std.specs.Prelude.{slice_get}
use Rattle.std.specs.Option.{option_map_or}
use Rattle.std.proofs.lemmas.Option.{slice_get-get_or}
use Rattle.az_lin.specs.Affine.{Union}
use Rattle.az_ast.specs.declared.program.Variable.{Variable}
use Rattle.expr_places.specs.Places.{body_scope}
use Rattle.expr_places.specs.declared.scope.Scope.{Scope}
use Rattle.life_sets.specs.Stored.{FitsVisit}
use Rattle.order_sets.specs.Visits.{own_visit}
use Rattle.target_map.specs.Times.{domain_of}
use Rattle.az_ast.specs.System.{System}
use Rattle.expr_places.specs.Reads.{ReadPlace}
use Rattle.formula_refute.specs.declared.fault.RefuteFault.{RefuteFault}
use Rattle.formula_refute.specs.declared.fault.RefuteFault.TheVariants.{Overflow, Entry, Limit, Memory}
use Rattle.life_sets.specs.Fits.{FitsLife, FitsReading, FitsRead, FitsKeep, FitsOutput}
use Rattle.life_sets.specs.Lifetimes.{life_of, lives_from, output_scope}
use Rattle.order_sets.specs.Orders.{StatedClaim}
use Rattle.order_sets.specs.Stated.{stated_claim, Appends}
use Rattle.order_sets.specs.declared.stated.Stated.{Stated}
use Rattle.target_map.specs.Settings.{TargetMapping}
use Rattle.target_map.specs.Storage.{writers_of}

module _ (p : System) (m : TargetMapping) (x : ℕ) where
  abbrev lives : ℕ → ReadPlace → List StatedClaim
  lives number read = map (life_of p m x number read) (writers_of p m read.variable)

  lives_append : (n : ℕ) (reads : List ReadPlace) (read : ReadPlace) → lives_from p m x n (reads ++ read ∷ []) ≡ lives_from p m x n reads ++ lives (n + length reads) read
  lives_append n [] read =
      let none : List ReadPlace = [] in
      let same : n ≡ n + length none = omega arith in
      append-nil (lives n read) ∙ ap (λ k. lives k read) same
  lives_append n (r ∷ reads) read =
      let same : suc n + length reads ≡ n + length (r ∷ reads) = omega arith in
      ap (λ (cs : List StatedClaim). lives n r ++ cs) (lives_append (suc n) reads read)
      ∙ sym (append_assoc (lives n r) (lives_from p m x (suc n) reads) (lives (suc n + length reads) read))
      ∙ ap (λ k. (lives n r ++ lives_from p m x (suc n) reads) ++ lives k read) same

  pub lives_next : (done all : List ReadPlace) (number : ℕ) (read : ReadPlace) → number ≡ length done → all ≡ done ++ read ∷ [] → lives_from p m x 0 all ≡ lives_from p m x 0 done ++ lives number read
  lives_next done all number read is split =
      let same : 0 + length done ≡ number = omega (arith, is) in
      ap (lives_from p m x 0) split ∙ lives_append 0 done read ∙ ap (λ k. lives_from p m x 0 done ++ lives k read) same

-- several stated formulas more
pub many_more : (old done new : List Stated) (all next whole : List StatedClaim) → map stated_claim done ≡ map stated_claim old ++ all → map stated_claim new ≡ map stated_claim done ++ next
    → whole ≡ all ++ next → map stated_claim new ≡ map stated_claim old ++ whole
many_more old done new all next whole so_far pushed split =
    pushed
    ∙ ap (λ (cs : List StatedClaim). cs ++ next) so_far
    ∙ append_assoc (map stated_claim old) all next
    ∙ ap (λ (cs : List StatedClaim). map stated_claim old ++ cs) (sym split)

-- the writers of a read or an output, after what was composed for it
module _ (p : System) (m : TargetMapping) (x : ℕ) (wanted : List StatedClaim) (old new : List Stated) where
  pub read_appends : (read : ReadPlace) (result : Result (Unit {0}) RefuteFault) → FitsReading p m x read → Appends (All (FitsLife p m x read) (writers_of p m read.variable)) wanted old new result
      → Appends (FitsRead p m x read) wanted old new result
  read_appends read (Ok done) reading made = (made.0, record { reading = reading; writers = made.1 })
  read_appends read (Err Entry) reading stops = λ fits. stops fits.writers
  read_appends read (Err (Overflow number)) reading stops = stops
  read_appends read (Err (Limit limit)) reading stops = stops
  read_appends read (Err Memory) reading stops = tt

  pub output_appends : (result : Result (Unit {0}) RefuteFault) → FitsVisit m (own_visit p x (domain_of p x).width) → Appends (All (FitsKeep p m x) (writers_of p m x)) wanted old new result
      → Appends (FitsOutput p m x) wanted old new result
  output_appends (Ok done) point made = (made.0, record { point = point; writers = made.1 })
  output_appends (Err Entry) point stops = λ fits. stops fits.writers
  output_appends (Err (Overflow number)) point stops = stops
  output_appends (Err (Limit limit)) point stops = stops
  output_appends (Err Memory) point stops = tt

-- the domain of a declared variable
pub domain_at : (p : System) (x : ℕ) (variables : List Variable) (v : Variable) → x < length p.variables → variables ≡ p.variables → v ≡ get_or variables x v → domain_of p x ≡ v.domain
domain_at p x variables v here same is =
    let declared : v ≡ get_or p.variables x v = is ∙ ap (λ (vs : List Variable). get_or vs x v) same in
    let found : slice_get p.variables x ≡ Some v = slice_get-get_or p.variables x v here ∙ ap (λ (w : Variable). Some w) (sym declared) in
    ap (λ o. option_map_or (λ (w : Variable). w.domain) o (record { width = 0; disjuncts = [] })) found

-- what is in force for an output
pub scope_of_output : (p : System) (x : ℕ) (variables : List Variable) (v : Variable) → x < length p.variables → variables ≡ p.variables → v ≡ get_or variables x v → body_scope p v ≡ output_scope p x
scope_of_output p x variables v here same is =
    let made : Union → Scope = λ d. record { domains = p.pdom ∷ d ∷ []; reductions = []; width = d.width } in
    ap made (sym (domain_at p x variables v here same is))
