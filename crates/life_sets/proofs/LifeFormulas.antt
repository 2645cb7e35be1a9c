-- The formulas of a read and of an output beside a writer, where what is made on the way fits.
use Rattle.std.proofs.Common.{◌≡◌, ℕ, List, ◌++◌, ap, ap₂, ◌∙◌, append_assoc, Option, Some, None}
use Rattle.az_ast.specs.System.{System}
use Rattle.domain_check.specs.Context.{context}
use Rattle.expr_places.specs.Reads.{ReadPlace}
use Rattle.expr_places.specs.declared.scope.Scope.{Scope}
use Rattle.formula_refute.specs.Claims.{Claim, claim, all_of, claims}
use Rattle.formula_refute.specs.declared.formula.Formula.{Formula}
use Rattle.life_sets.specs.Beside.{comes_before}
use Rattle.life_sets.specs.Fits.{FitsLife, FitsKeep}
use Rattle.life_sets.specs.Lifetimes.{with_writer, output_scope, stores_over, life_claim, keep_claim}
use Rattle.life_sets.specs.Stored.{FitsVisit}
use Rattle.order_sets.specs.Made.{IsMade, MadeIf}
use Rattle.order_sets.specs.Visits.{read_visit, own_visit, writer_visit}
use Rattle.order_sets.specs.declared.visit.Visit.{Visit}
use Rattle.order_sets.proofs.Making.{claim_same}
use Rattle.target_map.specs.Settings.{TargetMapping}
use Rattle.target_map.specs.Times.{domain_of}

module _ (p : System) (m : TargetMapping) where
  abbrev pub over_claims : Scope → ℕ → Visit → List Claim
  over_claims scope y point = context (with_writer p scope y) ++ stores_over p m scope.width y point

  module _ (x : ℕ) (read : ReadPlace) (y : ℕ) where
    life_fits : (o : Option Formula) → FitsVisit m (writer_visit p y read.scope.width) → IsMade (life_claim p m x read y) o
        → MadeIf (FitsLife p m x read y) (λ formula. claim formula ≡ life_claim p m x read y) o
    life_fits None writer none = λ fits. none fits.rows
    life_fits (Some formula) writer made = (made.0, record { writer = writer; rows = made.1 })

    pub life_made : (point reader writer : Visit) (o : Option Formula) → point ≡ read_visit p read → reader ≡ own_visit p x read.scope.width → writer ≡ writer_visit p y read.scope.width
        → FitsVisit m (writer_visit p y read.scope.width) → IsMade (all_of (claims (over_claims read.scope y point ++ comes_before p m writer reader))) o
        → MadeIf (FitsLife p m x read y) (λ formula. claim formula ≡ life_claim p m x read y) o
    life_made point reader writer o point_is reader_is writer_is fits made =
        let around : List Claim = context (with_writer p read.scope y) in
        let over_it : Visit → List Claim = λ a. stores_over p m read.scope.width y a in
        let after : Visit → Visit → List Claim = λ b r. comes_before p m b r in
        life_fits o fits
        (claim_same (all_of (claims ((around ++ over_it point) ++ after writer reader))) (life_claim p m x read y) o
        (ap (λ (cs : List Claim). all_of (claims cs))
        (append_assoc around (over_it point) (after writer reader)
        ∙ ap₂ (λ (first second : List Claim). around ++ (first ++ second)) (ap over_it point_is) (ap₂ after writer_is reader_is))) made)

  module _ (x y : ℕ) where
    keep_fits : (o : Option Formula) → FitsVisit m (writer_visit p y (domain_of p x).width) → IsMade (keep_claim p m x y) o
        → MadeIf (FitsKeep p m x y) (λ formula. claim formula ≡ keep_claim p m x y) o
    keep_fits None writer none = λ fits. none fits.rows
    keep_fits (Some formula) writer made = (made.0, record { writer = writer; rows = made.1 })

    pub keep_made : (scope : Scope) (point : Visit) (o : Option Formula) → scope ≡ output_scope p x → point ≡ own_visit p x (domain_of p x).width
        → FitsVisit m (writer_visit p y (domain_of p x).width) → IsMade (all_of (claims (over_claims scope y point))) o
        → MadeIf (FitsKeep p m x y) (λ formula. claim formula ≡ keep_claim p m x y) o
    keep_made scope point o scope_is point_is fits made =
        keep_fits o fits
        (claim_same (all_of (claims (over_claims scope y point))) (keep_claim p m x y) o
        (ap (λ (cs : List Claim). all_of (claims cs)) (ap₂ (λ (s : Scope) (a : Visit). over_claims s y a) scope_is point_is)) made)
