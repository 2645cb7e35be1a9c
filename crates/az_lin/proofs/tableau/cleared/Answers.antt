use Rattle.std.proofs.Common.{◌≡◌, ◌∙◌, sym, ap, ap₂, Some, None}
use Rattle.az_lin.specs.Inversion.{entry, primitive, row_factor, pivot_factor}
use Rattle.az_lin.proofs.Substitution.{row_is}
use Rattle.az_lin.proofs.Clearing.{word_is, entry_read, difference_is, cleared_reached}
use Rattle.az_lin.proofs.tableau.cleared.Goals as goal

pub returns-in-Some-clause-exact : goal.returns-in-Some-clause-exact
returns-in-Some-clause-exact c =
    let j = c.args.column in
    let p = c.args.pivot.now in
    let r = c.args.row.now in
    let left = row_is r c.view.result.coefs.now c.view.result.konst c.view.ensures.coefficients c.view.ensures.constant in
    let right = row_is p c.view-2.result.coefs.now c.view-2.result.konst c.view-2.ensures.coefficients c.view-2.ensures.constant in
    let pivot_is : entry j p ≡ c.coef.result = entry_read j p c.coef.result c.coef.ensures.value in
    let entry_is : entry j r ≡ c.coef-2.result = entry_read j r c.coef-2.result c.coef-2.ensures.value in
    let a : c.factors-weights.result.a ≡ row_factor (entry j p) (entry j r) = c.factors-weights.ensures.row ∙ ap₂ row_factor (word_is c.coef.result c.coef.ensures.range ∙ sym pivot_is) (word_is c.coef-2.result c.coef-2.ensures.range ∙ sym entry_is) in
    let b : c.factors-weights.result.b ≡ pivot_factor (entry j p) (entry j r) = c.factors-weights.ensures.pivot_row ∙ ap₂ pivot_factor (word_is c.coef.result c.coef.ensures.range ∙ sym pivot_is) (word_is c.coef-2.result c.coef-2.ensures.range ∙ sym entry_is) in
    let found = difference_is j p r _ _ c.factors-weights.result.a c.factors-weights.result.b (Some c.in-Some.sum) left right a b (rw c.in-Some.is at c.in_ok-sum.ensures.exact) in
    (λ _. found.0, c.primitive.ensures ∙ ap primitive found.1 ∙ sym (cleared_reached j p r c.requires.entry))

pub returns-in-None-clause-exact : goal.returns-in-None-clause-exact
returns-in-None-clause-exact c =
    let j = c.args.column in
    let p = c.args.pivot.now in
    let r = c.args.row.now in
    let left = row_is r c.view.result.coefs.now c.view.result.konst c.view.ensures.coefficients c.view.ensures.constant in
    let right = row_is p c.view-2.result.coefs.now c.view-2.result.konst c.view-2.ensures.coefficients c.view-2.ensures.constant in
    let pivot_is : entry j p ≡ c.coef.result = entry_read j p c.coef.result c.coef.ensures.value in
    let entry_is : entry j r ≡ c.coef-2.result = entry_read j r c.coef-2.result c.coef-2.ensures.value in
    let a : c.factors-weights.result.a ≡ row_factor (entry j p) (entry j r) = c.factors-weights.ensures.row ∙ ap₂ row_factor (word_is c.coef.result c.coef.ensures.range ∙ sym pivot_is) (word_is c.coef-2.result c.coef-2.ensures.range ∙ sym entry_is) in
    let b : c.factors-weights.result.b ≡ pivot_factor (entry j p) (entry j r) = c.factors-weights.ensures.pivot_row ∙ ap₂ pivot_factor (word_is c.coef.result c.coef.ensures.range ∙ sym pivot_is) (word_is c.coef-2.result c.coef-2.ensures.range ∙ sym entry_is) in
    let none = difference_is j p r _ _ c.factors-weights.result.a c.factors-weights.result.b None left right a b (rw c.in-None.is at c.in_ok-sum.ensures.exact) in
    λ wide. none (wide c.requires.entry)
