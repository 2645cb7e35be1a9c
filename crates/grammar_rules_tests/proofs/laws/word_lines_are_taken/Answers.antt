use Rattle.std.proofs.Common.{◌≡◌, ℕ, ◌+◌, ◌≤◌, List, [], ◌∷◌, ◌++◌, length, map, refl, ap, subst, arith}
use Rattle.grammar_rules.specs.Rules.{token, TakesMany}
use Rattle.grammar_rules.specs.TokenRules.{worded}
use Rattle.grammar_rules.proofs.WithinItems.{ItemsWithin, one_item, each_of, items_of_all, bound_of_all}
use Rattle.grammar_rules_tests.specs.declared.sums.Sign.{Sign}
use Rattle.grammar_rules_tests.proofs.laws.word_lines_are_taken.Goals as goal

one_each : (written : Sign → List ℕ) (signs : List Sign) → items_of_all (λ sign. written sign ∷ []) signs ≡ map written signs
one_each written [] = refl
one_each written (sign ∷ signs) = ap (λ lines. written sign ∷ lines) (one_each written signs)

all_weigh : (signs : List Sign) → bound_of_all (λ sign. 1) signs ≡ length signs
all_weigh [] = refl
all_weigh (sign ∷ signs) = let rest = all_weigh signs in omega (arith, rest)

pub returns : goal.returns
returns c = λ table written spelled signs.
    let rule = token (worded table) 1 in
    let all = each_of {p = rule} (λ sign. written sign ∷ []) (λ sign. 1) (λ sign. one_item (worded table) 1 (written sign) sign (spelled sign)) signs in
    let light = all.light in
    let P : List (List ℕ) → Type 0 = λ lines. TakesMany rule lines all.weight signs in
    (all.weight, omega (arith, light, all_weigh signs), subst P (one_each written signs) all.taken)
