-- The body of a variable's equation, looked up among the definitions.
use Rattle.std.proofs.Common.{◌≡◌, ℕ, List, [], ◌∷◌, map, Bool, true, false, cond, Option, Some, None, refl, ap, ◌∙◌}
use Rattle.std.specs.Prelude.{option_map, find, ◌==◌}
use Rattle.std.specs.List.{AllByRecursion}
use Rattle.std.proofs.lemmas.Bool.{eqb-true, eq-eqb}
use Rattle.az_ast.specs.Meaning.{equation_of, body_of}
use Rattle.az_ast.specs.Term.{Term, term}
use Rattle.az_ast.specs.declared.program.Equation.{Equation}
use Rattle.rewriting.specs.Definitions.{Definition, definition_of, defining, defined_as}
use Rattle.rewriting.proofs.Items.{Apart, each-both}
use Rattle.rewriting.proofs.ExprOf.{definitions-there}

pub body_of-defined : (equations : List Equation) (x : ℕ) → body_of equations x ≡ defined_as (map definition_of equations) x
body_of-defined [] x = refl
body_of-defined (equation ∷ rest) x = by (equation.variable == x) (body_of-defined rest x)
  where
    by : (b : Bool) → body_of rest x ≡ defined_as (map definition_of rest) x →
        option_map (λ (e : Equation). term e.body) (cond b (Some equation) (equation_of rest x))
        ≡ option_map (λ (d : Definition). d.1) (cond b (Some (definition_of equation)) (find (λ (d : Definition). d.0 == x) (map definition_of rest)))
    by true r = refl
    by false r = r

pub body_of-defining : (ds : List Definition) (x : ℕ) → body_of (map defining ds) x ≡ defined_as ds x
body_of-defining ds x = body_of-defined (map defining ds) x ∙ ap (λ l. defined_as l x) (definitions-there ds)

-- definitions that are changed and keep their numbers
pub defined_as-changed : (change : ℕ → Term → Term) (ds : List Definition) (x : ℕ) → defined_as (map (λ (d : Definition). (d.0, change d.0 d.1)) ds) x ≡ option_map (change x) (defined_as ds x)
defined_as-changed change [] x = refl
defined_as-changed change (d ∷ ds) x = by (d.0 == x) refl (defined_as-changed change ds x)
  where
    by : (b : Bool) → (d.0 == x) ≡ b → defined_as (map (λ (d : Definition). (d.0, change d.0 d.1)) ds) x ≡ option_map (change x) (defined_as ds x) →
        option_map (λ (d : Definition). d.1) (cond b (Some (d.0, change d.0 d.1)) (find (λ (d : Definition). d.0 == x) (map (λ (d : Definition). (d.0, change d.0 d.1)) ds)))
        ≡ option_map (change x) (option_map (λ (d : Definition). d.1) (cond b (Some d) (find (λ (d : Definition). d.0 == x) ds)))
    by true told r = ap (λ n. Some (change n d.1)) (eqb-true d.0 x told)
    by false told r = r

abbrev pub defines_same : Definition → Definition → Bool
defines_same other d = other.0 == d.0

-- definitions of different variables are found under their numbers
pub defined-own : (ds : List Definition) → Apart defines_same ds → AllByRecursion (λ (d : Definition). defined_as ds d.0 ≡ Some d.1) ds
defined-own [] apart = tt
defined-own (d ∷ ds) apart = (
  ap (λ b. option_map (λ (e : Definition). e.1) (cond b (Some d) (find (λ (e : Definition). e.0 == d.0) ds))) (eq-eqb d.0 d.0 refl),
  each-both (λ (e : Definition). (d.0 == e.0) ≡ false) (λ (e : Definition). defined_as ds e.0 ≡ Some e.1) (λ (e : Definition). defined_as (d ∷ ds) e.0 ≡ Some e.1)
      (λ e other h. ap (λ b. option_map (λ (f : Definition). f.1) (cond b (Some d) (find (λ (f : Definition). f.0 == e.0) ds))) other ∙ h) ds apart.0 (defined-own ds apart.1),
)
