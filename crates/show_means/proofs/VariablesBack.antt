-- The variables of a program stand in the order of its sections, so the declarations are those of the variables.
use Rattle.std.proofs.Common.{◌≡◌, ℕ, zero, suc, ◌+◌, ◌-◌, ◌<◌, ◌≤◌, Bool, true, false, List, [], ◌∷◌, ◌++◌, length, refl, sym, ap, subst, ◌∙◌, arith}
use Rattle.std.specs.Prelude.{◌==◌, if◌then◌else◌, map, flat_map}
use Rattle.std.specs.List.{AllByRecursion}
use Rattle.std.proofs.lemmas.Bool.{eqb-true}
use Rattle.az_ast.specs.declared.program.Role.{Role}
use Rattle.az_ast.specs.declared.program.Role.TheVariants.{Input, Output, Local}
use Rattle.az_ast.specs.declared.program.Variable.{Variable}
use Rattle.az_ast.specs.Placed.{rank, AreInOrder}
use Rattle.alphabets_show.specs.Shown.{has_role}
use Rattle.alphabets_show.specs.Sides.{Names}
use Rattle.program_grammar.specs.declared.tree.Declaration.{Declaration}
use Rattle.program_names.proofs.Sums.{not-true}
use Rattle.show_grammar.specs.WrittenOf.{declaration_of, declarations_of}

-- a list of what is made of the declarations, section by section
module _ {X : Type 0} (params : Names) (made : Role → Declaration → X) (of : Variable → X) where
  abbrev in_sections : List Declaration → List Declaration → List Declaration → List X
  in_sections inputs outputs locals = map (made Input) inputs ++ (map (made Output) outputs ++ map (made Local) locals)

  abbrev pub IsMade : Variable → Type 0
  IsMade v = made v.role (declaration_of params v) ≡ of v

  none_of_role : (role : Role) (vs : List Variable) → AllByRecursion (λ (v : Variable). rank role < rank v.role) vs → declarations_of params role vs ≡ []
  none_of_role role [] above = refl
  none_of_role role (v ∷ vs) above =
      let other : has_role role v ≡ false = not-true (rank v.role == rank role) (λ h. let same = eqb-true (rank v.role) (rank role) h in let more = above.0 in absurd (omega (arith, same, more))) in
      ap (λ b. (if b then declaration_of params v ∷ [] else []) ++ declarations_of params role vs) other ∙ none_of_role role vs above.1

  higher : (low high : ℕ) → low < high → (vs : List Variable) → AllByRecursion (λ (v : Variable). high ≤ rank v.role) vs → AllByRecursion (λ (v : Variable). low < rank v.role) vs
  higher low high less [] all = tt
  higher low high less (v ∷ vs) all = (let here = all.0 in omega arith, higher low high less vs all.1)

  -- a section takes the variables of its role alone
  taken : (role own : Role) (v : Variable) (vs : List Variable) → v.role ≡ own → (b : Bool) → (rank own == rank role) ≡ b
      → declarations_of params role (v ∷ vs) ≡ (if b then declaration_of params v ∷ [] else []) ++ declarations_of params role vs
  taken role own v vs same b is = ap (λ c. (if c then declaration_of params v ∷ [] else []) ++ declarations_of params role vs) (ap (λ (r : Role). rank r == rank role) same ∙ is)

  pub sections_back : (vs : List Variable) → AreInOrder vs → AllByRecursion IsMade vs → in_sections (declarations_of params Input vs) (declarations_of params Output vs) (declarations_of params Local vs) ≡ map of vs
  sections_back [] order are = refl
  sections_back (v ∷ vs) order are = by v.role refl (sections_back vs order.1 are.1)
    where
      here : (role : Role) → v.role ≡ role → made role (declaration_of params v) ≡ of v
      here role same = subst (λ (r : Role). made r (declaration_of params v) ≡ of v) same are.0

      behind : (role : Role) → v.role ≡ role → AllByRecursion (λ (w : Variable). rank role ≤ rank w.role) vs
      behind role same = subst (λ (r : Role). AllByRecursion (λ (w : Variable). rank r ≤ rank w.role) vs) same order.0

      by : (role : Role) → v.role ≡ role → in_sections (declarations_of params Input vs) (declarations_of params Output vs) (declarations_of params Local vs) ≡ map of vs
          → in_sections (declarations_of params Input (v ∷ vs)) (declarations_of params Output (v ∷ vs)) (declarations_of params Local (v ∷ vs)) ≡ map of (v ∷ vs)
      by Input same later =
          let inputs = taken Input Input v vs same true refl in
          let outputs = taken Output Input v vs same false refl in
          let locals = taken Local Input v vs same false refl in
          (λ i. in_sections (inputs i) (outputs i) (locals i)) ∙ (λ i. here Input same i ∷ later i)
      by Output same later =
          let none = none_of_role Input vs (higher 0 1 (omega arith) vs (behind Output same)) in
          let inputs = taken Input Output v vs same false refl ∙ none in
          let outputs = taken Output Output v vs same true refl in
          let locals = taken Local Output v vs same false refl in
          let rest = sym (ap (λ (ds : List Declaration). in_sections ds (declarations_of params Output vs) (declarations_of params Local vs)) none) ∙ later in
          (λ i. in_sections (inputs i) (outputs i) (locals i)) ∙ (λ i. here Output same i ∷ rest i)
      by Local same later =
          let no_inputs = none_of_role Input vs (higher 0 2 (omega arith) vs (behind Local same)) in
          let no_outputs = none_of_role Output vs (higher 1 2 (omega arith) vs (behind Local same)) in
          let inputs = taken Input Local v vs same false refl ∙ no_inputs in
          let outputs = taken Output Local v vs same false refl ∙ no_outputs in
          let locals = taken Local Local v vs same true refl in
          let rest = sym (λ i. in_sections (no_inputs i) (no_outputs i) (declarations_of params Local vs)) ∙ later in
          (λ i. in_sections (inputs i) (outputs i) (locals i)) ∙ (λ i. here Local same i ∷ rest i)

-- the declarations themselves
map-id : {A : Type 0} (xs : List A) → map (λ x. x) xs ≡ xs
map-id [] = refl
map-id (x ∷ xs) = ap (λ rest. x ∷ rest) (map-id xs)

all_made : (params : Names) (vs : List Variable) → AllByRecursion (IsMade params (λ role d. d) (declaration_of params)) vs
all_made params [] = tt
all_made params (v ∷ vs) = (refl, all_made params vs)

pub declarations_back : (params : Names) (vs : List Variable) → AreInOrder vs
    → declarations_of params Input vs ++ (declarations_of params Output vs ++ declarations_of params Local vs) ≡ map (declaration_of params) vs
declarations_back params vs order =
    let inputs = declarations_of params Input vs in
    let outputs = declarations_of params Output vs in
    let locals = declarations_of params Local vs in
    sym (λ i. map-id inputs i ++ (map-id outputs i ++ map-id locals i)) ∙ sections_back params (λ role d. d) (declaration_of params) vs order (all_made params vs)
