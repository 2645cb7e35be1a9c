-- No piece of what is written of a program is at fault.
use Rattle.std.proofs.Common.{◌≡◌, ℕ, suc, ◌+◌, ◌-◌, ◌<◌, ◌≤◌, ◌^◌, Bool, true, false, not, ◌||◌, List, [], ◌∷◌, ◌++◌, length, Option, Some, None, refl, sym, ap, subst, ◌∙◌, arith}
use Rattle.std.specs.Prelude.{◌==◌, if◌then◌else◌, map, flat_map, slice_get, bytes_eq, ℤ, pos, negsuc, unsigned_abs}
use Rattle.std.specs.List.{list_any, AllByRecursion}
use Rattle.std.specs.Option.{is_none, option_map_or}
use Rattle.std.proofs.Math.Nat.{le-max_left, le-max_right}
use Rattle.std.proofs.lemmas.Bool.{eqb-true, eq-eqb, le-ltb, or_from, not-false}
use Rattle.std.proofs.lemmas.Int.{ints}
use Rattle.std.proofs.lemmas.List.{length-map, map-append}
use Rattle.std.proofs.lemmas.List.Elements.{recursion_from_All}
use Rattle.std.proofs.lemmas.List.Folds.{list_any-append}
use Rattle.az_lin.specs.Affine.{Affine, Polyhedron, Union, IsEntry, HasEntries}
use Rattle.az_ast.specs.declared.op.Op.{Op}
use Rattle.az_ast.specs.declared.program.Variable.{Variable}
use Rattle.az_ast.specs.Operators.{IsWord}
use Rattle.az_ast.specs.Placed.{IsAtWidth, AreAtWidth}
use Rattle.az_ast.specs.Rows.{IsRowAt, IsConjAt, IsDomainAt, HasRowsAt, HaveRowsAt}
use Rattle.az_ast.specs.Shapes.{has_twice, is_sub, of_variable}
use Rattle.az_ast.specs.Shapes as shapes
use Rattle.az_ast.specs.Term.{Term, constant, index, access, negation, binary, cases, reduction, Choices, none, choice}
use Rattle.az_ast.specs.Walks.{branch_domains, extra_under, extra_below}
use Rattle.az_ast.proofs.ProgramLaws.{of_none}
use Rattle.alphabets_show.specs.Expressions.{name_of}
use Rattle.alphabets_show.specs.Sides.{Names, Summand, indices, nonzero, summands}
use Rattle.grammar_rules.specs.declared.term.Term as tree
use Rattle.program_grammar.specs.declared.tree.Declaration.{Declaration}
use Rattle.program_grammar.specs.declared.tree.ProgramText.{ProgramText}
use Rattle.program_names.specs.Pieces.{Piece, number, row, place, names, domain, operator, rows, domain_pieces, pieces, pieces_of_branches}
use Rattle.program_names.specs.Refusals.{repeats, is_twice, is_unknown_in, declaration_of as declared_as, is_unknown, is_wide_literal, is_out, has_entry_out, is_wide_row, is_other_arity, is_bad_operator, has_many_disjuncts}
use Rattle.program_names.specs.Sides.{Difference, alone, less}
use Rattle.program_names.proofs.NameNumbers.{equal-bytes, differ-back}
use Rattle.program_names.proofs.PieceLemmas.{pieces-Constant, pieces-Index, pieces-Access, pieces-Negation, pieces-Binary, pieces-Cases, pieces-Reduction}
use Rattle.program_names.proofs.Sums.{or-left, or-right}
use Rattle.show_grammar.specs.WrittenOf.{is_negative, term_of, zero_side, side_of, row_of, chain_of, chains_of, disjuncts_of, only_chains, operator_of, expression_of, branches_of, declaration_of}
use Rattle.show_means.proofs.ExpressionsBack.{op-back}
use Rattle.show_again.proofs.Parts.{each, all_append, EachPart, EachBelow, IsFew, IsProper, some_at}
use Rattle.show_means.proofs.RowsBack.{over, over_columns, IsZero, nothing_zero, zero_side_zero, row_back}
use Rattle.show_means.proofs.Scopes.{columns-more, length-indices}
use Rattle.show_means.specs.Kept.{columns}

pub record IsClean (text : ProgramText) (piece : Piece) : Type 0 where
  pub once : is_twice piece ≡ false
  pub known : is_unknown text piece ≡ false
  pub literal : is_wide_literal piece ≡ false
  pub narrow : is_wide_row piece ≡ false
  pub arity : is_other_arity text piece ≡ false
  pub folds : is_bad_operator piece ≡ false
  pub few : has_many_disjuncts piece ≡ false

-- no piece passes a test that clean ones don't
pub none_passes : (text : ProgramText) (test : Piece → Bool) → ((piece : Piece) → IsClean text piece → test piece ≡ false) → (ps : List Piece) → AllByRecursion (IsClean text) ps → list_any test ps ≡ false
none_passes text test fails ps clean = of_none test ps (each (IsClean text) (λ piece. test piece ≡ false) fails ps clean)

-- the kinds of pieces
clean_number : (text : ProgramText) (negative : Bool) (n : ℕ) → is_wide_literal (number negative n) ≡ false → IsClean text (number negative n)
clean_number text negative n fits = record { once = refl; known = refl; literal = fits; narrow = refl; arity = refl; folds = refl; few = refl }

clean_row : (text : ProgramText) (scope : Names) (d : Difference) → is_unknown text (row scope d) ≡ false → is_wide_row (row scope d) ≡ false → IsClean text (row scope d)
clean_row text scope d known narrow = record { once = refl; known = known; literal = refl; narrow = narrow; arity = refl; folds = refl; few = refl }

pub clean_place : (text : ProgramText) (x : List ℕ) (count : ℕ) (d : Declaration) → declared_as text x ≡ Some d → length d.indices ≡ count → IsClean text (place x count)
clean_place text x count d found same = record {
  once = refl;
  known = ap is_none found;
  literal = refl;
  narrow = refl;
  arity = ap (λ (o : Option Declaration). option_map_or (λ declaration. not (count == length declaration.indices)) o false) found ∙ ap (λ (n : ℕ). not (count == n)) same ∙ itself count;
  folds = refl;
  few = refl;
}
  where
    itself : (n : ℕ) → not (n == n) ≡ false
    itself n = ap not (eq-eqb n n refl)

pub clean_names : (text : ProgramText) (scope more : Names) → repeats scope more ≡ false → IsClean text (names scope more)
clean_names text scope more once = record { once = once; known = refl; literal = refl; narrow = refl; arity = refl; folds = refl; few = refl }

clean_domain : (text : ProgramText) (count : ℕ) → count ≤ 8 → IsClean text (domain count)
clean_domain text count few = record {
  once = refl;
  known = refl;
  literal = refl;
  narrow = refl;
  arity = refl;
  folds = refl;
  few = le-ltb 8 count few;
}

clean_operator : (text : ProgramText) (o : Op) → is_sub o ≡ false → IsClean text (operator (operator_of o))
clean_operator text o folds = record { once = refl; known = refl; literal = refl; narrow = refl; arity = refl; folds = ap is_sub (op-back o) ∙ folds; few = refl }

-- names that come into a scope
suffix_once : (scope more : Names) → has_twice (scope ++ more) ≡ false → has_twice more ≡ false
suffix_once [] more once = once
suffix_once (x ∷ scope) more once = suffix_once scope more (or-right (list_any (bytes_eq x) (scope ++ more)) (has_twice (scope ++ more)) once)

in_first : (test : List ℕ → Bool) (xs ys : Names) → list_any test (xs ++ ys) ≡ false → list_any test xs ≡ false
in_first test xs ys h = or-left (list_any test xs) (list_any test ys) (sym (list_any-append test xs ys) ∙ h)

in_second : (test : List ℕ → Bool) (xs ys : Names) → list_any test (xs ++ ys) ≡ false → list_any test ys ≡ false
in_second test xs ys h = or-right (list_any test xs) (list_any test ys) (sym (list_any-append test xs ys) ∙ h)

both_none : (test : List ℕ → Bool) (xs ys : Names) → list_any test xs ≡ false → list_any test ys ≡ false → list_any test (xs ++ ys) ≡ false
both_none test xs ys one two = list_any-append test xs ys ∙ or_from (list_any test xs) (list_any test ys) one two

without : (name : List ℕ) (xs ys : Names) → has_twice (xs ++ name ∷ ys) ≡ false → has_twice (xs ++ ys) ≡ false
without name [] ys once = or-right (list_any (bytes_eq name) ys) (has_twice ys) once
without name (x ∷ xs) ys once =
    let here = or-left (list_any (bytes_eq x) (xs ++ name ∷ ys)) (has_twice (xs ++ name ∷ ys)) once in
    let rest = in_second (bytes_eq x) xs (name ∷ ys) here in
    or_from (list_any (bytes_eq x) (xs ++ ys)) (has_twice (xs ++ ys))
    (both_none (bytes_eq x) xs ys (in_first (bytes_eq x) xs (name ∷ ys) here) (or-right (bytes_eq x name) (list_any (bytes_eq x) ys) rest))
    (without name xs ys (or-right (list_any (bytes_eq x) (xs ++ name ∷ ys)) (has_twice (xs ++ name ∷ ys)) once))

not_before : (name : List ℕ) (scope more : Names) → has_twice (scope ++ name ∷ more) ≡ false → list_any (bytes_eq name) scope ≡ false
not_before name [] more once = refl
not_before name (x ∷ scope) more once =
    let here = in_second (bytes_eq x) scope (name ∷ more) (or-left (list_any (bytes_eq x) (scope ++ name ∷ more)) (has_twice (scope ++ name ∷ more)) once) in
    or_from (bytes_eq name x) (list_any (bytes_eq name) scope) (differ-back x name (or-left (bytes_eq x name) (list_any (bytes_eq x) more) here))
    (not_before name scope more (or-right (list_any (bytes_eq x) (scope ++ name ∷ more)) (has_twice (scope ++ name ∷ more)) once))

pub no_repeats : (scope more : Names) → has_twice (scope ++ more) ≡ false → repeats scope more ≡ false
no_repeats scope [] once = refl
no_repeats scope (name ∷ more) once =
    let later = or-left (list_any (bytes_eq name) more) (has_twice more) (suffix_once scope (name ∷ more) once) in
    or_from (list_any (bytes_eq name) scope || list_any (bytes_eq name) more) (repeats scope more)
    (or_from (list_any (bytes_eq name) scope) (list_any (bytes_eq name) more) (not_before name scope more once) later) (no_repeats scope more (without name scope more once))

-- the names of a row
abbrev AreIn : Names → Names → Type 0
AreIn scope xs = AllByRecursion (λ x. list_any (bytes_eq x) scope ≡ true) xs

or_true : (a b : Bool) → b ≡ true → (a || b) ≡ true
or_true true b h = refl
or_true false b h = h

members : (xs : Names) → AreIn xs xs
members [] = tt
members (x ∷ xs) = (
  ap (λ b. b || list_any (bytes_eq x) xs) (equal-bytes x x refl),
  each (λ y. list_any (bytes_eq y) xs ≡ true) (λ y. list_any (bytes_eq y) (x ∷ xs) ≡ true) (λ y h. or_true (bytes_eq y x) (list_any (bytes_eq y) xs) h) xs (members xs),
)

nonzero_known : (scope : Names) (c : ℤ) (name : Option (List ℕ)) → option_map_or (λ x. not (list_any (bytes_eq x) scope)) name false ≡ false → list_any (is_unknown_in scope) (map term_of (nonzero c name)) ≡ false
nonzero_known scope c name known = by (unsigned_abs c == 0)
  where
    by : (b : Bool) → list_any (is_unknown_in scope) (map term_of (if b then [] else (c, name) ∷ [])) ≡ false
    by true = refl
    by false = or_from (is_unknown_in scope (term_of (c, name))) false known refl

joined_known : (scope : Names) (xs ys : List Summand) → list_any (is_unknown_in scope) (map term_of xs) ≡ false → list_any (is_unknown_in scope) (map term_of ys) ≡ false → list_any (is_unknown_in scope) (map term_of (xs ++ ys)) ≡ false
joined_known scope xs ys one two =
    ap (list_any (is_unknown_in scope)) (map-append term_of xs ys)
    ∙ (list_any-append (is_unknown_in scope) (map term_of xs) (map term_of ys)
    ∙ or_from (list_any (is_unknown_in scope) (map term_of xs)) (list_any (is_unknown_in scope) (map term_of ys)) one two)

over_known : (scope xs : Names) (cs : List ℤ) → AreIn scope xs → list_any (is_unknown_in scope) (map term_of (over xs cs)) ≡ false
over_known scope [] cs are = refl
over_known scope (x ∷ xs) [] are = refl
over_known scope (x ∷ xs) (c ∷ cs) are = joined_known scope (nonzero c (Some x)) (over xs cs) (nonzero_known scope c (Some x) (ap not are.0)) (over_known scope xs cs are.1)

side_known : (scope : Names) (ts : List Summand) → list_any (is_unknown_in scope) (map term_of ts) ≡ false → list_any (is_unknown_in scope) (side_of ts) ≡ false
side_known scope [] known = refl
side_known scope (t ∷ ts) known = known

-- entries
entry_in : (c : ℤ) → IsEntry c → is_out c ≡ false
entry_in c few = le-ltb (2 ^ 60 - 1) (unsigned_abs c) (omega (arith, few))

entries_in : (r : Affine) → HasEntries r → has_entry_out r ≡ false
entries_in r has =
    or_from (list_any is_out r.coefs) (is_out r.konst)
    (of_none is_out r.coefs (each IsEntry (λ c. is_out c ≡ false) entry_in r.coefs (recursion_from_All IsEntry r.coefs has.coefficients))) (entry_in r.konst has.constant)

module _ (text : ProgramText) (params : Names) (count width : ℕ) (once : has_twice (columns params count) ≡ false) (at : width ≡ length params + count) where
  abbrev scope : Names
  scope = columns params count

  row_clean : (r : Affine) (right : List tree.Term) → IsZero right → list_any (is_unknown_in scope) right ≡ false → IsRowAt width r → IsClean text (row scope (less (row_of params r) right false))
  row_clean r right nothing plain is =
      let wide : length r.coefs ≡ length params + count = is.0 ∙ at in
      let known = side_known scope (summands params r)
      (subst (λ (ts : List Summand). list_any (is_unknown_in scope) (map term_of (ts ++ nonzero r.konst None)) ≡ false) (sym (over_columns params count r.coefs wide))
      (joined_known scope (over scope r.coefs) (nonzero r.konst None) (over_known scope scope r.coefs (members scope)) (nonzero_known scope r.konst None refl))) in
      clean_row text scope (less (row_of params r) right false) (or_from (list_any (is_unknown_in scope) (row_of params r)) (list_any (is_unknown_in scope) right) known plain)
      (ap has_entry_out (row_back params count once r wide right nothing) ∙ entries_in r is.1)

  side_clean : (r : Affine) → IsRowAt width r → IsClean text (row scope (alone (row_of params r)))
  side_clean r is = row_clean r [] nothing_zero refl is

  sides_clean : (rs : List Affine) → AllByRecursion (IsRowAt width) rs → AllByRecursion (IsClean text) (map (λ side. row scope (alone side)) (map (row_of params) rs))
  sides_clean [] is = tt
  sides_clean (r ∷ rs) is = (side_clean r is.0, sides_clean rs is.1)

  chains_clean : (rs : List Affine) → AllByRecursion (IsRowAt width) rs → AllByRecursion (IsClean text) (rows scope (map (chain_of params) rs))
  chains_clean [] is = tt
  chains_clean (r ∷ rs) is = (row_clean r zero_side zero_side_zero refl is.0, chains_clean rs is.1)

  conj_clean : (conj : Polyhedron) → IsConjAt width conj → AllByRecursion (IsClean text) (rows scope (chains_of params conj))
  conj_clean conj is = chains_clean conj.rows (recursion_from_All (IsRowAt width) conj.rows is.rows)

  conjs_clean : (ds : List Polyhedron) → AllByRecursion (IsConjAt width) ds → AllByRecursion (IsClean text) (flat_map (rows scope) (map (chains_of params) ds))
  conjs_clean [] is = tt
  conjs_clean (d ∷ ds) is = all_append (IsClean text) (rows scope (chains_of params d)) (flat_map (rows scope) (map (chains_of params) ds)) (conj_clean d is.0) (conjs_clean ds is.1)

  pub domain_clean : (d : Union) → IsDomainAt width d → IsFew d → AllByRecursion (IsClean text) (domain_pieces scope (disjuncts_of params d))
  domain_clean d is few =
      let same = length-map d.disjuncts (chains_of params) in
      (clean_domain text (length (disjuncts_of params d)) (omega (arith, same, few)), conjs_clean d.disjuncts (recursion_from_All (IsConjAt width) d.disjuncts is.disjuncts))

  only_clean : (ds : List Polyhedron) → AllByRecursion (IsConjAt width) ds → AllByRecursion (IsClean text) (rows scope (only_chains params ds))
  only_clean [] is = tt
  only_clean (d ∷ ds) is = conj_clean d is.0

  pub single_clean : (d : Union) → IsDomainAt width d → AllByRecursion (IsClean text) (rows scope (only_chains params d.disjuncts))
  single_clean d is = only_clean d.disjuncts (recursion_from_All (IsConjAt width) d.disjuncts is.disjuncts)

literal_in : (c : ℤ) → IsWord c → is_wide_literal (number (is_negative c) (unsigned_abs c)) ≡ false
literal_in (pos n) is = le-ltb (2 ^ 63 - 1) n (omega (arith, ints, is))
literal_in (negsuc n) is = le-ltb (2 ^ 63) (suc n) (omega (arith, ints, is))

-- expressions, where the name of each variable finds its declaration
module _ (text : ProgramText) (params : Names) (variables : List Variable) (distinct : (count : ℕ) → count ≤ 16 → has_twice (columns params count) ≡ false)
    (found : (x : ℕ) (v : Variable) → slice_get variables x ≡ Some v → declared_as text (name_of variables x) ≡ Some (declaration_of params v)) where
  place_clean : (x count : ℕ) → x < length variables → of_variable variables (λ v. not (count == shapes.indices (length params) v)) x ≡ false → IsClean text (place (name_of variables x) count)
  place_clean x count within arity =
      let known = some_at variables x within in
      let v = known.0 in
      let equal = eqb-true count (shapes.indices (length params) v) (not-false (count == shapes.indices (length params) v)
      (ap (λ (o : Option Variable). option_map_or (λ (w : Variable). not (count == shapes.indices (length params) w)) o false) (sym known.1) ∙ arity)) in
      clean_place text (name_of variables x) count (declaration_of params v) (found x v known.1) (length-indices 0 (shapes.indices (length params) v) ∙ sym equal)

  mutual
    pub expression_clean : (t : Term) (count width : ℕ) → width ≡ length params + count → count + extra_under t ≤ 16 → IsAtWidth (length variables) t width → HasRowsAt t width → EachPart (IsProper (length params) variables) t
        → AllByRecursion (IsClean text) (pieces (expression_of params variables t count) (columns params count))
    expression_clean (constant c) count width at few placed rows proper =
        subst (AllByRecursion (IsClean text)) (sym (pieces-Constant (is_negative c) (unsigned_abs c) (columns params count))) (clean_number text (is_negative c) (unsigned_abs c) (literal_in c rows), tt)
    expression_clean (index r) count width at few placed rows proper =
        subst (AllByRecursion (IsClean text)) (sym (pieces-Index (row_of params r) (columns params count))) (side_clean text params count width (distinct count (omega arith)) at r rows, tt)
    expression_clean (access x f) count width at few placed rows proper =
        let sides = map (row_of params) f.rows in
        let same = length-map f.rows (row_of params) in
        subst (AllByRecursion (IsClean text)) (sym (pieces-Access (name_of variables x) sides (columns params count))) (
          subst (λ (n : ℕ). IsClean text (place (name_of variables x) n)) (sym same) (place_clean x (length f.rows) placed.0 proper.arity),
          sides_clean text params count width (distinct count (omega arith)) at f.rows (recursion_from_All (IsRowAt width) f.rows rows.rows),
        )
    expression_clean (negation e) count width at few placed rows proper =
        subst (AllByRecursion (IsClean text)) (sym (pieces-Negation (expression_of params variables e count) (columns params count))) (expression_clean e count width at few placed rows proper.1)
    expression_clean (binary o a b) count width at few placed rows proper =
        let left = expression_of params variables a count in
        let right = expression_of params variables b count in
        let one = le-max_left (extra_under a) (extra_under b) in
        let two = le-max_right (extra_under a) (extra_under b) in
        subst (AllByRecursion (IsClean text)) (sym (pieces-Binary (operator_of o) left right (columns params count)))
        (all_append (IsClean text) (pieces left (columns params count)) (pieces right (columns params count))
        (expression_clean a count width at (omega (arith, one)) placed.0 rows.0 proper.1) (expression_clean b count width at (omega (arith, two)) placed.1 rows.1 proper.2))
    expression_clean (cases branches) count width at few placed rows proper =
        subst (AllByRecursion (IsClean text)) (sym (pieces-Cases (branches_of params variables branches count) (columns params count)))
        (branches_clean branches count width at few placed rows proper.0.few proper.1)
    expression_clean (reduction o extra d e) count width at few placed rows_ proper =
        let scope = columns params count in
        let brought = indices count extra in
        let chains = only_chains params d.disjuncts in
        let body = expression_of params variables e (count + extra) in
        let next : width + extra ≡ length params + (count + extra) = omega arith in
        let more : scope ++ brought ≡ columns params (count + extra) = columns-more params count extra in
        let apart = distinct (count + extra) (omega arith) in
        let inner = all_append (IsClean text) (rows (columns params (count + extra)) chains) (pieces body (columns params (count + extra)))
        (single_clean text params (count + extra) (width + extra) apart next d rows_.0) (expression_clean e (count + extra) (width + extra) next (omega arith) placed.2 rows_.1 proper.1) in
        subst (AllByRecursion (IsClean text)) (sym (pieces-Reduction (operator_of o) brought chains body scope)) (
          clean_operator text o proper.0.folds,
          (
            clean_names text scope brought (no_repeats scope brought (ap has_twice more ∙ apart)),
            subst (λ (s : Names). AllByRecursion (IsClean text) (rows s chains ++ pieces body s)) (sym more) inner,
          ),
        )

    branches_clean : (branches : Choices) (count width : ℕ) → width ≡ length params + count → count + extra_below branches ≤ 16 → AreAtWidth (length variables) branches width → HaveRowsAt branches width
        → AllByRecursion IsFew (branch_domains branches) → EachBelow (IsProper (length params) variables) branches
        → AllByRecursion (IsClean text) (pieces_of_branches (branches_of params variables branches count) (columns params count))
    branches_clean none count width at few placed rows domains proper = tt
    branches_clean (choice d e rest) count width at few placed rows domains proper =
        let scope = columns params count in
        let body = expression_of params variables e count in
        let one = le-max_left (extra_under e) (extra_below rest) in
        let two = le-max_right (extra_under e) (extra_below rest) in
        all_append (IsClean text) (domain_pieces scope (disjuncts_of params d) ++ pieces body scope) (pieces_of_branches (branches_of params variables rest count) scope)
        (all_append (IsClean text) (domain_pieces scope (disjuncts_of params d)) (pieces body scope)
        (domain_clean text params count width (distinct count (omega arith)) at d rows.0 domains.0) (expression_clean e count width at (omega (arith, one)) placed.1 rows.1 proper.0))
        (branches_clean rest count width at (omega (arith, two)) placed.2 rows.2 domains.1 proper.1)
