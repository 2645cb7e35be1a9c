-- The lines of tables as the output rows of a program.
use Rattle.std.proofs.Common.{◌≡◌, ℕ, suc, ◌+◌, ◌<◌, ◌≤◌, List, [], ◌∷◌, ◌++◌, length, get_or, take, drop, cond, Some, Result, Ok, Err, refl, sym, ap, subst, arith, ◌∙◌, append_assoc, append-nil}
use Rattle.std.specs.Prelude.{ℤ, All, slice_get}
use Rattle.std.specs.Result.{is_ok, OnOk}
use Rattle.std.specs.Fmt.{signed_decimal}
use Rattle.std.specs.FinMap.{get}
use Rattle.std.proofs.lemmas.List.{drop_more, drop_all, take_all, take_more, flat_map_more}
use Rattle.std.proofs.lemmas.List.Elements.{All-head, All-tail}
use Rattle.std.proofs.lemmas.Option.{MatchOption-at_some}
use Rattle.az_ast.specs.declared.program.Role.{Role}
use Rattle.az_ast.specs.declared.program.Role.TheVariants.{Input, Output, Local}
use Rattle.az_ast.specs.declared.program.Variable.{Variable}
use Rattle.az_ast.specs.Meaning.{Means}
use Rattle.az_ast.specs.OutputRows.{fields, row_of, ArePointRows, RoleLines, AreRowsFrom, AreOutputRows}
use Rattle.az_ast.specs.System.{System}
use Rattle.az_ast.specs.Tables.{Rows, Tables}
use Rattle.table_data.specs.TableOf.{points_of}
use Rattle.table_data.specs.Written.{lines_of, rows_at, role_lines, output_lines, IfOutput, HasMeanings, TablesMean}

pub fields-append : (xs ys : List ℤ) → fields (xs ++ ys) ≡ fields xs ++ fields ys
fields-append [] ys = refl
fields-append (x ∷ xs) ys =
    ap (λ (rest : List ℕ). 44 ∷ (signed_decimal x ++ rest)) (fields-append xs ys)
    ∙ ap (λ (rest : List ℕ). 44 ∷ rest) (sym (append_assoc (signed_decimal x) (fields xs) (fields ys)))

pub field_text : (old : List ℕ) (z : ℤ) → (old ++ 44 ∷ []) ++ signed_decimal z ≡ old ++ fields (z ∷ [])
field_text old z =
    append_assoc old (44 ∷ []) (signed_decimal z) ∙ ap (λ (t : List ℕ). old ++ (44 ∷ t)) (sym (append-nil (signed_decimal z)))

-- one index more is written
pub index_more : (start name : List ℕ) (point : List ℤ) (i : ℕ) (d : ℤ) (old new : List ℕ) → i < length point
    → old ≡ start ++ (name ++ fields (take i point)) → new ≡ old ++ fields (get_or point i d ∷ []) → new ≡ start ++ (name ++ fields (take (i + 1) point))
index_more start name point i d old new here so_far more =
    let c = get_or point i d in
    let taken : take (i + 1) point ≡ take i point ++ c ∷ [] = take_more point i d here in
    let written : fields (take (i + 1) point) ≡ fields (take i point) ++ fields (c ∷ []) = ap fields taken ∙ fields-append (take i point) (c ∷ []) in
    more
    ∙ ap (λ (t : List ℕ). t ++ fields (c ∷ [])) so_far
    ∙ append_assoc start (name ++ fields (take i point)) (fields (c ∷ []))
    ∙ ap (λ (t : List ℕ). start ++ t) (append_assoc name (fields (take i point)) (fields (c ∷ [])))
    ∙ ap (λ (t : List ℕ). start ++ (name ++ t)) (sym written)

-- the value and the line's end are written
pub line_end : (start name : List ℕ) (point : List ℤ) (v : ℤ) (old mid new : List ℕ)
    → old ≡ start ++ (name ++ fields point) → mid ≡ old ++ fields (v ∷ []) → new ≡ mid ++ 10 ∷ [] → new ≡ start ++ row_of name point v
line_end start name point v old mid new so_far value last =
    last
    ∙ ap (λ (t : List ℕ). t ++ 10 ∷ []) (value ∙ ap (λ (t : List ℕ). t ++ fields (v ∷ [])) so_far)
    ∙ append_assoc (start ++ (name ++ fields point)) (fields (v ∷ [])) (10 ∷ [])
    ∙ append_assoc start (name ++ fields point) (fields (v ∷ []) ++ 10 ∷ [])
    ∙ ap (λ (t : List ℕ). start ++ t) (append_assoc name (fields point) (fields (v ∷ []) ++ 10 ∷ [])
    ∙ ap (λ (t : List ℕ). name ++ t) (sym (append_assoc (fields point) (fields (v ∷ [])) (10 ∷ []))
    ∙ ap (λ (t : List ℕ). t ++ 10 ∷ []) (sym (fields-append point (v ∷ [])))))

-- the same, where the last write may be refused
pub line_end_on : {T E : Type 0} (r : Result T E) (start name : List ℕ) (point : List ℤ) (v : ℤ) (i : ℕ) (old mid new : List ℕ) → length point ≤ i
    → old ≡ start ++ (name ++ fields (take i point)) → mid ≡ old ++ fields (v ∷ []) → new ≡ cond (is_ok r) (mid ++ 10 ∷ []) mid → OnOk r (new ≡ start ++ row_of name point v)
line_end_on (Ok x) start name point v i old mid new last so_far value ends =
    line_end start name point v old mid new (so_far ∙ ap (λ (k : List ℤ). start ++ (name ++ fields k)) (take_all i point last)) value ends
line_end_on (Err e) start name point v i old mid new last so_far value ends = tt

-- one row more is written
pub row_more : (start name : List ℕ) (rows : Rows) (i : ℕ) (row : List ℤ × ℤ) (old new : List ℕ) → i < length rows → row ≡ get_or rows i row
    → old ≡ start ++ lines_of name (take i rows) → new ≡ old ++ row_of name row.0 row.1 → new ≡ start ++ lines_of name (take (i + 1) rows)
row_more start name rows i row old new here is so_far more =
    let taken : take (i + 1) rows ≡ take i rows ++ row ∷ [] = take_more rows i row here ∙ ap (λ (r : List ℤ × ℤ). take i rows ++ r ∷ []) (sym is) in
    more
    ∙ ap (λ (t : List ℕ). t ++ row_of name row.0 row.1) so_far
    ∙ flat_map_more (λ (r : List ℤ × ℤ). row_of name r.0 r.1) start (take i rows) row
    ∙ ap (λ (rs : Rows). start ++ lines_of name rs) (sym taken)

-- one variable more is written
pub variable_more : (values : Tables) (vs : List Variable) (x : ℕ) (variable : Variable) (all old new : List ℕ) → x < length vs → variable ≡ get_or vs x variable
    → old ++ output_lines values (drop x vs) x ≡ all
    → new ≡ old ++ role_lines variable.role (lines_of variable.name (rows_at (get values x)))
    → new ++ output_lines values (drop (x + 1) vs) (x + 1) ≡ all
variable_more values vs x variable all old new here is so_far more =
    let own = role_lines variable.role (lines_of variable.name (rows_at (get values x))) in
    let next : x + 1 ≡ suc x = omega arith in
    let cut : drop x vs ≡ variable ∷ drop (x + 1) vs = drop_more vs x variable here ∙ ap (λ (v : Variable). v ∷ drop (x + 1) vs) (sym is) in
    ap (λ (t : List ℕ). t ++ output_lines values (drop (x + 1) vs) (x + 1)) more
    ∙ append_assoc old own (output_lines values (drop (x + 1) vs) (x + 1))
    ∙ ap (λ n. old ++ (own ++ output_lines values (drop (x + 1) vs) n)) next
    ∙ ap (λ (rest : List Variable). old ++ output_lines values rest x) (sym cut)
    ∙ so_far

-- all variables are written
pub lines_whole : (values : Tables) (vs : List Variable) (x : ℕ) (all out : List ℕ) → length vs ≤ x → out ++ output_lines values (drop x vs) x ≡ all → out ≡ all
lines_whole values vs x all out last so_far =
    sym (append-nil out) ∙ ap (λ (rest : List Variable). out ++ output_lines values rest x) (sym (drop_all x vs last)) ∙ so_far

module _ (p : System) (inputs : Tables) (params : List ℤ) (values : Tables) where
  point-rows : (x : ℕ) (name : List ℕ) (rows : Rows) → All (λ row. Means p inputs params x row.0 row.1) rows → ArePointRows p inputs params x name (points_of rows) (lines_of name rows)
  point-rows x name [] means = refl
  point-rows x name (row ∷ rows) means = (
    row.1,
    lines_of name rows,
    All-head (λ r. Means p inputs params x r.0 r.1) row rows means,
    refl,
    point-rows x name rows (All-tail (λ r. Means p inputs params x r.0 r.1) row rows means),
  )

  role-lines : (role : Role) (x : ℕ) (variable : Variable) (rows : Rows) → IfOutput role (HasMeanings p inputs params x variable rows)
      → RoleLines p inputs params role x variable (role_lines role (lines_of variable.name rows))
  role-lines Input x variable rows means = refl
  role-lines Output x variable rows means = record { points = points_of rows; members = means.points; rows = point-rows x variable.name rows means.values }
  role-lines Local x variable rows means = refl

  rows-from : (vs : List Variable) (x : ℕ)
      → ((i y : ℕ) (variable : Variable) → slice_get vs i ≡ Some variable → y ≡ x + i → IfOutput variable.role (HasMeanings p inputs params y variable (rows_at (get values y))))
      → AreRowsFrom p inputs params vs x (output_lines values vs x)
  rows-from [] x means = refl
  rows-from (variable ∷ vs) x means = (
    role_lines variable.role (lines_of variable.name (rows_at (get values x))),
    output_lines values vs (suc x),
    role-lines variable.role x variable (rows_at (get values x)) (means 0 x variable refl (omega arith)),
    rows-from vs (suc x) (λ i y v at is. means (suc i) y v at (omega (arith, is))),
    refl,
  )

  pub written_means : (text : List ℕ) → text ≡ output_lines values p.variables 0 → TablesMean p inputs params values → AreOutputRows p inputs params text
  written_means text is means =
      subst (λ (t : List ℕ). AreOutputRows p inputs params t) (sym is)
      (rows-from p.variables 0 (λ i y variable at same.
      let one : i ≡ y = omega (arith, same) in
      MatchOption-at_some (Unit {0}) (λ v. IfOutput v.role (HasMeanings p inputs params y v (rows_at (get values y)))) variable (subst (λ n. slice_get p.variables n ≡ Some variable) one at) (means y)))
