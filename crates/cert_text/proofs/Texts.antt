-- Texts that grow by lines.
use Rattle.std.proofs.Common.{◌≡◌, ℕ, zero, suc, ◌+◌, ◌<◌, List, [], ◌∷◌, ◌++◌, length, map, take, get_or, append_assoc, append-nil, refl, sym, ap, subst, ◌∙◌, arith}
use Rattle.std.specs.List.{flat_map}
use Rattle.std.proofs.lemmas.List.{take_more, map-append, length-take-le}
use Rattle.std.proofs.lemmas.Grind.{flat_map-append}
use Rattle.std.proofs.Math.Seq.{take-length}
use Rattle.az_lin.specs.declared.step.Derivation.{Derivation}
use Rattle.az_lin.specs.declared.step.Step.{Step}
use Rattle.grammar_rules.specs.Lines.{joined}
use Rattle.az_ast.specs.System.{System}
use Rattle.line_fields.specs.Fields.{spaced}
use Rattle.cert_text.specs.Lines.{case_line, case_lines, step_line, proved_lines, version_line}
use Rattle.cert_text.specs.declared.certificate.Proved.{Proved}

pub joined-append : (xs ys : List (List ℕ)) → joined (xs ++ ys) ≡ joined xs ++ joined ys
joined-append [] ys = refl
joined-append (x ∷ xs) ys = ap (λ tail. x ++ (10 ∷ tail)) (joined-append xs ys) ∙ sym (append_assoc x (10 ∷ joined xs) (joined ys))

-- a text that has grown by some lines, and then by others
pub grown : (start before now : List ℕ) (xs ys all : List (List ℕ)) → before ≡ start ++ joined xs → now ≡ before ++ joined ys → all ≡ xs ++ ys → now ≡ start ++ joined all
grown start before now xs ys all first second whole =
    second ∙ ap (λ text. text ++ joined ys) first ∙ append_assoc start (joined xs) (joined ys) ∙ ap (λ text. start ++ text) (sym (joined-append xs ys) ∙ ap joined (sym whole))

pub taken_next : {A : Type 0} (xs : List A) (i : ℕ) (x : A) → i < length xs → x ≡ get_or xs i x → take (i + 1) xs ≡ take i xs ++ x ∷ []
taken_next xs i x here is = take_more xs i x here ∙ ap (λ y. take i xs ++ y ∷ []) (sym is)

pub taken_all : {A : Type 0} (xs : List A) (i : ℕ) → i ≡ length xs → take i xs ≡ xs
taken_all xs i end = ap (λ n. take n xs) end ∙ take-length xs

-- one step more
pub steps_next : (steps : List Step) (i : ℕ) (d : Step) → i < length steps → map step_line (take (i + 1) steps) ≡ map step_line (take i steps) ++ step_line (get_or steps i d) ∷ []
steps_next steps i d here = ap (map step_line) (take_more steps i d here) ∙ map-append step_line (take i steps) (get_or steps i d ∷ [])

-- one case more
pub cases_append : (n : ℕ) (ds : List Derivation) (d : Derivation) → case_lines n (ds ++ d ∷ []) ≡ case_lines n ds ++ (case_line (n + length ds) ∷ map step_line d.steps)
cases_append n [] d =
    let zero_more : n + 0 ≡ n = omega arith in
    ap (λ lines. case_line n ∷ lines) (append-nil (map step_line d.steps)) ∙ ap (λ k. case_line k ∷ map step_line d.steps) (sym zero_more)
cases_append n (e ∷ ds) d =
    let count : suc n + length ds ≡ n + suc (length ds) = omega arith in
    let rest = cases_append (suc n) ds d ∙ ap (λ k. case_lines (suc n) ds ++ (case_line k ∷ map step_line d.steps)) count in
    ap (λ lines. case_line n ∷ (map step_line e.steps ++ lines)) rest
    ∙ ap (λ lines. case_line n ∷ lines) (sym (append_assoc (map step_line e.steps) (case_lines (suc n) ds) (case_line (n + suc (length ds)) ∷ map step_line d.steps)))

-- the pieces of a step's line
pub step_pieces : (start first second now a i b j g : List ℕ) → first ≡ start ++ spaced a (spaced i []) → second ≡ first ++ spaced b (spaced j []) → now ≡ second ++ joined (g ∷ [])
    → now ≡ start ++ joined (spaced a (spaced i (spaced b (spaced j g))) ∷ [])
step_pieces start first second now a i b j g one two three =
    three
    ∙ ap (λ text. text ++ (g ++ 10 ∷ [])) (two ∙ ap (λ text. text ++ spaced b (spaced j [])) one)
    ∙ append_assoc (start ++ spaced a (spaced i [])) (spaced b (spaced j [])) (g ++ 10 ∷ [])
    ∙ append_assoc start (spaced a (spaced i [])) (spaced b (spaced j []) ++ (g ++ 10 ∷ []))
    ∙ ap (λ text. start ++ text) (pair a i (spaced b (spaced j []) ++ (g ++ 10 ∷ [])) ∙ ap (λ text. spaced a (spaced i text)) (pair b j (g ++ 10 ∷ [])) ∙ sym ended)
  where
    pair : (x y rest : List ℕ) → spaced x (spaced y []) ++ rest ≡ spaced x (spaced y rest)
    pair x y rest = append_assoc x (32 ∷ spaced y []) rest ∙ ap (λ text. spaced x text) (append_assoc y (32 ∷ []) rest)

    ended : spaced a (spaced i (spaced b (spaced j g))) ++ 10 ∷ [] ≡ spaced a (spaced i (spaced b (spaced j (g ++ 10 ∷ []))))
    ended =
        append_assoc a (32 ∷ spaced i (spaced b (spaced j g))) (10 ∷ [])
        ∙ ap (λ text. spaced a text) (append_assoc i (32 ∷ spaced b (spaced j g)) (10 ∷ []))
        ∙ ap (λ text. spaced a (spaced i text)) (append_assoc b (32 ∷ spaced j g) (10 ∷ []))
        ∙ ap (λ text. spaced a (spaced i (spaced b text))) (append_assoc j (32 ∷ g) (10 ∷ []))

-- one proof more
pub proofs_next : (p : System) (version : ℕ) (proved : List Proved) (i : ℕ) (one : Proved) → i < length proved → one ≡ get_or proved i one
    → version_line version ∷ flat_map (proved_lines p) (take (i + 1) proved) ≡ (version_line version ∷ flat_map (proved_lines p) (take i proved)) ++ proved_lines p one
proofs_next p version proved i one here is =
    let lines : Proved → List (List ℕ) = proved_lines p in
    ap (λ (all : List (List ℕ)). version_line version ∷ all)
    (ap (λ (ones : List Proved). flat_map lines ones) (taken_next proved i one here is) ∙ flat_map-append lines (take i proved) (one ∷ [])
    ∙ ap (λ (all : List (List ℕ)). flat_map lines (take i proved) ++ all) (append-nil (lines one)))

-- one case more
pub cases_next : (ds : List Derivation) (i : ℕ) (d : Derivation) → i < length ds → d ≡ get_or ds i d
    → case_lines 0 (take (i + 1) ds) ≡ case_lines 0 (take i ds) ++ (case_line i ∷ map step_line d.steps)
cases_next ds i d here is =
    let count : length (take i ds) ≡ i = length-take-le i ds (omega (arith, here)) in
    let number : 0 + length (take i ds) ≡ i = omega (arith, count) in
    ap (λ (xs : List Derivation). case_lines 0 xs) (taken_next ds i d here is) ∙ cases_append 0 (take i ds) d
    ∙ ap (λ (k : ℕ). case_lines 0 (take i ds) ++ (case_line k ∷ map step_line d.steps)) number
