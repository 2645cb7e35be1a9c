-- Lines of different kinds differ, and each is the line of one name, of one case or of one step.
use Rattle.std.proofs.Common.{◌≡◌, ℕ, ◌<◌, ◌≤◌, ◌^◌, ℤ, pos, negsuc, List, [], ◌∷◌, ◌++◌, length, refl, sym, ap, ◌∙◌, arith}
use Rattle.std.specs.Prelude.{codes}
use Rattle.std.specs.Fmt.{decimal, signed_decimal}
use Rattle.std.proofs.lemmas.Fmt.{decimal_injective}
use Rattle.std.proofs.lemmas.List.{append_cancel_left}
use Rattle.az_ast.specs.Shapes.{IsProgram}
use Rattle.az_ast.specs.System.{System}
use Rattle.az_ast.specs.Writable.{IsWritable}
use Rattle.az_lin.specs.declared.step.Step.{Step}
use Rattle.az_text.proofs.Digits.{digit_range}
use Rattle.cert_read.specs.Inner.Found.{IsNameLine, IsCaseLine, IsStepLine}
use Rattle.cert_text.specs.Lines.{which_line, case_line, step_line, IsSpelledStep}
use Rattle.cert_read.proofs.Names.{name_in_word, one_variable}
use Rattle.grammar_rules.proofs.DecimalLaws.{IsPlain, decimal_plain}
use Rattle.line_fields.specs.Fields.{IsWide, spaced, FieldsAreOne}
use Rattle.cert_read.proofs.NumberFields.{integer_fields, natural_fields, last_integers}
use Rattle.target_map.specs.Refusals.{name_of}
use Rattle.target_map.specs.declared.which.Which.{Which}
use Rattle.target_map.specs.declared.which.Which.TheVariants.{Order, Life, Keep}

-- kinds are told apart by the first byte
abbrev first : List ℕ → ℕ
first [] = 0
first (b ∷ bytes) = b

name_first : (p : System) (which : Which) → (58 ≤ first (which_line p which)) × (first (which_line p which) < 99)
name_first p (Order reader read) = let is : first (which_line p (Order reader read)) ≡ 79 = refl in (omega (arith, is), omega (arith, is))
name_first p (Life reader read writer) = let is : first (which_line p (Life reader read writer)) ≡ 76 = refl in (omega (arith, is), omega (arith, is))
name_first p (Keep output writer) = let is : first (which_line p (Keep output writer)) ≡ 75 = refl in (omega (arith, is), omega (arith, is))

digits_first : (ds rest : List ℕ) → IsPlain ds → first (ds ++ rest) < 58
digits_first [] rest plain = let some = plain.some in absurd (omega (arith, some))
digits_first (d ∷ ds) rest plain =
    let range = digit_range d plain.digits.0 in
    let is : first ((d ∷ ds) ++ rest) ≡ d = refl in
    omega (arith, is, range)

signed_first : (z : ℤ) (rest : List ℕ) → IsWide z → first (signed_decimal z ++ rest) < 58
signed_first (pos n) rest wide = digits_first (decimal n) rest (decimal_plain n (omega (arith, wide)))
signed_first (negsuc n) rest wide = let is : first (signed_decimal (negsuc n) ++ rest) ≡ 45 = refl in omega (arith, is)

step_first : (step : Step) → IsSpelledStep step → first (step_line step) < 58
step_first step fits = signed_first step.a (32 ∷ spaced (decimal step.i) (spaced (signed_decimal step.b) (spaced (decimal step.j) (signed_decimal step.g)))) fits.a

module _ (p : System) (which : Which) (line : List ℕ) (name : IsNameLine p which line) where
  pub name_no_case : (number : ℕ) → IsCaseLine number line → ⊥
  name_no_case number at =
      let same : first (which_line p which) ≡ first (case_line number) = ap first (sym name.spelled ∙ at.spelled) in
      let is : first (case_line number) ≡ 99 = refl in
      let range = name_first p which in
      omega (arith, same, is, range)

  pub name_no_step : (step : Step) → IsStepLine step line → ⊥
  name_no_step step at =
      let same : first (which_line p which) ≡ first (step_line step) = ap first (sym name.spelled ∙ at.spelled) in
      let low = step_first step at.fits in
      let range = name_first p which in
      omega (arith, same, low, range)

pub case_no_step : (number : ℕ) (line : List ℕ) (step : Step) → IsCaseLine number line → IsStepLine step line → ⊥
case_no_step number line step case at =
    let same : first (case_line number) ≡ first (step_line step) = ap first (sym case.spelled ∙ at.spelled) in
    let is : first (case_line number) ≡ 99 = refl in
    let low = step_first step at.fits in
    omega (arith, same, is, low)

-- there is one step
pub one_step : (line : List ℕ) (s t : Step) → IsStepLine s line → IsStepLine t line → s ≡ t
one_step line s t is at =
    let p = is.fits in
    let q = at.fits in
    let a = integer_fields s.a t.a (spaced (decimal s.i) (spaced (signed_decimal s.b) (spaced (decimal s.j) (signed_decimal s.g))))
    (spaced (decimal t.i) (spaced (signed_decimal t.b) (spaced (decimal t.j) (signed_decimal t.g)))) p.a q.a (sym is.spelled ∙ at.spelled) in
    let i = natural_fields s.i t.i (spaced (signed_decimal s.b) (spaced (decimal s.j) (signed_decimal s.g))) (spaced (signed_decimal t.b) (spaced (decimal t.j) (signed_decimal t.g))) p.i q.i a.1 in
    let b = integer_fields s.b t.b (spaced (decimal s.j) (signed_decimal s.g)) (spaced (decimal t.j) (signed_decimal t.g)) p.b q.b i.1 in
    let j = natural_fields s.j t.j (signed_decimal s.g) (signed_decimal t.g) p.j q.j b.1 in
    let g = last_integers s.g t.g p.g q.g j.1 in
    let S : ℤ → ℕ → ℤ → ℕ → ℤ → Step = λ w x y z u. record { a = w; i = x; b = y; j = z; g = u } in
    ap (λ (w : ℤ). S w s.i s.b s.j s.g) a.0 ∙ ap (λ (x : ℕ). S t.a x s.b s.j s.g) i.0 ∙ ap (λ (y : ℤ). S t.a t.i y s.j s.g) b.0 ∙ ap (λ (z : ℕ). S t.a t.i t.b z s.g) j.0 ∙ ap (λ (u : ℤ). S t.a t.i t.b t.j u) g

-- there is one name
module _ (p : System) (rules : IsProgram p) (writable : IsWritable p) (fields_are_one : FieldsAreOne) where
  names : (x y : ℕ) (rest later : List ℕ) → x < length p.variables → y < length p.variables → spaced (name_of p x) rest ≡ spaced (name_of p y) later → (x ≡ y) × (rest ≡ later)
  names x y rest later in_x in_y same =
      let both = fields_are_one (name_of p x) (name_of p y) rest later (name_in_word p writable x in_x) (name_in_word p writable y in_y) same in
      (one_variable p rules x y in_x in_y both.0, both.1)

  numbers : (m n : ℕ) → m < 2 ^ 32 → n < 2 ^ 32 → decimal m ≡ decimal n → m ≡ n
  numbers m n small low same = decimal_injective m n (omega (arith, small)) (omega (arith, low)) same

  apart : (which other : Which) (line : List ℕ) → line ≡ which_line p which → line ≡ which_line p other → first (which_line p which) ≡ first (which_line p other)
  apart which other line is at = ap first (sym is ∙ at)

  pub one_name : (which other : Which) (line : List ℕ) → IsNameLine p which line → IsNameLine p other line → which ≡ other
  one_name (Order x k) (Order y m) line is at =
      let inner = append_cancel_left (codes "Order ") (spaced (name_of p x) (decimal k)) (spaced (name_of p y) (decimal m)) (sym is.spelled ∙ at.spelled) in
      let both = names x y (decimal k) (decimal m) is.own at.own inner in
      let number = numbers k m is.narrow at.narrow both.1 in
      let name = both.0 in
      cc
  one_name (Order x k) (Life y m w) line is at = let e : 79 ≡ 76 = apart (Order x k) (Life y m w) line is.spelled at.spelled in absurd (omega (arith, e))
  one_name (Order x k) (Keep y w) line is at = let e : 79 ≡ 75 = apart (Order x k) (Keep y w) line is.spelled at.spelled in absurd (omega (arith, e))
  one_name (Life x k v) (Order y m) line is at = let e : 76 ≡ 79 = apart (Life x k v) (Order y m) line is.spelled at.spelled in absurd (omega (arith, e))
  one_name (Life x k v) (Life y m w) line is at =
      let inner = append_cancel_left (codes "Life ") (spaced (name_of p x) (spaced (decimal k) (name_of p v))) (spaced (name_of p y) (spaced (decimal m) (name_of p w))) (sym is.spelled ∙ at.spelled) in
      let both = names x y (spaced (decimal k) (name_of p v)) (spaced (decimal m) (name_of p w)) is.own.0 at.own.0 inner in
      let behind = natural_fields k m (name_of p v) (name_of p w) is.narrow at.narrow both.1 in
      let writer = one_variable p rules v w is.own.1 at.own.1 behind.1 in
      let number = behind.0 in
      let name = both.0 in
      cc
  one_name (Life x k v) (Keep y w) line is at = let e : 76 ≡ 75 = apart (Life x k v) (Keep y w) line is.spelled at.spelled in absurd (omega (arith, e))
  one_name (Keep x v) (Order y m) line is at = let e : 75 ≡ 79 = apart (Keep x v) (Order y m) line is.spelled at.spelled in absurd (omega (arith, e))
  one_name (Keep x v) (Life y m w) line is at = let e : 75 ≡ 76 = apart (Keep x v) (Life y m w) line is.spelled at.spelled in absurd (omega (arith, e))
  one_name (Keep x v) (Keep y w) line is at =
      let inner = append_cancel_left (codes "Keep ") (spaced (name_of p x) (name_of p v)) (spaced (name_of p y) (name_of p w)) (sym is.spelled ∙ at.spelled) in
      let both = names x y (name_of p v) (name_of p w) is.own.0 at.own.0 inner in
      let writer = one_variable p rules v w is.own.1 at.own.1 both.1 in
      let name = both.0 in
      cc
