-- The formulas of the lifetimes mean what they are to.
use Rattle.std.proofs.Common.{◌≡◌, ◌↔◌, ℕ, ◌+◌, ◌-◌, ◌≤◌, List, [], ◌∷◌, ◌++◌, length, take, drop, Bool, true, false, Option, Some, None, not, cond, refl, sym, ap, ap₂, subst, ◌∙◌, arith, All}
use Rattle.std.specs.Prelude.{ℤ, slice_get, filter}
use Rattle.std.specs.FinMap.{get}
use Rattle.std.specs.List.{AllByRecursion, range_with_len}
use Rattle.std.specs.Option.{option_map_or}
use Rattle.std.specs.Str.{bytes_eq}
use Rattle.std.proofs.lemmas.List.{take-take, length-take-le}
use Rattle.std.proofs.lemmas.List.FromFn.{length-map-range_with_len}
use Rattle.std.proofs.lemmas.List.Elements.{All-nil, All-cons, All-head, All-tail, recursion_from_All}
use Rattle.az_lin.specs.Affine.{AffineMap, Union, HasWidth, HoldsSome, image_of}
use Rattle.az_lin.specs.Columns.{extended, unit_row, without}
use Rattle.az_lin.proofs.Substitution.{image_of-composed}
use Rattle.az_ast.specs.Shapes.{IsProgram, is_input, of_variable}
use Rattle.az_ast.specs.System.{System}
use Rattle.az_ast.specs.declared.program.Equation.{Equation}
use Rattle.az_ast.specs.declared.program.Role.{Role}
use Rattle.az_ast.specs.declared.program.Role.TheVariants.{Input, Output, Local}
use Rattle.az_ast.specs.declared.program.Variable.{Variable}
use Rattle.domain_check.specs.Context.{context}
use Rattle.domain_check.proofs.Building.{reading_rows}
use Rattle.domain_check.proofs.Readiness.{item_at}
use Rattle.expr_places.specs.Reads.{ReadPlace, reads_of}
use Rattle.formula_refute.specs.Claims.{Claim, IsTrueAt}
use Rattle.target_map.specs.Dependence.{point_read, point_of}
use Rattle.target_map.specs.Kinds.{tile_sizes}
use Rattle.target_map.specs.Lifetime.{writer_point, IsOther, StoresOver, IsStoredOver, IsOutputLost}
use Rattle.target_map.specs.Settings.{TargetMapping, IsMapping, IsComplete, is_written}
use Rattle.target_map.specs.Storage.{MayShare, shares_space, writers_of}
use Rattle.target_map.specs.Times.{storage_of, stamp_at, cell_at, domain_of, indices_of, is_output, IsBefore}
use Rattle.target_map.specs.declared.storage.Storage.{Storage}
use Rattle.order_sets.specs.NotBefore.{not_before, values, stamp_values}
use Rattle.order_sets.specs.Visits.{no_rows, read_visit, own_visit, writer_visit, time_rows}
use Rattle.order_sets.specs.declared.visit.Visit.{Visit}
use Rattle.order_sets.proofs.Contexts.{widened_true, context_to, context_from}
use Rattle.order_sets.proofs.Joined.{Each, each_join, each_first, each_last}
use Rattle.order_sets.proofs.Meaning.{not_before_is}
use Rattle.order_sets.specs.Reading.{IsReadOf}
use Rattle.order_sets.proofs.ReadFacts.{all_reads, equations_written}
use Rattle.order_sets.proofs.Stamps.{time_is}
use Rattle.order_sets.proofs.Visits.{read_point, read_wide, own_point, own_wide, writer_at, writer_wide}
use Rattle.life_sets.specs.Beside.{writer_domain}
use Rattle.life_sets.specs.Cells.{shared, cell_map, other}
use Rattle.life_sets.specs.Laws.{IsLifeMeant, IsKeepMeant, LivesAreMeant, LifeIsMeant}
use Rattle.life_sets.specs.Lifetimes.{with_writer, output_scope, stores_over, before_reader, life_claim, keep_claim}
use Rattle.life_sets.proofs.Cells.{cell_to, cell_from, other_true}
use Rattle.life_sets.proofs.Points.{take_front, short_image}

-- an output or local is declared, and has the columns of its points
module _ (p : System) (program : IsProgram p) where
  declared : (y : ℕ) → is_written p y → (v : Variable) × (slice_get p.variables y ≡ Some v)
  declared y written = by (slice_get p.variables y) refl written
    where
      by : (o : Option Variable) → slice_get p.variables y ≡ o → option_map_or (λ (v : Variable). not (is_input v.role)) o false ≡ true → (v : Variable) × (slice_get p.variables y ≡ Some v)
      by None is written = cc
      by (Some v) is written = (v, is)

  domain_is : (y : ℕ) (v : Variable) → slice_get p.variables y ≡ Some v → domain_of p y ≡ v.domain
  domain_is y v is = ap (λ o. option_map_or (λ (v : Variable). v.domain) o (record { width = 0; disjuncts = [] })) is

  pub enough : (y : ℕ) → is_written p y → length p.params ≤ (domain_of p y).width
  enough y written =
      let there = declared y written in
      let P : Variable → Type 0 = λ v. length p.params ≤ v.domain.width in
      let Q : Union → Type 0 = λ d. length p.params ≤ d.width in
      subst Q (sym (domain_is y there.0 there.1)) (item_at P p.variables y there.0 there.1 (recursion_from_All P p.variables program.placed.domains))

-- what all members of a filtered list have
pub filtered : {A : Type 0} (P : A → Type 0) (test : A → Bool) (xs : List A) → ((x : A) → test x ≡ true → P x) → All P (filter test xs)
filtered P test [] each = All-nil P
filtered P test (x ∷ xs) each = by (test x) refl (filtered P test xs each)
  where
    by : (b : Bool) → test x ≡ b → All P (filter test xs) → All P (cond b (x ∷ filter test xs) (filter test xs))
    by true is rest = All-cons P x (filter test xs) (each x is) rest
    by false is rest = rest

-- a writer of a space is an output or local
pub writer_written : (p : System) (m : TargetMapping) → IsComplete p m → (x y : ℕ) → shares_space m x y ≡ true → is_written p y
writer_written p m complete x y shares = by (get m.storages x) refl shares
  where
    inner : (first : Storage) (o : Option Storage) → get m.storages y ≡ o → option_map_or (λ (second : Storage). bytes_eq first.space second.space) o false ≡ true → is_written p y
    inner first None is shares = cc
    inner first (Some second) is shares = (complete.fits.storages y second is).written

    by : (o : Option Storage) → get m.storages x ≡ o
        → option_map_or (λ (first : Storage). option_map_or (λ (second : Storage). bytes_eq first.space second.space) (get m.storages y) false) o false ≡ true → is_written p y
    by None is shares = cc
    by (Some first) is shares = inner first (get m.storages y) refl shares

-- an output is an output or local
pub output_written : (p : System) (x : ℕ) → of_variable p.variables (λ variable. is_output variable.role) x ≡ true → is_written p x
output_written p x output = by (slice_get p.variables x) output
  where
    role_written : (role : Role) → is_output role ≡ true → not (is_input role) ≡ true
    role_written Input is = cc
    role_written Output is = refl
    role_written Local is = cc

    by : (o : Option Variable) → option_map_or (λ (v : Variable). is_output v.role) o false ≡ true → option_map_or (λ (v : Variable). not (is_input v.role)) o false ≡ true
    by None is = cc
    by (Some v) is = role_written v.role is

module _ (p : System) (m : TargetMapping) (program : IsProgram p) (kept : IsMapping m) (complete : IsComplete p m) where
  abbrev n : ℕ
  n = length p.params

  -- an instance of a formula: its variable, its rows and its point
  pub record IsAt (z : List ℤ) (visit : Visit) (a : List ℤ) : Type 0 where
    pub written : is_written p visit.variable
    pub wide : All (HasWidth visit.at.width) visit.at.rows
    pub point : image_of visit.at z ≡ a
    pub params : take n a ≡ take n z
    pub long : length visit.at.rows ≡ (domain_of p visit.variable).width

  stamps : (z : List ℤ) (visit : Visit) (a : List ℤ) → IsAt z visit a → stamp_values z (time_rows m visit) ≡ stamp_at m visit.variable a
  stamps z visit a at = time_is z m visit at.wide ∙ ap (λ (point : List ℤ). stamp_at m visit.variable point) at.point

  cells : (z : List ℤ) (visit : Visit) (a : List ℤ) → IsAt z visit a → values z (cell_map m visit).rows ≡ cell_at m visit.variable a
  cells z visit a at = image_of-composed (storage_of m visit.variable).map visit.at z at.wide ∙ ap (λ (point : List ℤ). cell_at m visit.variable point) at.point

  shared_true : (z : List ℤ) (u v : Visit) (a b : List ℤ) → IsAt z u a → IsAt z v b
      → IsTrueAt z (shared m u v) ↔ MayShare (storage_of m v.variable).factors (cell_at m u.variable a) (cell_at m v.variable b)
  shared_true z u v a b at_a at_b =
      let factors = (storage_of m v.variable).factors in
      let P : List ℤ → Type 0 = λ xs. IsTrueAt z (shared m u v) ↔ MayShare factors xs (values z (cell_map m v).rows) in
      let Q : List ℤ → Type 0 = λ ys. IsTrueAt z (shared m u v) ↔ MayShare factors (cell_at m u.variable a) ys in
      subst Q (cells z v b at_b) (subst P (cells z u a at_a)
      (λ h. cell_to z factors (cell_map m u).rows (cell_map m v).rows h, λ h. cell_from z factors (cell_map m u).rows (cell_map m v).rows h))

  differ : (z : List ℤ) (u v : Visit) (a b : List ℤ) → IsAt z u a → IsAt z v b → IsTrueAt z (other p u v) ↔ IsOther u.variable a v.variable b
  differ z u v a b at_a at_b =
      let same_long : u.variable ≡ v.variable → length u.at.rows ≡ length v.at.rows = λ same. at_a.long ∙ ap (λ x. (domain_of p x).width) same ∙ sym at_b.long in
      other_true z p u v a b at_a.point at_b.point (at_a.params ∙ sym at_b.params) same_long

  not_before_at : (z : List ℤ) (u v : Visit) (a b : List ℤ) → IsAt z u a → IsAt z v b
      → IsTrueAt z (not_before (tile_sizes m.kinds) (time_rows m u) (time_rows m v)) ↔ (IsBefore m u.variable a v.variable b → ⊥)
  not_before_at z u v a b at_a at_b = not_before_is p m kept complete z u v a b at_a.written at_b.written (stamps z u a at_a) (stamps z v b at_b)

  -- beside a writer
  module _ (width y : ℕ) (inside : n ≤ width) (written : is_written p y) (z : List ℤ) (long : length z ≡ width + indices_of p y) where
    abbrev writer : Visit
    writer = writer_visit p y width

    abbrev point : List ℤ
    point = writer_point p width z

    writer_is : IsAt z writer point
    writer_is =
        let behind : AffineMap = extended (indices_of p y) (no_rows width) in
        let rows : length behind.rows ≡ indices_of p y = length-map-range_with_len (λ column. unit_row (width + indices_of p y) column) width (indices_of p y) in
        let few = enough p program y written in
        let front : n ≤ length z = omega arith in
        record {
          written = written;
          wide = writer_wide p z y width;
          point = writer_at p z y width inside long;
          params = take_front n z (drop width z) front;
          long = (let all = reading_rows n behind in omega (arith, all, rows, few));
        }

    domain_true : IsTrueAt z (writer_domain p width y) ↔ HoldsSome (domain_of p y) point
    domain_true =
        let P : List ℤ → Type 0 = λ w. IsTrueAt z (writer_domain p width y) ↔ HoldsSome (domain_of p y) w in
        let behind : n + (width - n) ≡ width = omega arith in
        let same : without n (width - n) z ≡ point = ap (λ k. take n z ++ drop k z) behind in
        subst P same (widened_true z n (width - n) (domain_of p y))

    module _ (visit : Visit) (a : List ℤ) (at : IsAt z visit a) where
      pub over_to : Each z (stores_over p m width y visit) → StoresOver p m y point visit.variable a
      over_to h = record {
        instance = domain_true.0 h.0;
        same_cell = (shared_true z writer visit point a writer_is at).0 h.1.0;
        other = (differ z writer visit point a writer_is at).0 h.1.1.0;
        not_before = (not_before_at z writer visit point a writer_is at).0 h.1.1.1.0;
      }

      pub over_from : StoresOver p m y point visit.variable a → Each z (stores_over p m width y visit)
      over_from h = (
        domain_true.1 h.instance,
        (
          (shared_true z writer visit point a writer_is at).1 h.same_cell,
          ((differ z writer visit point a writer_is at).1 h.other, ((not_before_at z writer visit point a writer_is at).1 h.not_before, tt)),
        ),
      )

      pub reader_true : Each z (before_reader p m width y visit) ↔ (IsOther y point visit.variable a × ¬ IsBefore m visit.variable a y point)
      reader_true = (
        λ h. ((differ z writer visit point a writer_is at).0 h.0, (not_before_at z visit writer a point at writer_is).0 h.1.0),
        λ h. ((differ z writer visit point a writer_is at).1 h.0, ((not_before_at z visit writer a point at writer_is).1 h.1, tt)),
      )

  -- the instance with the first columns
  own_is : (x width : ℕ) (z : List ℤ) → is_written p x → (domain_of p x).width ≤ width → width ≤ length z → IsAt z (own_visit p x width) (point_of p x z)
  own_is x width z written inside there =
      let few = enough p program x written in
      record {
        written = written;
        wide = own_wide p z x width;
        point = own_point p z x width inside (omega arith);
        params = take-take n (domain_of p x).width z few;
        long = (let all = reading_rows (domain_of p x).width (no_rows width) in omega (arith, all));
      }

  module _ (x : ℕ) (written : is_written p x) (read : ReadPlace) (of : IsReadOf p x read) (y : ℕ) (writes : is_written p y) (z : List ℤ) (long : length z ≡ read.scope.width + indices_of p y) where
    abbrev width : ℕ
    width = read.scope.width

    abbrev a : List ℤ
    a = point_read p read (take width z)

    inside : n ≤ width
    inside = let params = of.at.params in omega arith

    -- the point that is read needs the columns of the read alone
    read_here : image_of (read_visit p read).at z ≡ a
    read_here =
        let columns = of.at.columns in
        let map_inside : n ≤ read.map.width = omega (arith, columns, inside) in
        let there : n ≤ length z = omega (arith, inside) in
        let wide : All (HasWidth width) read.map.rows = (let P : ℕ → Type 0 = λ k. All (HasWidth k) read.map.rows in subst P columns of.at.widths) in
        read_point p z read map_inside there
        ∙ ap₂ (λ (xs ys : List ℤ). xs ++ ys) (sym (take-take n width z inside)) (short_image read.map.rows width z wide)

    read_is : IsAt z (read_visit p read) a
    read_is =
        let there : n ≤ length (take width z) = (let all : length (take width z) ≡ width = length-take-le width z (omega arith) in omega (arith, all, inside)) in
        record {
          written = of.written;
          wide = read_wide p z read of.at.widths;
          point = read_here;
          params = take_front n (take width z) (image_of read.map (take width z)) there ∙ take-take n width z inside;
          long = reading_rows n read.map ∙ of.at.rows ∙ sym (ap (λ (d : Union). d.width) (domain_is p program read.variable of.variable of.declared));
        }

    reader_is : IsAt z (own_visit p x width) (point_of p x z)
    reader_is = own_is x width z written of.reader (omega arith)

    pub life_true : IsTrueAt z (life_claim p m x read y) ↔ IsStoredOver p m x read y z
    life_true =
        let over = stores_over p m width y (read_visit p read) in
        let reader = before_reader p m width y (own_visit p x width) in
        let around : List Claim = context (with_writer p read.scope y) in
        let both = reader_true width y inside writes z long (own_visit p x width) (point_of p x z) reader_is in (
          λ h. (
              let last = each_last z around (over ++ reader) h in
              let beside = both.0 (each_last z over reader last) in
              record {
                in_force = context_to z (width + indices_of p y) width read.scope.domains long of.inside (each_first z around (over ++ reader) h);
                over = over_to width y inside writes z long (read_visit p read) a read_is (each_first z over reader last);
                other_than_reader = beside.0;
                not_after = beside.1;
              }
              ),
          λ h. each_join z around (over ++ reader) (context_from z (width + indices_of p y) width read.scope.domains long of.inside h.in_force)
              (each_join z over reader (over_from width y inside writes z long (read_visit p read) a read_is h.over) (both.1 (h.other_than_reader, h.not_after))),
        )

  -- the outputs
  module _ (x : ℕ) (written : is_written p x) (y : ℕ) (writes : is_written p y) (z : List ℤ) (long : length z ≡ (domain_of p x).width + indices_of p y) where
    abbrev own_width : ℕ
    own_width = (domain_of p x).width

    own_inside : n ≤ own_width
    own_inside = enough p program x written

    output_is : IsAt z (own_visit p x own_width) (point_of p x z)
    output_is = own_is x own_width z written (omega arith) (omega arith)

    pub keep_true : IsTrueAt z (keep_claim p m x y) ↔ IsOutputLost p m x y z
    keep_true =
        let over = stores_over p m own_width y (own_visit p x own_width) in
        let around : List Claim = context (with_writer p (output_scope p x) y) in
        let few : p.pdom.width ≤ own_width = (let columns = program.placed.parameters in omega (arith, columns, own_inside)) in
        let domains : List Union = p.pdom ∷ domain_of p x ∷ [] in
        let short : AllByRecursion (λ (domain : Union). domain.width ≤ own_width) domains = (few, (omega arith, tt)) in
        let P : List ℤ → Type 0 = λ w. HoldsSome p.pdom w in
        let Q : List ℤ → Type 0 = λ w. HoldsSome (domain_of p x) w in
        let first : take p.pdom.width (take own_width z) ≡ take p.pdom.width z = take-take p.pdom.width own_width z few in
        let second : take own_width (take own_width z) ≡ take own_width z = take-take own_width own_width z (omega arith) in (
          λ h. (
              let held = context_to z (own_width + indices_of p y) own_width domains long short (each_first z around over h) in
              record {
                parameters = subst P first held.0;
                output = subst Q second held.1.0;
                over = over_to own_width y own_inside writes z long (own_visit p x own_width) (point_of p x z) output_is (each_last z around over h);
              }
              ),
          λ h. each_join z around over (context_from z (own_width + indices_of p y) own_width domains long short (subst P (sym first) h.parameters, (subst Q (sym second) h.output, tt)))
              (over_from own_width y own_inside writes z long (own_visit p x own_width) (point_of p x z) output_is h.over),
        )

  -- all of them
  writers_have : (P : ℕ → Type 0) (x : ℕ) → ((y : ℕ) → is_written p y → P y) → All P (writers_of p m x)
  writers_have P x each = filtered P (shares_space m x) (range_with_len 0 (length p.variables)) (λ y shares. each y (writer_written p m complete x y shares))

  abbrev AreMeant : ℕ → ReadPlace → Type 0
  AreMeant x read = All (IsLifeMeant p m x read) (writers_of p m read.variable)

  reads_meant : (x : ℕ) → is_written p x → (reads : List ReadPlace) → All (IsReadOf p x) reads → All (AreMeant x) reads
  reads_meant x written [] of = All-nil (AreMeant x)
  reads_meant x written (read ∷ reads) of =
      All-cons (AreMeant x) read reads
      (writers_have (IsLifeMeant p m x read) read.variable (λ y writes z long. life_true x written read (All-head (IsReadOf p x) read reads of) y writes z long))
      (reads_meant x written reads (All-tail (IsReadOf p x) read reads of))

  abbrev IsWritten : Equation → Type 0
  IsWritten equation = is_written p equation.variable

  abbrev HasReads : Equation → Type 0
  HasReads equation = All (IsReadOf p equation.variable) (reads_of p equation)

  abbrev EachMeant : Equation → Type 0
  EachMeant equation = All (AreMeant equation.variable) (reads_of p equation)

  equations_meant : (equations : List Equation) → All IsWritten equations → All HasReads equations → All EachMeant equations
  equations_meant [] written reads = All-nil EachMeant
  equations_meant (equation ∷ equations) written reads =
      All-cons EachMeant equation equations
      (reads_meant equation.variable (All-head IsWritten equation equations written) (reads_of p equation) (All-head HasReads equation equations reads))
      (equations_meant equations (All-tail IsWritten equation equations written) (All-tail HasReads equation equations reads))

  pub meant : LivesAreMeant p m
  meant = record {
    reads = equations_meant p.equations (equations_written p program) (all_reads p program);
    outputs = filtered (λ x. All (IsKeepMeant p m x) (writers_of p m x)) (of_variable p.variables (λ variable. is_output variable.role)) (range_with_len 0 (length p.variables))
        (λ x output. writers_have (IsKeepMeant p m x) x (λ y writes z long. keep_true x (output_written p x output) y writes z long));
  }

pub life_is_meant : LifeIsMeant
life_is_meant p m program kept complete = meant p m program kept complete
