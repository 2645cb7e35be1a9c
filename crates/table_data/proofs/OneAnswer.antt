-- Records say one table at most, or have one first bad row, and not both.
use Rattle.std.proofs.Common.{◌≡◌, ℕ, zero, suc, ◌+◌, ◌<◌, List, [], ◌∷◌, ◌++◌, length, Some, refl, sym, ap, subst, arith, ◌∙◌, inl, inr, ⊎_elim}
use Rattle.std.specs.Prelude.{ℤ, Contains, All, slice_get, slice_index_or, ◌⊎◌}
use Rattle.std.specs.List.{AllZip}
use Rattle.std.specs.Ordering.{int_cmp, ordering_reverse}
use Rattle.std.specs.declared.cmp.Ordering.{Ordering}
use Rattle.std.specs.declared.cmp.Ordering.TheVariants.{Less, Equal, Greater}
use Rattle.std.specs.Cmp.{int_cmp_total}
use Rattle.std.specs.Cmp.Lexicographic.{slice_cmp, lists_total}
use Rattle.std.specs.Option.{option_map}
use Rattle.std.proofs.lemmas.Bool.{cases_lt}
use Rattle.std.proofs.lemmas.List.{map-append, same_lists, length-map}
use Rattle.std.proofs.lemmas.List.Elements.{All-contains, Contains-append_right}
use Rattle.std.proofs.lemmas.Option.{slice_get-map, slice_get-get_or, get_or_from_slice_get}
use Rattle.az_ast.specs.Tables.{Rows, IsTable}
use Rattle.az_ast.proofs.Members.{same_points, Contains-first}
use Rattle.az_ast.proofs.TableLemmas.{same_point}
use Rattle.table_data.specs.Records.{Record}
use Rattle.table_data.specs.TableOf.{points_of, AreDistinct, SaysRow, SayRows, SayTable, IsWrong, HaveWrong, HaveBadRow, Lack}
use Rattle.table_data.specs.declared.fault.RowKind.{RowKind}
use Rattle.table_data.specs.declared.fault.RowKind.TheVariants as kind
use Rattle.table_data.proofs.Lists.{contains-get, get-contains}
use Rattle.table_data.proofs.OrderedPoints.{places-same}
use Rattle.table_data.proofs.OneReading.{one_row, one_rows, says-long, says-numbers}
use Rattle.table_data.proofs.PlacesFilled.{Row, row-of_point, point-of_row}

-- the row of a record among others
zip-split : {A B : Type 0} (R : A → B → Type 0) (xs : List A) (x : A) (ys : List A) (zs : List B) → AllZip R (xs ++ x ∷ ys) zs
    → (front : List B) × (z : B) × (back : List B) × (zs ≡ front ++ z ∷ back) × AllZip R xs front × R x z
zip-split R [] x ys [] all = absurd all
zip-split R [] x ys (z ∷ zs) all = ([], z, zs, refl, tt, all.0)
zip-split R (w ∷ xs) x ys [] all = absurd all
zip-split {A} {B} R (w ∷ xs) x ys (z ∷ zs) all =
    let (front, y, back, is, before, here) = zip-split R xs x ys zs all.1 in
    (z ∷ front, y, back, ap (λ (rest : List B). z ∷ rest) is, (all.0, before), here)

points-split : (front back : Rows) (row : Row) → points_of (front ++ row ∷ back) ≡ points_of front ++ row.0 ∷ points_of back
points-split front back row = map-append (λ (r : Row). r.0) front (row ∷ back)

distinct-split : (ps qs : List (List ℤ)) (p : List ℤ) → AreDistinct (ps ++ p ∷ qs) → Contains ps p → ⊥
distinct-split [] qs p d (k, h, e) = omega (arith, h)
distinct-split (q ∷ ps) qs p d (zero, h, e) =
    d.0 (subst (λ (x : List ℤ). Contains (ps ++ p ∷ qs) x) (sym e) (Contains-append_right ps (p ∷ qs) p (Contains-first p qs)))
distinct-split (q ∷ ps) qs p d (suc k, h, e) = distinct-split ps qs p d.1 (k, omega (arith, h), e)

-- of two places in one list the earlier is among the items before the later
earlier-split : {A : Type 0} (xs : List A) (x : A) (ys us : List A) (u : A) (vs : List A) → xs ++ x ∷ ys ≡ us ++ u ∷ vs → length xs < length us
    → (mid : List A) × (us ≡ xs ++ x ∷ mid)
earlier-split xs x ys [] u vs e h = absurd (omega (arith, h))
earlier-split {A} [] x ys (w ∷ us) u vs e h = let same : x ≡ w = cc in (us, ap (λ (a : A). a ∷ us) (sym same))
earlier-split {A} (z ∷ xs) x ys (w ∷ us) u vs e h =
    let first : z ≡ w = cc in
    let rest : xs ++ x ∷ ys ≡ us ++ u ∷ vs = cc in
    let (mid, is) = earlier-split xs x ys us u vs rest (omega (arith, h)) in
    (mid, ap (λ (a : A). a ∷ us) (sym first) ∙ ap (λ (r : List A). z ∷ r) is)

same_split : {A : Type 0} (xs : List A) (x : A) (ys us : List A) (u : A) (vs : List A) → xs ++ x ∷ ys ≡ us ++ u ∷ vs → length xs ≡ length us → (xs ≡ us) × (x ≡ u)
same_split [] x ys [] u vs e h = (refl, cc)
same_split [] x ys (w ∷ us) u vs e h = absurd (omega (arith, h))
same_split (z ∷ xs) x ys [] u vs e h = absurd (omega (arith, h))
same_split {A} (z ∷ xs) x ys (w ∷ us) u vs e h =
    let first : z ≡ w = cc in
    let rest : xs ++ x ∷ ys ≡ us ++ u ∷ vs = cc in
    let both = same_split xs x ys us u vs rest (omega (arith, h)) in
    ((λ i. first i ∷ both.0 i), both.1)

module _ (width : ℕ) (P : List ℤ → Type 0) where
  one_said : (records : List Record) (a b : Rows) → SayRows width P records a → SayRows width P records b → a ≡ b
  one_said records a b x y = one_rows width records a b x.said y.said

  -- a wrong record isn't among those that say rows
  pub wrong-unsaid : (records : List Record) (number : ℕ) (k : RowKind) (rows : Rows) → HaveWrong width P records number k → SayRows width P records rows → ⊥
  wrong-unsaid records number k rows have say =
      let all = subst (λ (rs : List Record). AllZip (SaysRow width) rs rows) have.place say.said in
      let (front, row, back, is, before, says) = zip-split (SaysRow width) have.before have.fields have.after rows all in
      let own : have.rows ≡ front = one_rows width have.before have.rows front have.said.said before in
      let split = ap points_of is ∙ points-split front back row in
      let wanted = All-contains P (points_of front ++ row.0 ∷ points_of back) row.0 (subst (λ (ps : List (List ℤ)). All P ps) split say.wanted)
      (Contains-append_right (points_of front) (row.0 ∷ points_of back) row.0 (Contains-first row.0 (points_of back))) in
      let once = distinct-split (points_of front) (points_of back) row.0 (subst AreDistinct split say.once) in
      by k have.wrong row says wanted (λ c. once (subst (λ (rs : Rows). Contains (points_of rs) row.0) own c))
    where
      by : (k : RowKind) → IsWrong width P have.rows have.fields k → (row : Row) → SaysRow width have.fields row → P row.0 → (Contains (points_of have.rows) row.0 → ⊥) → ⊥
      by kind.Fields wrong row says wanted once = wrong (says-long width have.fields row says)
      by kind.Number wrong row says wanted once = says-numbers width have.fields row says wrong.1
      by kind.Outside (other, said, none) row says wanted once =
          none (subst (λ (r : Row). P r.0) (one_row width have.fields row other says said) wanted)
      by kind.Twice (other, said, c) row says wanted once =
          once (subst (λ (r : Row). Contains (points_of have.rows) r.0) (one_row width have.fields other row said says) c)
      by (kind.Missing point) wrong row says wanted once = wrong

  one_kind : (rows : Rows) (fields : Record) (a b : RowKind) → All P (points_of rows) → IsWrong width P rows fields a → IsWrong width P rows fields b → a ≡ b
  one_kind rows fields kind.Fields kind.Fields all x y = refl
  one_kind rows fields kind.Fields kind.Number all x y = absurd (x y.0)
  one_kind rows fields kind.Fields kind.Outside all x y = absurd (x (says-long width fields y.0 y.1))
  one_kind rows fields kind.Fields kind.Twice all x y = absurd (x (says-long width fields y.0 y.1))
  one_kind rows fields kind.Number kind.Fields all x y = absurd (y x.0)
  one_kind rows fields kind.Number kind.Number all x y = refl
  one_kind rows fields kind.Number kind.Outside all x y = absurd (says-numbers width fields y.0 y.1 x.1)
  one_kind rows fields kind.Number kind.Twice all x y = absurd (says-numbers width fields y.0 y.1 x.1)
  one_kind rows fields kind.Outside kind.Fields all x y = absurd (y (says-long width fields x.0 x.1))
  one_kind rows fields kind.Outside kind.Number all x y = absurd (says-numbers width fields x.0 x.1 y.1)
  one_kind rows fields kind.Outside kind.Outside all x y = refl
  one_kind rows fields kind.Outside kind.Twice all x y = absurd (x.2 (subst (λ (r : Row). P r.0) (one_row width fields y.0 x.0 y.1 x.1) (All-contains P (points_of rows) y.0.0 all y.2)))
  one_kind rows fields kind.Twice kind.Fields all x y = absurd (y (says-long width fields x.0 x.1))
  one_kind rows fields kind.Twice kind.Number all x y = absurd (says-numbers width fields x.0 x.1 y.1)
  one_kind rows fields kind.Twice kind.Outside all x y = absurd (y.2 (subst (λ (r : Row). P r.0) (one_row width fields x.0 y.0 x.1 y.1) (All-contains P (points_of rows) x.0.0 all x.2)))
  one_kind rows fields kind.Twice kind.Twice all x y = refl
  one_kind rows fields (kind.Missing p) b all x y = absurd x
  one_kind rows fields kind.Fields (kind.Missing p) all x y = absurd y
  one_kind rows fields kind.Number (kind.Missing p) all x y = absurd y
  one_kind rows fields kind.Outside (kind.Missing p) all x y = absurd y
  one_kind rows fields kind.Twice (kind.Missing p) all x y = absurd y

  not-earlier : (records : List Record) (m n : ℕ) (a b : RowKind) (x : HaveWrong width P records m a) (y : HaveWrong width P records n b) → length x.before < length y.before → ⊥
  not-earlier records m n a b x y h =
      let (mid, is) = earlier-split x.before x.fields x.after y.before y.fields y.after (sym x.place ∙ y.place) h in
      wrong-unsaid y.before m a y.rows (record {
        before = x.before;
        fields = x.fields;
        after = mid;
        place = is;
        counted = x.counted;
        rows = x.rows;
        said = x.said;
        wrong = x.wrong;
      }) y.said

  pub one_wrong : (records : List Record) (m n : ℕ) (a b : RowKind) → HaveWrong width P records m a → HaveWrong width P records n b → (m ≡ n) × (a ≡ b)
  one_wrong records m n a b x y =
      ⊎_elim (λ h. absurd (not-earlier records m n a b x y h))
      (λ h. ⊎_elim (λ g. absurd (not-earlier records n m b a y x g))
      (λ g.
      let same : length x.before ≡ length y.before = omega (arith, h, g) in
      let both = same_split x.before x.fields x.after y.before y.fields y.after (sym x.place ∙ y.place) same in
      let rows = one_rows width y.before x.rows y.rows (subst (λ (rs : List Record). AllZip (SaysRow width) rs x.rows) both.0 x.said.said) y.said.said in
      let wrong = subst (λ (rs : Rows). IsWrong width P rs y.fields a) rows (subst (λ (f : Record). IsWrong width P x.rows f a) both.1 x.wrong) in
      let numbers : m ≡ n = omega (arith, x.counted, y.counted, same) in
      (numbers, one_kind y.rows y.fields a b y.said.wanted wrong y.wrong)) (cases_lt (length y.before) (length x.before))) (cases_lt (length x.before) (length y.before))

  pub one_lack : (records : List Record) (p q : List ℤ) → Lack width P records p → Lack width P records q → p ≡ q
  one_lack records p q x y = by (slice_cmp int_cmp p q) refl
    where
      rows : x.rows ≡ y.rows
      rows = one_said records x.rows y.rows x.said y.said

      by : (o : Ordering) → slice_cmp int_cmp p q ≡ o → p ≡ q
      by Less e = absurd (x.none (subst (λ (rs : Rows). Contains (points_of rs) p) (sym rows) (y.first p x.wanted e)))
      by Equal e = same_point p q e
      by Greater e =
          let turned : slice_cmp int_cmp q p ≡ Less = (lists_total int_cmp_total).antisymm q p ∙ ap ordering_reverse e in
          absurd (y.none (subst (λ (rs : Rows). Contains (points_of rs) q) rows (x.first q y.wanted turned)))

  pub lacks-no_table : (records : List Record) (p : List ℤ) (table : Rows) → Lack width P records p → SayTable width P records table → ⊥
  lacks-no_table records p table x y =
      let (v, listed) = row-of_point table p (y.every p x.wanted) in
      let c = point-of_row y.rows (p, v) ((y.same (p, v)).1 listed) in
      x.none (subst (λ (rs : Rows). Contains (points_of rs) p) (one_said records y.rows x.rows y.said x.said) c)

  -- a place in one table has the same row in the other
  row-there : (a b : Rows) → IsTable b → points_of a ≡ points_of b → ((row : Row) → Contains a row → Contains b row) → (i : ℕ) (row : Row) → slice_get a i ≡ Some row → slice_get b i ≡ Some row
  row-there a b rise own within i row at =
      let (j, there) = contains-get b row (within row (get-contains a i row at)) in
      let at_i : slice_get (points_of b) i ≡ Some row.0 = ap (λ (ps : List (List ℤ)). slice_get ps i) (sym own) ∙ slice_get-map (λ (r : Row). r.0) a i ∙ ap (option_map (λ (r : Row). r.0)) at in
      let at_j : slice_get (points_of b) j ≡ Some row.0 = slice_get-map (λ (r : Row). r.0) b j ∙ ap (option_map (λ (r : Row). r.0)) there in
      subst (λ n. slice_get b n ≡ Some row) (sym (places-same (points_of b) rise i j row.0 at_i at_j)) there

  has-point : (records : List Record) (a b : Rows) (x : SayTable width P records a) (y : SayTable width P records b) (k : List ℤ) → Contains (points_of a) k → Contains (points_of b) k
  has-point records a b x y k c =
      let (v, listed) = row-of_point a k c in
      let said = (x.same (k, v)).1 listed in
      point-of_row b (k, v) ((y.same (k, v)).0 (subst (λ (rs : Rows). Contains rs (k, v)) (one_said records x.rows y.rows x.said y.said) said))

  pub one_table : (records : List Record) (a b : Rows) → SayTable width P records a → SayTable width P records b → a ≡ b
  one_table records a b x y =
      let own = same_points (points_of a) (points_of b) x.increasing y.increasing (has-point records a b x y) (has-point records b a y x) in
      let long : length a ≡ length b = omega (arith, length-map a (λ (r : Row). r.0), length-map b (λ (r : Row). r.0), ap (λ (ps : List (List ℤ)). length ps) own) in
      same_lists a b long (λ k d h.
      let at = slice_get-get_or a k d h in
      sym (get_or_from_slice_get b k (slice_index_or a k d) d (row-there a b y.increasing own
      (λ row c. (y.same row).0 (subst (λ (rs : Rows). Contains rs row) (one_said records x.rows y.rows x.said y.said) ((x.same row).1 c))) k (slice_index_or a k d) at)))

  bad_cases : (records : List Record) (n : ℕ) (k : RowKind) → HaveBadRow width P records n k
      → HaveWrong width P records n k ⊎ ((p : List ℤ) × (k ≡ kind.Missing p) × (n ≡ 0) × Lack width P records p)
  bad_cases records n kind.Fields x = inl x
  bad_cases records n kind.Number x = inl x
  bad_cases records n kind.Outside x = inl x
  bad_cases records n kind.Twice x = inl x
  bad_cases records n (kind.Missing p) (first, lack) = inr (p, refl, first, lack)

  pub bad-no_table : (records : List Record) (n : ℕ) (k : RowKind) (table : Rows) → HaveBadRow width P records n k → SayTable width P records table → ⊥
  bad-no_table records n k table x y =
      ⊎_elim (λ wrong. wrong-unsaid records n k y.rows wrong y.said) (λ m. lacks-no_table records m.0 table m.3 y) (bad_cases records n k x)

  pub one_bad : (records : List Record) (m n : ℕ) (a b : RowKind) → HaveBadRow width P records m a → HaveBadRow width P records n b → (m ≡ n) × (a ≡ b)
  one_bad records m n a b x y =
      ⊎_elim
      (λ wrong. ⊎_elim (λ other. one_wrong records m n a b wrong other)
      (λ l. absurd (wrong-unsaid records m a l.3.rows wrong l.3.said)) (bad_cases records n b y))
      (λ l. ⊎_elim (λ other. absurd (wrong-unsaid records n b l.3.rows other l.3.said))
      (λ o. (l.2 ∙ sym o.2, l.1 ∙ ap kind.Missing (one_lack records l.0 o.0 l.3 o.3) ∙ sym o.1)) (bad_cases records n b y)) (bad_cases records m a x)
