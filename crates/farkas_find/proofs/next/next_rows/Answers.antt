use Rattle.std.proofs.Common.{◌≡◌, ℕ, ◌-◌, ◌<◌, ◌≤◌, ◌∙◌, ap, arith, length, map, ◌++◌, List, refl}
use Rattle.farkas_find.specs.declared.numbered.Numbered.{Numbered}
use Rattle.farkas_find.specs.declared.choice.Choice.{Choice}
use Rattle.farkas_find.specs.Combining.{numbered_from, combined_at}
use Rattle.farkas_find.specs.Stages.{HasFew, rows_without, pairs_for, next_rows}
use Rattle.farkas_find.proofs.Keeping.{length-next_rows}
use Rattle.farkas_find.proofs.Paired.{pairs_for-are_pairs}
use Rattle.farkas_find.proofs.next.next_rows.Goals as goal

pub returns-in_default-clause-result : goal.returns-in_default-clause-result
returns-in_default-clause-result c =
    let over = rw c.in_default.is at c.in_ok-pairs.ensures in
    let pairs : 20000 - c.count_without-most.result < length (pairs_for c.args.choice.now c.args.rows.items) = rw (← c.as_slice-2.ensures.value) over in
    let without : c.count_without-most.result ≡ length (rows_without c.args.choice.now.column c.args.rows.items) = rw (← c.as_slice.ensures.value) c.count_without-most.ensures.value in
    (refl, omega (arith, length-next_rows c.args.choice.now c.args.next c.args.rows.items, pairs, without))

pub made-requires-clause-pairs : goal.made-requires-clause-pairs
made-requires-clause-pairs c =
    let within = rw c.in-Some.is at c.in_ok-pairs.ensures in
    rw (c.as_slice-4.ensures.value, within.1, c.as_slice-2.ensures.value, c.as_slice-3.ensures.value) (pairs_for-are_pairs c.args.width c.args.rows.items c.args.choice.now c.requires.choice)

few_next : (choice : Choice) (next : ℕ) (rows : List Numbered) (most without : ℕ) → most ≡ 20000 - without → without ≡ length (rows_without choice.column rows)
    → without ≤ 20000 → length (pairs_for choice rows) ≤ most → HasFew (next_rows choice next rows)
few_next choice next rows most without is count small few = omega (arith, length-next_rows choice next rows)

next_is : (choice : Choice) (next : ℕ) (rows kept made : List Numbered) → kept ≡ rows_without choice.column rows
    → made ≡ numbered_from next (map (combined_at choice.column rows) (pairs_for choice rows)) → kept ++ made ≡ next_rows choice next rows
unfolding next_rows
next_is choice next rows kept made k m = rw (k, m) refl

pub returns-in_default-2-clause-result : goal.returns-in_default-2-clause-result
returns-in_default-2-clause-result c =
    let rows = c.args.rows.items in
    let choice = c.args.choice.now in
    let within = rw c.in-Some.is at c.in_ok-pairs.ensures in
    let exact = rw c.in_ok-made.ensures at c.made.ensures.exact in
    let leaves = rw c.in_default-2.is at exact in
    let pairs_are : c.as_slice-4.result.now ≡ pairs_for choice rows = c.as_slice-4.ensures.value ∙ within.1 ∙ ap (pairs_for choice) c.as_slice-2.ensures.value in
    let within_most : length (pairs_for choice rows) ≤ 20000 - c.count_without-most.result = rw (← c.as_slice-2.ensures.value) within.0 in
    let without : c.count_without-most.result ≡ length (rows_without choice.column rows) = rw (← c.as_slice.ensures.value) c.count_without-most.ensures.value in
    let small : c.count_without-most.result ≤ 20000 = omega arith in (
      refl,
      few_next choice c.args.next rows (20000 - c.count_without-most.result) c.count_without-most.result refl without small within_most,
      λ wide. leaves (rw (pairs_are, c.as_slice-3.ensures.value) wide),
    )

pub returns-clause-result : goal.returns-clause-result
returns-clause-result c =
    let rows = c.args.rows.items in
    let choice = c.args.choice.now in
    let within = rw c.in-Some.is at c.in_ok-pairs.ensures in
    let exact = rw c.in_ok-made.ensures at c.made.ensures.exact in
    let made = rw c.in-Some-2.is at exact in
    let pairs_are : c.as_slice-4.result.now ≡ pairs_for choice rows = c.as_slice-4.ensures.value ∙ within.1 ∙ ap (pairs_for choice) c.as_slice-2.ensures.value in
    let within_most : length (pairs_for choice rows) ≤ 20000 - c.count_without-most.result = rw (← c.as_slice-2.ensures.value) within.0 in
    let without : c.count_without-most.result ≡ length (rows_without choice.column rows) = rw (← c.as_slice.ensures.value) c.count_without-most.ensures.value in
    let small : c.count_without-most.result ≤ 20000 = omega arith in
    let made_are : c.in-Some-2.made.items ≡ numbered_from c.args.next (map (combined_at choice.column rows) (pairs_for choice rows)) =
    rw (← pairs_are, ← c.as_slice-3.ensures.value) made.1 in
    record {
      few = few_next choice c.args.next rows (20000 - c.count_without-most.result) c.count_without-most.result refl without small within_most;
      wide = rw (← pairs_are, ← c.as_slice-3.ensures.value) made.0;
      rows = c.in_ok-append.ensures.items ∙ next_is choice c.args.next rows c.in_ok-parted.parted.kept.items c.in-Some-2.made.items c.in_ok-parted.ensures.kept made_are;
      used = c.in_ok-parted.ensures.used;
    }
