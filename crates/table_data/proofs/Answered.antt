-- The answer to a text, from the answers of the parts.
use Rattle.std.proofs.Common.{◌≡◌, ℕ, List, Result, Ok, Err, inl, inr, refl, ap, ◌∙◌}
use Rattle.std.specs.Prelude.{ℤ, Contains, ◌↔◌}
use Rattle.az_lin.specs.Affine.{Union}
use Rattle.az_ast.specs.Tables.{Rows}
use Rattle.az_ast.proofs.Members.{All-Contains}
use Rattle.loop_scan.specs.Members.{indices}
use Rattle.loop_scan.specs.Answers.{PointsAnswers}
use Rattle.loop_scan.specs.declared.fault.ScanFault.{ScanFault}
use Rattle.loop_scan.specs.declared.fault.ScanFault.TheVariants as scan
use Rattle.loop_scan.proofs.OneBox.{ok_unrefused}
use Rattle.table_data.specs.Records.{records_of}
use Rattle.table_data.specs.Answers.{IsPoint, HasPoints, TableAnswers, IsOrMemory}
use Rattle.table_data.specs.Faults.{fault_of}
use Rattle.table_data.specs.Inner.Filling.{Points, Values}
use Rattle.table_data.specs.Inner.Answers.{Fills, Completes, LacksAt}
use Rattle.table_data.specs.declared.fault.RowKind.{RowKind}
use Rattle.table_data.specs.declared.fault.RowKind.TheVariants as kind
use Rattle.table_data.specs.declared.fault.TableFault.{TableFault}
use Rattle.table_data.specs.declared.fault.TableFault.TheVariants as fault
use Rattle.table_data.proofs.OneAnswer.{one_table, one_bad, bad-no_table}
use Rattle.table_data.proofs.Wanted.{table_for, bad_row_for, lack_for, complete, lacking}

pub scan-refused : (domain : Union) (params : List ℤ) (text : List ℕ) (f : ScanFault) → PointsAnswers domain params (Err f) → TableAnswers domain params text (Err (fault_of f))
scan-refused domain params text scan.Overflow refused = refused
scan-refused domain params text scan.Entry refused = refused
scan-refused domain params text (scan.Limit limit) refused = refused
scan-refused domain params text scan.Memory refused = tt

module _ (domain : Union) (params : List ℤ) (text : List ℕ) (points : Points) (listed : PointsAnswers domain params (Ok points)) where
  same : (k : List ℤ) → Contains points k ↔ IsPoint domain params k
  same k = ((λ c. All-Contains (IsPoint domain params) points k listed.0.only c), listed.0.every k)

  pub filling-refused : (f : TableFault) → Fills (indices domain params) points (records_of text) (Err f) → TableAnswers domain params text (Err f)
  filling-refused (fault.BadRow number k) wrong = ((points, listed), bad_row_for (indices domain params) (Contains points) (IsPoint domain params) same (records_of text) number k wrong)
  filling-refused fault.Overflow wrong = absurd wrong
  filling-refused fault.Entry wrong = absurd wrong
  filling-refused (fault.Limit limit) wrong = absurd wrong
  filling-refused fault.Memory wrong = tt

  module _ (values : Values) (fills : Fills (indices domain params) points (records_of text) (Ok values)) where
    lack-answers : (number : ℕ) (k : RowKind) → LacksAt points values number k → TableAnswers domain params text (Err (fault.BadRow number k))
    lack-answers number kind.Fields lack = absurd lack
    lack-answers number kind.Number lack = absurd lack
    lack-answers number kind.Outside lack = absurd lack
    lack-answers number kind.Twice lack = absurd lack
    lack-answers number (kind.Missing point) (zero_, (place, free)) = (
      (points, listed),
      (
        zero_,
        lack_for (indices domain params) (Contains points) (IsPoint domain params) same (records_of text) point
            (lacking (indices domain params) points listed.0.increasing values (records_of text) fills.0 fills.1 fills.2 point place free),
      ),
    )

    pub answers : (result : Result Rows TableFault) → Completes points values result → TableAnswers domain params text result
    answers (Ok table) (own, given) = (
      (points, listed),
      table_for (indices domain params) (Contains points) (IsPoint domain params) same (records_of text) table
          (complete (indices domain params) points listed.0.increasing values (records_of text) fills.0 fills.1 fills.2 table own given),
    )
    answers (Err (fault.BadRow number k)) lack = lack-answers number k lack
    answers (Err fault.Overflow) wrong = absurd wrong
    answers (Err fault.Entry) wrong = absurd wrong
    answers (Err (fault.Limit limit)) wrong = absurd wrong
    answers (Err fault.Memory) wrong = tt

-- a text has one answer, unless memory runs out
module _ (domain : Union) (params : List ℤ) (text : List ℕ) where
  listed-only : HasPoints domain params → (f : ScanFault) → (f ≡ scan.Memory → ⊥) → PointsAnswers domain params (Err f) → ⊥
  listed-only (points, listed) f other refused = other (ok_unrefused domain params (Ok points) listed f refused)

  pub only_table : (result : Result Rows TableFault) → TableAnswers domain params text result → (table : Rows) → TableAnswers domain params text (Ok table) → IsOrMemory (Ok table) result
  only_table (Ok own) (has, say) table (has', say') = inl (ap Ok (one_table (indices domain params) (IsPoint domain params) (records_of text) own table say say'))
  only_table (Err (fault.BadRow n k)) (has, bad) table (has', say) = absurd (bad-no_table (indices domain params) (IsPoint domain params) (records_of text) n k table bad say)
  only_table (Err fault.Overflow) refused table (has, say) = absurd (listed-only has scan.Overflow (λ e. cc) refused)
  only_table (Err fault.Entry) refused table (has, say) = absurd (listed-only has scan.Entry (λ e. cc) refused)
  only_table (Err (fault.Limit limit)) refused table (has, say) = absurd (listed-only has (scan.Limit limit) (λ e. cc) refused)
  only_table (Err fault.Memory) answer table wanted = inr refl

  pub only_bad_row : (result : Result Rows TableFault) → TableAnswers domain params text result → (number : ℕ) (k : RowKind) → TableAnswers domain params text (Err (fault.BadRow number k)) → IsOrMemory (Err (fault.BadRow number k)) result
  only_bad_row (Ok own) (has, say) number k (has', bad) = absurd (bad-no_table (indices domain params) (IsPoint domain params) (records_of text) number k own bad say)
  only_bad_row (Err (fault.BadRow n j)) (has, bad) number k (has', bad') =
      let same = one_bad (indices domain params) (IsPoint domain params) (records_of text) n number j k bad bad' in
      inl (ap (λ m. Err (fault.BadRow m j)) same.0 ∙ ap (λ (i : RowKind). Err (fault.BadRow number i)) same.1)
  only_bad_row (Err fault.Overflow) refused number k (has, bad) = absurd (listed-only has scan.Overflow (λ e. cc) refused)
  only_bad_row (Err fault.Entry) refused number k (has, bad) = absurd (listed-only has scan.Entry (λ e. cc) refused)
  only_bad_row (Err (fault.Limit limit)) refused number k (has, bad) = absurd (listed-only has (scan.Limit limit) (λ e. cc) refused)
  only_bad_row (Err fault.Memory) answer number k wanted = inr refl
