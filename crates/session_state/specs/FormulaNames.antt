-- The names of a mapping's formulas in text, as a certificate has them.
use Rattle.std.specs.Prelude.{ℕ, List, ◌++◌, codes}
use Rattle.std.specs.Fmt.{decimal}
use Rattle.session_state.specs.declared.formula_name.FormulaName.{FormulaName}
use Rattle.session_state.specs.declared.formula_name.FormulaName.TheVariants.{Order, Life, Keep}

abbrev pub formula_text : FormulaName → List ℕ
formula_text (Order reader read) = codes "Order " ++ (reader ++ (codes " " ++ decimal read))
formula_text (Life reader read writer) = codes "Life " ++ (reader ++ (codes " " ++ (decimal read ++ (codes " " ++ writer))))
formula_text (Keep output writer) = codes "Keep " ++ (output ++ (codes " " ++ writer))
