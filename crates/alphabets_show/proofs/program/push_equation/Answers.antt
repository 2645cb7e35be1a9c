use Rattle.std.proofs.Common.{◌++◌}
use Rattle.std.specs.Prelude.{codes}
use Rattle.az_ast.specs.Term.{term}
use Rattle.az_text.specs.Lumps.{bytes_of}
use Rattle.alphabets_show.specs.Pieces.{names}
use Rattle.alphabets_show.specs.Sides.{indices}
use Rattle.alphabets_show.specs.Expressions.{name_of, expression}
use Rattle.alphabets_show.proofs.Forms.{equation_bytes}
use Rattle.alphabets_show.proofs.Texts.{then_ok, same_ok, pushed_ok}
use Rattle.alphabets_show.proofs.program.push_equation.Goals as goal

pub returns : goal.returns
returns c =
    let params = c.args.declared.params.now in
    let variables = c.args.declared.variables.now in
    let e = c.args.equation.now in
    let count = c.count_of-count.result in
    let e7 = codes ";\n" in
    let e6 = bytes_of (expression params variables (term e.body) count) in
    let e5 = codes "] = " in
    let e4 = bytes_of (names (indices 0 count)) in
    let e3 = codes "[" in
    let e2 = name_of variables e.variable in
    let p7 = pushed_ok _ _ _ e7 c.push_str-4.ensures.bytes in
    let p6 = then_ok _ _ _ _ e6 e7 c.in_ok-push_expression.ensures.ok p7 in
    let p5 = then_ok _ _ _ _ e5 (e6 ++ e7) c.in_ok-push_str-3.ensures.bytes p6 in
    let p4 = then_ok _ _ _ _ e4 (e5 ++ (e6 ++ e7)) c.in_ok-push_indices.ensures.ok p5 in
    let p3 = then_ok _ _ _ _ e3 (e4 ++ (e5 ++ (e6 ++ e7))) c.in_ok-push_str-2.ensures.bytes p4 in
    let p2 = then_ok _ _ _ _ e2 (e3 ++ (e4 ++ (e5 ++ (e6 ++ e7)))) c.in_ok-push_variable.ensures.ok p3 in
    record {
      ok = same_ok _ _ _ _ _ (equation_bytes params variables e count c.count_of-count.ensures)
          (then_ok _ _ _ _ (codes "  ") (e2 ++ (e3 ++ (e4 ++ (e5 ++ (e6 ++ e7))))) c.in_ok-push_str.ensures.bytes p2);
    }
