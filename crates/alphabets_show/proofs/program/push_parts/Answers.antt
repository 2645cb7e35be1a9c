use Rattle.std.proofs.Common.{◌++◌}
use Rattle.std.specs.Prelude.{codes}
use Rattle.az_ast.specs.declared.program.Role.TheVariants.{Input, Output, Local}
use Rattle.az_text.specs.Lumps.{bytes_of}
use Rattle.alphabets_show.specs.Sides.{domain}
use Rattle.alphabets_show.specs.Shown.{section}
use Rattle.alphabets_show.specs.Inner.{equations_end}
use Rattle.alphabets_show.proofs.Forms.{program_bytes}
use Rattle.alphabets_show.proofs.Texts.{then_ok, same_ok}
use Rattle.alphabets_show.proofs.program.push_parts.Goals as goal

pub returns : goal.returns
returns c =
    let name = c.args.name.now in
    let params = c.args.params.now in
    let pdom = c.args.pdom.now in
    let variables = c.args.variables.now in
    let equations = c.args.equations.now in
    let e9 = bytes_of (equations_end params variables equations) in
    let e8 = bytes_of (section (codes "local") Local params variables) in
    let e7 = bytes_of (section (codes "output") Output params variables) in
    let e6 = bytes_of (section (codes "input") Input params variables) in
    let e4 = bytes_of (domain params params pdom) in
    let p9 = then_ok _ _ _ _ e8 e9 c.in_ok-push_section-3.ensures.ok c.push_end.ensures.ok in
    let p8 = then_ok _ _ _ _ e7 (e8 ++ e9) c.in_ok-push_section-2.ensures.ok p9 in
    let p7 = then_ok _ _ _ _ e6 (e7 ++ (e8 ++ e9)) c.in_ok-push_section.ensures.ok p8 in
    let p6 = then_ok _ _ _ _ (codes "\n") (e6 ++ (e7 ++ (e8 ++ e9))) c.in_ok-push_str-4.ensures.bytes p7 in
    let p5 = then_ok _ _ _ _ e4 (codes "\n" ++ (e6 ++ (e7 ++ (e8 ++ e9)))) c.in_ok-push_parameters.ensures.ok p6 in
    let p4 = then_ok _ _ _ _ (codes " ") (e4 ++ (codes "\n" ++ (e6 ++ (e7 ++ (e8 ++ e9))))) c.in_ok-push_str-3.ensures.bytes p5 in
    let p3 = then_ok _ _ _ _ name (codes " " ++ (e4 ++ (codes "\n" ++ (e6 ++ (e7 ++ (e8 ++ e9)))))) c.in_ok-push_str-2.ensures.bytes p4 in
    record {
      ok = same_ok _ _ _ _ _ (program_bytes (record { name = name; params = params; pdom = pdom; variables = variables; equations = equations }))
          (then_ok _ _ _ _ (codes "affine ") (name ++ (codes " " ++ (e4 ++ (codes "\n" ++ (e6 ++ (e7 ++ (e8 ++ e9))))))) c.in_ok-push_str.ensures.bytes p3);
    }
