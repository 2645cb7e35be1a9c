use Rattle.std.proofs.Common.{rules, ◌++◌, ◌≡◌, true, false, if◌then◌else◌, Bool, Some, None, sym, ap, ◌∙◌}
use Rattle.std.specs.List.{list_any}
use Rattle.std.specs.Str.{bytes_eq}
use Rattle.az_ast.specs.Shapes.{is_index_name}
use Rattle.az_ast.specs.declared.fault.ShapeKind.TheVariants.{Reserved, TwiceName, UnknownName, Entry}
use Rattle.program_names.specs.Pieces.{declaration_pieces}
use Rattle.program_names.specs.Refusals.{is_twice, is_unknown, is_wide_row}
use Rattle.program_names.proofs.FirstRows.{fifth}
use Rattle.program_names.proofs.kinds.declaration_kind.Goals as goal

pub returns-then-branch-3-clause-ok : goal.returns-then-branch-3-clause-ok
returns-then-branch-3-clause-ok c =
    let text = c.args.text.now in
    let d = c.args.declaration.now in
    let earlier = (c.args.first.now ++ c.args.second.now) ++ c.args.third.now in
    let ps = declaration_pieces text.params d in
    let a : is_index_name d.name ≡ false = search rules in
    let b : list_any (λ other. bytes_eq other.name d.name) earlier ≡ false = search rules in
    let t : list_any is_twice ps ≡ false = search rules in
    let u : list_any (is_unknown text) ps ≡ false = search rules in
    let w : list_any is_wide_row ps ≡ true = search rules in
    sym (fifth (is_index_name d.name) (list_any (λ other. bytes_eq other.name d.name) earlier) (list_any is_twice ps) (list_any (is_unknown text) ps) (list_any is_wide_row ps) Reserved TwiceName TwiceName UnknownName Entry a b t u
    ∙ ap (λ (x : Bool). if x then Some Entry else None) w)

pub returns-clause-ok : goal.returns-clause-ok
returns-clause-ok c =
    let text = c.args.text.now in
    let d = c.args.declaration.now in
    let earlier = (c.args.first.now ++ c.args.second.now) ++ c.args.third.now in
    let ps = declaration_pieces text.params d in
    let a : is_index_name d.name ≡ false = search rules in
    let b : list_any (λ other. bytes_eq other.name d.name) earlier ≡ false = search rules in
    let t : list_any is_twice ps ≡ false = search rules in
    let u : list_any (is_unknown text) ps ≡ false = search rules in
    let w : list_any is_wide_row ps ≡ false = search rules in
    sym (fifth (is_index_name d.name) (list_any (λ other. bytes_eq other.name d.name) earlier) (list_any is_twice ps) (list_any (is_unknown text) ps) (list_any is_wide_row ps) Reserved TwiceName TwiceName UnknownName Entry a b t u
    ∙ ap (λ (x : Bool). if x then Some Entry else None) w)
