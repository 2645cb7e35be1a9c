use Rattle.std.proofs.Common.{List, ℕ, ℤ, rules, subst, FitsSigned, to_z, of_z}
use Rattle.std.specs.Int.{w128}
use Rattle.std.proofs.lemmas.Int.{to_z-of_z}
use Rattle.data_commands.specs.Commands.{set_number, load_table}
use Rattle.mapping_commands.specs.Commands.{set_dimension_kinds, set_space_time_map, set_memory_map, set_statement_order}
use Rattle.rewrite_commands.specs.Commands.{change_basis, inline}
use Rattle.script_grammar.specs.declared.command.KindText.{KindText}
use Rattle.session_state.proofs.Taking.{alone_takes}
use Rattle.session_state.specs.Session.{carried}
use Rattle.session_state.specs.Steps.{Takes, TakesAlone}
use Rattle.session_state.specs.Writings.{IsLeftWith}
use Rattle.verify_commands.specs.Commands.{write_certificate, certificate_file}
use Rattle.alphaz_cli.proofs.task.carry_out.Goals as goal

pub returns-in-ChangeBasis-clause-answer : goal.returns-in-ChangeBasis-clause-answer
returns-in-ChangeBasis-clause-answer g c =
    let result = carried c.change_basis.new.session c.change_basis.result in
    rw c.in-ChangeBasis.is (alone_takes (change_basis c.args.session.now c.in-ChangeBasis.variable c.in-ChangeBasis.map) result c.change_basis.ensures.answer)

pub returns-in-Inline-clause-answer : goal.returns-in-Inline-clause-answer
returns-in-Inline-clause-answer g c =
    let result = carried c.inline.new.session c.inline.result in
    rw c.in-Inline.is (alone_takes (inline c.args.session.now c.in-Inline.into c.in-Inline.target) result c.inline.ensures.answer)

pub returns-in-SetDimensionKinds-clause-answer : goal.returns-in-SetDimensionKinds-clause-answer
returns-in-SetDimensionKinds-clause-answer g c =
    let session = c.args.session.now in
    let result = carried c.set_dimension_kinds.new.session c.set_dimension_kinds.result in
    let taken = subst (λ (kinds : List KindText). TakesAlone (set_dimension_kinds session kinds) result) c.as_slice.ensures c.set_dimension_kinds.ensures.answer in
    rw c.in-SetDimensionKinds.is (alone_takes (set_dimension_kinds session c.in-SetDimensionKinds.kinds) result taken)

pub returns-in-SetSpaceTimeMap-clause-answer : goal.returns-in-SetSpaceTimeMap-clause-answer
returns-in-SetSpaceTimeMap-clause-answer g c =
    let session = c.args.session.now in
    let result = carried c.set_space_time_map.new.session c.set_space_time_map.result in
    let map = c.in-SetSpaceTimeMap.map in
    let taken = subst (λ (variable : List ℕ). TakesAlone (set_space_time_map session variable map) result) c.as_str-in-SetSpaceTimeMap.ensures c.set_space_time_map.ensures.answer in
    rw c.in-SetSpaceTimeMap.is (alone_takes (set_space_time_map session c.in-SetSpaceTimeMap.variable map) result taken)

pub returns-in-SetMemoryMap-clause-answer : goal.returns-in-SetMemoryMap-clause-answer
returns-in-SetMemoryMap-clause-answer g c =
    let session = c.args.session.now in
    let result = carried c.set_memory_map.new.session c.set_memory_map.result in
    let variable = c.in-SetMemoryMap.variable in
    let space = c.in-SetMemoryMap.space in
    let map = c.in-SetMemoryMap.map in
    let factors = c.in-SetMemoryMap.factors in
    let taken =
    subst (λ (factors : List ℤ). TakesAlone (set_memory_map session variable space map factors) result) c.as_slice-in-SetMemoryMap.ensures
    (subst (λ (space : List ℕ). TakesAlone (set_memory_map session variable space map c.as_slice-in-SetMemoryMap.result.now) result) c.as_str-in-SetMemoryMap-2.ensures
    (subst (λ (variable : List ℕ). TakesAlone (set_memory_map session variable c.as_str-in-SetMemoryMap-2.result.now map c.as_slice-in-SetMemoryMap.result.now) result)
    c.as_str-in-SetMemoryMap.ensures c.set_memory_map.ensures.answer)) in
    rw c.in-SetMemoryMap.is (alone_takes (set_memory_map session variable space map factors) result taken)

pub returns-in-SetStatementOrder-clause-answer : goal.returns-in-SetStatementOrder-clause-answer
returns-in-SetStatementOrder-clause-answer g c =
    let session = c.args.session.now in
    let result = carried c.set_statement_order.new.session c.set_statement_order.result in
    let taken =
    subst (λ (variables : List (List ℕ)). TakesAlone (set_statement_order session variables) result) c.as_slice-in-SetStatementOrder.ensures c.set_statement_order.ensures.answer in
    rw c.in-SetStatementOrder.is (alone_takes (set_statement_order session c.in-SetStatementOrder.variables) result taken)

pub returns-in-WriteCertificate-clause-answer : goal.returns-in-WriteCertificate-clause-answer
returns-in-WriteCertificate-clause-answer g c =
    let session = c.args.session.now in
    let result = carried session c.write_certificate.result in
    rw c.in-WriteCertificate.is (
    subst (λ (file : List ℕ). Takes (write_certificate session file) result) c.as_str-in-WriteCertificate.ensures c.write_certificate.ensures.answer)

pub returns-in-WriteCertificate-clause-left : goal.returns-in-WriteCertificate-clause-left
returns-in-WriteCertificate-clause-left g c =
    let old = g.D.Desk.seen c.args.desk.now in
    let new = g.D.Desk.seen c.write_certificate.new.desk in
    rw c.in-WriteCertificate.is (
    subst (λ (file : List ℕ). IsLeftWith (certificate_file c.args.session.now file) old c.write_certificate.result new) c.as_str-in-WriteCertificate.ensures c.write_certificate.ensures.left)

pub returns-in-SetParameter-clause-answer : goal.returns-in-SetParameter-clause-answer
returns-in-SetParameter-clause-answer g c =
    let session = c.args.session.now in
    let result = carried c.set_number.new.session c.set_number.result in
    let number = c.in-SetParameter.number in
    let fits : FitsSigned w128 number = search rules in
    let taken =
    subst (λ (z : ℤ). TakesAlone (set_number session c.in-SetParameter.parameter z) result) (to_z-of_z w128 number fits)
    (subst (λ (parameter : List ℕ). TakesAlone (set_number session parameter (to_z w128 (of_z w128 number))) result) c.as_str-in-SetParameter.ensures c.set_number.ensures.answer) in
    rw c.in-SetParameter.is (alone_takes (set_number session c.in-SetParameter.parameter number) result taken)

pub returns-in-ReadInput-clause-answer : goal.returns-in-ReadInput-clause-answer
returns-in-ReadInput-clause-answer g c =
    let session = c.args.session.now in
    let files = (g.D.Desk.seen c.args.desk.now).files in
    let result = carried c.load_table.new.session c.load_table.result in
    let input = c.in-ReadInput.input in
    rw c.in-ReadInput.is (
    subst (λ (file : List ℕ). Takes (load_table files session input file) result) c.as_str-in-ReadInput-2.ensures
    (subst (λ (input : List ℕ). Takes (load_table files session input c.as_str-in-ReadInput-2.result.now) result) c.as_str-in-ReadInput.ensures c.load_table.ensures.answer))
