use Rattle.domain_check.proofs.ProgramReady.{program_ready}
use Rattle.domain_check.proofs.certification.ready.Goals as goal

pub returns-clause-ready : goal.returns-clause-ready
returns-clause-ready c = program_ready c.args.program.now c.variables.ensures.rules
