use Rattle.std.proofs.Common.{ap, ◌∙◌}
use Rattle.teal_check.proofs.CheckedPrograms.{is_kept}
use Rattle.avm_call.specs.CallRules.{program_fault}
use Rattle.avm_call.proofs.call.program_of.Goals as goal

pub returns-in-Ok-clause-ok : goal.returns-in-Ok-clause-ok
returns-in-Ok-clause-ok c = (c.new.ensures ∙ (is_kept c.args.bytes.now c.in-Ok.program c.in-Ok.ensures).same, ap program_fault c.in-Ok.ensures)
