use Rattle.avm_commands.proofs.StepsMade.{come_shown}
use Rattle.avm_commands.proofs.debug_command.view_found.Goals as goal

pub returns-in-Ok-clause-found : goal.returns-in-Ok-clause-found
returns-in-Ok-clause-found g c = come_shown c.args.base.now c.args.block.now c.args.point.number c.args.point.steps _ _ c.in_ok-stepper.ensures.come c.in-Ok.ensures
