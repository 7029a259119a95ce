use Rattle.teal_asm.specs.Program.{program, version_byte}
use Rattle.teal_asm.specs.Instructions.{all_meant}
use Rattle.teal_asm.proofs.Emitting.{fits, is_too_long}
use Rattle.teal_asm.proofs.emit.short_program.Goals as goal

pub returns-in_ok-encoded-in-Some : goal.returns-in_ok-encoded-in-Some
unfolding program
returns-in_ok-encoded-in-Some c = fits c.args.last_line _ (version_byte c.args.version) (all_meant c.args.instructions.now) (rw c.in-Some.is at c.in_ok-places.ensures).small c.in_ok-encoded-in-Some.ensures

pub returns-in-None : goal.returns-in-None
unfolding program
returns-in-None c = is_too_long c.args.last_line (version_byte c.args.version) (all_meant c.args.instructions.now) (rw c.in-None.is at c.in_ok-places.ensures)
