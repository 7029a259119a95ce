use Rattle.std.proofs.Common.{inr}
use Rattle.avm_c.proofs.diagnosed.Goals as goal

pub returns-in-Ok : goal.returns-in-Ok
returns-in-Ok c = inr (rw (← c.in-Ok.ensures) c.write_trouble.ensures)
