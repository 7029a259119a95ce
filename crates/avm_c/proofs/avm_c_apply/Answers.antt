use Rattle.std.proofs.Common.{inr}
use Rattle.avm_bytes.specs.Applied.{applied_shown}
use Rattle.avm_c.proofs.avm_c_apply.Goals as goal

pub returns-in-Ok : goal.returns-in-Ok
returns-in-Ok c = inr (applied_shown c.in-Ok.applied, c.in-Ok.ensures, c.place.ensures, c.write_difference.ensures)
