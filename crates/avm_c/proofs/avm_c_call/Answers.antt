use Rattle.std.proofs.Common.{refl, inr}
use Rattle.avm_bytes.specs.Attempts.{attempted_shown}
use Rattle.avm_c.proofs.avm_c_call.Goals as goal

pub returns-in-Ok : goal.returns-in-Ok
returns-in-Ok c = inr (attempted_shown c.in-Ok.attempted, c.in-Ok.ensures, c.place.ensures, refl)
