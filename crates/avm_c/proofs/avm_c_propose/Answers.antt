use Rattle.std.proofs.Common.{inr}
use Rattle.avm_bytes.specs.Proposals.{proposed_shown}
use Rattle.avm_c.proofs.avm_c_propose.Goals as goal

pub returns-in-Ok : goal.returns-in-Ok
returns-in-Ok c = inr (proposed_shown c.in-Ok.proposed, c.in-Ok.ensures, c.place.ensures, c.tell_trouble.ensures)
