use Rattle.std.proofs.Common.{◌≡◌, Some, sym}
use Rattle.avm_debug.specs.LiveOpening.{met_live}
use Rattle.avm_debug.proofs.OpenedLive.{IsMetLive, opens_live}
use Rattle.avm_debug.proofs.live.open_live.Goals as goal

pub returns-in-Ok-clause-opened : goal.returns-in-Ok-clause-opened
returns-in-Ok-clause-opened g c =
    let s = c.args.store.now in
    let there : met_live s c.args.entry ≡ Some (c.in-Some.timestamp, c.in-Some.call.now) = sym c.in-Some.ensures in
    let met : IsMetLive s c.args.entry c.in-Some.timestamp c.in-Some.call.now c.in-Ok.ledger c.header.result.now = record { there = there; kept = c.in-Ok.ensures.kept; before = c.in-Ok.ensures.ledger; same_header = c.header.ensures } in
    opens_live s c.args.entry c.in-Some.timestamp c.in-Some.call.now c.in-Ok.ledger c.header.result.now c.open.result met c.open.ensures.started c.open.ensures.program
