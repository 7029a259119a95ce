use Rattle.avm_input.proofs.Written.{more_written}
use Rattle.avm_input.proofs.replies.write_part.Goals as goal

pub writes-preserved : goal.writes-preserved
writes-preserved g c =
    let (written, parts, first) = c.writes.invariant in
    more_written _ _ _ _ written c.writes.rest.now c.in-Some.count parts first c.in-Some.ensures.written
