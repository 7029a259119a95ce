use Rattle.std.proofs.Common.{◌∙◌, sym}
use Rattle.std.proofs.lemmas.Result.{IfErr-weaker, on_err_weaker}
use Rattle.mv_shards.proofs.Ends.{end_framed}
use Rattle.mv_shards.proofs.OneChain.{either_way, ok_then}
use Rattle.mv_shards.proofs.PlacedTests.{late_seen, moved_seen, unwritten_seen}
use Rattle.mv_shards.proofs.SeenWrites.{all_writable, can_take, grown_seen, kept_grown, kept_written, written_seen}
use Rattle.mv_shards.proofs.held.Held.write_tested.Goals as goal

pub write_tested_parts-requires-clause-writable : goal.write_tested_parts-requires-clause-writable
write_tested_parts-requires-clause-writable c = all_writable c.args.timestamp c.args.reads.now c.args.writes.now c.self.inside.parts c.self.invariant.0 (can_take c.self.view_is c.requires.held)

pub invariant_of-self : goal.invariant_of-self
invariant_of-self c =
    either_way c.write_tested_parts.result _ _ _ c.write_tested_parts.ensures.written c.write_tested_parts.ensures.grown
    (λ w. (kept_written c.args.timestamp c.args.reads.now c.args.writes.now c.self.inside.parts _ c.self.invariant.0 (can_take c.self.view_is c.requires.held).low w.written, end_framed c.self.inside.parts _ c.self.inside.end w.written.frames c.self.invariant.1))
    (λ g. (kept_grown c.self.inside.parts _ c.self.invariant.0 g, end_framed c.self.inside.parts _ c.self.inside.end g.frames c.self.invariant.1))

pub returns-clause-written : goal.returns-clause-written
returns-clause-written c =
    let t = c.args.timestamp in
    let parts = c.self.inside.parts in
    let can = can_take c.self.view_is c.requires.held in
    rw (← c.self.view_is)
    (ok_then c.write_tested_parts.result _ _
    (λ w. record {
      unmoved = sym (moved_seen t parts c.self.invariant.0 c.args.reads.now can.reads_held) ∙ w.unmoved;
      in_time = sym (late_seen t parts c.self.invariant.0 c.args.writes.now can.writes_held) ∙ w.in_time;
      written = written_seen t c.args.reads.now c.args.writes.now parts _ c.self.invariant.0 (invariant_of-self c).0 w.written;
    })
    c.write_tested_parts.ensures.written)

pub returns-clause-refused : goal.returns-clause-refused
returns-clause-refused c =
    let can = can_take c.self.view_is c.requires.held in
    rw (← c.self.view_is) (IfErr-weaker c.write_tested_parts.result _ _ (unwritten_seen c.args.timestamp c.self.inside.parts c.self.invariant.0 c.args.reads.now c.args.writes.now can.reads_held can.writes_held) c.write_tested_parts.ensures.refused)

pub returns-clause-unchanged : goal.returns-clause-unchanged
returns-clause-unchanged c = rw (← c.self.view_is) (on_err_weaker c.write_tested_parts.result (grown_seen c.self.inside.parts _ c.self.invariant.0) c.write_tested_parts.ensures.grown)
