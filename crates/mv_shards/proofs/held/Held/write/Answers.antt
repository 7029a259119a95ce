use Rattle.std.proofs.lemmas.Result.{on_err_weaker}
use Rattle.mv_shards.proofs.Ends.{end_framed}
use Rattle.mv_shards.proofs.OneChain.{either_way, ok_then}
use Rattle.mv_shards.proofs.SeenWrites.{all_writable, can_take, grown_seen, kept_grown, kept_written, written_seen}
use Rattle.mv_shards.proofs.held.Held.write.Goals as goal

pub write_parts-requires-clause-writable : goal.write_parts-requires-clause-writable
write_parts-requires-clause-writable c = all_writable c.args.timestamp c.args.reads.now c.args.writes.now c.self.inside.parts c.self.invariant.0 (can_take c.self.view_is c.requires.held)

pub invariant_of-self : goal.invariant_of-self
invariant_of-self c =
    either_way c.write_parts.result _ _ _ c.write_parts.ensures.written c.write_parts.ensures.grown
    (λ w. (kept_written c.args.timestamp c.args.reads.now c.args.writes.now c.self.inside.parts _ c.self.invariant.0 (can_take c.self.view_is c.requires.held).low w, end_framed c.self.inside.parts _ c.self.inside.end w.frames c.self.invariant.1))
    (λ g. (kept_grown c.self.inside.parts _ c.self.invariant.0 g, end_framed c.self.inside.parts _ c.self.inside.end g.frames c.self.invariant.1))

pub returns-clause-written : goal.returns-clause-written
returns-clause-written c = rw (← c.self.view_is) (ok_then c.write_parts.result _ _ (written_seen c.args.timestamp c.args.reads.now c.args.writes.now c.self.inside.parts _ c.self.invariant.0 (invariant_of-self c).0) c.write_parts.ensures.written)

pub returns-clause-unchanged : goal.returns-clause-unchanged
returns-clause-unchanged c = rw (← c.self.view_is) (on_err_weaker c.write_parts.result (grown_seen c.self.inside.parts _ c.self.invariant.0) c.write_parts.ensures.grown)
