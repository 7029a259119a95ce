use Rattle.std.proofs.Common.{◌≡◌, arith, length, subst}
use Rattle.std.specs.Arc.{arc_value}
use Rattle.std.specs.Vec.{vec_len}
use Rattle.mv_core.specs.AttemptSlots.{AreEmpty}
use Rattle.mv_core.proofs.Openings.{kept_opened}
use Rattle.mv_core.proofs.store.Store.open.Goals as goal

pub invariant_of-result : goal.invariant_of-result
invariant_of-result c =
    let len : c.len-count.result ≡ vec_len (arc_value c.args.calls) = subst (λ v. c.len-count.result ≡ vec_len v) c.deref.ensures c.len-count.ensures in
    let count : c.len-count.result ≡ length (arc_value c.args.calls).items = omega (arith, len, (arc_value c.args.calls).ok.0) in
    kept_opened c.args.base c.args.header (arc_value c.args.calls).items _ _ _ c.in-Ok.ensures.journal c.in-Ok.ensures.shards c.holds.ensures
    (subst (λ n. AreEmpty n c.in-Ok-empty_slots.attempts.items) count c.in-Ok-empty_slots.ensures)
