use Rattle.std.proofs.Common.{sym, subst}
use Rattle.std.specs.Cmp.{nat_cmp_total}
use Rattle.std.specs.List.Sorted.{IsStrictlySortedBy}
use Rattle.std.specs.Map.{keys_of}
use Rattle.std.specs.Ordering.{nat_cmp}
use Rattle.avm_states.proofs.Maps.{sorted-removed}
use Rattle.mv_parts.proofs.live.LiveCalls.remove.Goals as goal

pub invariant_of-self : goal.invariant_of-self
invariant_of-self c =
    subst (λ live. IsStrictlySortedBy nat_cmp (keys_of live)) (sym c.take.ensures.rest) (sorted-removed nat_cmp_total c.args.timestamp c.self.inside.entries.items c.self.invariant)
