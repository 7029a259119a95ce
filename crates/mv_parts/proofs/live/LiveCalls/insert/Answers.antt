use Rattle.std.proofs.Common.{sym, subst}
use Rattle.std.specs.Cmp.{nat_cmp_total}
use Rattle.std.specs.List.Sorted.{IsStrictlySortedBy}
use Rattle.std.specs.Map.{keys_of}
use Rattle.std.specs.Ordering.{nat_cmp}
use Rattle.avm_states.proofs.Maps.{sorted-inserted}
use Rattle.mv_parts.proofs.live.LiveCalls.insert.Goals as goal

pub invariant_of-self-2 : goal.invariant_of-self-2
invariant_of-self-2 c =
    subst (λ live. IsStrictlySortedBy nat_cmp (keys_of live)) (sym c.in_ok-_replaced.ensures.set) (sorted-inserted nat_cmp_total c.args.timestamp c.args.number c.self.inside.entries.items c.self.invariant)
