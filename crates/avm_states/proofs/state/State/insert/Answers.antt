use Rattle.std.proofs.Common.{◌+◌, arith, sym, ap, subst, length, ◌∙◌}
use Rattle.avm_states.specs.Entries.{IsInKeyOrder}
use Rattle.avm_states.specs.Schemas.{IsCounted, uncounted}
use Rattle.avm_states.proofs.KeyOrder.{byte_total}
use Rattle.avm_states.proofs.Counts.{counted_after_put, few}
use Rattle.avm_states.proofs.Maps.{sorted-inserted}
use Rattle.avm_states.proofs.state.State.insert.Goals as goal

-- The entries after the put are counted by the sum, and are as many as a length may be.
counted : (c : goal.After-without) → IsCounted c.put.new.entries.items (record { uints = c.without.result.uints + c.of-count.result.uints; bytes = c.without.result.bytes + c.of-count.result.bytes })
counted c =
    let left = c.without.ensures ∙ ap (λ o. uncounted o c.self.inside.counts) c.as_ref.ensures.value in
    counted_after_put _ _ c.args.key c.args.value _ _ _ c.in_ok-old.old c.self.invariant.1 c.self.invariant.0 c.in_ok-old.ensures.set c.in_ok-old.ensures.old left c.of-count.ensures (omega (arith, c.len-room.ensures)) (omega (arith, c.as_slice-bytes.ensures.short, ap length c.as_slice-bytes.ensures.value))

pub and-self-inside-requires-clause-uints : goal.and-self-inside-requires-clause-uints
and-self-inside-requires-clause-uints c = (few _ _ (counted c)).0

pub and-self-inside-requires-clause-bytes : goal.and-self-inside-requires-clause-bytes
and-self-inside-requires-clause-bytes c = (few _ _ (counted c)).1

pub invariant_of-self-2 : goal.invariant_of-self-2
invariant_of-self-2 c = (
  rw c.and-self-inside.ensures (counted c.before.before),
  subst IsInKeyOrder (sym c.in_ok-old.ensures.set) (sorted-inserted byte_total c.args.key c.args.value _ c.self.invariant.1),
)

pub returns-clause-order : goal.returns-clause-order
returns-clause-order c = subst IsInKeyOrder (sym c.in_ok-old.ensures.set) (sorted-inserted byte_total c.args.key c.args.value _ c.self.invariant.1)
