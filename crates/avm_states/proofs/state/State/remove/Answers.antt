use Rattle.std.proofs.Common.{arith, subst, sym, ap, ◌∙◌}
use Rattle.avm_states.specs.Entries.{IsInKeyOrder}
use Rattle.avm_states.specs.Schemas.{uncounted}
use Rattle.avm_states.proofs.KeyOrder.{byte_total}
use Rattle.avm_states.proofs.Maps.{sorted-removed}
use Rattle.avm_states.proofs.Counts.{counted_after_delete}
use Rattle.avm_states.proofs.state.State.remove.Goals as goal

pub invariant_of-self : goal.invariant_of-self
invariant_of-self c =
    let h = c.self.invariant.0 in (
      counted_after_delete _ _ c.args.key.now _ _ _ h c.take-old.ensures.rest c.take-old.ensures.value (c.without-self-inside.ensures ∙ ap (λ o. uncounted o c.self.inside.counts) c.as_ref.ensures.value) (omega (arith, h.room, c.take-old.ensures.len)),
      subst IsInKeyOrder (sym c.take-old.ensures.rest) (sorted-removed byte_total c.args.key.now _ c.self.invariant.1),
    )

pub returns-clause-order : goal.returns-clause-order
returns-clause-order c = subst IsInKeyOrder (sym c.take-old.ensures.rest) (sorted-removed byte_total c.args.key.now _ c.self.invariant.1)
