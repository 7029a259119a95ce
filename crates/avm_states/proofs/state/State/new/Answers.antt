use Rattle.std.proofs.Common.{subst, sym}
use Rattle.avm_states.specs.Entries.{IsInKeyOrder}
use Rattle.avm_states.specs.Schemas.{IsCounted, no_entries}
use Rattle.avm_states.proofs.Counts.{none_counted}
use Rattle.avm_states.proofs.state.State.new.Goals as goal

pub invariant_of-result : goal.invariant_of-result
invariant_of-result c = rw c.none.ensures (subst (λ es. IsCounted es no_entries × IsInKeyOrder es) (sym c.new.ensures.items) none_counted)
