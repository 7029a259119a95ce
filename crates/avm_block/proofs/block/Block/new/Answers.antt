use Rattle.std.proofs.Common.{arith, subst, All}
use Rattle.avm_call_codec.specs.CallRoundTrip.{HasFields, IsWord}
use Rattle.avm_block.specs.AcceptedCalls.{is_accepted}
use Rattle.avm_block.proofs.BlockMade.{are_entries}
use Rattle.avm_block.proofs.block.Block.new.Goals as goal

pub invariant_of-result : goal.invariant_of-result
invariant_of-result c = record {
  base = omega arith;
  header = search;
  few = omega (arith, c.requires.few);
  entries =
      are_entries (is_accepted c.args.header.profile) 0 c.args.entries.items c.requires.rising
      (subst (All (λ e. IsWord e.timestamp)) c.deref.ensures.value c.entries_fit.ensures.timestamps)
      (subst (All (λ e. HasFields e.call)) c.deref.ensures.value c.entries_fit.ensures.calls)
      c.requires.calls c.requires.places;
  after = omega arith;
}
