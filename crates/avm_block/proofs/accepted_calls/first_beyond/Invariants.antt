use Rattle.std.proofs.Common.{◌≡◌, ◌+◌, true, All, drop, take}
use Rattle.avm_block.specs.AcceptedCalls.{first_beyond, is_accepted}
use Rattle.avm_block.proofs.accepted_calls.first_beyond.Given as goal

abbrev pub invariant-loop-call : goal.invariant-loop-call
invariant-loop-call l = record {
  counted : l.number ≡ l.call-index;
  rest : first_beyond l.profile 1 l.calls ≡ first_beyond l.profile (l.number + 1) (drop l.call-index l.calls);
  accepted : All (λ call. is_accepted l.profile call ≡ true) (take l.call-index l.calls);
}
