use Rattle.std.proofs.Common.{◌≡◌, []}
use Rattle.avm_pool.proofs.commit_log.OpenedLog.named.Given as goal

abbrev pub invariant-loop : goal.invariant-loop
invariant-loop g l = l.log ≡ record { entries = []; room = l.counter }
