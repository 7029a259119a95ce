use Rattle.std.proofs.Common.{◌≡◌, ◌+◌, ◌≤◌, vec_capacity, vec_len}
use Rattle.avm_pool.proofs.worker.WorkerContext.settled_from.Given as goal

-- there is room for as many as are taken at most
abbrev pub invariant-loop-index : goal.invariant-loop-index
invariant-loop-index g l = (vec_len l.kept + l.from ≡ l.index) × (256 ≤ vec_capacity l.kept)
