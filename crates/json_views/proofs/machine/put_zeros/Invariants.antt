use Rattle.std.proofs.Common.{◌≡◌, ◌++◌}
use Rattle.std.specs.Prelude.{replicate}
use Rattle.teal_value.specs.declared.value.Value.TheVariants.{Uint}
use Rattle.json_views.specs.ValueTokens.{value_tokens}
use Rattle.json_views.proofs.machine.put_zeros.Given as goal

-- so many are written
abbrev pub invariant-loop-zero : goal.invariant-loop-zero
invariant-loop-zero l = l.out ≡ l.fn.out ++ value_tokens (replicate l._zero (Uint 0))
