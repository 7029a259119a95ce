use Rattle.std.proofs.Common.{◌≡◌, length, drop, take}
use Rattle.std.specs.Prelude.{replicate}
use Rattle.teal_value.specs.declared.value.Value.TheVariants.{Uint}
use Rattle.avm_cpu.proofs.values.put_zeros.Given as goal

-- zeros so far, and what stands behind the count as it was
abbrev pub invariant-loop-place : goal.invariant-loop-place
invariant-loop-place g l = record {
  zeros : take l.place l.values.items ≡ replicate l.place (Uint 0);
  rest : drop l.count l.values.items ≡ drop l.count l.initial.values.items;
  long : length l.values.items ≡ length l.initial.values.items;
}
