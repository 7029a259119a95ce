use Rattle.std.proofs.Common.{◌≡◌, ◌≤◌, length, take}
use Rattle.avm_cpu.proofs.constants.write_front.Given as goal

-- the strings so far stand at the front
abbrev pub invariant-loop-place : goal.invariant-loop-place
invariant-loop-place l = record {
  written : take l.place l.list.items ≡ take l.place l.strings;
  there : l.place ≤ length l.list.items;
}
