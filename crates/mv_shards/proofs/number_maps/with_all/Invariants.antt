use Rattle.std.proofs.Common.{◌≡◌, drop}
use Rattle.mv_shards.specs.NumberMaps.{mixed_bytes}
use Rattle.mv_shards.proofs.number_maps.with_all.Given as goal

abbrev pub invariant-loop-byte : goal.invariant-loop-byte
invariant-loop-byte l = mixed_bytes l.mixed (drop l.byte-index l.bytes) ≡ mixed_bytes l.fn.mix l.fn.bytes
