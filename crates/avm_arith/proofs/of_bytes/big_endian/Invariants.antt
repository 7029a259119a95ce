use Rattle.std.proofs.Common.{◌≡◌, ◌<◌, ◌+◌, ◌*◌, ◌^◌, drop}
use Rattle.std.specs.List.{fold}
use Rattle.avm_ops.specs.ByteStrings.{big_endian}
use Rattle.avm_arith.proofs.of_bytes.big_endian.Given as goal

abbrev pub invariant-loop-byte : goal.invariant-loop-byte
invariant-loop-byte l = record {
  rest : fold (λ n b. 256 * n + b) l.number (drop l.byte-index l.bytes) ≡ big_endian l.bytes;
  below : l.number < 256 ^ l.byte-index;
}
