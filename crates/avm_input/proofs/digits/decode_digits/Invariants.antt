use Rattle.std.proofs.Common.{◌≡◌, ◌++◌, ◌%◌, length, option_map}
use Rattle.std.specs.Result.{result_ok}
use Rattle.hex.specs.Hex.{decode_of, decode_pairs}
use Rattle.avm_input.proofs.digits.decode_digits.Given as goal

abbrev pub decreases-loop-rest : goal.decreases-loop-rest
decreases-loop-rest l = length l.rest

abbrev pub invariant-loop-rest : goal.invariant-loop-rest
invariant-loop-rest l =
    (length l.rest % 2 ≡ 0) × (result_ok (decode_of l.fn.digits) ≡ option_map (λ more. l.bytes.items ++ more) (result_ok (decode_pairs 0 l.rest)))
