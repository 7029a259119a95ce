use Rattle.std.proofs.lemmas.List.{take_rest}
use Rattle.teal_value.proofs.Base32Bytes.{goes_on, small_behind}
use Rattle.teal_value.proofs.base32.bytes_of.Goals as goal

pub loop-rest-preserved : goal.loop-rest-preserved
loop-rest-preserved c =
    let rest = c.loop-rest.rest.now in
    record {
      same = goes_on c.loop-rest.out.items _ _ rest _ _ c.in-len8-up.len_at_least (take_rest rest 8) c.bytes_of_eight.ensures c.in_ok-extend_from_slice.ensures.items c.loop-rest.invariant.same;
      small = small_behind 8 rest _ (take_rest rest 8) c.loop-rest.invariant.small;
    }
