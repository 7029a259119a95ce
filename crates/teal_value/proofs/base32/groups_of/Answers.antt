use Rattle.std.proofs.lemmas.List.{take_rest}
use Rattle.teal_value.proofs.Base32Groups.{goes_on}
use Rattle.teal_value.proofs.base32.groups_of.Goals as goal

pub loop-rest-preserved : goal.loop-rest-preserved
loop-rest-preserved c =
    let rest = c.loop-rest.rest.now in
    goes_on c.loop-rest.out.items _ _ rest _ _ c.in-len5-up.len_at_least (take_rest rest 5) c.groups_of_five.ensures c.in_ok-extend_from_slice.ensures.items c.loop-rest.invariant
