use Rattle.std.proofs.Common.{drop, ap, length, ◌∙◌}
use Rattle.sha2.proofs.Facts512.{length-sha512_256}
use Rattle.teal_value.proofs.AddressLaw.{last_four}
use Rattle.teal_value.proofs.address_encoding.checksum.Goals as goal

pub returns : goal.returns
returns c = c.copy_from_slice.ensures.after ∙ last_four c.digest-digest.result (ap length c.digest-digest.ensures ∙ length-sha512_256 c.args.key.now) ∙ ap (drop 28) c.digest-digest.ensures
