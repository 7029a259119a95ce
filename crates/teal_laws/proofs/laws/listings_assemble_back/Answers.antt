use Rattle.teal_laws.proofs.AssembledListing.{assembles_back}
use Rattle.teal_laws.proofs.laws.listings_assemble_back.Goals as goal

pub returns : goal.returns
returns c = assembles_back
