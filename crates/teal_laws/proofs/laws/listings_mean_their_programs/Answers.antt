use Rattle.teal_laws.proofs.PlacedInstructions.{is_listed}
use Rattle.teal_laws.proofs.ListingMeaning.{listing_means}
use Rattle.teal_laws.proofs.laws.listings_mean_their_programs.Goals as goal

pub returns : goal.returns
returns c = λ bytes program are checked. listing_means program (is_listed bytes program are checked)
