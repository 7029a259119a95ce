use Rattle.teal_laws.proofs.TextMeaning.{same_meaning, text_means}
use Rattle.teal_laws.proofs.laws.listings_keep_the_meaning.Goals as goal

pub returns-clause-program : goal.returns-clause-program
returns-clause-program c = text_means

pub returns-clause-listing : goal.returns-clause-listing
returns-clause-listing c = same_meaning
