use Rattle.teal_laws.proofs.TextRelation.{what_it_says}
use Rattle.teal_laws.proofs.laws.texts_mean_what_they_say.Goals as goal

pub returns : goal.returns
returns c = what_it_says
