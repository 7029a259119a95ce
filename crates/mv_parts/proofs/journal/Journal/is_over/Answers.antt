use Rattle.std.proofs.Common.{ap}
use Rattle.mv_parts.specs.Journals.{live_of}
use Rattle.mv_parts.proofs.Abandons.{none_listed}
use Rattle.mv_parts.proofs.journal.Journal.is_over.Goals as goal

pub returns : goal.returns
returns c = rw (← c.self.view_is) ((λ empty. ap live_of (c.is_empty.ensures.0 empty)), (λ none. c.is_empty.ensures.1 (none_listed c.self.inside.live none)))
