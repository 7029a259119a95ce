use Rattle.mv_core.proofs.Sealings.{seal_refused, sealed_shown}
use Rattle.mv_core.proofs.store.Store.seal.Goals as goal

pub returns-in-Ok-clause-sealed : goal.returns-in-Ok-clause-sealed
returns-in-Ok-clause-sealed c =
    rw (← c.self.view_is)
    (sealed_shown c.self.inside.journal c.self.inside.held c.self.inside.attempts.items c.in-Ok.sealed.block c.in-Ok.sealed.numbers.items c.in-Ok.ensures.sealed)

pub returns-in-Err-clause-refused : goal.returns-in-Err-clause-refused
returns-in-Err-clause-refused c =
    rw (← c.self.view_is)
    (seal_refused c.self.inside.journal c.self.inside.held c.self.inside.attempts.items c.in-Err.refused.error c.in-Err.ensures.refused)
