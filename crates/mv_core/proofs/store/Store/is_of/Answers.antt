use Rattle.mv_core.proofs.Sealings.{of_shown}
use Rattle.mv_core.proofs.store.Store.is_of.Goals as goal

pub returns : goal.returns
returns c =
    let shown = of_shown c.self.inside.journal c.self.inside.held c.self.inside.attempts.items c.args.base.now c.args.header.now c.args.calls.now in
    rw (← c.self.view_is) ((λ t. shown.0 (c.is_of.ensures.0 t)), (λ o. c.is_of.ensures.1 (shown.1 o)))
