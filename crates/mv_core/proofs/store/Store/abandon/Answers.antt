use Rattle.std.proofs.Common.{subst}
use Rattle.mv_core.specs.AttemptSlots.{IsNowhere, IsAttemptAt}
use Rattle.mv_core.proofs.Calls.{store_abandoned_at, store_nowhere, store_placed}
use Rattle.mv_core.proofs.store.Store.abandon.Goals as goal

pub invariant_of-self : goal.invariant_of-self
invariant_of-self c =
    (store_abandoned_at c.self.inside.journal c.self.inside.held c.self.inside.attempts.items c.args.ticket.now.number c.args.ticket.now.timestamp c.in-Some.index (subst (λ xs. IsAttemptAt xs c.args.ticket.now.number c.args.ticket.now.timestamp c.in-Some.index) c.deref.ensures.value c.in-Some.ensures.attempt)
    c.self.invariant c.abandon.new.self c.take.result c.in-Some-take.attempt c.take.new.self c.index_mut.result.now c.take.ensures.value c.index_mut.ensures.value c.in-Some-take.is c.take.ensures.after c.in-Ok.ensures.event).0

pub returns-in-Ok-clause-event : goal.returns-in-Ok-clause-event
returns-in-Ok-clause-event c =
    rw (← c.self.view_is)
    (store_abandoned_at c.self.inside.journal c.self.inside.held c.self.inside.attempts.items c.args.ticket.now.number c.args.ticket.now.timestamp c.in-Some.index (subst (λ xs. IsAttemptAt xs c.args.ticket.now.number c.args.ticket.now.timestamp c.in-Some.index) c.deref.ensures.value c.in-Some.ensures.attempt)
    c.self.invariant c.abandon.new.self c.take.result c.in-Some-take.attempt c.take.new.self c.index_mut.result.now c.take.ensures.value c.index_mut.ensures.value c.in-Some-take.is c.take.ensures.after c.in-Ok.ensures.event).1

pub returns-in-Ok-clause-live : goal.returns-in-Ok-clause-live
returns-in-Ok-clause-live c =
    rw (← c.self.view_is)
    (store_placed c.self.inside.journal c.self.inside.held c.self.inside.attempts.items c.args.ticket.now.number c.args.ticket.now.timestamp c.in-Some.index (subst (λ xs. IsAttemptAt xs c.args.ticket.now.number c.args.ticket.now.timestamp c.in-Some.index) c.deref.ensures.value c.in-Some.ensures.attempt) c.self.invariant)

pub returns-in-None-clause-unknown : goal.returns-in-None-clause-unknown
returns-in-None-clause-unknown c =
    rw (← c.self.view_is)
    (store_nowhere c.self.inside.journal c.self.inside.held c.self.inside.attempts.items c.args.ticket.now.number c.args.ticket.now.timestamp (subst (λ xs. IsNowhere xs c.args.ticket.now.number c.args.ticket.now.timestamp) c.deref.ensures.value c.in-None.ensures.nowhere) c.self.invariant)
