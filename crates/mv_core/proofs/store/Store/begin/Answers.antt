use Rattle.std.proofs.Common.{◌∙◌}
use Rattle.mv_core.proofs.Calls.{refusal_shown, same_fault, store_begun}
use Rattle.mv_core.proofs.store.Store.begin.Goals as goal

pub invariant_of-self : goal.invariant_of-self
invariant_of-self c =
    (store_begun c.self.inside.journal c.self.inside.held c.self.inside.attempts.items c.begin.new.self c.args.number c.in-Ok.attempt c.in-Ok.ensures.begins c.in-Ok.ensures.event c.in-Ok.ensures.attempt c.self.invariant).0

pub returns-in-Ok-clause-event : goal.returns-in-Ok-clause-event
returns-in-Ok-clause-event c =
    rw (← c.self.view_is)
    (store_begun c.self.inside.journal c.self.inside.held c.self.inside.attempts.items c.begin.new.self c.args.number c.in-Ok.attempt c.in-Ok.ensures.begins c.in-Ok.ensures.event c.in-Ok.ensures.attempt c.self.invariant).1

pub returns-in-Ok-clause-begins : goal.returns-in-Ok-clause-begins
returns-in-Ok-clause-begins c = rw (← c.self.view_is) (same_fault c.self.inside.journal c.self.inside.held c.self.inside.attempts.items c.args.number ∙ c.in-Ok.ensures.begins)

pub returns-in-Err-clause-refused : goal.returns-in-Err-clause-refused
returns-in-Err-clause-refused c = rw (← c.self.view_is) (refusal_shown c.self.inside.journal c.self.inside.held c.self.inside.attempts.items c.args.number c.in-Err.refused c.in-Err.ensures.refused)
