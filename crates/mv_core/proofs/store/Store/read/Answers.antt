use Rattle.std.proofs.Common.{◌∙◌, Err, refl, ap, subst}
use Rattle.teal_value.specs.declared.failure.Failure.TheVariants.{Fault}
use Rattle.mv_core.specs.AttemptSlots.{IsNowhere, IsAttemptAt}
use Rattle.mv_core.proofs.Calls.{only_pruned, store_never_pruned, store_nowhere, store_placed, store_read, store_same}
use Rattle.mv_core.proofs.store.Store.read.Goals.{in-Ok, in-Err-Memory}
use Rattle.mv_core.proofs.store.Store.read.Goals as goal

pub unreachable-requires : goal.unreachable-requires
unreachable-requires c =
    store_never_pruned c.self.inside.journal c.self.inside.held c.self.inside.attempts.items c.args.ticket.now.number c.args.ticket.now.timestamp c.in-Some.index (subst (λ xs. IsAttemptAt xs c.args.ticket.now.number c.args.ticket.now.timestamp c.in-Some.index) c.deref.ensures.value c.in-Some.ensures.attempt) c.self.invariant c.args.item
    (c.in-Err-Fault.ensures.pruned.0 (ap (λ f. Err f) (c.in-Err-Fault.field-0-is ∙ ap Fault (only_pruned c.in-Err-Fault._pruned))))

pub invariant_of-self : goal.invariant_of-self
invariant_of-self c =
    elim c.match-read_at.branch [
      | in-Ok w ↦
          (store_read c.self.inside.journal c.self.inside.held c.self.inside.attempts.items c.args.ticket.now.number c.args.ticket.now.timestamp c.in-Some.index (subst (λ xs. IsAttemptAt xs c.args.ticket.now.number c.args.ticket.now.timestamp c.in-Some.index) c.deref.ensures.value c.in-Some.ensures.attempt) c.self.invariant c.read_at.new.held c.read_at.new.attempts.items c.args.item w.in-Ok.value w.in-Ok.ensures.ok).0
      | in-Err-Memory w ↦ store_same c.self.inside.journal c.self.inside.held c.self.inside.attempts.items c.read_at.new.held c.read_at.new.attempts.items w.in-Err-Memory.ensures.held w.in-Err-Memory.ensures.attempts c.self.invariant
    ]

pub returns-after-read_at-clause-ok : goal.returns-after-read_at-clause-ok
returns-after-read_at-clause-ok c =
    rw (← c.self.view_is)
    (elim c.match-read_at.branch [
      | in-Ok w ↦
          rw w.result-is
          (store_read c.self.inside.journal c.self.inside.held c.self.inside.attempts.items c.args.ticket.now.number c.args.ticket.now.timestamp c.in-Some.index (subst (λ xs. IsAttemptAt xs c.args.ticket.now.number c.args.ticket.now.timestamp c.in-Some.index) c.deref.ensures.value c.in-Some.ensures.attempt) c.self.invariant c.read_at.new.held c.read_at.new.attempts.items c.args.item w.in-Ok.value w.in-Ok.ensures.ok).1
      | in-Err-Memory w ↦ rw w.result-is tt
    ])

pub returns-after-read_at-clause-unknown : goal.returns-after-read_at-clause-unknown
returns-after-read_at-clause-unknown c =
    rw (← c.self.view_is)
    (elim c.match-read_at.branch [
      | in-Ok w ↦
          rw w.result-is
          ((λ e l. absurd cc), (λ h. absurd (h (store_placed c.self.inside.journal c.self.inside.held c.self.inside.attempts.items c.args.ticket.now.number c.args.ticket.now.timestamp c.in-Some.index (subst (λ xs. IsAttemptAt xs c.args.ticket.now.number c.args.ticket.now.timestamp c.in-Some.index) c.deref.ensures.value c.in-Some.ensures.attempt) c.self.invariant))))
      | in-Err-Memory w ↦
          rw w.result-is
          ((λ e l. absurd cc), (λ h. absurd (h (store_placed c.self.inside.journal c.self.inside.held c.self.inside.attempts.items c.args.ticket.now.number c.args.ticket.now.timestamp c.in-Some.index (subst (λ xs. IsAttemptAt xs c.args.ticket.now.number c.args.ticket.now.timestamp c.in-Some.index) c.deref.ensures.value c.in-Some.ensures.attempt) c.self.invariant))))
    ])

pub returns-in-None-clause-unknown : goal.returns-in-None-clause-unknown
returns-in-None-clause-unknown c =
    rw (← c.self.view_is)
    ((λ e. store_nowhere c.self.inside.journal c.self.inside.held c.self.inside.attempts.items c.args.ticket.now.number c.args.ticket.now.timestamp (subst (λ xs. IsNowhere xs c.args.ticket.now.number c.args.ticket.now.timestamp) c.deref.ensures.value c.in-None.ensures.nowhere) c.self.invariant), (λ h. refl))
