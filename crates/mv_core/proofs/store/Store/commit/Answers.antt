use Rattle.std.proofs.Common.{subst}
use Rattle.mv_core.specs.AttemptSlots.{IsNowhere, IsAttemptAt}
use Rattle.mv_core.proofs.Calls.{store_nowhere}
use Rattle.mv_core.proofs.CommitCalls.{error_known, same_parts, store_committed, store_refused}
use Rattle.mv_core.proofs.store.Store.commit.Goals.{in-Ok, in-Err}
use Rattle.mv_core.proofs.store.Store.commit.Goals as goal

pub store_error-requires : goal.store_error-requires
store_error-requires c = error_known c.self.inside.journal c.self.inside.held c.self.inside.attempts.items c.args.ticket.now.number c.args.ticket.now.timestamp c.in-Some.index (subst (λ xs. IsAttemptAt xs c.args.ticket.now.number c.args.ticket.now.timestamp c.in-Some.index) c.deref.ensures.value c.in-Some.ensures.attempt) c.self.invariant c.holds-in-Some.ensures.consistent c.args.finished (record { result = c.holds.ensures.over_reads; asked = c.holds.ensures.asked }) c.in-Err.refused.error c.in-Err.ensures.refused

pub invariant_of-self : goal.invariant_of-self
invariant_of-self c =
    elim c.match-commit_at.branch [
      | in-Ok w ↦ (store_committed c.self.inside.journal c.self.inside.held c.self.inside.attempts.items c.args.ticket.now.number c.args.ticket.now.timestamp c.in-Some.index (subst (λ xs. IsAttemptAt xs c.args.ticket.now.number c.args.ticket.now.timestamp c.in-Some.index) c.deref.ensures.value c.in-Some.ensures.attempt) c.self.invariant c.holds-in-Some.ensures.consistent c.args.finished (record { result = c.holds.ensures.over_reads; asked = c.holds.ensures.asked }) c.commit_at.new.journal c.commit_at.new.held c.commit_at.new.attempts.items w.in-Ok.timestamp w.in-Ok.ensures.ok).kept
      | in-Err w ↦ same_parts c.self.inside.journal c.self.inside.held c.self.inside.attempts.items c.commit_at.new.journal c.commit_at.new.held c.commit_at.new.attempts.items w.in-Err.ensures.unchanged.0 w.in-Err.ensures.unchanged.1 w.in-Err.ensures.unchanged.2 c.self.invariant
    ]

pub returns-after-commit_at-clause-may : goal.returns-after-commit_at-clause-may
returns-after-commit_at-clause-may c =
    rw (← c.self.view_is)
    (elim c.match-commit_at.branch [
      | in-Ok w ↦ rw w.result-is (store_committed c.self.inside.journal c.self.inside.held c.self.inside.attempts.items c.args.ticket.now.number c.args.ticket.now.timestamp c.in-Some.index (subst (λ xs. IsAttemptAt xs c.args.ticket.now.number c.args.ticket.now.timestamp c.in-Some.index) c.deref.ensures.value c.in-Some.ensures.attempt) c.self.invariant c.holds-in-Some.ensures.consistent c.args.finished (record { result = c.holds.ensures.over_reads; asked = c.holds.ensures.asked }) c.commit_at.new.journal c.commit_at.new.held c.commit_at.new.attempts.items w.in-Ok.timestamp w.in-Ok.ensures.ok).may
      | in-Err w ↦ rw w.result-is tt
    ])

pub returns-after-commit_at-clause-committed : goal.returns-after-commit_at-clause-committed
returns-after-commit_at-clause-committed c =
    rw (← c.self.view_is)
    (elim c.match-commit_at.branch [
      | in-Ok w ↦ rw w.result-is (store_committed c.self.inside.journal c.self.inside.held c.self.inside.attempts.items c.args.ticket.now.number c.args.ticket.now.timestamp c.in-Some.index (subst (λ xs. IsAttemptAt xs c.args.ticket.now.number c.args.ticket.now.timestamp c.in-Some.index) c.deref.ensures.value c.in-Some.ensures.attempt) c.self.invariant c.holds-in-Some.ensures.consistent c.args.finished (record { result = c.holds.ensures.over_reads; asked = c.holds.ensures.asked }) c.commit_at.new.journal c.commit_at.new.held c.commit_at.new.attempts.items w.in-Ok.timestamp w.in-Ok.ensures.ok).committed
      | in-Err w ↦ rw w.result-is tt
    ])

pub returns-after-commit_at-clause-refused : goal.returns-after-commit_at-clause-refused
returns-after-commit_at-clause-refused c =
    rw (← c.self.view_is)
    (elim c.match-commit_at.branch [
      | in-Ok w ↦ rw w.result-is tt
      | in-Err w ↦ rw w.result-is (store_refused c.self.inside.journal c.self.inside.held c.self.inside.attempts.items c.args.ticket.now.number c.args.ticket.now.timestamp c.in-Some.index (subst (λ xs. IsAttemptAt xs c.args.ticket.now.number c.args.ticket.now.timestamp c.in-Some.index) c.deref.ensures.value c.in-Some.ensures.attempt) c.self.invariant c.holds-in-Some.ensures.consistent c.args.finished (record { result = c.holds.ensures.over_reads; asked = c.holds.ensures.asked }) w.in-Err.refused.error w.in-Err.ensures.refused w.store_error.result w.store_error.ensures)
    ])

pub returns-in-None-clause-refused : goal.returns-in-None-clause-refused
returns-in-None-clause-refused c =
    rw (← c.self.view_is)
    (store_nowhere c.self.inside.journal c.self.inside.held c.self.inside.attempts.items c.args.ticket.now.number c.args.ticket.now.timestamp (subst (λ xs. IsNowhere xs c.args.ticket.now.number c.args.ticket.now.timestamp) c.deref.ensures.value c.in-None.ensures.nowhere) c.self.invariant)
