use Rattle.std.proofs.Common.{ℕ, List, ap, subst}
use Rattle.mv_shards.specs.Helds.{ShardSlots}
use Rattle.mv_parts.specs.CallHistory.{CallEntry}
use Rattle.mv_parts.specs.Journals.{Journal}
use Rattle.avm_pool.specs.Logged.{AreBeginnings, AreCurrent, LoggedHeld, LoggedJournal}
use Rattle.mv_parts.specs.Agreeing.{AllAgree}
use Rattle.avm_pool.proofs.Noted.{current_agree}
use Rattle.avm_pool.proofs.logged_journal.LoggedJournal.agrees.Goals as goal

pub returns-clause-agree : goal.returns-clause-agree
returns-clause-agree g c = λ yes.
    let J = g.J.Naming in
    let j = c.self.inside.journal in
    let log = c.self.inside.log.entries in
    let notes = c.held.inside.notes in
    let current : AreCurrent j.world.low c.self.inside.last notes = subst (λ (n : ℕ). AreCurrent n c.self.inside.last notes) c.low.ensures (c.are_current.ensures.current.0 yes) in
    let begins : AreBeginnings log notes = subst (λ (l : List CallEntry). AreBeginnings l notes) c.prefix-whole.ensures (c.are_current.ensures.begin yes) in
    let agree : AllAgree j c.held.inside.held = current_agree J.base J.header J.calls j log c.self.inside.log.room c.self.inside.last c.held.inside.held notes c.self.invariant c.held.invariant current begins in
    subst (λ (x : Journal). AllAgree x c.args.held.now.slots) (ap (λ (x : LoggedJournal). x.journal) c.self.view_is)
    (subst (λ (x : ShardSlots). AllAgree j x) (ap (λ (x : LoggedHeld). x.slots) c.held.view_is) agree)
