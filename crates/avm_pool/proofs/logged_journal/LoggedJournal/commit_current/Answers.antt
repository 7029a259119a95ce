use Rattle.std.proofs.Common.{◌≡◌, ◌<◌, ◌++◌, ◌∷◌, ◌∙◌, ℕ, List, [], None, ap, get_or, if◌then◌else◌, is_some, length, refl, slice_index, subst, sym}
use Rattle.mv_shards.specs.Helds.{ShardSlots}
use Rattle.mv_parts.specs.CallHistory.{CallEntry}
use Rattle.mv_parts.specs.CallLaws.{entry_of}
use Rattle.mv_parts.specs.Commits.{AreCovered, reading}
use Rattle.mv_parts.specs.Journals.{Journal}
use Rattle.avm_pool.specs.Logged.{IsLoggedJournal, LoggedHeld, LoggedJournal, note_of}
use Rattle.mv_parts.specs.Agreeing.{AllAgree}
use Rattle.avm_pool.proofs.LoggedCommits.{committed_journal, committed_noted, had_room}
use Rattle.avm_pool.proofs.Noted.{everywhere}
use Rattle.avm_pool.proofs.logged_journal.LoggedJournal.commit_current.Goals as goal
use Rattle.avm_pool.proofs.logged_journal.LoggedJournal.commit_current.Goals.{After-add, After-commit_own}

pub commit_own-requires-clause-agree : goal.commit_own-requires-clause-agree
commit_own-requires-clause-agree g c =
    subst (λ (x : Journal). AllAgree x c.held.inside.held) (sym (ap (λ (x : LoggedJournal). x.journal) c.self.view_is))
    (subst (λ (x : ShardSlots). AllAgree c.args.self.now.journal x) (sym (ap (λ (x : LoggedHeld). x.slots) c.held.view_is)) c.requires.agree)

-- the items that the call reads and writes have their shards among those that are held
covered : (g : _) (c : After-commit_own g) → AreCovered c.held.inside.held (reading c.args.attempt c.args.finished).reads c.args.finished.writes
covered g c = subst (λ (x : ShardSlots). AreCovered x (reading c.args.attempt c.args.finished).reads c.args.finished.writes) (sym (ap (λ (x : LoggedHeld). x.slots) c.held.view_is)) c.requires.covers

-- the call's entry is the log's last
added : (g : _) (c : After-add g) → c.add.new.self.entries ≡ c.self.inside.log.entries ++ entry_of (reading c.args.attempt c.args.finished).timestamp (reading c.args.attempt c.args.finished).number c.args.finished ∷ []
added g c =
    let a = reading c.args.attempt c.args.finished in
    let f = c.args.finished in
    c.add.ensures.added
    ∙ ap (λ (e : CallEntry). c.self.inside.log.entries ++ e ∷ []) (c.offer-entry.ensures ∙ ap (λ (t : ℕ). entry_of t c.number.result f) c.timestamp.ensures.value ∙ ap (λ (n : ℕ). entry_of a.timestamp n f) c.number.ensures)

pub add-requires : goal.add-requires
add-requires g c =
    let J = g.J.Naming in
    let a = reading c.args.attempt c.args.finished in
    let f = c.args.finished in
    let slots = c.held.inside.held in
    let made = c.in-Ok.ensures.committed in
    let kept = c.self.invariant in
    had_room J.base J.header J.calls c.self.inside.journal c.commit_own.new.self slots c.commit_own.new.held c.held.inside.notes c.self.inside.log.entries a f refl (covered g (goal.at.add-requires g c).After-commit_own) made.2 kept.over kept.ordered c.held.invariant
    c.self.inside.log.room c.holds-in-Ok.ensures.few kept.has_room

pub invariant_of-held : goal.invariant_of-held
invariant_of-held g c =
    let J = g.J.Naming in
    let a = reading c.args.attempt c.args.finished in
    let f = c.args.finished in
    let old = c.self.inside.journal in
    let new = c.commit_own.new.self in
    let slots = c.held.inside.held in
    let notes = c.held.inside.notes in
    let log = c.self.inside.log.entries in
    let made = c.in-Ok.ensures.committed in
    let kept = c.self.invariant in
    let agree : AllAgree old slots =
    subst (λ (x : Journal). AllAgree x slots) (sym (ap (λ (x : LoggedJournal). x.journal) c.self.view_is))
    (subst (λ (x : ShardSlots). AllAgree c.args.self.now.journal x) (sym (ap (λ (x : LoggedHeld). x.slots) c.held.view_is)) c.requires.agree) in
    let whole : c.prefix-whole.result ≡ log ++ entry_of a.timestamp a.number f ∷ [] = c.prefix-whole.ensures ∙ added g (goal.at.invariant_of-held g c).After-add in
    let each = subst (λ (l : List CallEntry). (i : ℕ) → i < length notes → get_or c.note_all.new.notes i None ≡ note_of l (get_or notes i None)) whole c.note_all.ensures.each in
    committed_noted J.base J.header J.calls old new slots c.commit_own.new.held notes log a f refl (covered g (goal.at.invariant_of-held g c).After-commit_own) made.2 kept.over kept.ordered c.held.invariant c.note_all.new.notes agree
    (c.every_call_keeps_agreement.ensures.commit old new slots c.commit_own.new.held a f c.holds.ensures.consistent made.1 made.2) c.note_all.ensures.count
    (everywhere notes c.note_all.new.notes (note_of (log ++ entry_of a.timestamp a.number f ∷ [])) refl c.note_all.ensures.count each)

pub invariant_of-self : goal.invariant_of-self
invariant_of-self g c =
    let J = g.J.Naming in
    let a = reading c.args.attempt c.args.finished in
    let f = c.args.finished in
    let old = c.self.inside.journal in
    let new = c.commit_own.new.self in
    let slots = c.held.inside.held in
    let notes = c.held.inside.notes in
    let after = c.note_all.new.notes in
    let log = c.self.inside.log.entries in
    let last = c.self.inside.last in
    let room = c.add.new.self.room in
    let made = c.in-Ok.ensures.committed in
    let kept = c.self.invariant in
    let more = added g (goal.at.invariant_of-self g c).After-add in
    let whole = c.prefix-whole.ensures ∙ more in
    let number : c.len.result ≡ length (log ++ entry_of a.timestamp a.number f ∷ []) = c.len.ensures ∙ ap length whole in
    let each = subst (λ (l : List CallEntry). (i : ℕ) → i < length notes → get_or after i None ≡ note_of l (get_or notes i None)) whole c.note_all.ensures.each in
    let lasts = subst (λ (n : ℕ). (i : ℕ) → i < length last → slice_index c.renumber.new.last i ≡ (if is_some (get_or after i None) then n else slice_index last i)) number c.renumber.ensures.each in
    subst (λ (l : List CallEntry). IsLoggedJournal J.base J.header J.calls new l room c.renumber.new.last) (sym more)
    (committed_journal J.base J.header J.calls old new slots c.commit_own.new.held notes log a f refl (covered g (goal.at.invariant_of-self g c).After-commit_own) made.2 kept.over kept.ordered c.held.invariant after last c.renumber.new.last c.self.inside.log.room room
    (everywhere notes after (note_of (log ++ entry_of a.timestamp a.number f ∷ [])) refl c.note_all.ensures.count each) kept c.add.ensures.room c.renumber.ensures.count lasts)
