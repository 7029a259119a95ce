use Rattle.std.proofs.Common.{◌∙◌, ap, sym, subst, rules, arith}
use Rattle.std.specs.Arc.{arc_value}
use Rattle.avm_items.specs.Items.{ItemMap}
use Rattle.mv_shards.specs.Helds.{ShardSlots}
use Rattle.mv_shards.specs.Writing.{AreWritten}
use Rattle.mv_parts.specs.Agreeing.{AllAgree}
use Rattle.mv_parts.specs.Commits.{IsWriteError, reading}
use Rattle.mv_parts.specs.CommitTests.{IsOpenAt}
use Rattle.mv_parts.specs.Journals.{IsLive, Journal, journal_of}
use Rattle.mv_parts.proofs.KeptCommits.{is_committed_here, kept_written, number_within}
use Rattle.mv_parts.proofs.OwnCommits.{may_commit_own, open_here, refused_own, takes_own}
use Rattle.mv_parts.proofs.journal.Journal.commit_own.Goals as goal

pub write_tested-requires-clause-takes : goal.write_tested-requires-clause-takes
write_tested-requires-clause-takes c =
    let live : IsLive c.args.self.now.world c.args.attempt = c.is_live.ensures.0 (search rules) in
    takes_own c.args.self.now c.args.held.now c.args.attempt c.args.finished c.requires.agree c.holds-2.ensures c.holds.ensures.consistent c.holds.ensures.serial.rising live c.requires.own c.requires.covers c.timestamp-timestamp.result c.timestamp-timestamp.ensures.value

pub index_mut-requires : goal.index_mut-requires
index_mut-requires c =
    let live : IsLive c.args.self.now.world c.args.attempt = c.is_live.ensures.0 (search rules) in
    let may = may_commit_own c.args.self.now c.args.held.now c.args.attempt c.args.finished c.requires.agree c.holds-2.ensures c.holds.ensures.consistent c.holds.ensures.serial.rising live c.requires.own c.requires.covers c.timestamp-timestamp.result c.timestamp-timestamp.ensures.value c.write_tested.new.held c.in-Ok.ensures.written in
    let within = number_within c.self.invariant _ c.self.view_is c.args.held.now (reading c.args.attempt c.args.finished) c.args.finished may (record { result = c.holds-3.ensures.over_reads; asked = c.holds-3.ensures.asked }) c.first-first.ensures.ordered c.number.result c.number.ensures in
    omega (arith, within)

pub invariant_of-self : goal.invariant_of-self
invariant_of-self c =
    let live : IsLive c.args.self.now.world c.args.attempt = c.is_live.ensures.0 (search rules) in
    let may = may_commit_own c.args.self.now c.args.held.now c.args.attempt c.args.finished c.requires.agree c.holds-2.ensures c.holds.ensures.consistent c.holds.ensures.serial.rising live c.requires.own c.requires.covers c.timestamp-timestamp.result c.timestamp-timestamp.ensures.value c.write_tested.new.held c.in-Ok.ensures.written in
    kept_written c.self.invariant _ c.self.view_is c.args.held.now (reading c.args.attempt c.args.finished) c.args.finished may (record { result = c.holds-3.ensures.over_reads; asked = c.holds-3.ensures.asked }) c.first-first.ensures.ordered c.timestamp-timestamp.result c.number.result c.timestamp-timestamp.ensures.value c.number.ensures c.remove.new.self c.remove.ensures.removed c.write_tested.new.entries.items c.insert_entry.new.entries.items c.entry_of.result c.entry_of.ensures c.write_tested.ensures.entries c.insert_entry.ensures

pub returns-in-Ok-clause-committed : goal.returns-in-Ok-clause-committed
returns-in-Ok-clause-committed c =
    let live : IsLive c.args.self.now.world c.args.attempt = c.is_live.ensures.0 (search rules) in
    let a = reading c.args.attempt c.args.finished in
    let f = c.args.finished in
    let may = may_commit_own c.args.self.now c.args.held.now c.args.attempt f c.requires.agree c.holds-2.ensures c.holds.ensures.consistent c.holds.ensures.serial.rising live c.requires.own c.requires.covers c.timestamp-timestamp.result c.timestamp-timestamp.ensures.value c.write_tested.new.held c.in-Ok.ensures.written in (
      c.timestamp-timestamp.ensures.value,
      may,
      is_committed_here c.self.invariant _ c.self.view_is c.args.held.now a f may (record { result = c.holds-3.ensures.over_reads; asked = c.holds-3.ensures.asked }) c.first-first.ensures.ordered c.timestamp-timestamp.result c.number.result c.timestamp-timestamp.ensures.value c.number.ensures c.remove.new.self c.remove.ensures.removed c.write_tested.new.entries.items c.insert_entry.new.entries.items c.entry_of.result c.entry_of.ensures c.write_tested.ensures.entries c.insert_entry.ensures _
          (subst (λ t. AreWritten t f.reads f.writes c.args.held.now c.write_tested.new.held) c.timestamp-timestamp.ensures.value c.in-Ok.ensures.written.written),
    )

-- the journal with room for an entry is seen as before
pub write_error-requires-clause-agree : goal.write_error-requires-clause-agree
write_error-requires-clause-agree c =
    let same = ap (λ es. journal_of (arc_value c.self.inside.base) c.self.inside.header (arc_value c.self.inside.calls).items c.self.inside.clock c.self.inside.low es c.self.inside.live) c.write_tested.ensures.entries ∙ c.self.view_is in
    subst (λ (j : Journal). AllAgree j c.write_tested.new.held) (sym same) (subst (AllAgree c.args.self.now) (sym c.in-Err.ensures.unchanged) c.requires.agree)

pub write_error-requires-clause-open : goal.write_error-requires-clause-open
write_error-requires-clause-open c =
    let live : IsLive c.args.self.now.world c.args.attempt = c.is_live.ensures.0 (search rules) in
    let same = ap (λ es. journal_of (arc_value c.self.inside.base) c.self.inside.header (arc_value c.self.inside.calls).items c.self.inside.clock c.self.inside.low es c.self.inside.live) c.write_tested.ensures.entries ∙ c.self.view_is in
    subst (λ (j : Journal). IsOpenAt j c.timestamp-timestamp.result) (sym same)
    (open_here c.args.self.now c.args.held.now c.args.attempt c.args.finished c.requires.agree c.holds-2.ensures c.holds.ensures.consistent c.holds.ensures.serial.rising live c.requires.own c.requires.covers c.timestamp-timestamp.result c.timestamp-timestamp.ensures.value)

pub returns-in-Err-clause-refused : goal.returns-in-Err-clause-refused
returns-in-Err-clause-refused c =
    let live : IsLive c.args.self.now.world c.args.attempt = c.is_live.ensures.0 (search rules) in
    let same = ap (λ es. journal_of (arc_value c.self.inside.base) c.self.inside.header (arc_value c.self.inside.calls).items c.self.inside.clock c.self.inside.low es c.self.inside.live) c.write_tested.ensures.entries ∙ c.self.view_is in
    let t = c.timestamp-timestamp.result in
    let error = c.write_error.result in
    let here = subst (λ (j : Journal). IsWriteError j c.write_tested.new.held t c.reads.result.now c.writes.result.now error) same c.write_error.ensures.error in
    let in_held = subst (λ (held : ShardSlots). IsWriteError c.args.self.now held t c.reads.result.now c.writes.result.now error) c.in-Err.ensures.unchanged here in
    let of_reads = subst (λ (reads : ItemMap). IsWriteError c.args.self.now c.args.held.now t reads c.writes.result.now error) c.reads.ensures in_held in
    refused_own c.args.self.now c.args.held.now c.args.attempt c.args.finished c.requires.agree c.holds-2.ensures c.holds.ensures.consistent c.holds.ensures.serial.rising live c.requires.own c.requires.covers t c.timestamp-timestamp.ensures.value error
    (subst (λ (writes : ItemMap). IsWriteError c.args.self.now c.args.held.now t c.args.finished.reads writes error) c.writes.ensures of_reads)
