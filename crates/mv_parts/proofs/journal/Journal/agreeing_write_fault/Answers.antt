use Rattle.std.proofs.Common.{◌∙◌, sym}
use Rattle.mv_shards.specs.TestedWrites.{lateness_in}
use Rattle.mv_parts.proofs.Commits.{late_refusal, none_refusal}
use Rattle.mv_parts.proofs.CommitTests.{late_only, late_same, moved_same, none_foreign}
use Rattle.mv_parts.proofs.journal.Journal.agreeing_write_fault.Goals as goal

pub returns-in-Some-clause-some : goal.returns-in-Some-clause-some
returns-in-Some-clause-some c = sym (moved_same c.args.self.now c.args.held.now c.requires.agree c.holds-2.ensures c.args.timestamp c.requires.open c.args.reads.now c.requires.covers.reads_held) ∙ sym c.moved.ensures ∙ c.in-Some.is

pub returns-in-None-clause-some : goal.returns-in-None-clause-some
returns-in-None-clause-some c =
    late_refusal c.args.self.now c.args.held.now c.args.timestamp c.args.reads.now c.args.writes.now c.late.result
    (sym (moved_same c.args.self.now c.args.held.now c.requires.agree c.holds-2.ensures c.args.timestamp c.requires.open c.args.reads.now c.requires.covers.reads_held) ∙ sym c.moved.ensures ∙ c.in-None.is)
    (none_foreign c.args.self.now c.args.held.now c.requires.agree c.holds-2.ensures c.args.timestamp c.requires.open c.holds.ensures.serial.rising c.args.writes.now)
    (c.late.ensures ∙ late_same c.args.self.now c.args.held.now c.requires.agree c.holds-2.ensures c.args.timestamp c.requires.open c.args.writes.now c.requires.covers.writes_held)

pub returns-in-None-clause-not_foreign : goal.returns-in-None-clause-not_foreign
returns-in-None-clause-not_foreign c = late_only (lateness_in c.args.held.now c.args.timestamp) c.args.writes.now c.late.result c.late.ensures

pub returns-in-None-clause-none : goal.returns-in-None-clause-none
returns-in-None-clause-none c =
    none_refusal c.args.self.now c.args.held.now c.args.timestamp c.args.reads.now c.args.writes.now c.late.result
    (sym (moved_same c.args.self.now c.args.held.now c.requires.agree c.holds-2.ensures c.args.timestamp c.requires.open c.args.reads.now c.requires.covers.reads_held) ∙ sym c.moved.ensures ∙ c.in-None.is)
    (none_foreign c.args.self.now c.args.held.now c.requires.agree c.holds-2.ensures c.args.timestamp c.requires.open c.holds.ensures.serial.rising c.args.writes.now)
    (c.late.ensures ∙ late_same c.args.self.now c.args.held.now c.requires.agree c.holds-2.ensures c.args.timestamp c.requires.open c.args.writes.now c.requires.covers.writes_held)
