use Rattle.std.proofs.Common.{◌∙◌, ap, sym, subst}
use Rattle.std.proofs.lemmas.Option.{same_Some}
use Rattle.teal_value.specs.declared.failure.Failure.TheVariants.{Fault}
use Rattle.mv_shards.specs.TestedWrites.{IsUnwritten}
use Rattle.mv_parts.specs.Commits.{IsWriteRefusal}
use Rattle.mv_parts.proofs.CommitTests.{refused_late, refused_moved}
use Rattle.mv_parts.proofs.journal.Journal.write_error.Goals as goal

pub returns-in-Fault-Moved-clause-error : goal.returns-in-Fault-Moved-clause-error
returns-in-Fault-Moved-clause-error c =
    let j = c.args.self.now in
    let held = c.args.held.now in
    refused_moved j held c.requires.agree c.holds-2.ensures c.args.timestamp c.requires.open c.args.reads.now c.args.writes.now c.in-Fault-Moved.item c.requires.covers
    (subst (IsUnwritten c.args.timestamp c.args.reads.now c.args.writes.now held) (c.in-Fault-Moved.is ∙ ap Fault c.in-Fault-Moved.field-0-is) c.requires.error)

pub returns-in-Fault-Late-clause-error : goal.returns-in-Fault-Late-clause-error
returns-in-Fault-Late-clause-error c =
    let j = c.args.self.now in
    let held = c.args.held.now in
    let t = c.args.timestamp in
    let reads = c.args.reads.now in
    let writes = c.args.writes.now in
    let found = subst (IsUnwritten t reads writes held) (c.in-Fault-Late.is ∙ ap Fault c.in-Fault-Late.field-0-is) c.requires.error in
    subst (IsWriteRefusal j held t reads writes) (sym (same_Some _ _ c.late_fault.ensures))
    (refused_late j held c.requires.agree c.holds-2.ensures t c.requires.open c.holds.ensures.serial.rising reads writes c.in-Fault-Late.item c.in-Fault-Late.late c.requires.covers found.0 found.1)
