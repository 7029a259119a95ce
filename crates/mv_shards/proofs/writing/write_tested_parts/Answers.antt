use Rattle.std.proofs.Common.{◌∙◌, ap, sym, subst}
use Rattle.avm_items.specs.Items.{ItemMap}
use Rattle.mv_shards.specs.SlotWriting.{AreInstalledAt, ArePlaced, AreReadyPlaced}
use Rattle.mv_shards.specs.TestedWrites.{first_late, moved_item}
use Rattle.mv_shards.proofs.AfterScratch.{readable_spots, ready_placed, written_room}
use Rattle.mv_shards.proofs.PlacedTests.{lateness_same, reads_readable, values_same, writes_placed, writes_readable}
use Rattle.mv_shards.proofs.writing.write_tested_parts.Goals as goal

pub moved-requires-clause-readable : goal.moved-requires-clause-readable
moved-requires-clause-readable c = reads_readable c.args.timestamp _ _ c.make_room.ensures.grown c.requires.writable.chains c.args.reads.now c.args.writes.now c.make_room.new.scratch c.in_ok-make_room.ensures.room

pub returns-in-Some-clause-refused : goal.returns-in-Some-clause-refused
returns-in-Some-clause-refused c =
    sym (ap (λ look. moved_item look c.args.reads.now) (values_same c.args.timestamp _ _ c.make_room.ensures.grown)) ∙ sym c.moved.ensures ∙ c.in-Some.is

pub late-requires-clause-placed : goal.late-requires-clause-placed
late-requires-clause-placed c =
    subst (ArePlaced c.make_room.new.parts c.args.writes.now) (sym c.deref-2.ensures.value) (writes_placed c.args.timestamp _ _ c.make_room.ensures.grown c.requires.writable.chains c.args.reads.now c.args.writes.now c.make_room.new.scratch c.in_ok-make_room.ensures.room)

pub late-requires-clause-readable : goal.late-requires-clause-readable
late-requires-clause-readable c = writes_readable c.args.timestamp _ _ c.make_room.ensures.grown c.requires.writable.chains c.args.reads.now c.args.writes.now c.make_room.new.scratch c.in_ok-make_room.ensures.room

pub returns-in-Some-late-clause-refused : goal.returns-in-Some-late-clause-refused
returns-in-Some-late-clause-refused c =
    let g = c.make_room.ensures.grown in (
      sym (ap (λ look. moved_item look c.args.reads.now) (values_same c.args.timestamp _ _ g)) ∙ sym c.moved.ensures ∙ c.in_default.is,
      sym (ap (λ late. first_late late c.args.writes.now) (lateness_same c.args.timestamp _ _ g)) ∙ sym c.late.ensures ∙ c.in-Some-late.is,
    )

pub mark_all-requires-clause-readable : goal.mark_all-requires-clause-readable
mark_all-requires-clause-readable c = readable_spots c.args.timestamp c.args.reads.now c.args.writes.now _ _ c.make_room.new.scratch c.make_room.ensures.grown c.in_ok-make_room.ensures.room _ c.deref-3.ensures.value c.requires.writable.chains

pub install_all-requires-clause-ready : goal.install_all-requires-clause-ready
install_all-requires-clause-ready c = subst (AreReadyPlaced c.args.timestamp c.mark_all.new.parts) (sym c.deref_mut.ensures.value) (ready_placed c.args.timestamp c.args.reads.now c.args.writes.now _ _ c.make_room.new.scratch c.make_room.ensures.grown c.in_ok-make_room.ensures.room _ c.deref-3.ensures.value _ c.requires.writable.chains c.mark_all.ensures c.requires.writable.absent)

pub returns-clause-written : goal.returns-clause-written
returns-clause-written c =
    let g = c.make_room.ensures.grown in
    record {
      unmoved = sym (ap (λ look. moved_item look c.args.reads.now) (values_same c.args.timestamp _ _ g)) ∙ sym c.moved.ensures ∙ c.in_default.is;
      in_time = sym (ap (λ late. first_late late c.args.writes.now) (lateness_same c.args.timestamp _ _ g)) ∙ sym c.late.ensures ∙ c.in_default-late.is;
      written = written_room c.args.timestamp c.args.reads.now c.args.writes.now _ _ c.make_room.new.scratch g c.in_ok-make_room.ensures.room _ c.deref-3.ensures.value _ _ c.mark_all.ensures (subst (λ placed. (es : ItemMap) → ArePlaced c.mark_all.new.parts es placed → AreInstalledAt c.args.timestamp es c.mark_all.new.parts c.install_all.new.parts) c.deref_mut.ensures.value c.install_all.ensures);
    }
