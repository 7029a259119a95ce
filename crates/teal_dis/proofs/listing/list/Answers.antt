use Rattle.std.proofs.Common.{ap, sym, ◌∙◌, get_or, arith}
use Rattle.std.specs.String.{string_bytes}
use Rattle.std.proofs.lemmas.Option.{slice_get_within}
use Rattle.teal_check.proofs.CheckedPrograms.{is_kept}
use Rattle.teal_dis.proofs.Listings.{goes_on, is_done}
use Rattle.teal_dis.proofs.Targets.{targets_within}
use Rattle.teal_dis.proofs.listing.list.Goals as goal

pub labels_of-requires : goal.labels_of-requires
labels_of-requires c = (is_kept _ _ c.bytes-checked.ensures.checked).few

pub overflow_add-number : goal.overflow_add-number
overflow_add-number c =
    let lt = slice_get_within c.args.program.now.placed c.loop-placed.number c.in-Some.placed.now (sym c.in-Some.ensures) in
    let few = (is_kept _ _ c.bytes-checked.ensures.checked).few in
    omega arith

pub loop-placed-smaller : goal.loop-placed-smaller
loop-placed-smaller c =
    let lt = slice_get_within c.args.program.now.placed c.loop-placed.number c.in-Some.placed.now (sym c.in-Some.ensures) in
    omega arith

pub loop-placed-preserved : goal.loop-placed-preserved
loop-placed-preserved c =
    goes_on c.args.program.now c.in_ok-labels.labels.items (string_bytes c.loop-placed.text) (string_bytes c.push_label.new.text) (string_bytes c.push_instruction.new.text) c.loop-placed.number c.in-Some.placed.now c.index.result.now
    c.loop-placed.invariant c.in_ok-labels.ensures (sym c.in-Some.ensures)
    (targets_within _ _ c.bytes-checked.ensures.checked c.loop-placed.number c.in-Some.placed.now (sym c.in-Some.ensures))
    (c.index.ensures ∙ ap (λ n. get_or c.in_ok-labels.labels.items n c.index.result.now) c.from.ensures) c.in_ok-push_label.ensures
    (rw c.deref.ensures.value at c.in_ok-push_instruction.ensures)

pub returns : goal.returns
returns c =
    is_done c.args.program.now c.in_ok-labels.labels.items (string_bytes c.loop-placed.text) (string_bytes c.push_label-2.new.text) c.loop-placed.number c.index-end.result.now
    c.loop-placed.invariant c.in_ok-labels.ensures (sym c.in_default.ensures) (c.index-end.ensures ∙ ap (λ n. get_or c.in_ok-labels.labels.items n c.index-end.result.now) c.from-2.ensures) c.in_ok-push_label-2.ensures
