use Rattle.std.proofs.Common.{ap, ◌∙◌, ◌++◌}
use Rattle.avm_items.specs.Putting.{absent_items, set_all, without_all}
use Rattle.avm_items.proofs.Passes.{two_passes}
use Rattle.avm_items.proofs.writing.put_all.Goals as goal

pub returns-in-Err-clause-unchanged : goal.returns-in-Err-clause-unchanged
returns-in-Err-clause-unchanged c = c.put_all_back.ensures c.args.ledger.now c.in-Err.ensures.back

pub returns-clause-put : goal.returns-clause-put
returns-clause-put c =
    c.remove_all.ensures
    ∙ ap (without_all c.change_all.new.ledger) (c.as_slice.ensures.value ∙ c.in_default.ensures.absent ∙ ap (λ xs. xs ++ absent_items c.into_vec-entries.result.items) c.new-absent.ensures.items)
    ∙ ap (λ l. without_all l (absent_items c.into_vec-entries.result.items)) c.in_default.ensures.set
    ∙ ap (λ es. without_all (set_all c.args.ledger.now es) (absent_items es)) c.into_vec-entries.ensures.all
    ∙ two_passes c.args.ledger.now c.args.items c.next_id-next_id.ensures.order c.into_vec-entries.ensures.order
