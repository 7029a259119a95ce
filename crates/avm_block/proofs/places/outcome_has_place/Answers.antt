use Rattle.std.proofs.Common.{subst}
use Rattle.std.specs.Prelude.{IsTrue}
use Rattle.avm_items.specs.declared.item.Item.TheVariants as item
use Rattle.avm_items.specs.LedgerItems.{at}
use Rattle.avm_call.specs.Ends.{has_programs}
use Rattle.avm_call.proofs.Placed.{outcomes_have_places}
use Rattle.avm_block.proofs.CheckedCalls.{creation_programs}
use Rattle.avm_block.proofs.places.outcome_has_place.Goals as goal

pub returns : goal.returns
returns c =
    let l = c.args.ledger.now in
    let call = c.args.call.now in
    outcomes_have_places l call c.args.header.now (subst (λ fields. IsTrue (has_programs (at l (item.App fields.application)))) c.fields.ensures.fields c.application_has_programs.ensures)
    (creation_programs call c.fields.ensures.checked)
