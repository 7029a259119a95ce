-- The settled entries of a journal, by the law of all histories.
use Rattle.mv_history.proofs.Settled.{every_event_keeps_settled_entries_lem}
use Rattle.avm_items.specs.declared.item.Item.{Item}
use Rattle.avm_items.specs.declared.item_value.ItemValue.{ItemValue}
use Rattle.avm_items.specs.LedgerItems.{at}
use Rattle.avm_call.specs.declared.outcome.Outcome.{Outcome}
use Rattle.avm_laws.specs.LedgerLooks.{IsOfLedger}
use Rattle.mv_parts.specs.CallHistory.{meaning_of, same_item}
use Rattle.mv_parts.specs.Journals.{greatest_reader}
use Rattle.mv_parts.specs.Settled.{EveryCallKeepsSettledEntries}

pub every_call_keeps_settled_entries : EveryCallKeepsSettledEntries
every_call_keeps_settled_entries j event k live =
    every_event_keeps_settled_entries_lem Item ItemValue Outcome IsOfLedger same_item (meaning_of j.header j.calls) (at j.base) (greatest_reader j.base j.world.entries) j.world event k live
