-- That the settled entries of a journal stay, whatever its calls add.
use Rattle.mv_history.specs.World.{Event, after_event}
use Rattle.mv_history.specs.Settled.{CommitsLive, StaySettled}
use Rattle.avm_items.specs.declared.item.Item.{Item}
use Rattle.avm_items.specs.declared.item_value.ItemValue.{ItemValue}
use Rattle.avm_items.specs.LedgerItems.{at}
use Rattle.avm_call.specs.declared.outcome.Outcome.{Outcome}
use Rattle.mv_parts.specs.CallHistory.{same_item}
use Rattle.mv_parts.specs.Journals.{IsConsistentJournal, Journal}

-- A beginning, a commit of a live attempt, an abandoned attempt and a prune are events of the world that is seen, and each leaves
-- the settled entries first, in the same order.
abbrev pub EveryCallKeepsSettledEntries : Type 0
EveryCallKeepsSettledEntries =
    (j : Journal) (event : Event Item ItemValue Outcome) → IsConsistentJournal j → CommitsLive j.world event → StaySettled j.world (after_event same_item (at j.base) j.world event)
