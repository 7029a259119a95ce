-- The ledger that a committed call of a store met. The statement of the law.
use Rattle.std.specs.Prelude.{◌≡◌, ℕ, ◌-◌, Some, take}
use Rattle.avm_call.specs.Replay.{replayed}
use Rattle.avm_items.specs.declared.call_data.CallData.{CallData}
use Rattle.mv_history.specs.History.{IsRising}
use Rattle.mv_parts.specs.CallHistory.{calls_made}
use Rattle.mv_core.specs.SeenStores.{Store}
use Rattle.avm_debug.specs.LiveOpening.{ledger_of_store, met_live}

-- It is the ledger after the committed calls before that one, made one after another.
abbrev pub LiveLedgersBeforeAreReplays : Type 0
LiveLedgersBeforeAreReplays = (s : Store) (number timestamp : ℕ) (call : CallData) → IsRising 0 s.world.entries → met_live s number ≡ Some (timestamp, call)
    → ledger_of_store s (timestamp - 1) ≡ replayed s.base s.header (calls_made s.calls (take (number - 1) s.world.entries))
