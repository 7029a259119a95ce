-- The ledger that the writes of entries leave.
use Rattle.std.specs.Prelude.{List, [], ◌∷◌}
use Rattle.avm_ledger.specs.Ledgers.{Ledger}
use Rattle.avm_items.specs.LedgerItems.{put}
use Rattle.mv_parts.specs.CallHistory.{CallEntry}

-- the entries' writes, put into a ledger one entry after another
abbrev pub ledger_with : Ledger → List CallEntry → Ledger
ledger_with l [] = l
ledger_with l (e ∷ es) = ledger_with (put l e.writes) es
