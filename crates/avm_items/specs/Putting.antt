-- Putting many items in two passes: what is set first, and what is taken out last, since only what is set can want memory.
use Rattle.std.specs.Prelude.{◌≡◌, Bool, true, false, List, [], ◌∷◌, if◌then◌else◌, Option, Some, None}
use Rattle.avm_ledger.specs.Ledgers.{Ledger}
use Rattle.avm_items.specs.declared.item.Item.{Item}
use Rattle.avm_items.specs.declared.item_value.ItemValue.{ItemValue}
use Rattle.avm_items.specs.declared.item_value.ItemValue.TheVariants as value
use Rattle.avm_items.specs.Items.{ItemMap}
use Rattle.avm_items.specs.LedgerItems.{at, put_one}

abbrev pub is_absent : ItemValue → Bool
is_absent value.Absent = true
is_absent _ = false

-- the ledger with one item set, if it is not to be absent
abbrev pub set_one : Ledger → Item × ItemValue → Ledger
set_one l e = if is_absent e.1 then l else put_one l e.0 e.1

abbrev pub set_all : Ledger → ItemMap → Ledger
set_all l [] = l
set_all l (e ∷ es) = set_all (set_one l e) es

-- the items that are to be absent, in front of others
abbrev pub absent_one : Item × ItemValue → List Item → List Item
absent_one e xs = if is_absent e.1 then e.0 ∷ xs else xs

abbrev pub absent_items : ItemMap → List Item
absent_items [] = []
absent_items (e ∷ es) = absent_one e (absent_items es)

-- the ledger without items
abbrev pub without_all : Ledger → List Item → Ledger
without_all l [] = l
without_all l (x ∷ xs) = without_all (put_one l x value.Absent) xs

-- Putting the old value of an item back needs no memory, and gives the ledger of before.
abbrev pub CanPutBack : Ledger → Item × ItemValue → Type 0
CanPutBack l e = at l e.0 ≡ value.Absent → is_absent e.1 ≡ true

pub record PutsBack (l before : Ledger) (e : Item × ItemValue) : Type 0 where
  pub can : CanPutBack l e
  pub gives : put_one l e.0 e.1 ≡ before

-- Putting old values back, the last one first, gives the ledger of before.
abbrev pub AllPutBack : Ledger → List (Item × ItemValue) → Ledger → Type 0
AllPutBack l [] before = l ≡ before
AllPutBack l (e ∷ es) before = (middle : Ledger) × AllPutBack l es middle × PutsBack middle before e

-- what was changed, if something was
abbrev pub ChangePutBack : Ledger → Ledger → Item → Option ItemValue → Type 0
ChangePutBack l before x None = l ≡ before
ChangePutBack l before x (Some old) = PutsBack l before (x, old)
