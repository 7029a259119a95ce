-- Items with their values as bytes, from which the reader is computed.
use Rattle.std.specs.Prelude.{ℕ, List, [], ◌∷◌, ◌++◌}
use Rattle.teal_value.specs.declared.value.Value.TheVariants.{Uint}
use Rattle.avm_ledger.specs.WorkedLedgers.{zeros}
use Rattle.avm_items.specs.declared.item.Item.TheVariants as item
use Rattle.avm_items.specs.declared.item_value.ItemValue.TheVariants as value
use Rattle.avm_items.specs.Items.{ItemMap}

-- the key "a" of application 7, with the uint 5
abbrev pub key_a : List ℕ
key_a = 3 ∷ zeros 7 ++ 7 ∷ 1 ∷ 0x61 ∷ 1 ∷ 1 ∷ zeros 7 ++ 5 ∷ []

-- the counts of application 7: one uint
abbrev pub counts_of_seven : List ℕ
counts_of_seven = 2 ∷ zeros 7 ++ 7 ∷ 1 ∷ 1 ∷ 0 ∷ []

-- application 9, which isn't there
abbrev pub no_application : List ℕ
no_application = 1 ∷ zeros 7 ++ 9 ∷ 0 ∷ []

-- the next id, 10
abbrev pub next_is_ten : List ℕ
next_is_ten = 0 ∷ zeros 7 ++ 10 ∷ []

abbrev pub three_entries : List ℕ
three_entries = 0 ∷ 0 ∷ 0 ∷ 3 ∷ key_a ++ no_application ++ counts_of_seven

-- by rising item
abbrev pub worked_items : ItemMap
worked_items =
    (item.App 9, value.Absent) ∷ (item.Counts 7, value.Counts (record { uints = 1; bytes = 0 })) ∷ (item.Key 7 (0x61 ∷ []), value.Key (Uint 5)) ∷ []
