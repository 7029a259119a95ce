-- What the tests of shards begin with.
use Rattle.std.specs.Prelude.{◌≡◌, ℕ, [], ◌∷◌, None, Some}
use Rattle.std.proofs.Common.{replicate}
use Rattle.avm_ledger.specs.Ledgers.{empty_ledger}
use Rattle.avm_items.specs.declared.item.Item.TheVariants.{NextApp}
use Rattle.avm_items.specs.declared.item_value.ItemValue.TheVariants as value
use Rattle.avm_items.specs.Items.{ItemMap}
use Rattle.mv_shards.specs.Helds.{ShardSlots}

-- shard 0 alone, over the empty ledger
abbrev pub IsFirstHeld : ShardSlots → Type 0
IsFirstHeld places = places ≡ Some (record { index = 0; low = 0; base = empty_ledger; chains = [] }) ∷ replicate 15 None

abbrev pub next_id_write : ℕ → ItemMap
next_id_write id = (NextApp, value.NextApp id) ∷ []
