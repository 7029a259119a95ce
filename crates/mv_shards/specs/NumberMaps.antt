-- Numbers of items. An item's number is found by a mix of the item, a word, or, where another item has taken the mix, by the
-- item itself.
use Rattle.std.specs.Prelude.{ℕ, ◌+◌, ◌*◌, ◌%◌, ◌^◌, List, [], ◌∷◌, drop, take, Option, None, Some}
use Rattle.std.specs.Map.{lookup}
use Rattle.std.specs.BTreeMap.{insert_entry, is_at}
use Rattle.std.specs.Ordering.{nat_cmp}
use Rattle.avm_items.specs.declared.item.Item.{Item}
use Rattle.avm_items.specs.declared.item.Item.TheVariants.{App, Counts, Key, Local, NextApp}
use Rattle.avm_items.specs.Items.{item_cmp}

-- ---- the mix of an item

-- a number and a further one, in a word
abbrev pub mixed_with : ℕ → ℕ → ℕ
mixed_with mix n = (mix * 257 % 2 ^ 64 + n) % 2 ^ 64

abbrev pub mixed_bytes : ℕ → List ℕ → ℕ
mixed_bytes mix [] = mix
mixed_bytes mix (b ∷ bs) = mixed_bytes (mixed_with mix b) bs

abbrev pub mix_of : Item → ℕ
mix_of NextApp = 0
mix_of (App id) = mixed_with id 1
mix_of (Counts id) = mixed_with id 2
mix_of (Key id key) = mixed_bytes (mixed_with id 3) key
mix_of (Local who id) = mixed_bytes (mixed_with id 4) (take 8 (drop 24 who.0))

-- ---- the numbers that are noted

pub record NotedNumbers : Type 0 where
  pub by_mix : List (ℕ × ℕ)
  pub by_item : List (Item × ℕ)

abbrev pub no_numbers : NotedNumbers
no_numbers = record { by_mix = []; by_item = [] }

-- the number that an item's mix leads to, which may be another item's
abbrev pub number_by_mix : NotedNumbers → Item → Option ℕ
number_by_mix noted x = lookup (is_at (nat_cmp (mix_of x))) noted.by_mix

abbrev pub number_by_item : NotedNumbers → Item → Option ℕ
number_by_item noted x = lookup (is_at (item_cmp x)) noted.by_item

-- an item's number is noted by its mix, if that is free
abbrev pub noted_at : NotedNumbers → Item → ℕ → Option ℕ → NotedNumbers
noted_at noted x number None = record { by_mix = insert_entry nat_cmp noted.by_mix (mix_of x) number; by_item = noted.by_item }
noted_at noted x number (Some other) = record { by_mix = noted.by_mix; by_item = insert_entry item_cmp noted.by_item x number }

abbrev pub with_number : NotedNumbers → Item → ℕ → NotedNumbers
with_number noted x number = noted_at noted x number (number_by_mix noted x)
