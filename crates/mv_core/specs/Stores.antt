-- The store: how it is seen, what it keeps, and what its calls do.
use Rattle.std.specs.Prelude.{◌≡◌, ℕ, suc, List, [], ◌∷◌, ◌++◌, length, get_or, set, Option, None, Some}
use Rattle.std.specs.Map.{keys_of}
use Rattle.avm_ledger.specs.declared.header.Header.{Header}
use Rattle.avm_ledger.specs.Ledgers.{IsOrderly, Ledger}
use Rattle.avm_items.specs.declared.call_data.CallData.{CallData}
use Rattle.avm_items.specs.declared.item.Item.{Item}
use Rattle.avm_items.specs.declared.item_value.ItemValue.{ItemValue}
use Rattle.avm_items.specs.Items.{value_in}
use Rattle.avm_items.specs.LedgerItems.{at}
use Rattle.avm_laws.specs.LedgerLooks.{IsOfLedger}
use Rattle.mv_chain.specs.Versions.{versions_from}
use Rattle.mv_history.specs.History.{version_below}
use Rattle.mv_history.specs.SameWorlds.{HaveSameMarks, IsSameWorld}
use Rattle.mv_history.specs.World.{Mark, KeepsNeededMarks, after_prune, after_read, attempt_at}
use Rattle.mv_chain.specs.Stores.{IsStore, after_item_read}
use Rattle.mv_parts.specs.CallHistory.{CallAttempt, CallWorld, meaning_of, same_item}
use Rattle.mv_parts.specs.SerialCalls.{AreOfCalls}
use Rattle.mv_shards.specs.Shards.{Shard}
use Rattle.mv_shards.specs.Helds.{IsHeldPruned, IsHeldRead, ShardSlots}
use Rattle.mv_shards.specs.Writing.{versions_for}
use Rattle.mv_parts.specs.Journals.{AreLiveCalls}
use Rattle.mv_core.specs.AllShards.{AreAllOver}
use Rattle.mv_core.specs.Running.{index_among}
use Rattle.mv_core.specs.Marks.{marks_among}
use Rattle.mv_core.specs.AttemptSlots.{AreSlotsOf, AttemptSlots, live_in}
use Rattle.mv_core.specs.SeenStores.{Store}

-- the items that were read or written in the shards that are held
abbrev pub items_or_none : Option Shard → List Item
items_or_none None = []
items_or_none (Some s) = keys_of s.chains

abbrev pub items_in : ShardSlots → List Item
items_in [] = []
items_in (o ∷ os) = items_or_none o ++ items_in os

-- the marks of their versions
abbrev pub marks_in : ShardSlots → List (Mark Item)
marks_in shard_slots = marks_among (versions_for shard_slots) (items_in shard_slots)

abbrev pub CallSlots : Type 0
CallSlots = AttemptSlots Item ItemValue

-- what is seen, where a journal's world lists no marks and no reads
abbrev pub store_shown : Ledger → Header → List CallData → CallWorld → ShardSlots → CallSlots → Store
store_shown base header calls w shard_slots slots = record {
  base = base;
  header = header;
  calls = calls;
  shard_slots = shard_slots;
  world = record { clock = w.clock; low = w.low; entries = w.entries; marks = marks_in shard_slots; live = live_in slots w.live };
}

-- ---- what it keeps

-- The facts of the order theorem, with the marks of its versions, each of which is an entry's; all shards, as far as the
-- journal is; a slot for each call. `w` is the journal's world.
pub record IsKeptStore (base : Ledger) (header : Header) (calls : List CallData) (w : CallWorld) (shard_slots : ShardSlots) (slots : CallSlots) : Type 0 where
  pub orderly : IsOrderly base
  pub store : IsStore (λ value. value) same_item IsOfLedger (meaning_of header calls) (at base) w.low w.clock w.low w.entries (live_in slots w.live) (versions_for shard_slots)
  pub shards : AreAllOver base w.low shard_slots
  pub are_calls : AreOfCalls calls w.entries
  pub live_calls : AreLiveCalls calls w.live
  pub count : length slots ≡ length calls
  pub attempts : AreSlotsOf w.live slots

-- ---- what its calls do

-- The first read of an item by the live attempt at a timestamp: it gets the newest version not above the timestamp, and
-- marks it.
pub record IsFirstRead (old new : Store) (n t : ℕ) (x : Item) (v : ItemValue) : Type 0 where
  pub attempt : CallAttempt
  pub live : attempt_at t old.world.live ≡ Some attempt
  pub number : attempt.number ≡ n
  pub first : value_in attempt.reads x ≡ None
  pub value : v ≡ (version_below same_item (at old.base) old.world.entries (suc t) x).1
  pub event : IsSameWorld same_item (at old.base) new.world (after_read same_item (at old.base) old.world t (index_among attempt.reads x) x)
  pub versions : (y : Item) → versions_for new.shard_slots y ≡ after_item_read same_item t x (versions_for old.shard_slots) y
  pub others : new ≡ record old { world = new.world; shard_slots = new.shard_slots }

-- an item that was read gives its value again, and nothing changes
pub record IsReadAgain (old new : Store) (n t : ℕ) (x : Item) (v : ItemValue) : Type 0 where
  pub attempt : CallAttempt
  pub live : attempt_at t old.world.live ≡ Some attempt
  pub number : attempt.number ≡ n
  pub known : value_in attempt.reads x ≡ Some v
  pub unchanged : new ≡ old

-- The low mark rises, as far as the live attempts allow. Of each item the newest version not above it is left, and those
-- above it. Of the marks only those may be missing that no one from there on asks for: those of the versions that go.
pub record IsPrune (old new : Store) (t : ℕ) : Type 0 where
  pub event : new.world ≡ after_prune old.world t new.world.marks
  pub same : HaveSameMarks same_item (at old.base) new.world.low old.world.entries old.world.marks new.world.marks
  pub marks : KeepsNeededMarks same_item (at old.base) new.world.low old.world.entries old.world.marks new.world.marks
  pub versions : (x : Item) → versions_for new.shard_slots x ≡ versions_from new.world.low (versions_for old.shard_slots x)
  pub others : new ≡ record old { world = new.world; shard_slots = new.shard_slots }

-- ---- a read of the attempt in a slot

pub record IsReadSlot (old new : ShardSlots) (slots new_slots : CallSlots) (i : ℕ) (x : Item) (v : ItemValue) : Type 0 where
  pub before : CallAttempt
  pub after : CallAttempt
  pub found : get_or slots i None ≡ Some before
  pub read : IsHeldRead old new before after x v
  pub others : new_slots ≡ set slots i (Some after)

abbrev pub IsPrunedFor : ShardSlots → Option CallAttempt → Item → Type 0
IsPrunedFor shard_slots None x = ⊥
IsPrunedFor shard_slots (Some a) x = IsHeldPruned shard_slots a x

abbrev pub IsPrunedAttempt : ShardSlots → CallSlots → ℕ → Item → Type 0
IsPrunedAttempt shard_slots slots i x = IsPrunedFor shard_slots (get_or slots i None) x
