-- Chains made, and rooms, for many items of the shards that are held.
use Rattle.std.proofs.Common.{◌≡◌, ℕ, List, [], ◌∷◌, ◌++◌, append_assoc, append-nil, Option, None, Some, get_or, refl, sym, ap, ◌∙◌, subst}
use Rattle.std.specs.Prelude.{IsSome}
use Rattle.std.specs.List.{AllByRecursion}
use Rattle.avm_items.specs.declared.item.Item.{Item}
use Rattle.avm_items.specs.declared.item_value.ItemValue.{ItemValue}
use Rattle.avm_items.specs.declared.item_value.ItemValue.TheVariants.{Absent}
use Rattle.avm_items.specs.Items.{ItemMap}
use Rattle.avm_items.specs.LedgerItems.{at}
use Rattle.mv_shards.specs.declared.shard_state.ShardState.{ShardState}
use Rattle.mv_shards.specs.KeptChains.{HasRoomFor, IsGrown}
use Rattle.mv_shards.specs.Indexes.{shard_of}
use Rattle.mv_shards.specs.KeptHelds.{IsHeldIn}
use Rattle.mv_shards.specs.declared.chain_ref.ChainRef.{ChainRef}
use Rattle.mv_shards.specs.SlotWriting.{AreBeside, AreGrown, AreRoomier, Frame, IsPlaced, IsChainRef, StateSlots, chains_at, chains_for, first_at, first_or, frame_at, frame_or}
use Rattle.mv_shards.proofs.ChainRefs.{placed_kept, spot_kept}
use Rattle.mv_shards.proofs.OneChain.{grown_itself, grown_then, roomier_itself, roomier_then}

-- ---- frames that stay

first_of : Option Frame → Item → ItemValue
first_of None x = Absent
first_of (Some f) x = at f.base x

first_by_frame : (o : Option ShardState) → first_or o ≡ first_of (frame_or o)
unfolding first_of
first_by_frame None = refl
first_by_frame (Some p) = refl

-- where two slots have the same frame, items without a chain have the same values
pub first_same : (o p : Option ShardState) → frame_or o ≡ frame_or p → first_or o ≡ first_or p
first_same o p same = first_by_frame o ∙ ap first_of same ∙ sym (first_by_frame p)

-- where one of two slots with the same frame has a part, the other has one
pub some_same : (o p : Option ShardState) → frame_or o ≡ frame_or p → IsSome p → IsSome o
some_same None None same there = there
some_same None (Some p) same there = absurd cc
some_same (Some o) p same there = refl

-- where all frames stay, the parts of items that were there are still there
pub held_still : (old new : StateSlots) → ((i : ℕ) → frame_at new i ≡ frame_at old i) → (x : Item) → IsHeldIn old x → IsHeldIn new x
held_still old new frames x there = some_same (get_or new (shard_of x) None) (get_or old (shard_of x) None) (frames (shard_of x)) there

pub all_held_still : (old new : StateSlots) → ((i : ℕ) → frame_at new i ≡ frame_at old i) → (es : ItemMap) → AllByRecursion (λ e. IsHeldIn old e.0) es → AllByRecursion (λ e. IsHeldIn new e.0) es
all_held_still old new frames [] h = tt
all_held_still old new frames (e ∷ es) h = (held_still old new frames e.0 h.0, all_held_still old new frames es h.1)

-- ---- one after another

-- parts are grown from themselves, and growth after growth is growth
pub parts_itself : (parts : StateSlots) → AreGrown parts parts
parts_itself parts = record { count = refl; frames = λ i. refl; maps = λ i. grown_itself (first_at parts i) (chains_at parts i) }

pub parts_then : (old new later : StateSlots) → AreGrown old new → AreGrown new later → AreGrown old later
parts_then old new later g h = record {
  count = h.count ∙ g.count;
  frames = λ i. h.frames i ∙ g.frames i;
  maps = λ i. grown_then (first_at old i) (chains_at old i) (chains_at new i) (chains_at later i) (g.maps i)
      (subst (λ first. IsGrown first (chains_at new i) (chains_at later i)) (first_same (get_or new i None) (get_or old i None) (g.frames i)) (h.maps i));
}

-- no chain and no room is lost where the parts stay, nor by two steps that each lose none
pub rooms_itself : (parts : StateSlots) → AreRoomier parts parts
rooms_itself parts i = roomier_itself (chains_at parts i)

pub rooms_then : (old new later : StateSlots) → AreRoomier old new → AreRoomier new later → AreRoomier old later
rooms_then old new later g h i = roomier_then (chains_at old i) (chains_at new i) (chains_at later i) (g i) (h i)

-- ---- many items

-- the parts grew from those at the start, and those of the items that are left are there
pub record GrowsOn (start : StateSlots) (left : ItemMap) (parts : StateSlots) : Type 0 where
  pub grown : AreGrown start parts
  pub held : AllByRecursion (λ e. IsHeldIn parts e.0) left

-- at the start, all items are left
pub grows_first : (start : StateSlots) (all : ItemMap) → AllByRecursion (λ e. IsHeldIn start e.0) all
    → GrowsOn start all start
grows_first start all held = record { grown = parts_itself start; held = held }

-- the part of the next item is there
pub grows_next : (start : StateSlots) (left rest : ItemMap) (e : Item × ItemValue) (parts : StateSlots) → left ≡ e ∷ rest
    → GrowsOn start left parts → IsHeldIn parts e.0
grows_next start left rest e parts is m = (subst (AllByRecursion (λ f. IsHeldIn parts f.0)) is m.held).0

-- after growth for the next item, the others are left
pub grows_on : (start : StateSlots) (left rest : ItemMap) (e : Item × ItemValue) (parts new : StateSlots) → left ≡ e ∷ rest
    → AreGrown parts new → GrowsOn start left parts → GrowsOn start rest new
grows_on start left rest e parts new is grown m = record {
  grown = parts_then start parts new m.grown grown;
  held = all_held_still parts new grown.frames rest (subst (AllByRecursion (λ f. IsHeldIn parts f.0)) is m.held).1;
}

-- what parts make of an item
abbrev pub Gift : Type 0 → Type 1
Gift B = StateSlots → Item × ItemValue → B → Type 0

-- the spot where the item's chain stands
abbrev pub has_spot : Gift ChainRef
has_spot parts e spot = IsChainRef parts e.0 spot

-- that spot with the item's value, where the chain has room for a version
abbrev pub has_room : Gift (ChainRef × ItemValue)
has_room parts e placed = IsPlaced parts e placed × HasRoomFor (chains_for parts e.0) e.0

-- what is made stays while parts grow roomier
abbrev pub Stays : {B : Type 0} → Gift B → Type 0
Stays {B} P = (old new : StateSlots) → AreRoomier old new → (e : Item × ItemValue) (b : B) → P old e b → P new e b

pub spot_stays : Stays has_spot
spot_stays old new g e spot h = spot_kept old new (λ i. (g i).numbers) e.0 spot h

pub room_stays : Stays has_room
room_stays old new g e placed h = (placed_kept old new (λ i. (g i).numbers) e placed h.0, (g (shard_of e.0)).rooms e.0 h.1)

-- what was made so far, and what is made of the items that are left, is made of all
pub record MakesOn {B : Type 0} (P : Gift B) (all : ItemMap) (start : StateSlots) (left : ItemMap) (made : List B) (parts : StateSlots) : Type 0 where
  pub grows : GrowsOn start left parts
  pub roomier : AreRoomier start parts
  pub rest : (new : StateSlots) (more : List B) → AreRoomier parts new → AreBeside (P new) left more
      → AreBeside (P new) all (made ++ more)

-- at the start nothing is made, and all items are left
pub makes_first : {B : Type 0} (P : Gift B) (all : ItemMap) (start : StateSlots) (made : List B) → made ≡ []
    → AllByRecursion (λ e. IsHeldIn start e.0) all → MakesOn P all start all made start
makes_first {B} P all start made none held = record {
  grows = grows_first start all held;
  roomier = rooms_itself start;
  rest = λ new more g h. subst (λ (bs : List B). AreBeside (P new) all (bs ++ more)) (sym none) h;
}

-- what is made of the next item joins what was made, and the others are left
pub makes_on : {B : Type 0} (P : Gift B) → Stays P
    → (all : ItemMap) (start : StateSlots) (left rest : ItemMap) (made later : List B) (e : Item × ItemValue) (b : B) (parts new : StateSlots)
    → left ≡ e ∷ rest → later ≡ made ++ b ∷ [] → AreGrown parts new → AreRoomier parts new → P new e b → MakesOn P all start left made parts → MakesOn P all start rest later new
makes_on {B} P stays all start left rest made later e b parts new is pushed grown roomier given m = record {
  grows = grows_on start left rest e parts new is grown m.grows;
  roomier = rooms_then start parts new m.roomier roomier;
  rest = λ after more g h.
      subst (λ (bs : List B). AreBeside (P after) all bs) (sym (append_assoc made (b ∷ []) more) ∙ ap (λ bs. bs ++ more) (sym pushed))
      (m.rest after (b ∷ more) (rooms_then parts new after roomier g) (subst (λ es. AreBeside (P after) es (b ∷ more)) (sym is) (stays new after g e b given, h)));
}

-- where no items are left, what was made is made of all
pub makes_all : {B : Type 0} (P : Gift B) (all : ItemMap) (start : StateSlots) (left : ItemMap) (made : List B) (parts : StateSlots)
    → left ≡ [] → MakesOn P all start left made parts → AreBeside (P parts) all made
makes_all {B} P all start left made parts none m =
    subst (λ (bs : List B). AreBeside (P parts) all bs) (append-nil made)
    (m.rest parts [] (rooms_itself parts) (subst (λ es. AreBeside (P parts) es []) (sym none) tt))
