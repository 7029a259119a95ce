-- What a part's chain of an item says of the versions that are seen.
use Rattle.std.proofs.Common.{◌≡◌, ◌≤◌, ℕ, ◌==◌, Bool, Option, None, Some, refl, sym, ap, ◌∙◌, subst, arith, le-leb, nat_lt}
use Rattle.std.specs.Prelude.{if◌then◌else◌}
use Rattle.std.specs.Arc.{arc_value}
use Rattle.avm_items.specs.declared.item.Item.{Item}
use Rattle.avm_items.specs.declared.item_value.ItemValue.{ItemValue}
use Rattle.avm_items.specs.LedgerItems.{at}
use Rattle.mv_chain.specs.declared.chain.Late.{Late}
use Rattle.mv_chain.specs.declared.chain.Version.{Version}
use Rattle.mv_chain.specs.Versions.{Versions, lateness, newest_at, oldest_timestamp}
use Rattle.mv_history.proofs.Lists.{Compared, less, not_less, compared, Equals, equal, unequal, equals}
use Rattle.mv_shards.specs.declared.shard_state.ShardState.{ShardState}
use Rattle.mv_shards.specs.Chains.{first_version}
use Rattle.mv_shards.specs.KeptChains.{chain_in, list_or}
use Rattle.mv_shards.specs.Shards.{versions_held}
use Rattle.mv_shards.specs.KeptShards.{IsShardState, shard_shown}
use Rattle.mv_shards.proofs.FirstReads.{versions_touched}

-- what is seen of an item that has a chain is that chain's versions
pub chain_held : (p : ShardState) (x : Item) (c : Versions ItemValue) → IsShardState p → Some c ≡ chain_in p.chains x → versions_held (shard_shown p) x ≡ c.list
chain_held p x c k found = versions_touched (at (arc_value p.base)) p.low p.chains k.chains x ∙ ap (list_or (at (arc_value p.base) x)) (sym found)

-- what is seen of an item that has none is its first version
pub none_held : (p : ShardState) (x : Item) → IsShardState p → None ≡ chain_in p.chains x → versions_held (shard_shown p) x ≡ first_version (at (arc_value p.base) x)
none_held p x k found = versions_touched (at (arc_value p.base)) p.low p.chains k.chains x ∙ ap (list_or (at (arc_value p.base) x)) (sym found)

-- an item's chain goes back to any timestamp from the low mark on
pub chain_goes_back : (p : ShardState) (x : Item) (c : Versions ItemValue) (t : ℕ) → IsShardState p → p.low ≤ t → Some c ≡ chain_in p.chains x → oldest_timestamp c.list ≤ t
chain_goes_back p x c t k low found =
    let old : oldest_timestamp c.list ≤ p.low = subst (λ vs. oldest_timestamp vs ≤ p.low) (ap (list_or (at (arc_value p.base) x)) (sym found)) (k.chains.old_enough x) in
    omega (arith, old, low)

-- where there is a first version alone, it is found at every timestamp
pub newest_first : (t : ℕ) (v : ItemValue) (d : Version ItemValue) → newest_at t (first_version v) d ≡ record { timestamp = 0; mark = 0; value = v }
newest_first t v d = rw (le-leb 0 t (omega arith)) refl

-- no write is late that follows a first version alone
pub first_not_late : (t : ℕ) (v : ItemValue) (d : Version ItemValue) → None ≡ lateness t (newest_at t (first_version v) d)
first_not_late t v d = sym (ap (lateness t) (newest_first t v d) ∙ by (nat_lt t 0) (compared t 0))
  where
    by : (b : Bool) → Compared t 0 b → ◌≡◌ {A = Option Late} (if b then Some (record { version = 0; mark = 0 }) else None) None
    by b (less k) = absurd (omega (arith, k))
    by b (not_less k) = refl

-- where there is a first version alone, 0 is the only timestamp that has a version
pub first_version_at : (t : ℕ) (v : ItemValue) (d : Version ItemValue) → (t == 0) ≡ ((newest_at t (first_version v) d).timestamp == t)
first_version_at t v d = by (t == 0) (equals t 0) (0 == t) (equals 0 t) ∙ ap (λ (w : Version ItemValue). w.timestamp == t) (sym (newest_first t v d))
  where
    by : (a : Bool) → Equals t 0 a → (b : Bool) → Equals 0 t b → a ≡ b
    by a (equal h) b (equal k) = refl
    by a (equal h) b (unequal k) = absurd (k (sym h))
    by a (unequal h) b (equal k) = absurd (h (sym k))
    by a (unequal h) b (unequal k) = refl
