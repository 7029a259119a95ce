use Rattle.std.proofs.Common.{◌≡◌, ◌∙◌, ◌<◌, ◌≤◌, ◌+◌, ℕ, Bool, true, false, get_or, length, vec_capacity, vec_len, refl, sym, subst, arith}
use Rattle.std.specs.Prelude.{IsTrue, nat_lt, set, take}
use Rattle.std.proofs.lemmas.List.{get_or_default}
use Rattle.mv_history.proofs.Lists.{Compared, compared, less, not_less}
use Rattle.mv_shards.specs.Several.{AreListed, version_counts}
use Rattle.mv_shards.proofs.Prunes.{GoesOn, goes_first, goes_gone, goes_stays, pruned_chains}
use Rattle.mv_shards.proofs.Several.{left_all}
use Rattle.mv_shards.proofs.chains.prune_several.Goals as goal
use Rattle.mv_shards.proofs.chains.prune_several.Goals.{then-prune_chain, else-prune_chain}

not_several : (n : ℕ) (several : Bool) → (1 < n → IsTrue several) → several ≡ false → n ≤ 1
not_several n several more false_now = by (nat_lt 1 n) (compared 1 n)
  where
    by : (b : Bool) → Compared 1 n b → n ≤ 1
    by b (less h) = let yes : several ≡ true = more h in absurd cc
    by b (not_less h) = omega (arith, h)

pub loop-index-init : goal.loop-index-init
loop-index-init c = (goes_first c.args.timestamp _ _ c.args.list.now.items c.requires, refl)

pub loop-index-preserved : goal.loop-index-preserved
loop-index-preserved c =
    let g = c.loop-index.invariant.0 in
    let here : c.loop-index.index < length c.loop-index.several.items = omega arith in
    let number : get_or c.loop-index.several.items c.loop-index.index 0 ≡ c.index-number.result.now = get_or_default c.loop-index.several.items c.loop-index.index 0 c.index-number.result.now here ∙ sym c.index-number.ensures in
    elim c.if-prune_chain.branch [
      | then-prune_chain w ↦
          subst (λ v. GoesOn c.args.timestamp c.args.list.now.items v.items (vec_capacity v) c.if-prune_chain.kept (c.loop-index.index + 1) (set c.loop-index.list.items c.index-number.result.now (c.index_mut.result.now.0, c.prune_chain.new.chain)) × (vec_len v ≡ vec_len c.args.several.now)) (sym w.several-is)
          (subst (λ k. GoesOn c.args.timestamp c.args.list.now.items (set c.loop-index.several.items c.loop-index.kept c.index-number.result.now) (vec_capacity c.loop-index.several) k (c.loop-index.index + 1) (set c.loop-index.list.items c.index-number.result.now (c.index_mut.result.now.0, c.prune_chain.new.chain)) × (vec_len c.loop-index.several ≡ vec_len c.args.several.now)) (sym w.kept-is)
          (goes_stays c.args.timestamp c.args.list.now.items c.loop-index.several.items (vec_capacity c.loop-index.several) c.loop-index.kept c.loop-index.index c.index-number.result.now c.loop-index.list.items c.index_mut.result.now c.prune_chain.new.chain here number c.index_mut.ensures.value c.prune_chain.ensures.list g (c.prune_chain.ensures.several.0 w.if-prune_chain.true), c.loop-index.invariant.1))
      | else-prune_chain w ↦
          let few : length c.prune_chain.new.chain.list ≤ 1 = not_several (length c.prune_chain.new.chain.list) c.prune_chain.result c.prune_chain.ensures.several.1 w.if-prune_chain.false in
          subst (λ v. GoesOn c.args.timestamp c.args.list.now.items v.items (vec_capacity v) c.if-prune_chain.kept (c.loop-index.index + 1) (set c.loop-index.list.items c.index-number.result.now (c.index_mut.result.now.0, c.prune_chain.new.chain)) × (vec_len v ≡ vec_len c.args.several.now)) (sym w.several-is)
          (subst (λ k. GoesOn c.args.timestamp c.args.list.now.items c.loop-index.several.items (vec_capacity c.loop-index.several) k (c.loop-index.index + 1) (set c.loop-index.list.items c.index-number.result.now (c.index_mut.result.now.0, c.prune_chain.new.chain)) × (vec_len c.loop-index.several ≡ vec_len c.args.several.now)) (sym w.kept-is)
          (goes_gone c.args.timestamp c.args.list.now.items c.loop-index.several.items (vec_capacity c.loop-index.several) c.loop-index.kept c.loop-index.index c.index-number.result.now c.loop-index.list.items c.index_mut.result.now c.prune_chain.new.chain here number c.index_mut.ensures.value c.prune_chain.ensures.list g few, c.loop-index.invariant.1))
    ]

pub returns-clause-listed : goal.returns-clause-listed
returns-clause-listed c =
    subst (λ numbers. AreListed numbers (vec_capacity c.truncate.new.self) (version_counts c.loop-index.list.items)) (sym c.truncate.ensures.items)
    (subst (λ room. AreListed (take c.loop-index.kept c.loop-index.several.items) room (version_counts c.loop-index.list.items)) (sym c.truncate.ensures.capacity)
    (left_all c.loop-index.several.items (vec_capacity c.loop-index.several) c.loop-index.kept c.loop-index.index (version_counts c.loop-index.list.items) (omega arith) c.loop-index.invariant.0.left))

pub returns-clause-pruned : goal.returns-clause-pruned
returns-clause-pruned c = pruned_chains c.args.timestamp c.loop-index.several.items c.loop-index.index c.args.list.now.items c.loop-index.list.items (omega arith) c.loop-index.invariant.0.pruned
