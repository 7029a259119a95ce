use Rattle.std.proofs.Common.{◌≡◌, ◌≤◌, ◌∙◌, ℕ, Some, subst, ap, arith}
use Rattle.std.specs.Arc.{arc_value}
use Rattle.avm_items.specs.declared.item.Item.{Item}
use Rattle.avm_items.specs.declared.item_value.ItemValue.{ItemValue}
use Rattle.avm_items.specs.LedgerItems.{at}
use Rattle.mv_chain.specs.Versions.{newest_at, oldest_timestamp}
use Rattle.mv_shards.specs.declared.shard_state.ShardState.{ShardState}
use Rattle.mv_shards.specs.KeptChains.{ChainMap, IsGrown, IsReadableAt, number_in, one_marked, versions_of}
use Rattle.mv_shards.specs.KeptShards.{IsShardState}
use Rattle.mv_shards.proofs.OneChain.{err_always}
use Rattle.mv_shards.proofs.FirstReads.{numbered_readable, read_seen, refused_seen}
use Rattle.mv_shards.proofs.shard_state.read_at.Goals as goal

abbrev first_in : ShardState → Item → ItemValue
first_in p = at (arc_value p.base)

grown_state : (p : ShardState) (new : ChainMap ItemValue) → IsShardState p → IsGrown (first_in p) p.chains new → IsShardState (record p { chains = new })
grown_state p new k g = record { within = k.within; chains = g.kept p.low k.chains }

readable : (p : ShardState) (new : ChainMap ItemValue) (x : Item) (n t : ℕ) → p.low ≤ t → IsShardState p → IsGrown (first_in p) p.chains new → number_in new x ≡ Some n → IsReadableAt t new n
readable p new x n t low k g number =
    let old : oldest_timestamp (versions_of (first_in p) p.chains x) ≤ p.low = k.chains.old_enough x in
    numbered_readable (first_in p) t p.chains new x n (omega (arith, old, low)) (g.versions x) number

pub returns-in_err-number-clause-kept : goal.returns-in_err-number-clause-kept
returns-in_err-number-clause-kept c =
    grown_state c.args.part.now c.find_or_make.new.self c.requires.part (subst (λ b. IsGrown (at b) c.args.part.now.chains c.find_or_make.new.self) (c.ledger.ensures ∙ c.deref.ensures) c.find_or_make.ensures.grown)

pub returns-in_err-number-clause-part : goal.returns-in_err-number-clause-part
returns-in_err-number-clause-part c =
    let p = c.args.part.now in
    let g : IsGrown (first_in p) p.chains c.find_or_make.new.self = subst (λ b. IsGrown (at b) p.chains c.find_or_make.new.self) (c.ledger.ensures ∙ c.deref.ensures) c.find_or_make.ensures.grown in
    err_always c.from_residual.result _ (refused_seen p.index p.low (arc_value p.base) p.chains c.find_or_make.new.self (g.seen p.low c.requires.part.chains))

pub value_at-requires : goal.value_at-requires
value_at-requires c =
    readable c.args.part.now c.find_or_make.new.self c.args.item.now c.in_ok-number.number c.args.timestamp (omega (arith, c.if-timestamp-part.false)) c.requires.part (subst (λ b. IsGrown (at b) c.args.part.now.chains c.find_or_make.new.self) (c.ledger.ensures ∙ c.deref.ensures) c.find_or_make.ensures.grown) c.in_ok-number.ensures.number

pub returns-in_err-value-clause-kept : goal.returns-in_err-value-clause-kept
returns-in_err-value-clause-kept c =
    grown_state c.args.part.now c.find_or_make.new.self c.requires.part (subst (λ b. IsGrown (at b) c.args.part.now.chains c.find_or_make.new.self) (c.ledger.ensures ∙ c.deref.ensures) c.find_or_make.ensures.grown)

pub returns-in_err-value-clause-part : goal.returns-in_err-value-clause-part
returns-in_err-value-clause-part c =
    let p = c.args.part.now in
    let g : IsGrown (first_in p) p.chains c.find_or_make.new.self = subst (λ b. IsGrown (at b) p.chains c.find_or_make.new.self) (c.ledger.ensures ∙ c.deref.ensures) c.find_or_make.ensures.grown in
    err_always c.from_residual-in_err-value.result _ (refused_seen p.index p.low (arc_value p.base) p.chains c.find_or_make.new.self (g.seen p.low c.requires.part.chains))

pub marked-requires-clause-readable : goal.marked-requires-clause-readable
marked-requires-clause-readable c =
    readable c.args.part.now c.find_or_make.new.self c.args.item.now c.in_ok-number.number c.args.timestamp (omega (arith, c.if-timestamp-part.false)) c.requires.part (subst (λ b. IsGrown (at b) c.args.part.now.chains c.find_or_make.new.self) (c.ledger.ensures ∙ c.deref.ensures) c.find_or_make.ensures.grown) c.in_ok-number.ensures.number

pub returns-clause-kept : goal.returns-clause-kept
returns-clause-kept c =
    let p = c.args.part.now in
    let g : IsGrown (first_in p) p.chains c.find_or_make.new.self = subst (λ b. IsGrown (at b) p.chains c.find_or_make.new.self) (c.ledger.ensures ∙ c.deref.ensures) c.find_or_make.ensures.grown in
    record { within = c.requires.part.within; chains = (c.marked.ensures.marked c.args.item.now c.in_ok-number.ensures.number).kept (first_in p) p.low (g.kept p.low c.requires.part.chains) }

pub returns-clause-ok : goal.returns-clause-ok
returns-clause-ok c =
    let p = c.args.part.now in
    let x = c.args.item.now in
    let t = c.args.timestamp in
    let g : IsGrown (first_in p) p.chains c.find_or_make.new.self = subst (λ b. IsGrown (at b) p.chains c.find_or_make.new.self) (c.ledger.ensures ∙ c.deref.ensures) c.find_or_make.ensures.grown in
    read_seen p.index p.low t (arc_value p.base) p.chains c.marked.new.chains x c.marked.result c.requires.positive (omega (arith, c.if-timestamp-part.false)) c.requires.part.chains (returns-clause-kept c).chains
    (λ d. c.marked.ensures.value ∙ c.in_ok-value.ensures x c.in_ok-number.ensures.number (first_in p) d ∙ ap (λ vs. (newest_at t vs d).value) (g.versions x))
    (λ y. (c.marked.ensures.marked x c.in_ok-number.ensures.number).versions (first_in p) y ∙ ap (λ all. one_marked t x all y) (λ j z. g.versions z j))
