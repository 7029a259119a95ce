use Rattle.std.proofs.Common.{◌∙◌, sym, ap}
use Rattle.avm_items.specs.LedgerItems.{at}
use Rattle.avm_items.specs.SameValues.{is_same_value}
use Rattle.mv_chain.specs.declared.chain.Version.{Version}
use Rattle.mv_chain.specs.Versions.{newest_at}
use Rattle.mv_shards.proofs.StateReads.{chain_goes_back, chain_held, newest_first, none_held}
use Rattle.mv_shards.proofs.shard_state.has_value.Goals as goal

pub read_at-requires : goal.read_at-requires
read_at-requires c = chain_goes_back c.args.part.now c.args.item.now c.in-Some.chain.now c.args.timestamp c.requires.part c.requires.low c.in-Some.ensures

pub returns-in-Some : goal.returns-in-Some
returns-in-Some c d =
    c.is_same.ensures.test
    ∙ ap (λ v. is_same_value v c.args.value.now)
    (c.read_at.ensures d ∙ ap (λ vs. (newest_at c.args.timestamp vs d).value) (sym (chain_held c.args.part.now c.args.item.now c.in-Some.chain.now c.requires.part c.in-Some.ensures)))

pub returns-in-None : goal.returns-in-None
returns-in-None c d =
    c.is_value_in.ensures
    ∙ ap (λ l. is_same_value (at l c.args.item.now) c.args.value.now) (c.ledger.ensures ∙ c.deref.ensures)
    ∙ ap (λ v. is_same_value v c.args.value.now)
    (sym (ap (λ (w : Version _). w.value) (ap (λ vs. newest_at c.args.timestamp vs d) (none_held c.args.part.now c.args.item.now c.requires.part c.in-None.ensures) ∙ newest_first c.args.timestamp _ d)))
