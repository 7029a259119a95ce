use Rattle.std.proofs.Common.{◌∙◌, ◌==◌, sym, ap}
use Rattle.avm_items.specs.declared.item_value.ItemValue.{ItemValue}
use Rattle.avm_items.specs.declared.item_value.ItemValue.TheVariants.{Absent}
use Rattle.mv_chain.specs.declared.chain.Version.{Version}
use Rattle.mv_chain.specs.Versions.{newest_at}
use Rattle.mv_shards.proofs.Foreign.{has_version_seen}
use Rattle.mv_shards.proofs.StateReads.{chain_goes_back, chain_held, first_version_at, none_held}
use Rattle.mv_shards.proofs.shard_state.has_version.Goals as goal

any : Version ItemValue
any = record { timestamp = 0; mark = 0; value = Absent }

pub timestamp_at-requires : goal.timestamp_at-requires
timestamp_at-requires c = chain_goes_back c.args.part.now c.args.item.now c.in-Some.chain.now c.args.timestamp c.requires.part c.requires.low c.in-Some.ensures

pub returns-in-Some : goal.returns-in-Some
returns-in-Some c =
    ap (λ n. n == c.args.timestamp) (c.timestamp_at.ensures any) ∙ ap (λ vs. (newest_at c.args.timestamp vs any).timestamp == c.args.timestamp) (sym (chain_held c.args.part.now c.args.item.now c.in-Some.chain.now c.requires.part c.in-Some.ensures))
    ∙ sym (has_version_seen c.args.part.now c.args.item.now c.args.timestamp any c.requires.part c.requires.low)

pub returns-in-None : goal.returns-in-None
returns-in-None c =
    first_version_at c.args.timestamp _ any ∙ ap (λ vs. (newest_at c.args.timestamp vs any).timestamp == c.args.timestamp) (sym (none_held c.args.part.now c.args.item.now c.requires.part c.in-None.ensures))
    ∙ sym (has_version_seen c.args.part.now c.args.item.now c.args.timestamp any c.requires.part c.requires.low)
