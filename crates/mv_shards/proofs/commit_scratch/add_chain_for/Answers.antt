use Rattle.std.proofs.Common.{◌≡◌, ◌∙◌, Some, sym, subst, refl}
use Rattle.avm_items.specs.LedgerItems.{at}
use Rattle.mv_shards.specs.KeptChains.{IsGrown, number_in}
use Rattle.mv_shards.proofs.Slots.{here_at}
use Rattle.mv_shards.proofs.Steps.{chains_here, grown_at, roomier_at}
use Rattle.mv_shards.proofs.commit_scratch.add_chain_for.Goals as goal

pub returns-in_err-number-in-Some-clause-grown : goal.returns-in_err-number-in-Some-clause-grown
returns-in_err-number-in-Some-clause-grown c =
    let is = c.from-shard.ensures ∙ c.shard_of.ensures.index in
    let here = here_at c.args.parts.now c.from-shard.result c.args.item.now c.index-parts-shard.result c.in-Some.part is c.requires c.in-Some.is in
    grown_at c.args.parts.now c.from-shard.result c.in-Some.part (record c.in-Some.part { chains = c.find_or_make.new.self }) here refl
    (subst (λ b. IsGrown (at b) c.in-Some.part.chains c.find_or_make.new.self) (c.ledger.ensures ∙ c.deref.ensures) c.find_or_make.ensures.grown)

pub returns-clause-grown : goal.returns-clause-grown
returns-clause-grown c =
    let is = c.from-shard.ensures ∙ c.shard_of.ensures.index in
    let here = here_at c.args.parts.now c.from-shard.result c.args.item.now c.index-parts-shard.result c.in-Some.part is c.requires c.in-Some.is in
    grown_at c.args.parts.now c.from-shard.result c.in-Some.part (record c.in-Some.part { chains = c.find_or_make.new.self }) here refl
    (subst (λ b. IsGrown (at b) c.in-Some.part.chains c.find_or_make.new.self) (c.ledger.ensures ∙ c.deref.ensures) c.find_or_make.ensures.grown)

pub returns-clause-roomier : goal.returns-clause-roomier
returns-clause-roomier c =
    let is = c.from-shard.ensures ∙ c.shard_of.ensures.index in
    let here = here_at c.args.parts.now c.from-shard.result c.args.item.now c.index-parts-shard.result c.in-Some.part is c.requires c.in-Some.is in
    roomier_at c.args.parts.now c.from-shard.result c.in-Some.part (record c.in-Some.part { chains = c.find_or_make.new.self }) here c.in_ok-number-in-Some.ensures.roomier

pub returns-clause-spot : goal.returns-clause-spot
returns-clause-spot c =
    let is = c.from-shard.ensures ∙ c.shard_of.ensures.index in
    let here = here_at c.args.parts.now c.from-shard.result c.args.item.now c.index-parts-shard.result c.in-Some.part is c.requires c.in-Some.is in
    let chains = chains_here c.args.parts.now c.from-shard.result c.in-Some.part (record c.in-Some.part { chains = c.find_or_make.new.self }) here c.args.item.now is in
    record { shard = is; number = subst (λ map. number_in map c.args.item.now ≡ Some c.in_ok-number-in-Some.number) (sym chains) c.in_ok-number-in-Some.ensures.number }
