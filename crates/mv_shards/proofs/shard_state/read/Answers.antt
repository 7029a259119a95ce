use Rattle.std.proofs.Common.{◌∙◌, ◌≡◌, sym, subst, inl, None, rules}
use Rattle.std.specs.Arc.{arc_value}
use Rattle.avm_items.specs.Items.{value_in}
use Rattle.avm_items.specs.LedgerItems.{at}
use Rattle.mv_shards.specs.KeptChains.{AreChains, versions_of}
use Rattle.mv_shards.specs.KeptShards.{IsMarkedRead}
use Rattle.mv_shards.proofs.Touched.{touched_alike}
use Rattle.mv_shards.proofs.OneChain.{err_always}
use Rattle.mv_shards.proofs.FirstReads.{first_read_seen, refused_seen}
use Rattle.mv_shards.proofs.shard_state.read.Goals as goal

pub returns-in_err-first_read-clause-kept : goal.returns-in_err-first_read-clause-kept
returns-in_err-first_read-clause-kept c = record {
  within = c.requires.within;
  chains = subst (λ b. AreChains (at b) c.args.part.now.low c.first_read.new.chains) (c.ledger.ensures ∙ c.deref.ensures)
      (c.first_read.ensures.kept c.args.part.now.low (subst (λ b. AreChains (at b) c.args.part.now.low c.args.part.now.chains) (sym (c.ledger.ensures ∙ c.deref.ensures)) c.requires.chains));
}

pub returns-in_err-first_read-clause-part : goal.returns-in_err-first_read-clause-part
returns-in_err-first_read-clause-part c =
    let base = arc_value c.args.part.now.base in
    err_always c.from_residual-in_err-first_read.result _
    (refused_seen c.args.part.now.index c.args.part.now.low base c.args.part.now.chains c.first_read.new.chains
    (touched_alike (at base) c.args.part.now.low c.args.part.now.chains c.first_read.new.chains c.requires.chains (returns-in_err-first_read-clause-kept c).chains
    (λ x. subst (λ b. versions_of (at b) c.first_read.new.chains x ≡ versions_of (at b) c.args.part.now.chains x) (c.ledger.ensures ∙ c.deref.ensures) (c.in_err-first_read.ensures.versions x))))

pub returns-clause-kept : goal.returns-clause-kept
returns-clause-kept c = record {
  within = c.requires.within;
  chains = subst (λ b. AreChains (at b) c.args.part.now.low c.first_read.new.chains) (c.ledger.ensures ∙ c.deref.ensures)
      (c.first_read.ensures.kept c.args.part.now.low (subst (λ b. AreChains (at b) c.args.part.now.low c.args.part.now.chains) (sym (c.ledger.ensures ∙ c.deref.ensures)) c.requires.chains));
}

first : (c : goal.In_ok-first_read) → value_in c.args.attempt.now.reads c.args.item ≡ None
first c = search rules

pub returns-clause-ok : goal.returns-clause-ok
returns-clause-ok c =
    let base = arc_value c.args.part.now.base in
    inl (first_read_seen c.args.part.now.index c.args.part.now.low base c.args.part.now.chains c.first_read.new.chains c.args.attempt.now c.first_read.new.attempt c.args.item c.in_ok-first_read.field-0
    (rw (← c.attempt.view_is) c.attempt.invariant) (rw (← c.attempt.view_is) c.if-attempt-part.false) (first c) c.requires.chains (returns-clause-kept c).chains
    (subst (λ b. IsMarkedRead (at b) c.args.part.now.chains c.first_read.new.chains c.args.attempt.now c.first_read.new.attempt c.args.item c.in_ok-first_read.field-0) (c.ledger.ensures ∙ c.deref.ensures) c.in_ok-first_read.ensures.ok))
