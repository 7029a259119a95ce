use Rattle.std.proofs.Common.{◌∙◌, ◌≤◌, sym, ap, subst, rules}
use Rattle.avm_items.specs.LedgerItems.{at}
use Rattle.mv_chain.specs.Versions.{newest_at, oldest_timestamp}
use Rattle.mv_shards.specs.Attempts.{CallAttempt}
use Rattle.mv_shards.specs.KeptChains.{one_marked, versions_of}
use Rattle.mv_shards.proofs.FirstReads.{numbered_readable}
use Rattle.mv_shards.proofs.shard_state.first_read.Goals as goal

pub returns-clause-ok : goal.returns-clause-ok
returns-clause-ok c =
    let first = at c.args.base.now in
    let t = c.attempt.inside.timestamp in
    rw (← c.attempt.view_is, c.marked.ensures.value)
    record {
      value = λ d. c.in_ok-value.ensures c.args.item c.in_ok-number.ensures.number first d ∙ ap (λ vs. (newest_at t vs d).value) (c.find_or_make.ensures.grown.versions c.args.item);
      marked = λ y. (c.marked.ensures.marked c.args.item c.in_ok-number.ensures.number).versions first y ∙ ap (λ all. one_marked t c.args.item all y) (λ j x. c.find_or_make.ensures.grown.versions x j);
      joins = search rules;
    }

pub returns-clause-kept : goal.returns-clause-kept
returns-clause-kept c low k = (c.marked.ensures.marked c.args.item c.in_ok-number.ensures.number).kept (at c.args.base.now) low (c.find_or_make.ensures.grown.kept low k)

pub value_at-requires : goal.value_at-requires
value_at-requires c =
    numbered_readable (at c.args.base.now) c.attempt.inside.timestamp c.args.chains.now c.find_or_make.new.self c.args.item c.in_ok-number.number
    (subst (λ (a : CallAttempt). oldest_timestamp (versions_of (at c.args.base.now) c.args.chains.now c.args.item) ≤ a.timestamp) (sym c.attempt.view_is) c.requires.old_enough) (c.find_or_make.ensures.grown.versions c.args.item) c.in_ok-number.ensures.number

pub marked-requires-clause-readable : goal.marked-requires-clause-readable
marked-requires-clause-readable c =
    numbered_readable (at c.args.base.now) c.attempt.inside.timestamp c.args.chains.now c.find_or_make.new.self c.args.item c.in_ok-number.number
    (subst (λ (a : CallAttempt). oldest_timestamp (versions_of (at c.args.base.now) c.args.chains.now c.args.item) ≤ a.timestamp) (sym c.attempt.view_is) c.requires.old_enough) (c.find_or_make.ensures.grown.versions c.args.item) c.in_ok-number.ensures.number
