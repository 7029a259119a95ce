use Rattle.std.proofs.Common.{◌≡◌, ◌-◌, ap, ◌∙◌, arith}
use Rattle.mv_chain.specs.Versions.{count_not_above, marked_at_index}
use Rattle.mv_chain.proofs.Indexes.{count_not_above-within, set-marked_at_index}
use Rattle.mv_chain.proofs.chain.mark_older.Goals as goal

pub returns-clause-items : goal.returns-clause-items
returns-clause-items g c =
    let count : c.count_to-index.result ≡ count_not_above c.args.timestamp c.args.older.now.items = rw c.deref.ensures.value at c.count_to-index.ensures.count in
    let few = count_not_above-within c.args.timestamp c.args.older.now.items in
    set-marked_at_index (c.count_to-index.result - 1) c.args.timestamp c.raise.new.mark c.args.older.now.items c.index_mut.result.now (omega (arith, count, few, c.requires.some)) c.index_mut.ensures.value c.raise.ensures
    ∙ ap (λ i. marked_at_index (i - 1) c.args.timestamp c.args.older.now.items) count
