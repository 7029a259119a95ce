use Rattle.std.proofs.Common.{◌+◌, ◌∙◌, ap, sym, subst, refl, arith}
use Rattle.avm_replay.specs.Verdicts.{IsFirstWrong}
use Rattle.avm_replay.proofs.Entries.{agrees_more, agrees_with_all, first_wrong_at}
use Rattle.avm_replay.proofs.replayer.first_wrong.Goals as goal

pub loop-entry-init : goal.loop-entry-init
loop-entry-init g c = (refl, (refl, refl))

pub overflow_add-number : goal.overflow_add-number
overflow_add-number g c = let lt = c.loop-entry-test.true in omega (arith, c.loop-entry.invariant.0, lt, c.requires.few)

pub returns-then-not-is_same_outcome : goal.returns-then-not-is_same_outcome
returns-then-not-is_same_outcome g c =
    let wrong = first_wrong_at c.args.ledger.now c.loop-entry.ledger c.args.context.now.header.now c.args.entries.now c.loop-entry.entry-index c.entry-item.result c.in_ok-found.found
    c.loop-entry-test.true c.entry-item.is c.loop-entry.invariant.1 c.in_ok-found.ensures.outcome (λ e. let t = c.if-not-is_same_outcome.ensures.1 e in absurd cc) in
    subst (λ n. IsFirstWrong c.args.ledger.now c.args.context.now.header.now c.args.entries.now (n + 1) c.in_ok-found.found) (sym c.loop-entry.invariant.0) wrong

pub loop-entry-preserved : goal.loop-entry-preserved
loop-entry-preserved g c =
    let more = agrees_more c.args.ledger.now c.loop-entry.ledger c.args.context.now.header.now c.args.entries.now c.loop-entry.entry-index c.entry-item.result
    c.loop-entry-test.true c.entry-item.is c.loop-entry.invariant.1 (sym c.in_ok-found.ensures.outcome ∙ c.if-not-is_same_outcome.ensures.0 refl) in
    (ap (λ n. n + 1) c.loop-entry.invariant.0, rw c.in_ok-found.ensures.after more)

pub returns : goal.returns
returns g c = agrees_with_all _ _ _ _ _ c.loop-entry-test.false c.loop-entry.auto.entry-index-end c.loop-entry.invariant.1
