use Rattle.std.proofs.Common.{sym, subst}
use Rattle.avm_run.specs.Knowing.{KnowsAt}
use Rattle.avm_run.proofs.KnownItems.{knows}
use Rattle.avm_run.proofs.running.Running.value.Goals as goal

pub returns : goal.returns
returns c =
    let r = c.args.self.now in
    subst (KnowsAt r.env.call r.env.header r.env.reads r.steps c.args.item.now) (sym c.value.ensures) (knows c.runs_know_the_ledger.ensures r c.args.item.now c.requires.stands)
