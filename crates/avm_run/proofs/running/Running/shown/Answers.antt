use Rattle.std.proofs.Common.{length, sym, ap, subst, arith}
use Rattle.avm_run.specs.Showing.{ShowsPath}
use Rattle.avm_run.proofs.Showing.{shows_before, shows_end}
use Rattle.avm_run.proofs.Standings.{few_bytes}
use Rattle.avm_run.proofs.running.Running.shown.Goals as goal

pub overflow_cast-bytes : goal.overflow_cast-bytes
overflow_cast-bytes c = omega (arith, few_bytes c.bytes.result.now c.args.self.now.program c.bytes.ensures.checked)

pub returns-in-Some : goal.returns-in-Some
returns-in-Some c =
    let r = c.args.self.now in
    subst (ShowsPath r.env.call r.env.header r.env.reads r.steps) (sym c.shown_at.ensures) (shows_before r c.in-Some.placed.now c.requires.stands (sym c.in-Some.ensures))

pub returns-in-None : goal.returns-in-None
returns-in-None c =
    let r = c.args.self.now in
    subst (ShowsPath r.env.call r.env.header r.env.reads r.steps) (sym c.shown_at-in-None.ensures)
    (shows_end r (length c.bytes.result.now) c.requires.stands (sym c.in-None.ensures) (ap length c.bytes.ensures.value))
