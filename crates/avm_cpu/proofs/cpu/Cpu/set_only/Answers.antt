use Rattle.std.proofs.Common.{◌<◌, arith, length, ap}
use Rattle.std.specs.Prelude.{reverse}
use Rattle.std.proofs.lemmas.List.{take_more_set}
use Rattle.avm_cpu.proofs.cpu.Cpu.set_only.Goals as goal

pub returns : goal.returns
returns c =
    let xs = c.self.inside.stack.value.items in
    let some : 0 < length xs = omega arith in
    let only = ap reverse (take_more_set xs 0 c.args.value some) in
    rw (← c.self.view_is) cc
