use Rattle.std.proofs.Common.{◌≤◌, refl, arith, length}
use Rattle.avm_cpu.proofs.Tops.{drop_tops, goes_so_far}
use Rattle.avm_cpu.proofs.cpu.Cpu.drop_top.Goals as goal

pub returns : goal.returns
returns c =
    let xs = c.self.inside.stack.value.items in
    let n = c.self.inside.depth in
    let fits : n ≤ length xs = omega arith in
    let rest = drop_tops c.args.count n xs (omega (arith, goes_so_far n xs refl c.self.view_is fits)) fits in
    rw (← c.self.view_is) cc
