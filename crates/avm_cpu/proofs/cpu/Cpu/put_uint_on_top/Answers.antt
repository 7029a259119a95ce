use Rattle.std.proofs.Common.{◌≤◌, refl, arith, length}
use Rattle.teal_value.specs.declared.value.Value.TheVariants.{Uint}
use Rattle.avm_cpu.proofs.Tops.{goes_so_far, push_tops}
use Rattle.avm_cpu.proofs.cpu.Cpu.put_uint_on_top.Goals as goal

pub returns : goal.returns
returns c =
    let xs = c.self.inside.stack.value.items in
    let n = c.self.inside.depth in
    let fits : n ≤ length xs = omega arith in
    let top = push_tops n xs (Uint c.args.number) (omega (arith, goes_so_far n xs refl c.self.view_is fits)) in
    rw (← c.self.view_is) cc
