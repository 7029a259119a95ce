use Rattle.std.proofs.Common.{◌≤◌, refl, arith, length}
use Rattle.teal_value.specs.declared.value.Value.TheVariants.{Uint}
use Rattle.avm_cpu.proofs.Tops.{goes_so_far, put_tops}
use Rattle.avm_cpu.proofs.cpu.Cpu.put_uint_over.Goals as goal

pub returns : goal.returns
returns c =
    let n = c.self.inside.depth in
    let fits : n ≤ length c.self.inside.stack.value.items = omega arith in
    let far = goes_so_far n _ refl c.self.view_is fits in
    let top = put_tops c.args.count n _ (Uint c.args.number) (omega (arith, far)) fits (omega (arith, far)) in
    rw (← c.self.view_is) cc
