use Rattle.std.proofs.Common.{◌≡◌, ◌-◌, ◌<◌, ◌≤◌, arith, length, set, ap}
use Rattle.teal_value.specs.declared.value.Value.TheVariants.{Bytes}
use Rattle.avm_cpu.specs.Machine.{Machine}
use Rattle.avm_cpu.proofs.Tops.{many, written_top}
use Rattle.avm_cpu.proofs.cpu.Cpu.set_bytes.Goals as goal

pub returns-clause-set : goal.returns-clause-set
returns-clause-set c =
    let xs = c.self.inside.stack.value.items in
    let n = c.self.inside.depth in
    let fits : n ≤ length xs = omega arith in
    let depth = ap (λ (m : Machine). length m.stack) c.self.view_is in
    let some : 0 < n = omega (arith, many n xs fits) in
    let ys = c.write_bytes.new.values.items in
    let written = c.in_ok-write_bytes.ensures.written in
    let over : ys ≡ set xs (n - 1) (Bytes c.args.bytes.now) = cc in
    let top = written_top n xs ys (Bytes c.args.bytes.now) some fits over in
    rw (← c.self.view_is) cc
