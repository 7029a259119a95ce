use Rattle.std.proofs.Common.{◌≡◌, ◌-◌, ◌<◌, ◌≤◌, Some, refl, arith, length, sym, ◌∙◌}
use Rattle.std.specs.Prelude.{slice_get}
use Rattle.teal_value.specs.declared.value.Value.TheVariants.{Uint}
use Rattle.avm_cpu.proofs.Tops.{goes_so_far, rest_is, top_is}
use Rattle.avm_cpu.proofs.cpu.Cpu.take_top.Goals as goal

pub returns-clause-stack : goal.returns-clause-stack
returns-clause-stack c =
    let xs = c.self.inside.stack.value.items in
    let n = c.self.inside.depth in
    let fits : n ≤ length xs = omega arith in
    let some : 0 < n = omega (arith, goes_so_far n xs refl c.self.view_is fits) in
    let top : slice_get xs (n - 1) ≡ Some c.take_out.result = (λ i. slice_get ((sym c.deref_mut.ensures.value) i).items (n - 1)) ∙ c.take_out.ensures.value in
    rw (← c.self.view_is) (top_is n xs c.take_out.result some fits top)

pub returns-clause-rest : goal.returns-clause-rest
returns-clause-rest c =
    let xs = c.self.inside.stack.value.items in
    let n = c.self.inside.depth in
    let fits : n ≤ length xs = omega arith in
    let some : 0 < n = omega (arith, goes_so_far n xs refl c.self.view_is fits) in
    let rest = rest_is n xs (Uint 0) some fits in
    rw (← c.self.view_is) cc
