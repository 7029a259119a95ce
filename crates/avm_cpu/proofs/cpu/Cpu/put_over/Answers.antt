use Rattle.std.proofs.Common.{◌≡◌, ◌≤◌, ◌∙◌, refl, arith, length, ap}
use Rattle.std.proofs.lemmas.List.{length-set}
use Rattle.avm_cpu.proofs.Tops.{goes_so_far, put_tops}
use Rattle.avm_cpu.proofs.cpu.Cpu.put_over.Goals as goal

pub overflow_sub-place : goal.overflow_sub-place
overflow_sub-place c =
    let fits : c.self.inside.depth ≤ length c.self.inside.stack.value.items = omega arith in
    omega (arith, goes_so_far _ c.self.inside.stack.value.items refl c.self.view_is fits)

pub put-requires : goal.put-requires
put-requires c =
    let xs = c.self.inside.stack.value.items in
    let fits : c.self.inside.depth ≤ length xs = omega arith in
    let same : length c.deref_mut.result.now.items ≡ length xs = ap (λ v. length v.items) c.deref_mut.ensures.value in
    (omega arith, omega (arith, goes_so_far _ xs refl c.self.view_is fits))

pub invariant_of-self : goal.invariant_of-self
invariant_of-self c =
    let xs = c.self.inside.stack.value.items in
    let fits : c.self.inside.depth ≤ length xs = omega arith in
    let long = ap length c.put.ensures ∙ length-set _ _ _ ∙ ap (λ v. length v.items) c.deref_mut.ensures.value in
    let kept = c.self.invariant in
    (long ∙ kept.0, omega (arith, goes_so_far _ xs refl c.self.view_is fits), kept.2, kept.3, kept.4)

pub returns : goal.returns
returns c =
    let xs = c.self.inside.stack.value.items in
    let n = c.self.inside.depth in
    let fits : n ≤ length xs = omega arith in
    let far = goes_so_far n xs refl c.self.view_is fits in
    let top = put_tops c.args.count n xs c.args.value (omega (arith, far)) fits (omega (arith, far)) in
    rw (← c.self.view_is) cc
