use Rattle.std.proofs.Common.{◌≡◌, ◌-◌, ◌+◌, ap, ◌∙◌, length, arith}
use Rattle.std.specs.List.{refill, swap}
use Rattle.avm_cpu.proofs.Tops.{refilled, swapped}
use Rattle.avm_cpu.proofs.values.swap_last.Goals as goal

pub returns-clause-swapped : goal.returns-clause-swapped
returns-clause-swapped g c =
    let values = c.args.values.now.items in
    let i = c.args.count - 2 in
    let two : c.args.count ≡ i + 1 + 1 = omega (arith, c.requires.two) in
    let last : c.args.count - 1 ≡ i + 1 = omega (arith, c.requires.two) in
    swapped values (refill (length values) values c.swap.new.self) i c.args.count two c.requires.there
    (refilled values c.swap.new.self (c.swap.ensures.len ∙ ap length c.as_mut_slice.ensures.value)
    ∙ c.swap.ensures.after
    ∙ (λ k. swap (c.as_mut_slice.ensures.value k) i (last k)))
