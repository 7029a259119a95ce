use Rattle.std.proofs.Common.{◌∙◌}
use Rattle.teal_value.specs.declared.value.Value.TheVariants.{Uint}
use Rattle.avm_cpu.proofs.Zeros.{all_same}
use Rattle.avm_cpu.proofs.values.zeros.Goals as goal

pub returns : goal.returns
returns g c =
    (λ i. (c.in_ok-new.ensures.ok i).items)
    ∙ c.from_array_in.ensures.items
    ∙ all_same c.default.result g.row.N (Uint 0) c.default.ensures.long c.default.ensures.at
