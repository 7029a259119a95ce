use Rattle.std.proofs.Common.{◌≡◌, ap, sym, ◌∙◌, arith, take}
use Rattle.std.specs.Prelude.{replicate}
use Rattle.teal_value.specs.declared.value.Value.TheVariants.{Uint}
use Rattle.avm_cpu.proofs.Zeros.{all_zeros}
use Rattle.avm_cpu.proofs.values.put_zeros.Goals as goal

pub returns : goal.returns
returns g c =
    let values = c.loop-place.values.items in
    let all : c.loop-place.place ≡ c.args.count = omega arith in
    let front : take c.args.count values ≡ replicate c.args.count (Uint 0) = ap (λ n. take n values) (sym all) ∙ c.loop-place.invariant.zeros ∙ ap (λ n. replicate n (Uint 0)) all in
    all_zeros values c.args.count g.row.N (Uint 0) c.requires.there front (c.loop-place.invariant.rest ∙ c.requires.rest)
