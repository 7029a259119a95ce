use Rattle.std.proofs.Common.{◌≡◌, ◌∙◌, ◌++◌, ◌-◌, ap, arith}
use Rattle.std.specs.Prelude.{replicate}
use Rattle.teal_value.specs.declared.value.Value.TheVariants.{Uint}
use Rattle.json_views.specs.ValueTokens.{value_tokens}
use Rattle.json_views.proofs.ScratchRuns.{zero_written}
use Rattle.json_views.proofs.machine.put_zeros.Goals as goal

pub loop-zero-preserved : goal.loop-zero-preserved
loop-zero-preserved c = zero_written c.args.out.now c.loop-zero.out c.put_value.new.out c.loop-zero._zero c.loop-zero.invariant c.in_ok-put_value.ensures

pub returns : goal.returns
returns c =
    let all : c.loop-zero._zero ≡ c.args.to - c.args.from = omega (arith, c.loop-zero.auto._zero-end, c.loop-zero-test.false, c.saturating_sub-zero-end.ensures) in
    record { is = c.loop-zero.invariant ∙ ap (λ n. c.args.out.now ++ value_tokens (replicate n (Uint 0))) all }
