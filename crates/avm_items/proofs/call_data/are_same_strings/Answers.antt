use Rattle.std.proofs.Common.{◌∙◌, sym, arith, refl}
use Rattle.avm_items.proofs.SameItems.{lists_alike, next_alike, same_bytes}
use Rattle.avm_items.proofs.call_data.are_same_strings.Goals as goal

pub loop-index-init : goal.loop-index-init
loop-index-init c i h d = absurd (omega (arith, h))

pub loop-index-preserved : goal.loop-index-preserved
loop-index-preserved c =
    next_alike c.args.strings.now c.args.others.now c.loop-index.index c.index-strings-index.result c.index-others-index.result (omega (arith, c.loop-index-test.true)) c.if-strings-others.false c.index-strings-index.is c.index-others-index.is
    (sym c.as_slice.ensures ∙ same_bytes _ _ _ c.if-ne.false c.ne.ensures ∙ c.as_slice-in-loop-index.ensures) c.loop-index.invariant

pub returns : goal.returns
returns c = (λ t. lists_alike _ _ c.if-strings-others.false (λ i h d. c.loop-index.invariant i (omega (arith, h, c.loop-index-test.false)) d), λ e. refl)
