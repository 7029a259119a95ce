use Rattle.std.proofs.Common.{◌∙◌, ap, refl}
use Rattle.std.specs.Prelude.{max}
use Rattle.avm_input.proofs.ReadPairs.{pair_more}
use Rattle.avm_input.proofs.digits.put_pair.Goals as goal

pub returns-clause-read : goal.returns-clause-read
returns-clause-read c =
    let greatest = c.max-2.ensures ∙ ap (λ n. max n c.digit_number-low.result) c.max.ensures in
    pair_more c.args.digits.now c.args.bytes.now c.args.i c.args.before _ _ _ _ c.requires.there c.digit_number-high.ensures c.digit_number-low.ensures greatest refl
