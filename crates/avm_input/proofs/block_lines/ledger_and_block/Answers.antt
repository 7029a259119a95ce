use Rattle.std.proofs.Common.{◌∙◌, ap, subst, List}
use Rattle.teal_value.specs.Answer.{Fails}
use Rattle.avm_input.specs.BlockLines.{ledger_and_block}
use Rattle.avm_input.specs.DigitLines.{DigitLine, digit_lines}
use Rattle.avm_input.proofs.LinesBehind.{block_refused}
use Rattle.avm_input.proofs.block_lines.ledger_and_block.Goals as goal

pub returns-in-Err : goal.returns-in-Err
returns-in-Err c =
    let refused = c.in-Err.ensures c.needed_bytes.new.lines c.end-ended.ensures in
    let failure = c.in-Err.failure in
    subst (λ (lines : List DigitLine). Fails failure (ledger_and_block lines)) (c.new-lines.ensures ∙ ap digit_lines c.as_slice.ensures.value)
    (block_refused c.new-lines.result c.next_base.new.lines c.needed_bytes.new.lines _ c.in_ok-bytes.bytes.items failure c.in_ok-base.ensures.exact c.in_ok-bytes.ensures refused)
