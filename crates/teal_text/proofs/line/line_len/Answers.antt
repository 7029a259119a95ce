use Rattle.std.proofs.Common.{◌≡◌, arith, length}
use Rattle.teal_text.specs.Lines.{line_len}
use Rattle.teal_text.proofs.LineLengths.{ends_in_front, ends_behind}
use Rattle.teal_text.proofs.line.line_len.Goals as goal

pub returns-then-len-front-clause-value : goal.returns-then-len-front-clause-value
returns-then-len-front-clause-value c =
    let value = c.short_line_len-len.ensures.value in
    let ends = ends_in_front c.min.result c.args.bytes.now c.split_at.result.0.now c.split_at.ensures.front (omega (arith, value, c.if-len-front.true)) in
    cc (value, ends)

pub returns-else-len-front-clause-value : goal.returns-else-len-front-clause-value
returns-else-len-front-clause-value c =
    let value = c.short_line_len-len.ensures.value in
    let whole : line_len c.split_at.result.0.now ≡ length c.split_at.result.0.now = omega (arith, value, c.short_line_len-len.ensures.within, c.if-len-front.false) in
    let ends = ends_behind c.min.result c.args.bytes.now c.split_at.result.0.now c.split_at.result.1.now c.split_at.ensures.front c.split_at.ensures.back whole in
    cc (c.long_line_len.ensures.value, ends)
