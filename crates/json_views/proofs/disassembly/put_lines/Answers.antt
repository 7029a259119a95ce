use Rattle.std.proofs.Common.{rules, arith}
use Rattle.json_views.proofs.Steps.{last}
use Rattle.json_views.proofs.ListedLines.{line_written, lines_written}
use Rattle.json_views.proofs.disassembly.put_lines.Goals as goal

pub loop-line-preserved : goal.loop-line-preserved
loop-line-preserved c =
    let cut = c.in-Some.ensures.byte (omega arith) (λ w o found. found) in (
      search rules,
      line_written _ c.loop-line.out c.put_text.new.out c.loop-line.rest.now c.in-Some.line.now c.in-Some.behind.now c.loop-line.invariant.1 c.in_ok-put_text.ensures cut.0 cut.1 cut.2,
    )

pub returns : goal.returns
returns c =
    let none = c.in_default.ensures.byte (omega arith) (λ w o found. found) in
    last c.end_array.result c.end_array.ensures
    (λ ends. record { is = lines_written _ c.loop-line.out c.put_text-2.new.out c.end_array.new.out c.loop-line.rest.now c.loop-line.invariant.1 none c.in_ok-put_text-2.ensures ends })
