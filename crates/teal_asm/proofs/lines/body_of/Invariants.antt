use Rattle.std.proofs.Common.{◌≡◌}
use Rattle.teal_asm.specs.Bodies.{IsBody}
use Rattle.teal_asm.specs.Reading.{line_total}
use Rattle.teal_asm.proofs.ThinReading.{HasRead}
use Rattle.teal_asm.proofs.lines.body_of.Given as goal

abbrev pub invariant-loop-body : goal.invariant-loop-body
invariant-loop-body l = record {
  body : IsBody l.body;
  read : HasRead l.version l.body.statements.items l.lines l.fn.lines;
  total : line_total l.lines ≡ line_total l.fn.lines;
}

abbrev pub decreases-loop-body : goal.decreases-loop-body
decreases-loop-body l = l.lines.left
