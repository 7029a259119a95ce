use Rattle.std.proofs.Common.{rules, ◌≡◌, [], Ok, ◌∙◌}
use Rattle.std.proofs.lemmas.Result.{err_from_is_err_and}
use Rattle.teal_text.specs.Unread.{IsBehind}
use Rattle.teal_asm.proofs.LineByLine.{same_total}
use Rattle.teal_asm.proofs.ThinReading.{has_read_all, nothing_read, reads_on, stops_reading}
use Rattle.teal_asm.proofs.lines.body_of.Goals as goal

pub loop-body-init : goal.loop-body-init
loop-body-init c = record {
  body = c.new-body.ensures.body;
  read = nothing_read c.args.version _ _ c.new-body.ensures.empty;
  total = search rules;
}

pub loop-body-preserved : goal.loop-body-preserved
loop-body-preserved c =
    let at = c.loop-body in
    let is : IsBehind c.in-Some.line at.lines c.next_line.new.lines = rw c.in-Some.is at c.in_ok-line.ensures in
    let left = c.in_ok-spare.ensures in
    record {
      body = left.kept;
      read = rw left.stays (reads_on c.args.version at.body.statements.items c.add_statements.new.body.statements.items at.lines c.next_line.new.lines c.args.lines.now c.in-Some.line at.invariant.read is (rw is.text at left.adds));
      total = rw left.stays (same_total at.lines c.next_line.new.lines c.in-Some.line is ∙ at.invariant.total);
    }

pub returns-in_err-spare-clause-statements : goal.returns-in_err-spare-clause-statements
returns-in_err-spare-clause-statements c =
    let at = c.loop-body in
    let is : IsBehind c.in-Some.line at.lines c.next_line.new.lines = rw c.in-Some.is at c.in_ok-line.ensures in
    let stops = c.in_err-spare.ensures.adds in
    let p = err_from_is_err_and c.from_residual-in_err-spare.result c.from_residual-in_err-spare.ensures.1 in
    rw (p.1, p.2) (stops_reading c.args.version at.body.statements.items at.lines c.next_line.new.lines c.args.lines.now c.in-Some.line stops.0 _ at.invariant.read is (rw is.text at stops.1) stops.2)

pub returns-clause-statements : goal.returns-clause-statements
returns-clause-statements c =
    let none : c.loop-body.lines.lines ≡ Ok [] = search rules in
    has_read_all c.args.version c.loop-body.body.statements.items c.loop-body.lines c.args.lines.now c.loop-body.invariant.read none
