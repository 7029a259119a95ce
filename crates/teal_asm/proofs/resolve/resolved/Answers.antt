use Rattle.std.proofs.Common.{sym, arith}
use Rattle.std.proofs.lemmas.Result.{err_from_is_err_and}
use Rattle.std.proofs.lemmas.List.{nil_from_length}
use Rattle.teal_asm.specs.Instructions.{all_meant}
use Rattle.teal_asm.proofs.Resolving.{begins, adds, refuses, is_done}
use Rattle.teal_asm.proofs.resolve.resolved.Goals as goal

pub loop-statement-init : goal.loop-statement-init
loop-statement-init c = record {
  known = rw (sym c.into_iter-statement-iterator.ensures.into_iter_gives.0) at c.requires.known;
  resolves = begins c.args.statements.items _ _ c.requires.blocks c.into_iter-statement-iterator.ensures.into_iter_gives.0;
}

pub add_instruction-requires-clause-known : goal.add_instruction-requires-clause-known
add_instruction-requires-clause-known c = (rw c.in-Some.ensures.steps.0 at c.loop-statement.invariant.known).0

pub returns-in_err-add_instruction : goal.returns-in_err-add_instruction
returns-in_err-add_instruction c =
    let at = c.loop-statement in
    let p = err_from_is_err_and c.from_residual.result c.from_residual.ensures.1 in
    rw (p.1, p.2) (refuses c.args.statements.items (all_meant at.instructions.items) at.statement-iterator.rest.items _ c.in-Some.statement c.in_err-add_instruction.field-0.0 _ at.invariant.resolves c.in-Some.ensures.steps.0 (c.in_err-add_instruction.ensures c.args.statements.items c.requires.constants))

pub loop-statement-preserved : goal.loop-statement-preserved
loop-statement-preserved c =
    let at = c.loop-statement in
    record {
      known = (rw c.in-Some.ensures.steps.0 at at.invariant.known).1;
      resolves = adds c.args.statements.items (all_meant at.instructions.items) _ at.statement-iterator.rest.items _ c.in-Some.statement _ at.invariant.resolves c.in-Some.ensures.steps.0 (c.in_ok-add_instruction.ensures c.args.statements.items c.requires.constants);
    }

pub returns : goal.returns
returns c = is_done c.args.statements.items _ c.loop-statement.statement-iterator.rest.items _ c.loop-statement.invariant.resolves (nil_from_length _ (omega (arith, c.in-None.ensures.steps.0, c.loop-statement.statement-iterator.rest.ok.0)))
