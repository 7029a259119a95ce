use Rattle.std.proofs.lemmas.Result.{err_from_is_err_and}
use Rattle.std.specs.Arc.{arc_value}
use Rattle.avm_block.specs.declared.block_fault.BlockFault.TheVariants.{Truncated}
use Rattle.avm_block.specs.AcceptedCalls.{is_accepted}
use Rattle.avm_block.proofs.CallFront.{all_of_them, call_is_in, call_is_refused}
use Rattle.avm_block.proofs.decoding.call_of.Goals as goal

pub returns-in_err-call-2 : goal.returns-in_err-call-2
returns-in_err-call-2 c =
    let p = err_from_is_err_and c.from_residual-in_err-call-2.result c.from_residual-in_err-call-2.ensures.1 in
    let all = all_of_them Truncated c.len-len.result c.args.fields c.in_ok-bytes.bytes.now c.in_ok-bytes.field-0-1 c.in_ok-bytes.ensures.value c.len-len.ensures in
    rw (p.1, p.2) (call_is_refused (is_accepted c.args.profile) c.args.fields c.in_ok-bytes.bytes.now (arc_value c.in_ok-call.call) c.in_ok-call.rest c.in_err-call-2.field-0.0 all c.in_ok-call.ensures c.in_err-call-2.ensures)

pub returns : goal.returns
returns c =
    let all = all_of_them Truncated c.len-len.result c.args.fields c.in_ok-bytes.bytes.now c.in_ok-bytes.field-0-1 c.in_ok-bytes.ensures.value c.len-len.ensures in
    call_is_in (is_accepted c.args.profile) c.args.fields c.in_ok-bytes.bytes.now (arc_value c.in_ok-call.call) c.in_ok-call-2.call c.in_ok-call.rest all c.in_ok-call.ensures c.in_ok-call-2.ensures
