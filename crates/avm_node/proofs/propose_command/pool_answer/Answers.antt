use Rattle.std.proofs.Common.{◌∙◌, inl, inr}
use Rattle.std.proofs.lemmas.Result.{IfOk-weaker}
use Rattle.avm_node.proofs.PoolAnswers.{pool_faults}
use Rattle.avm_node.proofs.propose_command.pool_answer.Goals as goal

pub returns-in-Ok : goal.returns-in-Ok
returns-in-Ok g c =
    let proposed = rw c.in_ok-base.ensures.ok at c.in-Ok.ensures.proposal in
    IfOk-weaker c.proposal_reply.result _ _
    (λ reply is. inl (c.in-Ok.ensures.may.workers.calls_few, (c.in-Ok.proposal, proposed, is))) c.proposal_reply.ensures

pub returns-in-Err-Fault : goal.returns-in-Err-Fault
returns-in-Err-Fault g c =
    let refused = rw c.in-Err-Fault.field-0-is at c.in-Err-Fault.ensures.refused in
    let is_fault = pool_faults _ _ _ _ _ c.requires.sets c.requires.profile _ refused in
    inr (c.in-Err-Fault.fault, is_fault, c.without_block.ensures ∙ c.in_ok-reply-in-Err-Fault.ensures)
