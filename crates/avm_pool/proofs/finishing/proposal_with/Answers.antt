use Rattle.std.proofs.Common.{◌≡◌, ◌∙◌, ap, length}
use Rattle.avm_ledger.specs.Encodings.{ledger_digest}
use Rattle.avm_pool.specs.Proposals.{left_to}
use Rattle.avm_pool.proofs.Proposed.{sealed_is_proposal, encoded_as_made}
use Rattle.avm_pool.proofs.finishing.proposal_with.Goals as goal

pub invariant_of-result : goal.invariant_of-result
invariant_of-result c =
    let j = c.args.journal.now in
    record { encoded = encoded_as_made c.in_ok-block.field-0.block (ledger_digest j.base) j.header c.args.parts.entries.items c.args.parts.after c.args.parts.front c.in_ok-bytes.bytes.items c.in_ok-block.ensures.block c.requires.front_is c.in_ok-bytes.ensures }

pub returns : goal.returns
returns c =
    let j = c.args.journal.now in
    let xs = c.in_ok-block.field-0.numbers.items in
    let left : c.in_ok-left.left.items ≡ left_to xs (length j.calls) =
    c.in_ok-left.ensures ∙ (ap (λ ys. left_to ys (length c.calls.result.now)) c.deref.ensures.value ∙ ap (λ ys. left_to xs (length ys)) c.calls.ensures) in
    sealed_is_proposal j _ c.in_ok-block.ensures.sealed left
