use Rattle.std.proofs.Common.{◌≡◌, ◌++◌, ap, ◌∙◌}
use Rattle.sha2.specs.Sha256.{sha256}
use Rattle.avm_block.specs.AcceptedCalls.{is_accepted}
use Rattle.avm_block.specs.BlockReader.{block_at}
use Rattle.avm_block.specs.BlockEncoding.{block_bytes, body_bytes, front_bytes}
use Rattle.avm_block.proofs.BlockBack.{block_back}
use Rattle.avm_block.proofs.encoding.encode.Goals as goal

pub returns-clause-read : goal.returns-clause-read
returns-clause-read c =
    let b = c.args.block.now in
    let header = c.header.result.now in
    let entries = c.entries.result.now in
    let front : c.in_ok-front.front ≡ front_bytes b.base b.header b.entries = c.in_ok-front.ensures ∙ ap (λ x. front_bytes x header entries) c.base.ensures ∙ ap (λ x. front_bytes b.base x entries) c.header.ensures ∙ ap (front_bytes b.base b.header) c.entries.ensures.entries in
    let body : c.in_ok-front.front ++ c.after.result.now ≡ body_bytes b = ap (λ x. x ++ c.after.result.now) front ∙ ap (λ x. front_bytes b.base b.header b.entries ++ x) c.after.ensures in
    let encoded : c.in_ok-bytes.bytes.items ≡ block_bytes b = c.in_ok-bytes.ensures ∙ ap (λ x. x ++ sha256 x) body in
    ap (block_at is_accepted) encoded ∙ block_back is_accepted b c.entries.ensures.block
