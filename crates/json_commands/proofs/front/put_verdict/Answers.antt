use Rattle.std.proofs.Common.{◌∙◌}
use Rattle.std.proofs.lemmas.Result.{on_ok_weaker}
use Rattle.avm_commands.proofs.Verdicts.{judged_digest}
use Rattle.json_commands.proofs.front.put_verdict.Goals as goal

pub verdict_text-requires : goal.verdict_text-requires
verdict_text-requires g c =
    let judged = rw (c.in_ok-copy.ensures, c.block.ensures) at c.in_ok-verdict.ensures in
    record { after = rw (c.after.ensures, c.block-2.ensures) (judged_digest c.args.base.now c.args.block.now c.in_ok-verdict.verdict judged) }

pub returns : goal.returns
returns g c =
    let judged = rw (c.in_ok-copy.ensures, c.block.ensures) at c.in_ok-verdict.ensures in
    let words = c.as_str.ensures.value ∙ c.in_ok-words.ensures in
    on_ok_weaker c.put_text_member.result (λ adds. (c.in_ok-verdict.verdict, judged, rw words at adds)) c.put_text_member.ensures
