use Rattle.std.proofs.Common.{◌≡◌, ◌∙◌, ◌∷◌, [], codes}
use Rattle.std.proofs.lemmas.Result.{on_ok_weaker}
use Rattle.avm_block.specs.Blocks.{calls_of}
use Rattle.avm_call.specs.Replay.{outcomes, replayed}
use Rattle.avm_commands.specs.BlockCommands.{verdict_text}
use Rattle.json_views.specs.Documents.{array_of, text, uint}
use Rattle.json_views.specs.ShownBlocks.{shown_block}
use Rattle.json_views.specs.ShownLedgers.{shown_ledger}
use Rattle.json_views.specs.Writing.{AddsMembers}
use Rattle.json_views.proofs.MemberRuns.{◌and◌}
use Rattle.json_commands.specs.Pages.{front_members, shown_outcome}
use Rattle.json_commands.proofs.Pages.{as_members, front_written, one_member}
use Rattle.json_commands.proofs.front.put_front.Goals as goal

pub returns : goal.returns
returns g c =
    let base = c.args.base.now in
    let b = c.args.block.now in
    let ends : c.deref.result.now ≡ outcomes base b.header (calls_of b) =
    c.deref.ensures.value ∙ (rw (c.ledger.ensures, c.header.ensures, c.block-2.ensures, c.entries-entries.ensures.entries, c.block.ensures) at c.in_ok-made.ensures.outcomes) in
    let leads : c.in_ok-after.after ≡ replayed base b.header (calls_of b) =
    c.in_ok-after.ensures ∙ (rw (c.ledger.ensures, c.header.ensures, c.block-2.ensures, c.entries-entries.ensures.entries, c.block.ensures) at c.in_ok-made.ensures.after) in
    let verdict = c.in_ok-put_verdict.ensures in
    let after : AddsMembers c.begin_object.new.out c.put_ledger.new.out ((codes "after", shown_ledger (replayed base b.header (calls_of b))) ∷ []) =
    one_member c.in_ok-put_name.ensures (rw leads at c.in_ok-put_ledger.ensures) in
    let entry : AddsMembers c.put_ledger.new.out c.put_uint_member.new.out ((codes "entry", uint c.args.number) ∷ []) = as_members c.in_ok-put_uint_member.ensures in
    let ended : AddsMembers c.put_uint_member.new.out c.put_outcomes.new.out ((codes "outcomes", array_of shown_outcome (outcomes base b.header (calls_of b))) ∷ []) =
    one_member c.in_ok-put_name-2.ensures (rw ends at c.in_ok-put_outcomes.ensures) in
    let judged : AddsMembers c.put_outcomes.new.out c.put_verdict.new.out ((codes "replay", text (verdict_text verdict.0)) ∷ []) = as_members verdict.2 in
    let shown : AddsMembers c.put_verdict.new.out c.put_both.new.out ((codes "shown", shown_block base b) ∷ []) = one_member c.in_ok-put_name-3.ensures c.in_ok-put_both.ensures in
    let members : AddsMembers c.begin_object.new.out c.put_both.new.out (front_members base b c.args.number verdict.0) = after and entry and ended and judged and shown in
    on_ok_weaker c.put_name-4.result (λ names. (verdict.0, verdict.1, front_written c.in_ok-begin_object.ensures members names)) c.put_name-4.ensures
