use Rattle.std.proofs.Common.{◌≡◌, ◌∙◌, ap, subst}
use Rattle.std.specs.List.{AllByRecursion}
use Rattle.avm_ledger.specs.Encodings.{ledger_digest}
use Rattle.avm_call.specs.Places.{HasPlace}
use Rattle.mv_parts.specs.CallHistory.{CallEntry}
use Rattle.mv_parts.specs.EntryWrites.{ledger_with}
use Rattle.mv_parts.proofs.Seals.{made_on}
use Rattle.mv_parts.proofs.journal.Journal.digest_after.Goals as goal

pub put_all-requires : goal.put_all-requires
put_all-requires c =
    let j = c.args.self.now in
    rw (c.in_ok-base.ensures, c.base.ensures, c.header.ensures, c.calls.ensures, c.entries.ensures)
    (made_on j.base j.header j.calls 0 j.world.entries c.holds.ensures.serial.rising c.holds.ensures.are_calls c.holds.ensures.serial.outcomes c.holds.ensures.serial.writes)

pub returns : goal.returns
returns c =
    let j = c.args.self.now in
    let after : c.in_ok-after.after ≡ ledger_with j.base j.world.entries = c.in_ok-after.ensures.after ∙ ap (λ l. ledger_with l c.entries.result.now) (c.in_ok-base.ensures ∙ c.base.ensures) ∙ ap (ledger_with j.base) c.entries.ensures in
    record {
      digest_is = c.in_ok-digest.ensures ∙ ap ledger_digest after;
      places = subst (AllByRecursion (λ (e : CallEntry). HasPlace e.outcome)) c.entries.ensures c.in_ok-after.ensures.places;
    }
