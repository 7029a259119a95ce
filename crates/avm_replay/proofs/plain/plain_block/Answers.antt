use Rattle.std.proofs.Common.{◌≡◌, ◌∙◌, ap, sym, subst, refl, true, All}
use Rattle.avm_ledger.specs.Encodings.{ledger_digest}
use Rattle.avm_call.specs.Replay.{outcomes, replayed}
use Rattle.avm_block.specs.AcceptedCalls.{is_accepted}
use Rattle.avm_replay.specs.Plain.{AreMade}
use Rattle.avm_replay.proofs.MadeCalls.{of_calls, rising}
use Rattle.avm_replay.proofs.plain.plain_block.Goals as goal

pub new-requires-clause-rising : goal.new-requires-clause-rising
new-requires-clause-rising g c = rising c.deref-2.result.now 0 c.in_ok-entries.entries.items c.in_ok-entries.ensures.timestamps

pub new-requires-clause-calls : goal.new-requires-clause-calls
new-requires-clause-calls g c =
    of_calls (λ call. is_accepted c.args.header.now.profile call ≡ true) c.in_ok-entries.entries.items
    (subst (All (λ call. is_accepted c.args.header.now.profile call ≡ true))
    (c.deref.ensures.value ∙ sym c.deref-2.ensures.value ∙ sym c.in_ok-entries.ensures.same_calls)
    (c.in_default.ensures.accepted refl))

pub returns-clause-block : goal.returns-clause-block
returns-clause-block g c =
    let h = c.args.header.now in
    let ran : AreMade c.args.ledger.now h c.args.calls.items c.in_ok-entries.entries.items c.entries_of.new.ledger = rw c.deref-2.ensures.value at (rw c.in_ok-after.ensures at c.in_ok-entries.ensures) in
    rw c.new.ensures (record {
      same_header = refl;
      same_calls = ran.same_calls;
      timestamps = ran.timestamps;
      replays = record {
        base = c.in_ok-base.ensures;
        outcomes = ap (outcomes c.args.ledger.now h) ran.same_calls ∙ ran.ends;
        after = c.in_ok-digest.ensures ∙ ap ledger_digest (ran.after ∙ ap (replayed c.args.ledger.now h) (sym ran.same_calls));
      };
    })
