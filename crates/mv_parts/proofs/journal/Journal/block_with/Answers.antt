use Rattle.std.proofs.Common.{◌∙◌, ap, arith, map}
use Rattle.avm_ledger.specs.Encodings.{ledger_digest}
use Rattle.mv_parts.specs.CallHistory.{CallEntry}
use Rattle.mv_parts.proofs.Seals.{all_accepted, count_same, have_places, made_on, none_too_many, replays_as_made, rise, sealed_of}
use Rattle.mv_parts.proofs.journal.Journal.block_with.Goals as goal

pub new-block-requires-clause-few : goal.new-block-requires-clause-few
new-block-requires-clause-few c =
    let j = c.args.self.now in
    let count = count_same j.calls j.world.entries c.args.made.items c.requires.made in
    let few = none_too_many j.header j.calls c.holds.ensures.opened in
    omega (arith, count, few, c.holds.ensures.few, c.args.made.ok.0)

pub new-block-requires-clause-rising : goal.new-block-requires-clause-rising
new-block-requires-clause-rising c = rise c.args.self.now.calls 0 c.args.self.now.world.entries c.args.made.items c.requires.made c.holds.ensures.serial.rising

pub new-block-requires-clause-calls : goal.new-block-requires-clause-calls
new-block-requires-clause-calls c =
    let j = c.args.self.now in
    rw c.header.ensures (all_accepted j.header j.calls j.world.entries c.args.made.items c.holds.ensures.opened c.requires.made)

pub new-block-requires-clause-places : goal.new-block-requires-clause-places
new-block-requires-clause-places c = have_places c.args.self.now.calls c.args.self.now.world.entries c.args.made.items c.requires.made c.requires.after.places

pub returns-clause-sealed : goal.returns-clause-sealed
returns-clause-sealed c =
    let j = c.args.self.now in
    let made = made_on j.base j.header j.calls 0 j.world.entries c.holds.ensures.serial.rising c.holds.ensures.are_calls c.holds.ensures.serial.outcomes c.holds.ensures.serial.writes in
    let before = c.digest.ensures ∙ ap ledger_digest c.deref.ensures ∙ ap (λ (k : _). ledger_digest k.base) c.self.view_is in
    sealed_of j c.new-block.result c.in_ok-numbers.numbers.items c.holds.ensures.serial
    (rw (c.new-block.ensures, c.header.ensures) (replays_as_made j.base j.header j.calls j.world.entries c.digest.result.now c.args.made.items c.args.after made c.requires.made before c.requires.after.digest_is))
    (c.in_ok-numbers.ensures ∙ ap (map (λ (e : CallEntry). e.number)) c.entries.ensures)
