use Rattle.std.proofs.Common.{◌≡◌, [], ap, ◌∙◌}
use Rattle.avm_call.specs.Views.{state_changes}
use Rattle.avm_stepper.specs.Changes.{changes_along, gathered}
use Rattle.avm_stepper.proofs.changes.key_changes.Goals as goal

pub loop-key-init : goal.loop-key-init
loop-key-init c =
    let before = c.args.before.now in
    let after = c.args.after.now in
    let keys : c.into_iter-key-iterator.result ≡ gathered before (gathered after []) =
    c.into_iter-key-iterator.ensures.into_iter_gives ∙ c.iter-key-items.ensures.rest ∙ c.in_ok-gather-2.ensures ∙ ap (gathered before) (c.in_ok-gather.ensures ∙ ap (gathered after) c.new-keys.ensures.empty) in
    let along : changes_along before after c.into_iter-key-iterator.result ≡ state_changes before after = ap (changes_along before after) keys in
    rw c.new-changes.ensures.items along
