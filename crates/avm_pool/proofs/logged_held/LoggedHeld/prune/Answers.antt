use Rattle.std.proofs.Common.{◌≡◌, ◌<◌, ◌∙◌, ℕ, None, ap, get_or, length, subst}
use Rattle.mv_history.specs.World.{low_after_prune}
use Rattle.mv_parts.specs.Journals.{Journal}
use Rattle.avm_pool.specs.Logged.{raised_note}
use Rattle.avm_pool.proofs.Noted.{pruned_noted}
use Rattle.avm_pool.proofs.logged_held.LoggedHeld.prune.Goals as goal

pub invariant_of-self : goal.invariant_of-self
invariant_of-self g c =
    let J = g.J.Naming in
    let old = c.self.inside.notes in
    let new = c.raise.new.notes in
    let mark = low_after_prune c.args.journal.now.world c.args.timestamp in
    let after : Journal = record (c.args.journal.now) { world = record (c.args.journal.now.world) { low = mark } } in
    let event : c.prune.new.self ≡ after = c.prune.ensures.event in
    let low : c.low.result ≡ mark = c.low.ensures ∙ ap (λ (j : Journal). j.world.low) event in
    let each = subst (λ (n : ℕ). (i : ℕ) → i < length old → get_or new i None ≡ raised_note n (get_or old i None)) low c.raise.ensures.each in
    pruned_noted J.base J.header J.calls c.self.inside.held c.prune.new.held old new mark c.every_call_keeps_agreement.ensures.prune c.prune.ensures.held c.raise.ensures.count each c.self.invariant
