use Rattle.std.proofs.Common.{◌≡◌, ap, sym, ◌∙◌}
use Rattle.avm_states.specs.Entries.{Entries}
use Rattle.avm_items.specs.declared.item_value.ItemValue.TheVariants.{Local}
use Rattle.avm_states.proofs.SameStates.{states-Decides}
use Rattle.avm_items.proofs.item_value.ItemValue.is_same.Goals as goal

states_in : (s t : Entries) → Local s ≡ Local t → s ≡ t
states_in s t e = cc

pub returns-in-Local-Local-clause-same : goal.returns-in-Local-Local-clause-same
returns-in-Local-Local-clause-same c =
    let d = states-Decides _ _ _ c.eq-in-Local-Local.ensures in (
      λ t. c.in-Local-Local.is-0 ∙ ap Local (d.0 t) ∙ sym c.in-Local-Local.is-1,
      λ e. d.1 (states_in _ _ (sym c.in-Local-Local.is-0 ∙ e ∙ c.in-Local-Local.is-1)),
    )
