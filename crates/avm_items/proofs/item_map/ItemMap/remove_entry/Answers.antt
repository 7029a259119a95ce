use Rattle.std.proofs.Common.{subst}
use Rattle.std.proofs.lemmas.Result.{IfOk-weaker}
use Rattle.avm_states.specs.Entries.{without_entry}
use Rattle.avm_states.specs.Places.{StandsAt}
use Rattle.avm_items.specs.Items.{item_cmp}
use Rattle.avm_items.proofs.InPlace.{changed_state, set_in_order}
use Rattle.avm_items.proofs.item_map.ItemMap.remove_entry.Goals as goal

pub invariant_of-self : goal.invariant_of-self
invariant_of-self c = set_in_order c.self.inside.values.items c.args.item.now c.in-Ok.place (subst (λ es. StandsAt item_cmp c.args.item.now es c.in-Ok.place) c.as_slice.ensures.value c.in-Ok.ensures) c.index_mut.result.now c.index_mut.ensures.value _ c.self.invariant

pub returns-in-Ok-clause-ok : goal.returns-in-Ok-clause-ok
returns-in-Ok-clause-ok c =
    rw (← c.self.view_is)
    (IfOk-weaker c.remove_entry.result _ _ (λ _ removed. changed_state c.self.inside.values.items c.args.item.now c.in-Ok.place (subst (λ es. StandsAt item_cmp c.args.item.now es c.in-Ok.place) c.as_slice.ensures.value c.in-Ok.ensures) c.index_mut.result.now c.index_mut.ensures.value _ (λ state. without_entry state c.args.key.now) removed) c.remove_entry.ensures.ok)
