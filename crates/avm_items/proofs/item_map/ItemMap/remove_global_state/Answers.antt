use Rattle.std.proofs.Common.{rules, not, filter, ap, sym, subst, ◌∙◌}
use Rattle.std.proofs.lemmas.Fn.{filter_same}
use Rattle.avm_items.specs.Items.{IsInItemOrder, is_global_of}
use Rattle.avm_items.proofs.MapOrders.{kept_in_order}
use Rattle.avm_items.proofs.item_map.ItemMap.remove_global_state.Goals as goal

pub invariant_of-self : goal.invariant_of-self
invariant_of-self c =
    let kept = filter_same _ (λ e. not (is_global_of c.args.id e.0)) _ (λ e b f' k. search rules) _ _ c.retain.ensures.filtered in
    subst IsInItemOrder (sym kept) (kept_in_order _ _ c.self.invariant)

pub returns : goal.returns
returns c =
    let kept = filter_same _ (λ e. not (is_global_of c.args.id e.0)) _ (λ e b f' k. search rules) _ _ c.retain.ensures.filtered in
    kept ∙ ap (filter (λ e. not (is_global_of c.args.id e.0))) c.self.view_is
