use Rattle.std.proofs.Common.{rules, not, filter, ap, sym, subst, ◌∙◌}
use Rattle.std.proofs.lemmas.Fn.{filter_same}
use Rattle.avm_items.specs.Items.{IsInItemOrder, value_in}
use Rattle.avm_items.specs.LedgerItems.{value_before}
use Rattle.avm_items.specs.SameValues.{is_same_value}
use Rattle.avm_items.proofs.MapOrders.{kept_in_order}
use Rattle.avm_items.proofs.item_map.ItemMap.prune.Goals as goal

pub invariant_of-self : goal.invariant_of-self
invariant_of-self c =
    let kept = filter_same _ (λ e. not (is_same_value (value_before (value_in c.args.before.now) e.0) e.1)) _ (λ e b f' k. search rules) _ _ c.retain.ensures.filtered in
    subst IsInItemOrder (sym kept) (kept_in_order _ _ c.self.invariant)

pub returns : goal.returns
returns c =
    let kept = filter_same _ (λ e. not (is_same_value (value_before (value_in c.args.before.now) e.0) e.1)) _ (λ e b f' k. search rules) _ _ c.retain.ensures.filtered in
    kept ∙ ap (filter (λ e. not (is_same_value (value_before (value_in c.args.before.now) e.0) e.1))) c.self.view_is
