-- A map that is put together in order: the next key is not there yet.
use Rattle.std.proofs.Common.{◌≡◌, List, [], ◌∷◌, ◌++◌, None, Some, cond, refl, ap, ◌∙◌}
use Rattle.std.specs.Ordering.{is_eq, ordering_reverse}
use Rattle.std.specs.declared.cmp.Ordering.{Ordering}
use Rattle.std.specs.declared.cmp.Ordering.TheVariants.{Greater}
use Rattle.std.specs.Cmp.{IsTotalOrder}
use Rattle.std.specs.Map.{lookup, keys_of}
use Rattle.std.specs.BTreeMap.{is_at}
use Rattle.std.specs.List.Sorted.{IsStrictlySortedBy}
use Rattle.avm_ledger.proofs.RisingReading.{AllLower, all_below}

module _ {K X : Type 0} {R : K → K → Ordering} (o : IsTotalOrder R) where
  lower_none : (k : K) (es : List (K × X)) → AllLower o es k → lookup (is_at (R k)) es ≡ None
  lower_none k [] h = refl
  lower_none k (e ∷ es) h =
      let above : R k e.0 ≡ Greater = o.antisymm k e.0 ∙ ap ordering_reverse h.0 in
      ap (λ r. cond (is_eq r) (Some e.1) (lookup (is_at (R k)) es)) above ∙ lower_none k es h.1

  pub not_there : (before rest : List (K × X)) (e : K × X) → IsStrictlySortedBy R (keys_of (before ++ e ∷ rest)) → lookup (is_at (R e.0)) before ≡ None
  not_there before rest e s = lower_none e.0 before (all_below o before rest e s)
