-- The map that is collected of entries in order.
use Rattle.std.proofs.Common.{◌≡◌, List, Option, refl, sym, subst, map-id, ◌∙◌}
use Rattle.std.specs.declared.cmp.Ordering.{Ordering}
use Rattle.std.specs.Ordering.{eq_by_cmp}
use Rattle.std.specs.Cmp.{IsTotalOrder}
use Rattle.std.specs.Map.{keys_of}
use Rattle.std.specs.BTreeMap.{BTreeMap, IsFromIterResult}
use Rattle.std.specs.List.Sorted.{IsStrictlySortedBy}
use Rattle.std.specs.Iterator.{DrainsIf}
use Rattle.std.proofs.lemmas.Iterator.{YieldsList, items_from_drains}
use Rattle.std.proofs.lemmas.Cmp.{eq_by_cmp_equiv}
use Rattle.std.proofs.lemmas.Map.Keys.{IsDistinct-from_sorted}
use Rattle.std.proofs.lemmas.Map.Lookups.{CmpEqualImpliesEq}
use Rattle.std.proofs.lemmas.Map.Made.{update_all_none}
use Rattle.avm_states.proofs.Maps.{same_map}

-- it has them all, and in their order
pub collected : {K X : Type 0} {R : K → K → Ordering} (o : IsTotalOrder R) → CmpEqualImpliesEq R → (es : List (K × X)) (m : BTreeMap K X) → IsStrictlySortedBy R (keys_of es) → IsFromIterResult R es m → m.entries ≡ es
collected {K = K} {R = R} o exact es m sorted made =
    let distinct = IsDistinct-from_sorted R (keys_of es) sorted in
    let found = λ (q : K). made.0 q ∙ update_all_none (eq_by_cmp_equiv o) (eq_by_cmp R) (λ x y. refl) es q distinct in
    same_map o exact m.entries es made.1 sorted found

-- and so has one that is collected of an iterator over them
pub drained : {S K X : Type 0} {R : K → K → Ordering} (o : IsTotalOrder R) → CmpEqualImpliesEq R → (steps : S → Option (K × X) → S → Type 0) (s : S) (es xs : List (K × X)) (m : BTreeMap K X) → IsStrictlySortedBy R (keys_of es)
    → YieldsList steps (λ x. x) s es → DrainsIf steps (Unit {0}) s xs → IsFromIterResult R xs m → m.entries ≡ es
drained {R = R} o exact steps s es xs m sorted yields drains made =
    let all : xs ≡ es = sym (map-id xs) ∙ items_from_drains xs drains yields in
    collected o exact es m sorted (subst (λ ys. IsFromIterResult R ys m) all made)
