-- The attempt that a ticket names.
use Rattle.std.proofs.Common.{◌≡◌, ◌≢◌, ℕ, zero, suc, ◌-◌, ◌<◌, ◌≤◌, List, [], ◌∷◌, length, Option, None, Some, get_or, refl, sym, ap, ◌∙◌, subst, arith}
use Rattle.std.proofs.lemmas.Option.{same_Some}
use Rattle.mv_history.specs.World.{Attempt}
use Rattle.mv_core.specs.AttemptSlots.{IsNowhere, AttemptSlots}

beyond : {A : Type 0} (xs : List (Option A)) (i : ℕ) → length xs ≤ i → get_or xs i None ≡ None
beyond [] i h = refl
beyond (x ∷ xs) zero h = absurd (omega (arith, h))
beyond (x ∷ xs) (suc i) h = beyond xs i (omega (arith, h))

-- what is found at an index inside a list does not depend on the default
pub at_none : {A : Type 0} (xs : List (Option A)) (i : ℕ) (d o : Option A) → i < length xs → get_or xs i d ≡ o → get_or xs i None ≡ o
at_none [] i d o within found = absurd (omega (arith, within))
at_none (y ∷ ys) zero d o within found = found
at_none (y ∷ ys) (suc i) d o within found = at_none ys i d o (omega (arith, within)) found

module _ {Item Value : Type 0} (slots : AttemptSlots Item Value) (n t : ℕ) where
  -- a number has no attempt at a timestamp if it has no slot, or the slot has none of that time
  pub nowhere_zero : n ≡ 0 → IsNowhere slots n t
  nowhere_zero none a above found = absurd (omega (arith, none, above))

  pub nowhere_beyond : (index : ℕ) → index ≡ n - 1 → length slots ≤ index → IsNowhere slots n t
  nowhere_beyond index is past a above found = absurd (never (sym (beyond slots index past) ∙ ap (λ i. get_or slots i None) is ∙ found))
    where
      never : None ≡ Some a → ⊥
      never e = cc

  pub nowhere_none : (index : ℕ) → index ≡ n - 1 → get_or slots index None ≡ None → IsNowhere slots n t
  nowhere_none index is free a above found = absurd (never (sym free ∙ ap (λ i. get_or slots i None) is ∙ found))
    where
      never : None ≡ Some a → ⊥
      never e = cc

  pub nowhere_other : (index : ℕ) (b : Attempt Item Value) → index ≡ n - 1 → get_or slots index None ≡ Some b → b.timestamp ≢ t → IsNowhere slots n t
  nowhere_other index b is there other a above found = subst (λ (c : Attempt Item Value). c.timestamp ≢ t) (same_Some _ _ (sym there ∙ ap (λ i. get_or slots i None) is ∙ found)) other
