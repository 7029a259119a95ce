-- The numbers that are noted are those of the chains, and stay so when a chain is made or changed.
use Rattle.std.proofs.Common.{◌≡◌, ℕ, zero, suc, ◌<◌, ◌≤◌, Bool, true, false, cond, List, [], ◌∷◌, ◌++◌, Option, None, Some, get_or, length, refl, sym, ap, ◌∙◌, subst, arith}
use Rattle.std.specs.Prelude.{if◌then◌else◌, set}
use Rattle.std.specs.Ordering.{is_eq, nat_cmp}
use Rattle.std.specs.Cmp.{tied_itself}
use Rattle.std.specs.Map.{lookup}
use Rattle.std.specs.BTreeMap.{insert_entry, is_at}
use Rattle.std.proofs.lemmas.Cmp.{nat_cmp_total}
use Rattle.std.specs.FinMap.{nat_cmp-IsAntisymmetric}
use Rattle.avm_states.proofs.Maps.{is_Equal, lookup-inserted, lookup-inserted_other}
use Rattle.avm_items.specs.declared.item.Item.{Item}
use Rattle.avm_items.specs.Items.{item_cmp}
use Rattle.mv_chain.specs.Versions.{Versions}
use Rattle.mv_shards.specs.KeptChains.{AreNumbered, AreOnce, ChainMap, chain_in, is_of, number_in, number_of}
use Rattle.mv_shards.specs.NumberMaps.{NotedNumbers, mix_of, noted_at, number_by_item, number_by_mix, with_number}
use Rattle.mv_shards.proofs.Numbers.{changed_at, lent_is, number_at, number_changed, number_pushed, once_changed, once_pushed, tied_to}
use Rattle.mv_shards.proofs.Touched.{found_inserted}

-- ---- whose chain a number is

of_at : {V : Type 0} (map : ChainMap V) (n : ℕ) (x : Item) (d : Item × Versions V) → is_of map n x ≡ true → (n < length map) × ((get_or map n d).0 ≡ x)
of_at [] n x d e = absurd cc
of_at (c ∷ cs) zero x d e = (omega arith, sym (tied_to x c.0 e))
of_at (c ∷ cs) (suc n) x d e = let h = of_at cs n x d e in (omega (arith, h.0), h.1)

-- the number of an item's chain is the item's
pub of_numbered : {V : Type 0} (map : ChainMap V) (n : ℕ) (x : Item) → AreOnce map → is_of map n x ≡ true → number_in map x ≡ Some n
of_numbered [] n x once e = absurd cc
of_numbered (c ∷ cs) n x once e = let h = of_at (c ∷ cs) n x c e in number_at (c ∷ cs) x n c once h.0 h.1

-- it is asked at the index, where there is a chain
pub of_here : {V : Type 0} (map : ChainMap V) (n : ℕ) (x : Item) (d : Item × Versions V) → n < length map → is_of map n x ≡ is_eq (item_cmp x (get_or map n d).0)
of_here [] n x d lt = absurd (omega (arith, lt))
of_here (c ∷ cs) zero x d lt = refl
of_here (c ∷ cs) (suc n) x d lt = of_here cs n x d (omega (arith, lt))

pub of_beyond : {V : Type 0} (map : ChainMap V) (n : ℕ) (x : Item) → length map ≤ n → is_of map n x ≡ false
of_beyond [] n x le = refl
of_beyond (c ∷ cs) zero x le = absurd (omega (arith, le))
of_beyond (c ∷ cs) (suc n) x le = of_beyond cs n x (omega (arith, le))

-- ---- a chain that is changed

of_changed : {V : Type 0} (d : Item × Versions V) (w : Versions V) (map : ChainMap V) (n k : ℕ) (y : Item) → is_of (changed_at map n d w) k y ≡ is_of map k y
of_changed d w [] n k y = refl
of_changed d w (c ∷ cs) zero zero y = refl
of_changed d w (c ∷ cs) zero (suc k) y = refl
of_changed d w (c ∷ cs) (suc n) zero y = refl
of_changed d w (c ∷ cs) (suc n) (suc k) y = of_changed d w cs n k y

found_changed : {V : Type 0} (d : Item × Versions V) (w : Versions V) (map : ChainMap V) (n : ℕ) (y : Item) (led own : Option ℕ) → number_of (changed_at map n d w) y led own ≡ number_of map y led own
found_changed d w map n y None own = refl
found_changed d w map n y (Some k) own = ap (λ b. if b then Some k else own) (of_changed d w map n k y)

-- the numbers that are noted stay those of the chains when one is changed
pub numbered_still : {V : Type 0} (noted : NotedNumbers) (map : ChainMap V) (n : ℕ) (e : Item × Versions V) (w : Versions V) → e ≡ get_or map n e → AreNumbered noted map → AreNumbered noted (set map n (e.0, w))
numbered_still noted map n e w is k = record {
  once = subst AreOnce (sym (lent_is map n e w is)) (once_changed e w map n k.once);
  found = λ y. ap (λ m. number_of m y (number_by_mix noted y) (number_by_item noted y)) (lent_is map n e w is)
      ∙ found_changed e w map n y (number_by_mix noted y) (number_by_item noted y)
      ∙ k.found y
      ∙ sym (ap (λ m. number_in m y) (lent_is map n e w is) ∙ number_changed e w map n y);
}

-- ---- a chain that is made

mix_found : (m mix n : ℕ) (es : List (ℕ × ℕ)) (b : Bool) → is_eq (nat_cmp m mix) ≡ b → lookup (is_at (nat_cmp m)) (insert_entry nat_cmp es mix n) ≡ cond b (Some n) (lookup (is_at (nat_cmp m)) es)
mix_found m mix n es true tied =
    subst (λ k. lookup (is_at (nat_cmp k)) (insert_entry nat_cmp es mix n) ≡ Some n) (sym (nat_cmp-IsAntisymmetric m mix (is_Equal (nat_cmp m mix) tied))) (lookup-inserted nat_cmp_total mix n es)
mix_found m mix n es false apart = lookup-inserted_other nat_cmp_total m mix n es apart

module _ {V : Type 0} (x : Item) (c : Versions V) where
  abbrev made : ChainMap V → ChainMap V
  made map = map ++ (x, c) ∷ []

  of_new : (map : ChainMap V) (y : Item) → is_of (made map) (length map) y ≡ is_eq (item_cmp y x)
  of_new [] y = refl
  of_new (e ∷ es) y = of_new es y

  of_other : (map : ChainMap V) (n : ℕ) (y : Item) → is_eq (item_cmp y x) ≡ false → is_of (made map) n y ≡ is_of map n y
  of_other [] zero y apart = apart
  of_other [] (suc n) y apart = refl
  of_other (e ∷ es) zero y apart = refl
  of_other (e ∷ es) (suc n) y apart = of_other es n y apart

  found_other : (map : ChainMap V) (y : Item) (led own : Option ℕ) → is_eq (item_cmp y x) ≡ false → number_of (made map) y led own ≡ number_of map y led own
  found_other map y None own apart = refl
  found_other map y (Some n) own apart = ap (λ b. if b then Some n else own) (of_other map n y apart)

  -- what is found by the mix is right, and so all is where what is found by the item is
  found_or : (map : ChainMap V) (y : Item) (led own : Option ℕ) → AreOnce map → own ≡ number_in map y → number_of map y led own ≡ number_in map y
  found_or map y None own once is = is
  found_or map y (Some n) own once is = by (is_of map n y) refl
    where
      by : (b : Bool) → is_of map n y ≡ b → (if b then Some n else own) ≡ number_in map y
      by true e = sym (of_numbered map n y once e)
      by false e = is

  module _ (noted : NotedNumbers) (map : ChainMap V) (none : chain_in map x ≡ None) (k : AreNumbered noted map) where
    new_number : (y : Item) (b : Bool) → is_eq (item_cmp y x) ≡ b → number_in (made map) y ≡ cond b (Some (length map)) (number_in map y)
    new_number y b e = number_pushed x c map y none ∙ ap (λ a. cond a (Some (length map)) (number_in map y)) e

    -- another item is found as before
    other_found : (y : Item) → is_eq (item_cmp y x) ≡ false → number_of (made map) y (number_by_mix noted y) (number_by_item noted y) ≡ number_in (made map) y
    other_found y apart = found_other map y (number_by_mix noted y) (number_by_item noted y) apart ∙ k.found y ∙ sym (new_number y false apart)

    -- the new one is found by its mix, which was free
    by_free_mix : number_by_mix noted x ≡ None → (y : Item) (a b : Bool) → is_eq (nat_cmp (mix_of y) (mix_of x)) ≡ a → is_eq (item_cmp y x) ≡ b
        → number_of (made map) y (lookup (is_at (nat_cmp (mix_of y))) (insert_entry nat_cmp noted.by_mix (mix_of x) (length map))) (number_by_item noted y) ≡ number_in (made map) y
    by_free_mix free y true true mixed tied =
        ap (λ led. number_of (made map) y led (number_by_item noted y)) (mix_found (mix_of y) (mix_of x) (length map) noted.by_mix true mixed)
        ∙ ap (λ t. if t then Some (length map) else number_by_item noted y) (of_new map y ∙ tied) ∙ sym (new_number y true tied)
    by_free_mix free y true false mixed apart =
        let same : mix_of y ≡ mix_of x = nat_cmp-IsAntisymmetric (mix_of y) (mix_of x) (is_Equal (nat_cmp (mix_of y) (mix_of x)) mixed) in
        let unled : number_by_mix noted y ≡ None = ap (λ m. lookup (is_at (nat_cmp m)) noted.by_mix) same ∙ free in
        ap (λ led. number_of (made map) y led (number_by_item noted y)) (mix_found (mix_of y) (mix_of x) (length map) noted.by_mix true mixed)
        ∙ ap (λ t. if t then Some (length map) else number_by_item noted y) (of_new map y ∙ apart)
        ∙ sym (ap (λ led. number_of map y led (number_by_item noted y)) unled) ∙ k.found y ∙ sym (new_number y false apart)
    by_free_mix free y false true unmixed tied =
        let same : is_eq (nat_cmp (mix_of y) (mix_of x)) ≡ true = ap (λ z. is_eq (nat_cmp (mix_of z) (mix_of x))) (tied_to y x tied) ∙ mix_itself in
        absurd cc
      where
        mix_itself : is_eq (nat_cmp (mix_of x) (mix_of x)) ≡ true
        mix_itself = ap is_eq (tied_itself nat_cmp_total (mix_of x))
    by_free_mix free y false false unmixed apart =
        ap (λ led. number_of (made map) y led (number_by_item noted y)) (mix_found (mix_of y) (mix_of x) (length map) noted.by_mix false unmixed) ∙ other_found y apart

    -- the new one is found by itself
    by_itself : (y : Item) (b : Bool) → is_eq (item_cmp y x) ≡ b
        → number_of (made map) y (number_by_mix noted y) (lookup (is_at (item_cmp y)) (insert_entry item_cmp noted.by_item x (length map))) ≡ number_in (made map) y
    by_itself y true tied =
        let own : lookup (is_at (item_cmp y)) (insert_entry item_cmp noted.by_item x (length map)) ≡ number_in (made map) y = found_inserted y x (length map) noted.by_item ∙ ap (λ b. cond b (Some (length map)) (number_by_item noted y)) tied ∙ sym (new_number y true tied) in
        found_or (made map) y (number_by_mix noted y) _ (once_pushed x c map k.once none) own
    by_itself y false apart =
        ap (λ own. number_of (made map) y (number_by_mix noted y) own) (found_inserted y x (length map) noted.by_item ∙ ap (λ b. cond b (Some (length map)) (number_by_item noted y)) apart) ∙ other_found y apart

    numbered_at_mix : (led : Option ℕ) → number_by_mix noted x ≡ led → AreNumbered (noted_at noted x (length map) led) (made map)
    numbered_at_mix None free = record { once = once_pushed x c map k.once none; found = λ y. by_free_mix free y (is_eq (nat_cmp (mix_of y) (mix_of x))) (is_eq (item_cmp y x)) refl refl }
    numbered_at_mix (Some m) taken = record { once = once_pushed x c map k.once none; found = λ y. by_itself y (is_eq (item_cmp y x)) refl }

-- after a chain is made and its number noted, the numbers noted are those of the chains
pub numbered_more : {V : Type 0} (noted : NotedNumbers) (map : ChainMap V) (x : Item) (c : Versions V) → chain_in map x ≡ None → AreNumbered noted map → AreNumbered (with_number noted x (length map)) (map ++ (x, c) ∷ [])
numbered_more noted map x c none k = numbered_at_mix x c noted map none k (number_by_mix noted x) refl
