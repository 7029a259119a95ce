-- Which versions lists of versions have, and the marks of those that are left.
use Rattle.std.proofs.Common.{◌≡◌, ◌≢◌, ℕ, zero, suc, ◌-◌, ◌<◌, ◌==◌, ◌||◌, Bool, true, false, if◌then◌else◌, List, [], ◌∷◌, drop, length, get_or, Contains, Option, None, Some, refl, ap, ◌∙◌, subst, arith}
use Rattle.std.specs.List.{insert}
use Rattle.avm_items.specs.declared.item_value.ItemValue.{ItemValue}
use Rattle.mv_chain.specs.declared.chain.Version.{Version}
use Rattle.mv_chain.specs.Versions.{AreRising, IsChain, count_not_above, mark_in, marked_at_index, versions_from, versions_read_at}
use Rattle.mv_history.proofs.Lists.{Equals, equal, unequal, equals}
use Rattle.mv_chain.specs.Stores.{marked_where, written_where}
use Rattle.mv_shards.specs.Writing.{has_timestamp}

-- ---- a read and a write

has_marked : (n i t : ℕ) (vs : List (Version ItemValue)) → has_timestamp n (marked_at_index i t vs) ≡ has_timestamp n vs
has_marked n i t [] = refl
has_marked n zero t (v ∷ vs) = refl
has_marked n (suc i) t (v ∷ vs) = ap (λ b. (v.timestamp == n) || b) (has_marked n i t vs)

-- a read leaves the versions that there are
pub has_after_read : (n t : ℕ) (vs : List (Version ItemValue)) → has_timestamp n (versions_read_at t vs) ≡ has_timestamp n vs
has_after_read n t vs = has_marked n (count_not_above t vs - 1) t vs

pub has_after_marks : (n t : ℕ) (o : Option ItemValue) (vs : List (Version ItemValue)) → has_timestamp n (marked_where o t vs) ≡ has_timestamp n vs
has_after_marks n t None vs = refl
has_after_marks n t (Some value) vs = has_after_read n t vs

has_inserted : (n : ℕ) (v : Version ItemValue) → v.timestamp ≢ n → (i : ℕ) (vs : List (Version ItemValue)) → has_timestamp n (insert vs i v) ≡ has_timestamp n vs
has_inserted n v other i vs = at_index i vs
  where
    new : (rest : Bool) (b : Bool) → Equals v.timestamp n b → (b || rest) ≡ rest
    new rest b (equal e) = absurd (other e)
    new rest b (unequal e) = refl

    at_index : (i : ℕ) (vs : List (Version ItemValue)) → has_timestamp n (insert vs i v) ≡ has_timestamp n vs
    at_index zero [] = new false (v.timestamp == n) (equals v.timestamp n)
    at_index (suc i) [] = new false (v.timestamp == n) (equals v.timestamp n)
    at_index zero (u ∷ us) = new (has_timestamp n (u ∷ us)) (v.timestamp == n) (equals v.timestamp n)
    at_index (suc i) (u ∷ us) = ap (λ b. (u.timestamp == n) || b) (at_index i us)

-- a write adds the version of its own timestamp alone
pub has_after_write : (n t : ℕ) → t ≢ n → (o : Option ItemValue) (vs : List (Version ItemValue)) → has_timestamp n (written_where (λ value. value) o t vs) ≡ has_timestamp n vs
has_after_write n t other None vs = refl
has_after_write n t other (Some value) vs = has_inserted n (record { timestamp = t; mark = 0; value = value }) other (count_not_above t vs) vs

-- ---- a prune

above_bound : (bound n : ℕ) (vs : List (Version ItemValue)) → AreRising bound vs → has_timestamp n vs ≡ true → bound < n
above_bound bound n [] rising has = absurd cc
above_bound bound n (v ∷ vs) rising has = by (v.timestamp == n) (equals v.timestamp n) has (above_bound v.timestamp n vs rising.1)
  where
    by : (b : Bool) → Equals v.timestamp n b → (b || has_timestamp n vs) ≡ true → (has_timestamp n vs ≡ true → v.timestamp < n) → bound < n
    by b (equal e) h rest = omega (arith, rising.0, e)
    by b (unequal e) h rest = omega (arith, rising.0, rest h)

-- a version that is left was there, and its mark is as it was
pub record IsLeft (n : ℕ) (before after : List (Version ItemValue)) : Type 0 where
  pub was : has_timestamp n before ≡ true
  pub mark : mark_in n after ≡ mark_in n before

left_of_rest : (n : ℕ) (v : Version ItemValue) (vs after : List (Version ItemValue)) → AreRising v.timestamp vs → IsLeft n vs after → IsLeft n (v ∷ vs) after
left_of_rest n v vs after rising left = record { was = by_has (v.timestamp == n) left.was; mark = left.mark ∙ by_mark (v.timestamp == n) (equals v.timestamp n) (above_bound v.timestamp n vs rising left.was) }
  where
    by_has : (b : Bool) → has_timestamp n vs ≡ true → (b || has_timestamp n vs) ≡ true
    by_has true h = refl
    by_has false h = h

    by_mark : (b : Bool) → Equals v.timestamp n b → v.timestamp < n → mark_in n vs ≡ (if b then v.mark else mark_in n vs)
    by_mark b (equal e) above = absurd (omega (arith, e, above))
    by_mark b (unequal e) above = refl

left_rising : (n k bound : ℕ) (vs : List (Version ItemValue)) → AreRising bound vs → has_timestamp n (drop k vs) ≡ true → IsLeft n vs (drop k vs)
left_rising n zero bound vs rising has = record { was = has; mark = refl }
left_rising n (suc k) bound [] rising has = absurd cc
left_rising n (suc k) bound (v ∷ vs) rising has = left_of_rest n v vs (drop k vs) rising.1 (left_rising n k v.timestamp vs rising.1 has)

left_in_chain : (n k : ℕ) (vs : List (Version ItemValue)) → IsChain vs → has_timestamp n (drop k vs) ≡ true → IsLeft n vs (drop k vs)
left_in_chain n zero vs chain has = record { was = has; mark = refl }
left_in_chain n (suc k) [] chain has = absurd chain
left_in_chain n (suc k) (v ∷ vs) chain has = left_of_rest n v vs (drop k vs) chain (left_rising n k v.timestamp vs chain has)

pub left_after_prune : (n t : ℕ) (vs : List (Version ItemValue)) → IsChain vs → has_timestamp n (versions_from t vs) ≡ true → IsLeft n vs (versions_from t vs)
left_after_prune n t vs chain has = left_in_chain n (count_not_above t vs - 1) vs chain has

-- ---- what is found

contained_at : (vs : List (Version ItemValue)) (i : ℕ) (d : Version ItemValue) → i < length vs → has_timestamp (get_or vs i d).timestamp vs ≡ true
contained_at [] i d within = absurd (omega (arith, within))
contained_at (v ∷ vs) zero d within = ap (λ b. b || has_timestamp v.timestamp vs) (let itself : (v.timestamp == v.timestamp) ≡ true = grind arith in itself)
contained_at (v ∷ vs) (suc i) d within = by (v.timestamp == (get_or vs i d).timestamp) (contained_at vs i d (omega (arith, within)))
  where
    by : (b : Bool) → has_timestamp (get_or vs i d).timestamp vs ≡ true → (b || has_timestamp (get_or vs i d).timestamp vs) ≡ true
    by true rest = refl
    by false rest = rest

-- where a list contains a version, it has one at that version's timestamp
pub has_contained : (vs : List (Version ItemValue)) (v : Version ItemValue) → Contains vs v → has_timestamp v.timestamp vs ≡ true
has_contained vs v held = subst (λ u. has_timestamp u.timestamp vs ≡ true) held.2 (contained_at vs held.0 v held.1)
