-- How many items are asked for: laws of all questions, by induction on them.
use Rattle.std.proofs.Common.{◌≡◌, ◌<◌, ◌≤◌, ◌-◌, ◌+◌, ℕ, Option, None, Some, Err, refl, sym, ap, ◌∙◌, subst, arith}
use Rattle.avm_items.specs.declared.item.Item.{Item}
use Rattle.avm_items.specs.declared.item_value.ItemValue.{ItemValue}
use Rattle.avm_items.specs.Items.{Known}
use Rattle.avm_items.specs.Asks.{Ask, Gives, Asks, and_then, answer_at, answer_from, remaining_at, remaining_questions}
use Rattle.avm_items.specs.Locality.{Extends}
use Rattle.avm_items.specs.Counting.{AsksAtMost, Any}

-- a bound on how many items are asked for may be raised
pub at_most-more : {A : Type 0} (F : ItemValue → Type 0) (n m : ℕ) (P : A → Type 0) (t : Ask A) → n ≤ m → AsksAtMost F n P t → AsksAtMost F m P t
at_most-more F n m P (Gives a) l h = h
at_most-more F n m P (Asks x f) l h = (omega (arith, h.0), λ v fits. at_most-more F (n - 1) (m - 1) P (f v) (omega arith) (h.1 v fits))

-- one part after another asks for at most as many items as both bounds together
pub at_most-then : {A B : Type 0} (F : ItemValue → Type 0) (n m : ℕ) (P : A → Type 0) (Q : B → Type 0) (t : Ask A) (f : A → Ask B) → AsksAtMost F n P t → ((a : A) → P a → AsksAtMost F m Q (f a)) → AsksAtMost F (n + m) Q (and_then t f)
at_most-then F n m P Q (Gives a) f h g = at_most-more F m (n + m) Q (f a) (omega arith) (g a h)
at_most-then F n m P Q (Asks x k) f h g =
    let some : 0 < n = h.0 in (
      omega arith,
      λ v fits.
          at_most-more F (n - 1 + m) (n + m - 1) Q (and_then (k v) f) (omega arith) (at_most-then F (n - 1) m P Q (k v) f (h.1 v fits) g),
    )

-- what holds for all values holds for those that fit
pub at_most-fewer : {A : Type 0} (F : ItemValue → Type 0) (n : ℕ) (P : A → Type 0) (t : Ask A) → AsksAtMost Any n P t → AsksAtMost F n P t
at_most-fewer F n P (Gives a) h = h
at_most-fewer F n P (Asks x f) h = (h.0, λ v fits. at_most-fewer F (n - 1) P (f v) (h.1 v tt))

at_left : {A : Type 0} (F : ItemValue → Type 0) (n : ℕ) (P : A → Type 0) (x : Item) (g : ItemValue → Ask A) (o : Option ItemValue) → ((v : ItemValue) → o ≡ Some v → F v) → 0 < n → ((v : ItemValue) → F v → AsksAtMost F (n - 1) P (g v)) → AsksAtMost F n P (remaining_at x g o)
at_left F n P x g (Some v) k some h = at_most-more F (n - 1) n P (g v) (omega arith) (h v (k v refl))
at_left F n P x g None k some h = (some, h)

-- known answers raise no count
pub at_most-remaining : {A : Type 0} (F : ItemValue → Type 0) (n : ℕ) (P : A → Type 0) (k : Known) → ((x : Item) (v : ItemValue) → k x ≡ Some v → F v) → (t : Ask A) → AsksAtMost F n P t → AsksAtMost F n P (remaining_questions k t)
at_most-remaining F n P k fits (Gives a) h = h
at_most-remaining F n P k fits (Asks x f) h = at_left F n P x _ (k x) (fits x) h.0 (λ v e. at_most-remaining F (n - 1) P k fits (f v) (h.1 v e))

-- What is left after one more answer. Each answer that was lacking leaves one item less to ask for.
one_answer : {A : Type 0} (F : ItemValue → Type 0) (n : ℕ) (P : A → Type 0) (k m : Known) (x : Item) (v : ItemValue) → F v → ((y : Item) (u : ItemValue) → m y ≡ Some u → F u) → m x ≡ Some v
    → (y : Item) (f : ItemValue → Ask A) → ((u : ItemValue) → AsksAtMost F n P (remaining_questions k (f u)) → answer_from k (f u) ≡ Err x → (0 < n) × AsksAtMost F (n - 1) P (remaining_questions m (f u)))
    → ((u : ItemValue) → AsksAtMost F (n - 1) P (remaining_questions k (f u)) → AsksAtMost F (n - 1) P (remaining_questions m (f u)))
    → (o p : Option ItemValue) → m y ≡ p → ((u : ItemValue) → o ≡ Some u → p ≡ Some u)
    → AsksAtMost F n P (remaining_at y (λ u. remaining_questions k (f u)) o) → answer_at y (λ u. answer_from k (f u)) o ≡ Err x
    → (0 < n) × AsksAtMost F (n - 1) P (remaining_at y (λ u. remaining_questions m (f u)) p)
one_answer F n P k m x v fits all is y f next more (Some u) p e w h lacks =
    subst (λ o. (0 < n) × AsksAtMost F (n - 1) P (remaining_at y (λ u. remaining_questions m (f u)) o)) (sym (w u refl)) (next u h lacks)
one_answer F n P k m x v fits all is y f next more None p e w h lacks =
    let same : y ≡ x = cc in
    let there : p ≡ Some v = sym e ∙ ap m same ∙ is in
    (h.0, subst (λ o. AsksAtMost F (n - 1) P (remaining_at y (λ u. remaining_questions m (f u)) o)) (sym there) (more v (h.1 v fits)))

at_more : {A : Type 0} (F : ItemValue → Type 0) (n : ℕ) (P : A → Type 0) (y : Item) (f g : ItemValue → Ask A) (o p : Option ItemValue) → ((u : ItemValue) → o ≡ Some u → p ≡ Some u) → ((u : ItemValue) → p ≡ Some u → F u)
    → ((i : ℕ) (u : ItemValue) → AsksAtMost F i P (f u) → AsksAtMost F i P (g u)) → AsksAtMost F n P (remaining_at y f o) → AsksAtMost F n P (remaining_at y g p)
at_more F n P y f g (Some u) p w all next h = subst (λ o. AsksAtMost F n P (remaining_at y g o)) (sym (w u refl)) (next n u h)
at_more F n P y f g None (Some u) w all next h = at_most-more F (n - 1) n P (g u) (omega arith) (next (n - 1) u (h.1 u (all u refl)))
at_more F n P y f g None None w all next h = (h.0, λ u fits. next (n - 1) u (h.1 u fits))

-- with more known, of values that may come, the bound on what is left to ask for still holds
pub at_most-as_known : {A : Type 0} (F : ItemValue → Type 0) (n : ℕ) (P : A → Type 0) (k m : Known) → Extends k m → ((y : Item) (u : ItemValue) → m y ≡ Some u → F u) → (t : Ask A) → AsksAtMost F n P (remaining_questions k t) → AsksAtMost F n P (remaining_questions m t)
at_most-as_known F n P k m w all (Gives a) h = h
at_most-as_known F n P k m w all (Asks y f) h = at_more F n P y _ _ (k y) (m y) (w.same y) (all y) (λ i u. at_most-as_known F i P k m w all (f u)) h

-- each request that is answered leaves one less
pub one_less : {A : Type 0} (F : ItemValue → Type 0) (n : ℕ) (P : A → Type 0) (k m : Known) → Extends k m → ((y : Item) (u : ItemValue) → m y ≡ Some u → F u) → (x : Item) (v : ItemValue) → m x ≡ Some v → (t : Ask A)
    → AsksAtMost F n P (remaining_questions k t) → answer_from k t ≡ Err x → (0 < n) × AsksAtMost F (n - 1) P (remaining_questions m t)
one_less F n P k m w all x v is (Gives a) h lacks = absurd cc
one_less F n P k m w all x v is (Asks y f) h lacks =
    one_answer F n P k m x v (all x v is) all is y f (λ u. one_less F n P k m w all x v is (f u)) (λ u. at_most-as_known F (n - 1) P k m w all (f u)) (k y) (m y) refl (w.same y) h lacks

asks_at : {A : Type 0} (F : ItemValue → Type 0) (n : ℕ) (P : A → Type 0) (k : Known) (x y : Item) (f : ItemValue → Ask A) → ((u : ItemValue) → AsksAtMost F n P (remaining_questions k (f u)) → answer_from k (f u) ≡ Err x → 0 < n)
    → (o : Option ItemValue) → AsksAtMost F n P (remaining_at y (λ u. remaining_questions k (f u)) o) → answer_at y (λ u. answer_from k (f u)) o ≡ Err x → 0 < n
asks_at F n P k x y f next (Some v) h e = next v h e
asks_at F n P k x y f next None h e = h.0

-- where something is asked for, something was left to ask for
pub asks_some : {A : Type 0} (F : ItemValue → Type 0) (n : ℕ) (P : A → Type 0) (k : Known) (x : Item) (t : Ask A) → AsksAtMost F n P (remaining_questions k t) → answer_from k t ≡ Err x → 0 < n
asks_some F n P k x (Gives a) h e = absurd cc
asks_some F n P k x (Asks y f) h e = asks_at F n P k x y f (λ u. asks_some F n P k x (f u)) (k y) h e
