-- The laws of questions, by induction on the questions. None of them looks at what is asked.
use Rattle.std.proofs.Common.{◌≡◌, [], ◌∷◌, Option, None, Some, Ok, Err, refl, sym, ap, ◌∙◌, subst}
use Rattle.std.specs.List.{Contains}
use Rattle.std.proofs.lemmas.List.Elements.{Contains-append_left, Contains-append_right, Contains-push}
use Rattle.teal_value.specs.Choice.{or_else}
use Rattle.avm_items.specs.declared.item.Item.{Item}
use Rattle.avm_items.specs.declared.item_value.ItemValue.{ItemValue}
use Rattle.avm_items.specs.Items.{Look, Known, over}
use Rattle.avm_items.specs.Asks.{Ask, Gives, Asks, Answer, and_then, result_over, items_asked, answer_at, answer_from, remaining_at, remaining_questions}
use Rattle.avm_items.specs.Locality.{Extends, LookAgrees, AlikeOn, StaysWith, then}

-- ---- over a ledger

-- where the items that are asked for have the same values, the results are the same
pub alike_results : {A : Type 0} (look other : Look) (t : Ask A) → AlikeOn (items_asked look t) look other → result_over look t ≡ result_over other t
alike_results look other (Gives a) h = refl
alike_results look other (Asks x k) h = alike_results look other (k (look x)) h.1 ∙ ap (λ v. result_over other (k v)) h.0

-- one part after another: the second starts from the result of the first
pub result_over-and_then : {A B : Type 0} (look : Look) (t : Ask A) (f : A → Ask B) → result_over look (and_then t f) ≡ result_over look (f (result_over look t))
result_over-and_then look (Gives a) f = refl
result_over-and_then look (Asks x k) f = result_over-and_then look (k (look x)) f

-- ---- over known items, and over more of them

stays_at : {A : Type 0} (k m : Known) (x : Item) (f g : ItemValue → Answer A) → ((v : ItemValue) → StaysWith k m (f v) (g v)) → (o p : Option ItemValue) → k x ≡ o → m x ≡ p → ((v : ItemValue) → o ≡ Some v → p ≡ Some v) → StaysWith k m (answer_at x f o) (answer_at x g p)
stays_at k m x f g h (Some v) p e q w = subst (λ r. StaysWith k m (f v) (answer_at x g r)) (sym (w v refl)) (h v)
stays_at k m x f g h None p e q w = (e, λ none. ap (answer_at x g) (sym q ∙ none))

-- with more known, a result stays, and a question stays while its item is unknown
pub stays_with_more : {A : Type 0} (k m : Known) (t : Ask A) → Extends k m → StaysWith k m (answer_from k t) (answer_from m t)
stays_with_more k m (Gives a) w = refl
stays_with_more k m (Asks x f) w = stays_at k m x _ _ (λ v. stays_with_more k m (f v) w) (k x) (m x) refl refl (w.same x)

pub result_with_more : {A : Type 0} (k m : Known) → Extends k m → (t : Ask A) (a : A) → answer_from k t ≡ Ok a → answer_from m t ≡ Ok a
result_with_more k m w t a h = subst (λ r. StaysWith k m r (answer_from m t)) h (stays_with_more k m t w)

pub question_with_more : {A : Type 0} (k m : Known) → Extends k m → (t : Ask A) (x : Item) → answer_from k t ≡ Err x → (k x ≡ None) × (m x ≡ None → answer_from m t ≡ Err x)
question_with_more k m w t x h = subst (λ r. StaysWith k m r (answer_from m t)) h (stays_with_more k m t w)

-- ---- one part after another

then_at : {A B : Type 0} (x : Item) (f : ItemValue → Answer A) (g : ItemValue → Answer B) (h : A → Answer B) → ((v : ItemValue) → g v ≡ then h (f v)) → (o : Option ItemValue) → answer_at x g o ≡ then h (answer_at x f o)
then_at x f g h e (Some v) = e v
then_at x f g h e None = refl

-- the second part starts from the result of the first; a question of the first is that of both
pub answer_from-and_then : {A B : Type 0} (k : Known) (t : Ask A) (f : A → Ask B) → answer_from k (and_then t f) ≡ then (λ a. answer_from k (f a)) (answer_from k t)
answer_from-and_then k (Gives a) f = refl
answer_from-and_then k (Asks x g) f = then_at x _ _ _ (λ v. answer_from-and_then k (g v) f) (k x)

-- ---- own writes before what was read

writes_at : {A : Type 0} (k : Known) (x : Item) (f : ItemValue → Answer A) (g : ItemValue → Ask A) → ((v : ItemValue) → answer_from k (g v) ≡ f v) → (o p : Option ItemValue) → k x ≡ p → answer_from k (remaining_at x g o) ≡ answer_at x f (or_else o p)
writes_at k x f g h (Some v) p e = h v
writes_at k x f g h None (Some v) e = ap (answer_at x (λ v. answer_from k (g v))) e ∙ h v
writes_at k x f g h None None e = ap (answer_at x (λ v. answer_from k (g v))) e

-- the answer to what the writes leave to ask is the answer with the writes before what is known
pub answer_from-remaining : {A : Type 0} (writes k : Known) (t : Ask A) → answer_from k (remaining_questions writes t) ≡ answer_from (over writes k) t
answer_from-remaining writes k (Gives a) = refl
answer_from-remaining writes k (Asks x f) = writes_at k x _ _ (λ v. answer_from-remaining writes k (f v)) (writes x) (k x) refl

-- ---- a ledger, as what is known

all_of : Look → Known
all_of look x = Some (look x)

answer_from-all : {A : Type 0} (look : Look) (t : Ask A) → answer_from (all_of look) t ≡ Ok (result_over look t)
unfolding all_of
answer_from-all look (Gives a) = refl
answer_from-all look (Asks x f) = answer_from-all look (f (look x))

ok_inj : {A : Type 0} {a b : A} → ◌≡◌ {A = Answer A} (Ok a) (Ok b) → a ≡ b
ok_inj e = cc

knows_all : (k : Known) (look : Look) → LookAgrees k look → Extends k (all_of look)
unfolding all_of
knows_all k look w = record { same = λ x v e. ap Some (w.at x v e) }

-- a result over known items is the result on each ledger that has their values
pub result_on_ledger : {A : Type 0} (k : Known) (look : Look) (t : Ask A) (a : A) → LookAgrees k look → answer_from k t ≡ Ok a → result_over look t ≡ a
result_on_ledger k look t a w h = ok_inj (sym (answer_from-all look t) ∙ result_with_more k (all_of look) (knows_all k look w) t a h)

-- ---- what is asked for is used

err_inj : {A : Type 0} {a b : Item} → ◌≡◌ {A = Answer A} (Err a) (Err b) → a ≡ b
err_inj e = cc

used_at : {A : Type 0} (k : Known) (look : Look) (x y : Item) (f : ItemValue → Ask A) → ((v : ItemValue) → k y ≡ Some v → look y ≡ v) → (answer_from k (f (look y)) ≡ Err x → Contains (items_asked look (f (look y))) x)
    → (o : Option ItemValue) → k y ≡ o → answer_at y (λ v. answer_from k (f v)) o ≡ Err x → Contains (items_asked look (Asks y f)) x
used_at k look x y f same next (Some v) e h = Contains-append_right (y ∷ []) (items_asked look (f (look y))) x (next (ap (λ u. answer_from k (f u)) (same v e) ∙ h))
used_at k look x y f same next None e h = subst (Contains (items_asked look (Asks y f))) (err_inj h) (Contains-append_left (y ∷ []) (items_asked look (f (look y))) y (Contains-push [] y))

-- a question over known items is asked on each ledger that has their values
pub question_on_ledger : {A : Type 0} (k : Known) (look : Look) (t : Ask A) (x : Item) → LookAgrees k look → answer_from k t ≡ Err x → Contains (items_asked look t) x
question_on_ledger k look (Gives a) x w h = absurd cc
question_on_ledger k look (Asks y f) x w h = used_at k look x y f (λ v e. w.at y v e) (question_on_ledger k look (f (look y)) x w) (k y) refl h
