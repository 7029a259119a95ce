-- Questions over a ledger: what holds of each item that is asked for, and of the result.
use Rattle.std.proofs.Common.{◌≡◌, Option, None, Some, refl, subst}
use Rattle.std.specs.Prelude.{unwrap_or, All}
use Rattle.std.proofs.lemmas.List.Elements.{All-nil, All-cons}
use Rattle.avm_items.specs.declared.item.Item.{Item}
use Rattle.avm_items.specs.declared.item_value.ItemValue.{ItemValue}
use Rattle.avm_items.specs.Items.{Look, Known}
use Rattle.avm_items.specs.Asks.{Ask, Gives, Asks, and_then, result_over, items_asked, remaining_at, remaining_questions}

-- Q holds of each item that is asked for over the ledger, and P of the result
abbrev pub Along : {A : Type 0} → Look → (Item → Type 0) → (A → Type 0) → Ask A → Type 0
Along look Q P (Gives a) = P a
Along look Q P (Asks x k) = Q x × Along look Q P (k (look x))

-- where P holds of the result along the questions, it holds of the result over the ledger
pub along-result : {A : Type 0} (look : Look) (Q : Item → Type 0) (P : A → Type 0) (t : Ask A) → Along look Q P t → P (result_over look t)
along-result look Q P (Gives a) h = h
along-result look Q P (Asks x k) h = along-result look Q P (k (look x)) h.1

-- where Q holds along the questions, it holds of all items in items_asked
pub along-asked : {A : Type 0} (look : Look) (Q : Item → Type 0) (P : A → Type 0) (t : Ask A) → Along look Q P t → All Q (items_asked look t)
along-asked look Q P (Gives a) h = All-nil Q
along-asked look Q P (Asks x k) h = All-cons Q x (items_asked look (k (look x))) h.0 (along-asked look Q P (k (look x)) h.1)

-- what holds along one part, and then along what follows it, holds along both
pub along-then : {A B : Type 0} (look : Look) (Q : Item → Type 0) (P : A → Type 0) (R : B → Type 0) (t : Ask A) (f : A → Ask B) → Along look Q P t → ((a : A) → P a → Along look Q R (f a))
    → Along look Q R (and_then t f)
along-then look Q P R (Gives a) f h g = g a h
along-then look Q P R (Asks x k) f h g = (h.0, along-then look Q P R (k (look x)) f h.1 g)

-- where R follows from P, it holds of the result as well
pub along-each : {A : Type 0} (look : Look) (Q : Item → Type 0) (P R : A → Type 0) (t : Ask A) → ((a : A) → P a → R a) → Along look Q P t → Along look Q R t
along-each look Q P R (Gives a) f h = f a h
along-each look Q P R (Asks x k) f h = (h.0, along-each look Q P R (k (look x)) f h.1)

left_at : {A : Type 0} (l m : Look) (Q S : Item → Type 0) (P : A → Type 0) (x : Item) (f g : ItemValue → Ask A) → ((v : ItemValue) → Along m Q P (f v) → Along l S P (g v)) → (o : Option ItemValue) → m x ≡ unwrap_or o (l x) → (o ≡ None → S x)
    → Along m Q P (f (m x)) → Along l S P (remaining_at x g o)
left_at l m Q S P x f g next (Some v) is asked h = next v (subst (λ u. Along m Q P (f u)) is h)
left_at l m Q S P x f g next None is asked h = (asked refl, next (l x) (subst (λ u. Along m Q P (f u)) is h))

-- What holds over a ledger holds of what is left to ask where another ledger, under what is known, has its items.
pub along-remaining : {A : Type 0} (l m : Look) (known : Known) (Q S : Item → Type 0) (P : A → Type 0) → ((x : Item) → m x ≡ unwrap_or (known x) (l x)) → ((x : Item) → known x ≡ None → Q x → S x)
    → (t : Ask A) → Along m Q P t → Along l S P (remaining_questions known t)
along-remaining l m known Q S P has leads (Gives a) h = h
along-remaining l m known Q S P has leads (Asks x k) h =
    left_at l m Q S P x k _ (λ v. along-remaining l m known Q S P has leads (k v)) (known x) (has x) (λ e. leads x e h.0) h.1

-- two things that hold of the result hold of it together
pub along-both : {A : Type 0} (look : Look) (Q S : Item → Type 0) (P R : A → Type 0) (t : Ask A) → Along look Q P t → Along look S R t → Along look Q (λ a. P a × R a) t
along-both look Q S P R (Gives a) h g = (h, g)
along-both look Q S P R (Asks x k) h g = (h.0, along-both look Q S P R (k (look x)) h.1 g.1)

-- what holds of every result holds along all questions
pub along-any : {A : Type 0} (look : Look) (P : A → Type 0) → ((a : A) → P a) → (t : Ask A) → Along look (λ x. Unit {0}) P t
along-any look P h (Gives a) = h a
along-any look P h (Asks x k) = (tt, along-any look P h (k (look x)))

-- where R follows from P, it holds of the result, whatever items are asked for
pub along-free : {A : Type 0} (look : Look) (Q : Item → Type 0) (P R : A → Type 0) (t : Ask A) → ((a : A) → P a → R a) → Along look Q P t → Along look (λ x. Unit {0}) R t
along-free look Q P R (Gives a) f h = f a h
along-free look Q P R (Asks x k) f h = (tt, along-free look Q P R (k (look x)) f h.1)
