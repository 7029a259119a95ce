-- How many items are asked for at most.
use Rattle.std.specs.Prelude.{◌≡◌, ℕ, ◌<◌, ◌-◌, Bool, IsTrue, Some, Err}
use Rattle.avm_items.specs.declared.item.Item.{Item}
use Rattle.avm_items.specs.declared.item_value.ItemValue.{ItemValue}
use Rattle.avm_items.specs.Items.{Known}
use Rattle.avm_items.specs.Asks.{Ask, Gives, Asks, answer_from, remaining_questions}
use Rattle.avm_items.specs.Locality.{Extends}

-- At most n items are asked for where each value is one that may come, and then P holds of the result.
abbrev pub AsksAtMost : {A : Type 0} → (ItemValue → Type 0) → ℕ → (A → Type 0) → Ask A → Type 0
AsksAtMost Comes n P (Gives a) = P a
AsksAtMost Comes n P (Asks x k) = (0 < n) × ((v : ItemValue) → Comes v → AsksAtMost Comes (n - 1) P (k v))

abbrev pub Any : {A : Type 0} → A → Type 0
Any a = Unit {0}

-- Each answer to a question leaves one item less to ask for.
abbrev pub AnswersLeaveLess : Type 0 → Type 0
AnswersLeaveLess A = (Comes : ItemValue → Bool) (n : ℕ) (known more : Known) (t : Ask A) (x : Item) (v : ItemValue)
    → Extends known more → ((y : Item) (u : ItemValue) → more y ≡ Some u → IsTrue (Comes u)) → more x ≡ Some v → answer_from known t ≡ Err x
    → AsksAtMost (λ u. IsTrue (Comes u)) n Any (remaining_questions known t) → (0 < n) × AsksAtMost (λ u. IsTrue (Comes u)) (n - 1) Any (remaining_questions more t)
