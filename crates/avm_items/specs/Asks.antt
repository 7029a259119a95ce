-- What is computed from items that are asked for one by one. Every meaning that depends on a ledger is written once, in
-- this form, and used over a whole ledger, over the items that an attempt knows, and over versions by timestamp.
use Rattle.std.specs.Prelude.{List, [], ◌∷◌, Option, None, Some, Result, Ok, Err}
use Rattle.avm_items.specs.declared.item.Item.{Item}
use Rattle.avm_items.specs.declared.item_value.ItemValue.{ItemValue}
use Rattle.avm_items.specs.Items.{Look, Known}

-- a result; or an item, and what follows from its value
pub data Ask (A : Type 0) : Type 0 where
  Gives : A → Ask A
  Asks : Item → (ItemValue → Ask A) → Ask A

-- goes on with the result
abbrev pub and_then : {A B : Type 0} → Ask A → (A → Ask B) → Ask B
and_then (Gives a) f = f a
and_then (Asks x k) f = Asks x (λ v. and_then (k v) f)

infixl 10 ◌>>=◌
abbrev pub ◌>>=◌ : {A B : Type 0} → Ask A → (A → Ask B) → Ask B
m >>= f = and_then m f

-- the result where each item has a value
abbrev pub result_over : {A : Type 0} → Look → Ask A → A
result_over look (Gives a) = a
result_over look (Asks x k) = result_over look (k (look x))

-- the items that are asked for there, in order
abbrev pub items_asked : {A : Type 0} → Look → Ask A → List Item
items_asked look (Gives a) = []
items_asked look (Asks x k) = x ∷ items_asked look (k (look x))

-- where some items are known: the result, or the first item that is asked for and isn't known
abbrev pub Answer : Type 0 → Type 0
Answer A = Result A Item

abbrev pub answer_at : {A : Type 0} → Item → (ItemValue → Answer A) → Option ItemValue → Answer A
answer_at x k (Some v) = k v
answer_at x k None = Err x

abbrev pub answer_from : {A : Type 0} → Known → Ask A → Answer A
answer_from known (Gives a) = Ok a
answer_from known (Asks x k) = answer_at x (λ v. answer_from known (k v)) (known x)

-- what is left to ask for where some items are known
abbrev pub remaining_at : {A : Type 0} → Item → (ItemValue → Ask A) → Option ItemValue → Ask A
remaining_at x k (Some v) = k v
remaining_at x k None = Asks x k

abbrev pub remaining_questions : {A : Type 0} → Known → Ask A → Ask A
remaining_questions known (Gives a) = Gives a
remaining_questions known (Asks x k) = remaining_at x (λ v. remaining_questions known (k v)) (known x)
