-- A meaning depends on a ledger at the items alone that it asks for. The statements of the laws of questions.
use Rattle.std.specs.Prelude.{◌≡◌, List, [], ◌∷◌, None, Some, Ok, Err}
use Rattle.std.specs.List.{Contains}
use Rattle.avm_items.specs.declared.item.Item.{Item}
use Rattle.avm_items.specs.declared.item_value.ItemValue.{ItemValue}
use Rattle.avm_items.specs.Items.{Look, Known, over}
use Rattle.avm_items.specs.Asks.{Ask, Answer, and_then, result_over, items_asked, answer_from, remaining_questions}

-- the second knows what the first knows
pub record Extends (known more : Known) : Type 0 where
  pub same : (x : Item) (v : ItemValue) → known x ≡ Some v → more x ≡ Some v

-- the ledger has each value that is known
pub record LookAgrees (known : Known) (look : Look) : Type 0 where
  pub at : (x : Item) (v : ItemValue) → known x ≡ Some v → look x ≡ v

-- alike on these items
abbrev pub AlikeOn : List Item → Look → Look → Type 0
AlikeOn [] look other = Unit {0}
AlikeOn (x ∷ xs) look other = (look x ≡ other x) × AlikeOn xs look other

-- Alike on the items asked for, alike in the result.
abbrev pub UsesWhatItAsks : Type 0 → Type 0
UsesWhatItAsks A = (look other : Look) (t : Ask A) → AlikeOn (items_asked look t) look other → result_over look t ≡ result_over other t

-- A result over some items is the result over more of them. A question is for an item that isn't known, and stays where
-- the item stays unknown.
abbrev pub StaysWith : {A : Type 0} → Known → Known → Answer A → Answer A → Type 0
StaysWith known more (Ok a) answer = answer ≡ Ok a
StaysWith known more (Err x) answer = (known x ≡ None) × (more x ≡ None → answer ≡ Err x)

abbrev pub StaysWithMore : Type 0 → Type 0
StaysWithMore A = (known more : Known) (t : Ask A) → Extends known more → StaysWith known more (answer_from known t) (answer_from more t)

-- A result over some items is the result on every ledger that agrees with them.
abbrev pub HoldsOnLedgers : Type 0 → Type 0
HoldsOnLedgers A = (known : Known) (look : Look) (t : Ask A) (a : A) → LookAgrees known look → answer_from known t ≡ Ok a → result_over look t ≡ a

-- What is asked for over some items is used on every ledger that agrees with them.
abbrev pub AsksForWhatIsUsed : Type 0 → Type 0
AsksForWhatIsUsed A = (known : Known) (look : Look) (t : Ask A) (x : Item) → LookAgrees known look → answer_from known t ≡ Err x → Contains (items_asked look t) x

-- What is left to ask under own writes, over what was read, is the whole under both.
abbrev pub WritesComeFirst : Type 0 → Type 0
WritesComeFirst A = (writes reads : Known) (t : Ask A) → answer_from reads (remaining_questions writes t) ≡ answer_from (over writes reads) t

-- one part after another
abbrev pub then : {A B : Type 0} → (A → Answer B) → Answer A → Answer B
then f (Ok a) = f a
then f (Err x) = Err x

abbrev pub GoesOnInParts : Type 0 → Type 0 → Type 0
GoesOnInParts A B = (known : Known) (t : Ask A) (f : A → Ask B) → answer_from known (and_then t f) ≡ then (λ a. answer_from known (f a)) (answer_from known t)

abbrev pub GoesOnOverALedger : Type 0 → Type 0 → Type 0
GoesOnOverALedger A B = (look : Look) (t : Ask A) (f : A → Ask B) → result_over look (and_then t f) ≡ result_over look (f (result_over look t))
