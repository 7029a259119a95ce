-- Questions whose result may be a fault.
use Rattle.std.specs.Prelude.{Bool, true, false, Option, None, Some, Result, Ok, Err}
use Rattle.avm_items.specs.declared.item.Item.{Item}
use Rattle.avm_items.specs.declared.item_value.ItemValue.{ItemValue}
use Rattle.avm_items.specs.Asks.{Ask, Gives, Asks, and_then}

abbrev pub Act : Type 0 → Type 0 → Type 0
Act E A = Ask (Result A E)

abbrev pub done : {A E : Type 0} → A → Act E A
done a = Gives (Ok a)

abbrev pub stop : {A E : Type 0} → E → Act E A
stop e = Gives (Err e)

abbrev pub on_ok : {A B E : Type 0} → (A → Act E B) → Result A E → Act E B
on_ok f (Ok a) = f a
on_ok f (Err e) = stop e

-- goes on with a value, and stops at a fault
infixl 10 ◌>>=◌
abbrev pub ◌>>=◌ : {A B E : Type 0} → Act E A → (A → Act E B) → Act E B
m >>= f = and_then m (on_ok f)

-- what an item's value says
abbrev pub reads : {A E : Type 0} → (ItemValue → A) → Item → Act E A
reads part x = Asks x (λ v. done (part v))

-- a value that is there, or else the fault
abbrev pub found : {A E : Type 0} → Option A → E → Act E A
found None e = stop e
found (Some a) e = done a

-- goes on where the test passes
abbrev pub test : {E : Type 0} → Bool → E → Act E (Unit {0})
test true e = done tt
test false e = stop e
