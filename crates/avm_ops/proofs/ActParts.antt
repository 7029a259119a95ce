-- Part by part: an act has a property that its faults have, where what follows each of its parts has it.
use Rattle.std.proofs.Common.{◌≡◌, Bool, true, false, if◌then◌else◌, Option, None, Some, Result, Ok, Err, refl}
use Rattle.teal_value.specs.declared.value.Value.{Value}
use Rattle.teal_value.specs.declared.fault.Fault.{Fault}
use Rattle.teal_value.specs.declared.fault.Fault.TheVariants as fault
use Rattle.avm_items.specs.declared.item.Item.{Item}
use Rattle.avm_items.specs.Items.{entry_in}
use Rattle.avm_items.specs.Asks.{Gives, Asks, and_then}
use Rattle.avm_items.specs.Acts.{Act, on_ok, found, test, reads}

-- P holds of a part and what follows it, where it holds of faults and of what follows
pub then_act : {A B F : Type 0} (P : Act F B → Type 0) → ((e : F) → P (Gives (Err e))) → (r : Result A F) (f : A → Act F B) → ((a : A) → r ≡ Ok a → P (f a)) → P (on_ok f r)
then_act P stops (Ok a) f h = h a refl
then_act P stops (Err e) f h = stops e

pub then_found : {A B F : Type 0} (P : Act F B → Type 0) (o : Option A) (e : F) (f : A → Act F B) → P (Gives (Err e)) → ((a : A) → o ≡ Some a → P (f a)) → P (and_then (found o e) (on_ok f))
then_found P None e f stops h = stops
then_found P (Some a) e f stops h = h a refl

pub then_test : {B F : Type 0} (P : Act F B → Type 0) (b : Bool) (e : F) (f : Unit {0} → Act F B) → P (Gives (Err e)) → (b ≡ true → P (f tt)) → P (and_then (test b e) (on_ok f))
then_test P true e f stops h = h refl
then_test P false e f stops h = stops

-- an entry, where the key may be one
pub entry_by : {B : Type 0} (P : Act Fault B → Type 0) → (x : Item) (f : Option Value → Act Fault B) (b : Bool) → (b ≡ true → P (Asks x (λ v. f (entry_in v)))) → (b ≡ false → P (f None)) → P (and_then (if b then reads entry_in x else Gives (Ok None)) (on_ok f))
entry_by P x f true h g = h refl
entry_by P x f false h g = g refl

-- the tests before a put
pub may_put_by : {B : Type 0} (P : Act Fault B → Type 0) → ((e : Fault) → P (Gives (Err e))) → (f : Unit {0} → Act Fault B) (b d : Bool) → (b ≡ true → d ≡ true → P (f tt))
    → P (and_then (and_then (test b fault.KeyLength) (on_ok (λ _. test d fault.TooLong))) (on_ok f))
may_put_by P stops f true true h = h refl refl
may_put_by P stops f true false h = stops fault.TooLong
may_put_by P stops f false d h = stops fault.KeyLength
