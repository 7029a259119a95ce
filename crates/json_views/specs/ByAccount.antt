-- What belongs to accounts, as an array with an object for each account.
use Rattle.std.specs.Prelude.{ℕ, List, [], ◌∷◌, codes, if◌then◌else◌}
use Rattle.json.specs.Json.{Json}
use Rattle.teal_value.specs.declared.address.Address.{Address}
use Rattle.teal_value.specs.SameValues.{are_same_bytes}
use Rattle.json_views.specs.Documents.{address, array_of, object_of}

-- an account with all that belongs to it
pub record Account (A : Type 0) : Type 0 where
  pub who : Address
  pub items : List A

-- One item put before accounts: to those of the first account, where it is that one's, else as an account of its own.
abbrev pub with_item : {A : Type 0} → Address → A → List (Account A) → List (Account A)
with_item who x [] = record { who = who; items = x ∷ [] } ∷ []
with_item who x (first ∷ more) =
    if are_same_bytes who.0 first.who.0 then record { who = who; items = x ∷ first.items } ∷ more
    else record { who = who; items = x ∷ [] } ∷ (first ∷ more)

-- The accounts of items that are by rising account.
abbrev pub by_account : {A : Type 0} → List (Address × A) → List (Account A)
by_account [] = []
by_account (e ∷ es) = with_item e.0 e.1 (by_account es)

abbrev pub shown_account : {A : Type 0} → List ℕ → (A → Json) → Account A → Json
shown_account name shown a = object_of ((codes "address", address a.who) ∷ (name, array_of shown a.items) ∷ [])

-- the array of the accounts, each with its items as the member of this name
abbrev pub shown_by_account : {A : Type 0} → List ℕ → (A → Json) → List (Address × A) → Json
shown_by_account name shown entries = array_of (shown_account name shown) (by_account entries)
