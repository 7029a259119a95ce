-- The tokens of accounts, an item after another, are those of the accounts that the items make.
use Rattle.std.proofs.Common.{◌≡◌, ◌∙◌, ℕ, Bool, true, false, if◌then◌else◌, List, [], ◌∷◌, ◌++◌, map, Option, Some, None, refl, sym, ap, append_assoc}
use Rattle.json.specs.Token.{Token, begin_array, end_array, end_object}
use Rattle.json.specs.Json.{Json}
use Rattle.json.specs.Tree.{items_tokens, json_tokens}
use Rattle.teal_value.specs.declared.address.Address.{Address}
use Rattle.teal_value.specs.SameValues.{are_same_bytes}
use Rattle.json_views.specs.Documents.{items_of}
use Rattle.json_views.specs.ByAccount.{Account, by_account, shown_account, shown_by_account, with_item}
use Rattle.json_views.specs.AccountTokens.{closing_tokens, opening_tokens, turning_tokens}
use Rattle.json_views.specs.Writing.{Adds}

assoc : (a b c d : List Token) → ((a ++ b) ++ c) ++ d ≡ a ++ (b ++ (c ++ d))
assoc a b c d = append_assoc (a ++ b) c d ∙ append_assoc a b (c ++ d)

-- the items of an account are the member of this name, and each is shown so
module _ {A : Type 0} (name : List ℕ) (shown : A → Json) where
  -- what is still to be written, where an account is current and these items are left
  abbrev pub remaining : Option Address → List (Address × A) → List Token
  remaining current [] = closing_tokens current ++ end_array ∷ []
  remaining current (e ∷ es) = turning_tokens name current e.0 ++ (json_tokens (shown e.1) ++ remaining (Some e.0) es)

  abbrev item_tokens : List A → List Token
  item_tokens xs = items_tokens (items_of (map shown xs))

  abbrev account_tokens : List (Account A) → List Token
  account_tokens accounts = items_tokens (items_of (map (shown_account name shown) accounts))

  -- the same, where accounts are left, the first of which is the current one or not
  abbrev behind_if : Bool → Account A → List (Account A) → List Token
  behind_if true first more = item_tokens first.items ++ (end_object ∷ account_tokens more)
  behind_if false first more = end_array ∷ end_object ∷ account_tokens (first ∷ more)

  abbrev behind : Address → List (Account A) → List Token
  behind current [] = end_array ∷ end_object ∷ end_array ∷ []
  behind current (first ∷ more) = behind_if (are_same_bytes current.0 first.who.0) first more

  abbrev alone : Address → A → Account A
  alone who x = record { who = who; items = x ∷ [] }

  abbrev beside : Address → A → Account A → Account A
  beside who x first = record { who = who; items = x ∷ first.items }

  begun_if : (who : Address) (x : A) (same : Bool) (first : Account A) (more : List (Account A))
      → account_tokens (if same then beside who x first ∷ more else alone who x ∷ (first ∷ more)) ≡ opening_tokens name who ++ (json_tokens (shown x) ++ behind_if same first more)
  begun_if who x true first more = ap (λ ts. opening_tokens name who ++ ts) (assoc (json_tokens (shown x)) (item_tokens first.items) (end_object ∷ []) (account_tokens more))
  begun_if who x false first more = ap (λ ts. opening_tokens name who ++ ts) (assoc (json_tokens (shown x)) (end_array ∷ []) (end_object ∷ []) (account_tokens (first ∷ more)))

  begun : (who : Address) (x : A) (accounts : List (Account A)) → account_tokens (with_item who x accounts) ≡ opening_tokens name who ++ (json_tokens (shown x) ++ behind who accounts)
  begun who x [] = ap (λ ts. opening_tokens name who ++ ts) (assoc (json_tokens (shown x)) (end_array ∷ []) (end_object ∷ []) (end_array ∷ []))
  begun who x (first ∷ more) = begun_if who x (are_same_bytes who.0 first.who.0) first more

  abbrev turned_if : Address → Bool → List Token
  turned_if who same = if same then [] else end_array ∷ end_object ∷ opening_tokens name who

  -- the item makes an account of its own, behind which these are left
  turned_alone : (who : Address) (x : A) (kept : Bool) (rest : List (Account A))
      → behind_if kept (alone who x) rest ≡ turned_if who kept ++ (json_tokens (shown x) ++ (end_array ∷ end_object ∷ account_tokens rest))
  turned_alone who x true rest = append_assoc (json_tokens (shown x)) (end_array ∷ []) (end_object ∷ account_tokens rest)
  turned_alone who x false rest = ap (λ ts. end_array ∷ end_object ∷ (opening_tokens name who ++ ts)) (assoc (json_tokens (shown x)) (end_array ∷ []) (end_object ∷ []) (account_tokens rest))

  -- it goes to the first account
  turned_beside : (who : Address) (x : A) (kept : Bool) (first : Account A) (more : List (Account A))
      → behind_if kept (beside who x first) more ≡ turned_if who kept ++ (json_tokens (shown x) ++ behind_if true first more)
  turned_beside who x true first more = append_assoc (json_tokens (shown x)) (item_tokens first.items) (end_object ∷ account_tokens more)
  turned_beside who x false first more = ap (λ ts. end_array ∷ end_object ∷ (opening_tokens name who ++ ts)) (assoc (json_tokens (shown x)) (item_tokens first.items) (end_object ∷ []) (account_tokens more))

  turned_some : (who : Address) (x : A) (current : Address) (same : Bool) (first : Account A) (more : List (Account A))
      → behind current (if same then beside who x first ∷ more else alone who x ∷ (first ∷ more)) ≡ turning_tokens name (Some current) who ++ (json_tokens (shown x) ++ behind_if same first more)
  turned_some who x current true first more = turned_beside who x (are_same_bytes current.0 who.0) first more
  turned_some who x current false first more = turned_alone who x (are_same_bytes current.0 who.0) (first ∷ more)

  turned : (who : Address) (x : A) (current : Address) (accounts : List (Account A))
      → behind current (with_item who x accounts) ≡ turning_tokens name (Some current) who ++ (json_tokens (shown x) ++ behind who accounts)
  turned who x current [] = turned_alone who x (are_same_bytes current.0 who.0) []
  turned who x current (first ∷ more) = turned_some who x current (are_same_bytes who.0 first.who.0) first more

  remaining_some : (current : Address) (es : List (Address × A)) → remaining (Some current) es ≡ behind current (by_account es)
  remaining_some current [] = refl
  remaining_some current (e ∷ es) =
      ap (λ rest. turning_tokens name (Some current) e.0 ++ (json_tokens (shown e.1) ++ rest)) (remaining_some e.0 es)
      ∙ sym (turned e.0 e.1 current (by_account es))

  -- where no account is current
  remaining_none : (es : List (Address × A)) → remaining None es ≡ account_tokens (by_account es)
  remaining_none [] = refl
  remaining_none (e ∷ es) =
      ap (λ rest. opening_tokens name e.0 ++ (json_tokens (shown e.1) ++ rest)) (remaining_some e.0 es)
      ∙ sym (begun e.0 e.1 (by_account es))

  -- behind the array's bracket all of them are to be written
  pub begins : {old new : List Token} {left all : List (Address × A)} → left ≡ all → Adds old new (begin_array ∷ [])
      → new ++ remaining None left ≡ old ++ json_tokens (shown_by_account name shown all)
  begins {old = old} {new = new} {left = left} {all = all} same wrote =
      ap (λ ts. ts ++ remaining None left) wrote.is ∙ append_assoc old (begin_array ∷ []) (remaining None left)
      ∙ ap (λ es. old ++ begin_array ∷ remaining None es) same ∙ ap (λ ts. old ++ begin_array ∷ ts) (remaining_none all)
