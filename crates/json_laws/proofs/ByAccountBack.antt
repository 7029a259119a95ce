-- What is shown account by account is read back item by item.
use Rattle.std.proofs.Common.{◌≡◌, Bool, true, false, List, [], ◌∷◌, ◌++◌, All, Result, Ok, refl, sym, ap, ◌∙◌, subst, cond, append_assoc, append-nil}
use Rattle.std.specs.Prelude.{ℕ, map}
use Rattle.std.proofs.lemmas.Slice.Eq.{bytes_eq-Decides}
use Rattle.std.proofs.lemmas.List.Elements.{All-nil, All-cons, All-head, All-tail}
use Rattle.std.proofs.lemmas.List.{map-append}
use Rattle.teal_value.specs.declared.address.Address.{Address}
use Rattle.teal_value.specs.SameValues.{are_same_bytes}
use Rattle.json.specs.Json.{Json}
use Rattle.json_documents.specs.Arrays.{each}
use Rattle.json_documents.specs.Faults.{Fault}
use Rattle.json_views.specs.Documents.{array_of}
use Rattle.json_views.specs.ByAccount.{Account, with_item, by_account, shown_account, shown_by_account}
use Rattle.json_laws.proofs.ArraysBack.{array_back, at_seam}

-- ---- the accounts of items

-- the items of an account, and those of accounts
abbrev pub with_account : {A : Type 0} → Address → List A → List (Address × A)
with_account who xs = map (λ x. (who, x)) xs

abbrev pub items_in : {A : Type 0} → List (Account A) → List (Address × A)
items_in [] = []
items_in (a ∷ accounts) = with_account a.who a.items ++ items_in accounts

same_account : (a b : Address) → are_same_bytes a.0 b.0 ≡ true → a ≡ b
same_account a b e = let same = (bytes_eq-Decides a.0 b.0).0 e in λ i. record { 0 = same i }

module _ {A : Type 0} where
  items_with_by : (who : Address) (x : A) (first : Account A) (more : List (Account A)) (b : Bool) → are_same_bytes who.0 first.who.0 ≡ b
      → items_in (cond b (record { who = who; items = x ∷ first.items } ∷ more) (record { who = who; items = x ∷ [] } ∷ (first ∷ more))) ≡ (who, x) ∷ items_in (first ∷ more)
  items_with_by who x first more true is = ap (λ a. (who, x) ∷ (with_account a first.items ++ items_in more)) (same_account who first.who is)
  items_with_by who x first more false is = refl

  items_with : (who : Address) (x : A) (accounts : List (Account A)) → items_in (with_item who x accounts) ≡ (who, x) ∷ items_in accounts
  items_with who x [] = refl
  items_with who x (first ∷ more) = items_with_by who x first more (are_same_bytes who.0 first.who.0) refl

  -- items that are gathered by account are the same items in the same order
  pub items_of_accounts : (es : List (Address × A)) → items_in (by_account es) ≡ es
  items_of_accounts [] = refl
  items_of_accounts (e ∷ es) = items_with e.0 e.1 (by_account es) ∙ ap (λ more. e ∷ more) (items_of_accounts es)

  items_of_both : (accounts bs : List (Account A)) → items_in (accounts ++ bs) ≡ items_in accounts ++ items_in bs
  items_of_both [] bs = refl
  items_of_both (a ∷ accounts) bs = ap (λ more. with_account a.who a.items ++ more) (items_of_both accounts bs) ∙ sym (append_assoc (with_account a.who a.items) (items_in accounts) (items_in bs))

  -- what holds of the account of each item
  module _ (P : Address → Type 0) where
    abbrev OfAccount : Account A → Type 0
    OfAccount a = P a.who

    accounts_with : (who : Address) (x : A) (accounts : List (Account A)) → P who → All OfAccount accounts → All OfAccount (with_item who x accounts)
    accounts_with who x [] p all = All-cons OfAccount (record { who = who; items = x ∷ [] }) [] p all
    accounts_with who x (first ∷ more) p all =
        elim (are_same_bytes who.0 first.who.0) as (λ b. All OfAccount (cond b (record { who = who; items = x ∷ first.items } ∷ more) (record { who = who; items = x ∷ [] } ∷ (first ∷ more)))) [
          | true ↦ All-cons OfAccount (record { who = who; items = x ∷ first.items }) more p (All-tail OfAccount first more all)
          | false ↦ All-cons OfAccount (record { who = who; items = x ∷ [] }) (first ∷ more) p all
        ]

    abbrev pub OfItem : Address × A → Type 0
    OfItem e = P e.0

    pub accounts_hold : (es : List (Address × A)) → All OfItem es → All OfAccount (by_account es)
    accounts_hold [] all = All-nil OfAccount
    accounts_hold (e ∷ es) all = accounts_with e.0 e.1 (by_account es) (All-head OfItem e es all) (accounts_hold es (All-tail OfItem e es all))

-- ---- reading them

module _ {A L : Type 0} (one : Address → L → Json → Result L Fault) (shown : A → Json) (so_far : List (Address × A) → L) where
  -- an item, behind those before it, adds itself to what was gathered
  abbrev pub EachAddsItself : List (Address × A) → Type 0
  EachAddsItself es = (before : List (Address × A)) (e : Address × A) (rest : List (Address × A)) → before ++ e ∷ rest ≡ es → one e.0 (so_far before) (shown e.1) ≡ Ok (so_far (before ++ e ∷ []))

  -- the items of one account, behind those of the accounts before it
  items_back : (who : Address) (before : List (Address × A)) (xs : List A) (rest es : List (Address × A)) → before ++ (with_account who xs ++ rest) ≡ es → EachAddsItself es
      → each (one who) (so_far before) (array_of shown xs) ≡ Ok (so_far (before ++ with_account who xs))
  items_back who before xs rest es is add =
      subst (λ b. each (one who) (so_far b) (array_of shown xs) ≡ Ok (so_far (before ++ with_account who xs))) (append-nil before)
      (array_back (one who) shown (λ ys. so_far (before ++ with_account who ys)) xs (λ ys x zs same.
      add (before ++ with_account who ys) (who, x) (with_account who zs ++ rest) (placed ys x zs same)
      ∙ ap (λ b. Ok (so_far b)) (append_assoc before (with_account who ys) ((who, x) ∷ []) ∙ ap (λ b. before ++ b) (sym (map-append (λ z. (who, z)) ys (x ∷ []))))))
    where
      placed : (ys : List A) (x : A) (zs : List A) → ys ++ x ∷ zs ≡ xs → (before ++ with_account who ys) ++ ((who, x) ∷ (with_account who zs ++ rest)) ≡ es
      placed ys x zs same =
          append_assoc before (with_account who ys) ((who, x) ∷ (with_account who zs ++ rest))
          ∙ ap (λ b. before ++ b) (sym (append_assoc (with_account who ys) ((who, x) ∷ with_account who zs) rest)
          ∙ ap (λ b. b ++ rest) (sym (map-append (λ z. (who, z)) ys (x ∷ zs)) ∙ ap (with_account who) same))
          ∙ is

  -- All items, where an account is read by reading its own; P holds of the accounts.
  pub grouped_back : (name : List ℕ) (whole : L → Json → Result L Fault) (P : Address → Type 0) (es : List (Address × A))
      → ((l m : L) (a : Account A) → P a.who → each (one a.who) l (array_of shown a.items) ≡ Ok m → whole l (shown_account name shown a) ≡ Ok m)
      → All (OfItem P) es → EachAddsItself es → each whole (so_far []) (shown_by_account name shown es) ≡ Ok (so_far es)
  grouped_back name whole P es reads all add =
      array_back whole (shown_account name shown) (λ accounts. so_far (items_in accounts)) (by_account es) (λ before a rest is.
      reads (so_far (items_in before)) (so_far (items_in (before ++ a ∷ []))) a (at_seam (OfAccount P) before a rest (by_account es) is (accounts_hold P es all))
      (items_back a.who (items_in before) a.items (items_in rest) es (sym (items_of_both before (a ∷ rest)) ∙ ap items_in is ∙ items_of_accounts es) add
      ∙ ap (λ b. Ok (so_far b)) (sym (items_of_both before (a ∷ []) ∙ ap (λ b. items_in before ++ b) (append-nil (with_account a.who a.items))))))
      ∙ ap (λ b. Ok (so_far b)) (items_of_accounts es)
