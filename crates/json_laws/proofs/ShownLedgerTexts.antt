-- A ledger that is shown has a text.
use Rattle.std.proofs.Common.{◌≡◌, ℕ, ◌+◌, ◌^◌, ◌<◌, ◌≤◌, List, [], ◌∷◌, ◌++◌, All, refl, sym, subst, arith, true}
use Rattle.std.specs.Prelude.{map, nat_lt}
use Rattle.std.specs.List.{AllByRecursion}
use Rattle.std.specs.Str.{IsAscii}
use Rattle.std.proofs.lemmas.Bool.{and_parts, ltb-true}
use Rattle.std.proofs.lemmas.Bool.Decides.{nat_tests}
use Rattle.std.proofs.lemmas.List.Elements.{All-nil, All-cons, All-head, All-tail, All-append, All-map}
use Rattle.std.proofs.lemmas.Str.{IsUtf8-from_ascii}
use Rattle.std.proofs.lemmas.Str.Ascii.{IsAscii-cons, IsAscii-nil}
use Rattle.base64.specs.Engines.{standard}
use Rattle.base64.specs.GeneralPurpose.{encode_of}
use Rattle.base64.proofs.EngineFacts.{IsAscii-encode_of}
use Rattle.hex.specs.Hex.{encode_lower, lower_digits}
use Rattle.hex.proofs.HexLemmas.{IsAscii-encode_with}
use Rattle.avm_rule_laws.specs.Rules.{AreBytes}
use Rattle.json.proofs.Printed.Utf8.{IsUtf8-are_ascii, are_ascii}
use Rattle.teal_value.specs.declared.address.Address.{Address}
use Rattle.teal_value.specs.declared.value.Value.{Value}
use Rattle.teal_value.specs.declared.value.Value.TheVariants.{Uint, Bytes}
use Rattle.teal_value.specs.AddressText.{address_text, checksum}
use Rattle.teal_value.specs.Base32.{base32, groups, symbol}
use Rattle.teal_value.proofs.Base32Groups.{groups_each}
use Rattle.avm_states.specs.declared.schema.Schema.{Schema}
use Rattle.avm_states.specs.Entries.{Entries}
use Rattle.avm_ledger.specs.declared.application.StoredApplication.{StoredApplication}
use Rattle.avm_ledger.specs.Ledgers.{Ledger}
use Rattle.avm_ledger.specs.LedgerRules.{IsApplicationBelow, IsLocalStateBelow, IsStateEntry, IsStateValue, KeepsRules}
use Rattle.json_views.specs.Accounts.{local_of, locals_name, shown_local}
use Rattle.json_views.specs.Applications.{shown_application, shown_params, shown_schema}
use Rattle.json_views.specs.ByAccount.{Account, by_account, shown_account}
use Rattle.json_views.specs.Documents.{address, base64, digits}
use Rattle.json_views.specs.ShownLedgers.{shown_accounts, shown_applications, shown_ledger}
use Rattle.json_views.specs.States.{shown_entry, shown_state, shown_value}
use Rattle.json_laws.specs.OfBytes.{IsApplicationOfBytes, IsWholeLedgerOfBytes}
use Rattle.json_laws.proofs.ByAccountBack.{accounts_hold, items_in, items_of_accounts, with_account}
use Rattle.json_laws.proofs.PlainBack.{checksum_fits, each_is_byte}
use Rattle.json_laws.proofs.TextsBack.{IsShown, array_shown, beside, deeper, object_shown, text_shown, uint_shown}

-- ---- plain values

-- what is shown in base64 has a text that is read back
pub base64_shown : (d : ℕ) (s : List ℕ) → IsShown d (base64 s)
base64_shown d s = text_shown d (encode_of standard s) (IsUtf8-from_ascii (encode_of standard s) (IsAscii-encode_of standard s))

all_ascii : (s : List ℕ) → are_ascii s ≡ true → IsAscii s
all_ascii [] e = IsAscii-nil
all_ascii (b ∷ s) e = let both = and_parts (nat_lt b 128) (are_ascii s) e in IsAscii-cons b s (ltb-true b 128 both.0) (all_ascii s both.1)

pub digits_shown : (d : ℕ) (s : List ℕ) → IsShown d (digits s)
digits_shown d s = text_shown d (encode_lower s) (IsUtf8-from_ascii (encode_lower s) (IsAscii-encode_with lower_digits s (all_ascii lower_digits refl)))

symbols_ascii : (gs : List ℕ) → AllByRecursion (λ g. g < 32) gs → IsAscii (map symbol gs)
symbols_ascii [] h = IsAscii-nil
symbols_ascii (g ∷ gs) h = IsAscii-cons (symbol g) (map symbol gs) (grind (arith, nat_tests, h.0)) (symbols_ascii gs h.1)

pub address_shown : (d : ℕ) (who : Address) → AreBytes who.0 → IsShown d (address who)
unfolding address_text base32
address_shown d who all =
    let bytes = who.0 ++ checksum who.0 in
    text_shown d (address_text who) (IsUtf8-from_ascii (address_text who) (symbols_ascii (groups bytes) (groups_each bytes (each_is_byte bytes (All-append (λ b. b < 256) who.0 (checksum who.0) all (checksum_fits who.0))))))

-- ---- states and applications

value_shown : (v : Value) → IsStateValue v → IsShown 1 (shown_value v)
value_shown (Uint n) small =
    object_shown 0 _ ((refl, text_shown 0 [] (IsUtf8-are_ascii [] refl)), ((refl, uint_shown 0 2 (omega arith)), ((refl, uint_shown 0 n small), tt)))
value_shown (Bytes s) short =
    object_shown 0 _ ((refl, base64_shown 0 s), ((refl, uint_shown 0 1 (omega arith)), ((refl, uint_shown 0 0 (omega arith)), tt)))

state_shown : (state : Entries) → All IsStateEntry state → IsShown 3 (shown_state state)
state_shown state all = array_shown 2 shown_entry state (λ k e lt. object_shown 1 _ ((refl, base64_shown 1 _), ((refl, value_shown _ (all k e lt).1), tt)))

schema_shown : (s : Schema) → s.uints + s.bytes ≤ 64 → IsShown 3 (shown_schema s)
schema_shown s few = object_shown 2 _ ((refl, uint_shown 2 s.bytes (omega arith)), ((refl, uint_shown 2 s.uints (omega arith)), tt))

module _ (next : ℕ) (e : ℕ × StoredApplication) (is : IsApplicationBelow next e) (of : IsApplicationOfBytes e) where
  params_shown : IsShown 4 (shown_params e.1)
  params_shown =
      object_shown 3 _ (beside (refl, base64_shown 3 e.1.row.approval)
      (beside (refl, base64_shown 3 e.1.row.clear)
      (beside (refl, address_shown 3 e.1.row.creator of.row.creator)
      (beside (refl, state_shown e.1.state is.state.entries)
      (beside (refl, schema_shown e.1.row.global_schema is.row.global_schema)
      ((refl, schema_shown e.1.row.local_schema (omega (arith, is.row.local_schema))), tt))))))

  application_shown : next < 2 ^ 64 → IsShown 5 (shown_application e)
  application_shown small = object_shown 4 _ ((refl, uint_shown 4 e.0 (omega (arith, is.below))), ((refl, params_shown), tt))

-- ---- local states

local_shown : (next : ℕ) (apps : List (ℕ × StoredApplication)) (e : (Address × ℕ) × Entries) → next < 2 ^ 64 → IsLocalStateBelow next apps e → IsShown 4 (shown_local (e.0.1, e.1))
local_shown next apps e small is = object_shown 3 _ ((refl, uint_shown 3 e.0.1 (omega (arith, is.below))), ((refl, state_shown e.1 is.state.entries), tt))

-- what holds of all items of accounts holds of those of each
module _ {A : Type 0} (P : Address × A → Type 0) where
  of_one : (who : Address) (xs : List A) (rest : List (Address × A)) → All P (with_account who xs ++ rest) → All (λ x. P (who, x)) xs × All P rest
  of_one who [] rest all = (All-nil (λ x. P (who, x)), all)
  of_one who (x ∷ xs) rest all =
      let more = of_one who xs rest (All-tail P (who, x) (with_account who xs ++ rest) all) in
      (All-cons (λ y. P (who, y)) x xs (All-head P (who, x) (with_account who xs ++ rest) all) more.0, more.1)

  HasAll : Account A → Type 0
  HasAll a = All (λ x. P (a.who, x)) a.items

  of_each : (accounts : List (Account A)) → All P (items_in accounts) → All HasAll accounts
  unfolding HasAll
  of_each [] all = All-nil HasAll
  of_each (a ∷ accounts) all = let parts = of_one a.who a.items (items_in accounts) all in All-cons HasAll a accounts parts.0 (of_each accounts parts.1)

module _ (l : Ledger) (rules : KeepsRules l) (of : IsWholeLedgerOfBytes l) where
  locals_shown : All (λ e. IsShown 4 (shown_local e.1)) (map local_of l.local_states)
  locals_shown = All-map (λ e. IsShown 4 (shown_local e.1)) local_of l.local_states (λ k e lt. local_shown l.next_id l.applications _ rules.small (rules.local_states k e lt))

  owners_of_bytes : All (λ e. AreBytes e.0.0) (map local_of l.local_states)
  owners_of_bytes = All-map (λ e. AreBytes e.0.0) local_of l.local_states (λ k e lt. (of.local_states k e lt).account)

  -- the accounts of a ledger, nested at most 7 deep, have a text that is read back
  pub accounts_shown : IsShown 7 (shown_accounts l)
  unfolding HasAll
  accounts_shown =
      let es = map local_of l.local_states in
      let locals = of_each (λ e. IsShown 4 (shown_local e.1)) (by_account es) (subst (λ xs. All (λ e. IsShown 4 (shown_local e.1)) xs) (sym (items_of_accounts es)) locals_shown) in
      let owners = accounts_hold (λ who. AreBytes who.0) es owners_of_bytes in
      array_shown 6 (shown_account locals_name shown_local) (by_account es) (λ k a lt.
      object_shown 5 _ ((refl, address_shown 5 _ (owners k a lt)), ((refl, array_shown 4 shown_local _ (locals k a lt)), tt)))

  pub applications_shown : IsShown 7 (shown_applications l)
  applications_shown =
      deeper 6 7 _ (omega arith) (array_shown 5 shown_application l.applications (λ k e lt.
      application_shown l.next_id _ (rules.applications k e lt) (of.applications k e lt) rules.small))

  -- a ledger that is shown has a text that is read back
  pub ledger_shown : IsShown 127 (shown_ledger l)
  ledger_shown =
      deeper 8 127 _ (omega arith) (object_shown 7 _ (beside (refl, accounts_shown)
      (beside (refl, applications_shown)
      (beside (refl, object_shown 6 _ ((refl, digits_shown 6 _), tt))
      ((refl, uint_shown 7 l.next_id rules.small), tt)))))
