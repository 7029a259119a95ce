-- States are read back from how they are shown.
use Rattle.std.proofs.Common.{◌≡◌, ℕ, ◌≤◌, true, false, leb, List, [], ◌∷◌, ◌++◌, length, All, Ok, refl, sym, ap, subst, arith}
use Rattle.std.specs.Prelude.{codes}
use Rattle.std.proofs.lemmas.Bool.{le-leb}
use Rattle.teal_value.specs.declared.value.Value.{Value}
use Rattle.teal_value.specs.declared.value.Value.TheVariants.{Uint, Bytes}
use Rattle.avm_states.specs.Entries.{Entries, IsInKeyOrder}
use Rattle.avm_states.proofs.KeyOrder.{byte_total}
use Rattle.avm_ledger.specs.LedgerReader.{Room}
use Rattle.avm_ledger.specs.LedgerRules.{IsStateEntry, IsStateIn, IsStateValue}
use Rattle.base64.proofs.OnLiterals.{base64_on_literals}
use Rattle.avm_rule_laws.specs.Rules.{AreBytes}
use Rattle.json_documents.specs.Faults.{in_step}
use Rattle.json_documents.specs.Members.{least_unknown, required}
use Rattle.json_documents.specs.Steps.{at_name}
use Rattle.json_documents.specs.Plain.{bytes}
use Rattle.json_documents.specs.States.{key, kind, new_entry, state, value, with_key_value}
use Rattle.json_views.specs.Documents.{base64, text, uint}
use Rattle.json_views.specs.States.{shown_entry, shown_state, shown_value}
use Rattle.json_laws.specs.OfBytes.{IsEntryOfBytes, IsValueOfBytes}
use Rattle.json_laws.proofs.ArraysBack.{AddItself, array_back, at_seam, then, then_in}
use Rattle.avm_ledger.proofs.RisingReading.{goes_last}
use Rattle.json_laws.proofs.OrderBack.{not_there}
use Rattle.json_laws.proofs.PlainBack.{bytes_back, uint_back}

kind_one : kind (uint 1) ≡ Ok true
kind_one = then _ _ _ _ (uint_back 1 (omega arith)) refl

kind_two : kind (uint 2) ≡ Ok false
kind_two = then _ _ _ _ (uint_back 2 (omega arith)) refl

no_bytes : bytes (text []) ≡ Ok []
unfolding base64_on_literals
no_bytes = refl

value_back : (v : Value) → IsStateValue v → IsValueOfBytes v → value (shown_value v) ≡ Ok v
unfolding least_unknown
value_back (Uint n) is of = then_in _ _ _ _ _ kind_two (then_in _ _ _ _ _ no_bytes (then_in _ _ _ _ _ (uint_back n is) refl))
value_back (Bytes s) is of =
    let short : leb (length s) 64 ≡ true = le-leb (length s) 64 is in
    then_in _ _ _ _ _ kind_one (then_in _ _ _ _ _ (bytes_back s of) (then_in _ _ _ _ _ (uint_back 0 (omega arith)) (rw short refl)))

value_there : (k : List ℕ) (v : Value) → IsStateValue v → IsValueOfBytes v → required (codes "value") value (shown_entry (k, v)) ≡ Ok v
value_there k (Uint n) is of = ap (in_step (at_name (codes "value"))) (value_back (Uint n) is of)
value_there k (Bytes s) is of = ap (in_step (at_name (codes "value"))) (value_back (Bytes s) is of)

key_back : (k : List ℕ) → length k ≤ 64 → AreBytes k → key (base64 k) ≡ Ok k
key_back k is of = let short : leb (length k) 64 ≡ true = le-leb (length k) 64 is in then _ _ _ _ (bytes_back k of) (rw short refl)

module _ (es : Entries) (rising : IsInKeyOrder es) (all : All IsStateEntry es) (of_bytes : All IsEntryOfBytes es) where
  entries_add : AddItself with_key_value shown_entry (λ es. es) es
  unfolding least_unknown
  entries_add before e rest is =
      let rules = at_seam IsStateEntry before e rest es is all in
      let of = at_seam IsEntryOfBytes before e rest es is of_bytes in
      let order : IsInKeyOrder (before ++ e ∷ rest) = subst IsInKeyOrder (sym is) rising in
      let added : new_entry before e.0 e.1 ≡ Ok (before ++ e ∷ []) = rw (not_there byte_total before rest e order, goes_last byte_total before rest e order) refl in
      then_in _ _ _ _ _ (key_back e.0 rules.0 of.0) (then _ _ _ _ (value_there e.0 e.1 rules.1 of.1) added)

-- a state of bytes that fits in its room is read back from how it is shown
pub state_back : (room : Room) (es : Entries) → IsStateIn room es → All IsEntryOfBytes es → state room (shown_state es) ≡ Ok es
unfolding state
state_back room es is of =
    let few : leb (length es) room.entries ≡ true = le-leb (length es) room.entries is.few in
    then _ _ _ _ (array_back with_key_value shown_entry (λ es. es) es (entries_add es is.rising is.entries of)) (rw (few, le-leb _ _ is.uints, le-leb _ _ is.strings) refl)
