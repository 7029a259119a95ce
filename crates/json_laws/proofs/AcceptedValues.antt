-- What plain values, schemas and states keep that are read.
use Rattle.std.proofs.Common.{◌≡◌, ℕ, ◌+◌, ◌^◌, ◌<◌, ◌≤◌, Bool, true, false, cond, eqb, leb, ◌&&◌, List, [], ◌∷◌, length, take, drop, Option, Some, None, Result, Ok, Err, refl, sym, ap, subst, ◌∙◌, arith}
use Rattle.std.specs.Prelude.{All, codes, option_and_then, is_some}
use Rattle.std.specs.Result.{result_ok}
use Rattle.std.specs.Str.{bytes_eq}
use Rattle.base64.specs.declared.decode.DecodeError.{DecodeError}
use Rattle.base64.specs.Engines.{standard}
use Rattle.base64.specs.GeneralPurpose.{decode_of}
use Rattle.std.specs.List.Sorted.{IsStrictlySortedBy}
use Rattle.std.proofs.lemmas.Bool.{and_parts, eqb-true, leb-true, ltb-true}
use Rattle.std.proofs.lemmas.List.{length-take-le}
use Rattle.std.proofs.lemmas.List.Elements.{All-nil, All-from_get_or, All-take}
use Rattle.teal_value.specs.AddressText.{checksum, address_before_checksum, address_in, address_of}
use Rattle.teal_value.specs.Base32.{IsBytes, base32_decoded}
use Rattle.teal_value.specs.declared.address.Address.{Address}
use Rattle.teal_value.specs.declared.address_encoding.AddressFault.{AddressFault}
use Rattle.teal_value.specs.declared.address_encoding.AddressFault.TheVariants as address_fault
use Rattle.teal_value.specs.declared.base32.BadText.{BadText}
use Rattle.teal_value.specs.declared.value.Value.{Value}
use Rattle.teal_value.specs.declared.value.Value.TheVariants.{Uint, Bytes}
use Rattle.teal_value.proofs.Base32Law.{reads_back}
use Rattle.teal_text.specs.Numbers.{numeral_value, number_of}
use Rattle.teal_value.specs.Keys.{most_key_bytes}
use Rattle.avm_states.specs.declared.schema.Schema.{Schema}
use Rattle.avm_states.specs.Entries.{Entries, IsInKeyOrder, byte_cmp, most_value_bytes, value_of_key, with_entry}
use Rattle.avm_states.specs.Schemas.{counts_in, is_within, no_entries}
use Rattle.avm_states.proofs.KeyOrder.{byte_same, byte_total}
use Rattle.avm_states.proofs.Maps.{sorted-inserted}
use Rattle.avm_ledger.specs.LedgerReader.{Room}
use Rattle.avm_ledger.specs.LedgerRules.{IsStateValue, IsStateEntry, IsStateIn}
use Rattle.avm_rule_laws.specs.Rules.{AreBytes}
use Rattle.json.specs.Json.{Json}
use Rattle.json.specs.Find.{as_number}
use Rattle.json_documents.specs.declared.document_fault.DocumentFault.TheVariants.{KeyLength, OtherKind, Schema as NoRoom, SchemaSize, TooLong, Twice}
use Rattle.json_documents.specs.Faults.{here, in_step}
use Rattle.json_documents.specs.Steps.{at_name}
use Rattle.json_documents.specs.Members.{reject_unknown, required, optional}
use Rattle.json_documents.specs.Arrays.{each}
use Rattle.json_documents.specs.Plain.{has_zero_in_front, decimal_of, uint, on_address, text, bytes, address}
use Rattle.json_documents.specs.Schemas.{schema}
use Rattle.json_documents.specs.States.{kind, short_value, value_of_kind, value, key, new_entry, with_key_value, within, state}
use Rattle.json_documents.specs.Tables.{key_value_names, value_names}
use Rattle.json_laws.specs.OfBytes.{IsEntryOfBytes, IsValueOfBytes}
use Rattle.json_laws.proofs.AcceptedSteps.{from, same_value, passed, there, nothing_asked, needed_gives, optional_gives, each_keeps}
use Rattle.json_laws.proofs.AcceptedMaps.{all_inserted}
use Rattle.json_laws.proofs.DecodedBytes.{decoded_are_bytes}

-- ---- numbers

some_passed : {A : Type 0} (b : Bool) (x y : A) → cond b (Some x) None ≡ Some y → (b ≡ true) × (x ≡ y)
some_passed true x y e = (refl, cc)
some_passed false x y e = absurd cc

numeral_small : (base : ℕ) (word : List ℕ) (n : ℕ) → numeral_value base word ≡ Some n → n < 2 ^ 64
unfolding numeral_value
numeral_small base word n e =
    let p = some_passed _ _ n e in
    subst (λ m. m < 2 ^ 64) p.1 (ltb-true _ (2 ^ 64) (and_parts _ _ p.0).1)

decimal_small : (digits : List ℕ) (n : ℕ) → decimal_of digits ≡ Some n → n < 2 ^ 64
decimal_small digits n e = by (has_zero_in_front digits) e
  where
    by : (b : Bool) → cond b None (number_of digits) ≡ Some n → n < 2 ^ 64
    by true e = absurd cc
    by false e = numeral_small _ _ n e

and_then_small : (o : Option (List ℕ)) (n : ℕ) → option_and_then decimal_of o ≡ Some n → n < 2 ^ 64
and_then_small None n e = absurd cc
and_then_small (Some digits) n e = decimal_small digits n e

-- a number that was read is below 2^64
pub uint_small : (j : Json) (n : ℕ) → uint j ≡ Ok n → n < 2 ^ 64
uint_small j n e = and_then_small (as_number j) n (there _ _ n e)

-- ---- addresses

-- an address of 32 bytes
pub record IsWholeAddress (who : Address) : Type 0 where
  pub size : length who.0 ≡ 32
  pub of_bytes : AreBytes who.0

all_bytes : (s : List ℕ) → IsBytes s → All (λ b. b < 256) s
all_bytes s h = All-from_get_or (λ b. b < 256) s 0 (λ i lt. h i)

key_of : (b : Bool) (bytes : List ℕ) (f : AddressFault) (who : Address) → cond b (Ok (record { 0 = take 32 bytes })) (Err f) ≡ Ok who → take 32 bytes ≡ who.0
key_of true bytes f who e = ap (λ (a : Address). a.0) (same_value _ who e)
key_of false bytes f who e = absurd cc

address_whole_in : (n : ℕ) (r : Result (List ℕ) BadText) (who : Address) → ((bytes : List ℕ) → r ≡ Ok bytes → IsBytes bytes) → address_in n r ≡ Ok who → IsWholeAddress who
address_whole_in n (Err f) who h e = absurd cc
address_whole_in n (Ok bytes) who h e = by (eqb n 58 && eqb (length bytes) 36) refl e
  where
    by : (b : Bool) → (eqb n 58 && eqb (length bytes) 36) ≡ b → cond b (address_before_checksum bytes) (Err address_fault.BadText) ≡ Ok who → IsWholeAddress who
    by false is e = absurd cc
    by true is e =
        let count : length bytes ≡ 36 = eqb-true (length bytes) 36 (and_parts (eqb n 58) (eqb (length bytes) 36) is).1 in
        let key = key_of (bytes_eq (drop 32 bytes) (checksum (take 32 bytes))) bytes _ who e in
        record { size = sym (ap length key) ∙ length-take-le 32 bytes (omega arith); of_bytes = subst (All (λ b. b < 256)) key (All-take (λ b. b < 256) 32 bytes (all_bytes bytes (h bytes refl))) }

address_whole_of : (s : List ℕ) (who : Address) → address_of s ≡ Ok who → IsWholeAddress who
unfolding address_of
address_whole_of s who e = address_whole_in (length s) (base32_decoded s) who (λ bytes is. (reads_back s bytes is).0) e

-- an address that a text encodes is of bytes
pub address_of_bytes : (s : List ℕ) (who : Address) → address_of s ≡ Ok who → AreBytes who.0
address_of_bytes s who e = (address_whole_of s who e).of_bytes

on_address_ok : (r : Result Address AddressFault) (who : Address) → on_address r ≡ Ok who → r ≡ Ok who
on_address_ok (Ok a) who e = let same : a ≡ who = same_value a who e in cc
on_address_ok (Err f) who e = absurd cc

-- an address that was read has 32 bytes
pub address_whole : (j : Json) (who : Address) → address j ≡ Ok who → IsWholeAddress who
address_whole j who e = from (text j) _ who e (λ s es e1. address_whole_of s who (on_address_ok (address_of s) who e1))

-- ---- schemas

schema_limited : (bytes_name uints_name : List ℕ) (most : ℕ) (j : Json) (s : Schema) → schema bytes_name uints_name most j ≡ Ok s → s.uints + s.bytes ≤ most
schema_limited bytes_name uints_name most j s e =
    from (reject_unknown (bytes_name ∷ uints_name ∷ []) j) _ s e (λ u eu e1.
    from (optional bytes_name uint 0 j) _ s e1 (λ b eb e2.
    from (optional uints_name uint 0 j) _ s e2 (λ n en e3.
    let p = passed (leb (b + n) most) (record { uints = n; bytes = b }) s (here SchemaSize) e3 in
    let fits : b + n ≤ most = leb-true (b + n) most p.0 in
    let sum : n + b ≤ most = omega arith in
    subst (λ (t : Schema). t.uints + t.bytes ≤ most) p.1 sum)))

-- ---- byte strings

base64_ok : (r : Result (List ℕ) DecodeError) (x : List ℕ) → result_ok r ≡ Some x → r ≡ Ok x
base64_ok (Ok y) x e = cc
base64_ok (Err f) x e = absurd cc

-- what is read from a base64 text is of bytes
pub bytes_are : (j : Json) (s : List ℕ) → bytes j ≡ Ok s → AreBytes s
bytes_are j s e = from (text j) _ s e (λ t et e1. decoded_are_bytes t s (base64_ok (decode_of standard t) s (there _ _ s e1)))

-- ---- members that may be missing

-- a member that may be missing is a number below 2^64 where its default is
pub word_in : (name : List ℕ) (default : ℕ) (j : Json) (n : ℕ) → default < 2 ^ 64 → optional name uint default j ≡ Ok n → n < 2 ^ 64
word_in name default j n small e = optional_gives nothing_asked (λ m. m < 2 ^ 64) name uint default small (λ k m q is. uint_small k m is) j n tt e

-- a schema has no more entries than it may, also where it is missing
pub schema_in : (name bytes_name uints_name : List ℕ) (most : ℕ) (j : Json) (s : Schema) → optional name (schema bytes_name uints_name most) no_entries j ≡ Ok s → s.uints + s.bytes ≤ most
schema_in name bytes_name uints_name most j s e =
    optional_gives nothing_asked (λ (t : Schema). t.uints + t.bytes ≤ most) name (schema bytes_name uints_name most) no_entries (omega arith) (λ k t q is. schema_limited bytes_name uints_name most k t is) j s tt e

-- a member of bytes is of bytes, also where it is missing
pub bytes_in : (name : List ℕ) (j : Json) (s : List ℕ) → optional name bytes [] j ≡ Ok s → AreBytes s
bytes_in name j s e = optional_gives nothing_asked AreBytes name bytes [] (All-nil (λ b. b < 256)) (λ k t q is. bytes_are k t is) j s tt e

-- ---- keys and values of states

-- a key of a state
record IsKey (k : List ℕ) : Type 0 where
  short : length k ≤ most_key_bytes
  of_bytes : AreBytes k

key_is : (j : Json) (k : List ℕ) → key j ≡ Ok k → IsKey k
key_is j k e =
    from (bytes j) _ k e (λ s es e1.
    let p = passed (leb (length s) most_key_bytes) s k (here KeyLength) e1 in
    subst IsKey p.1 (record { short = leb-true (length s) most_key_bytes p.0; of_bytes = bytes_are j s es }))

-- a value of a state
record IsValue (v : Value) : Type 0 where
  fits : IsStateValue v
  of_bytes : IsValueOfBytes v

short_value_fits : (s : List ℕ) (v : Value) → AreBytes s → short_value s ≡ Ok v → IsValue v
short_value_fits s v of_bytes e = by (leb (length s) most_value_bytes) refl e
  where
    by : (b : Bool) → leb (length s) most_value_bytes ≡ b → cond b (Ok (Bytes s)) (in_step (at_name (codes "bytes")) (Err (here TooLong))) ≡ Ok v → IsValue v
    by true is e = subst IsValue (same_value (Bytes s) v e) (record { fits = leb-true (length s) most_value_bytes is; of_bytes = of_bytes })
    by false is e = absurd cc

of_kind_fits : (is_bytes : Bool) (s : List ℕ) (n : ℕ) (v : Value) → AreBytes s → n < 2 ^ 64 → value_of_kind is_bytes s n ≡ Ok v → IsValue v
of_kind_fits true s n v of_bytes small e = by (eqb n 0) e
  where
    by : (b : Bool) → cond b (short_value s) (Err (here OtherKind)) ≡ Ok v → IsValue v
    by true e = short_value_fits s v of_bytes e
    by false e = absurd cc
of_kind_fits false s n v of_bytes small e = subst IsValue (passed (eqb (length s) 0) (Uint n) v (here OtherKind) e).1 (record { fits = small; of_bytes = tt })

value_fits : (j : Json) (v : Value) → value j ≡ Ok v → IsValue v
value_fits j v e =
    from (reject_unknown value_names j) _ v e (λ u eu e1.
    from (required (codes "type") kind j) _ v e1 (λ is_bytes ek e2.
    from (optional (codes "bytes") bytes [] j) _ v e2 (λ s es e3.
    from (optional (codes "uint") uint 0 j) _ v e3 (λ n en e4.
    of_kind_fits is_bytes s n v (bytes_in (codes "bytes") j s es) (word_in (codes "uint") 0 j n (omega arith) en) e4))))

-- ---- states

-- entries of a state in order, each within its limits and of bytes
record AreStateEntries (es : Entries) : Type 0 where
  rising : IsInKeyOrder es
  entries : All IsStateEntry es
  of_bytes : All IsEntryOfBytes es

new_entry_kept : (es : Entries) (k : List ℕ) (v : Value) (x : Entries) → AreStateEntries es → IsKey k → IsValue v → new_entry es k v ≡ Ok x → AreStateEntries x
new_entry_kept es k v x are a b e = by (is_some (value_of_key es k)) e
  where
    by : (b : Bool) → cond b (in_step (at_name (codes "key")) (Err (here Twice))) (Ok (with_entry es k v)) ≡ Ok x → AreStateEntries x
    by true e = absurd cc
    by false e =
        subst AreStateEntries (same_value (with_entry es k v) x e) (record {
          rising = sorted-inserted byte_total k v es are.rising;
          entries = all_inserted byte_cmp IsStateEntry byte_same k v es (a.short, b.fits) are.entries;
          of_bytes = all_inserted byte_cmp IsEntryOfBytes byte_same k v es (a.of_bytes, b.of_bytes) are.of_bytes;
        })

entry_kept : (es : Entries) (j : Json) (x : Entries) → AreStateEntries es → with_key_value es j ≡ Ok x → AreStateEntries x
entry_kept es j x are e =
    from (reject_unknown key_value_names j) _ x e (λ u eu e1.
    from (required (codes "key") key j) _ x e1 (λ k ek e2.
    from (required (codes "value") value j) _ x e2 (λ v ev e3.
    let a = needed_gives nothing_asked IsKey (codes "key") key (λ i s q is. key_is i s is) j k tt ek in
    let b = needed_gives nothing_asked IsValue (codes "value") value (λ i w q is. value_fits i w is) j v tt ev in
    new_entry_kept es k v x are a b e3)))

-- a state that there is room for, of bytes
pub record IsStateOf (room : Room) (state : Entries) : Type 0 where
  pub fits : IsStateIn room state
  pub of_bytes : All IsEntryOfBytes state

state_within : (room : Room) (es x : Entries) → AreStateEntries es → within room es ≡ Ok x → IsStateOf room x
state_within room es x are e =
    let p = passed (leb (length es) room.entries && is_within (counts_in es) room.kinds) es x (here NoRoom) e in
    let parts = and_parts (leb (length es) room.entries) (is_within (counts_in es) room.kinds) p.0 in
    let kinds = and_parts (leb (counts_in es).uints room.kinds.uints) (leb (counts_in es).bytes room.kinds.bytes) parts.1 in
    subst (IsStateOf room) p.1 (record {
      fits = record {
        rising = are.rising;
        entries = are.entries;
        few = leb-true (length es) room.entries parts.0;
        uints = leb-true (counts_in es).uints room.kinds.uints kinds.0;
        strings = leb-true (counts_in es).bytes room.kinds.bytes kinds.1;
      };
      of_bytes = are.of_bytes;
    })

no_entries_are : AreStateEntries []
unfolding IsStrictlySortedBy
no_entries_are = record { rising = tt; entries = All-nil IsStateEntry; of_bytes = All-nil IsEntryOfBytes }

-- an empty state fits in any room
pub nothing_in : (room : Room) → IsStateOf room []
unfolding IsStrictlySortedBy
nothing_in room = record { fits = record { rising = tt; entries = All-nil IsStateEntry; few = omega arith; uints = omega arith; strings = omega arith }; of_bytes = All-nil IsEntryOfBytes }

-- a state that was read fits in its room and is of bytes
pub state_kept : (room : Room) (j : Json) (x : Entries) → state room j ≡ Ok x → IsStateOf room x
unfolding state
state_kept room j x e =
    from (each with_key_value [] j) _ x e (λ es ees e1.
    state_within room es x (each_keeps nothing_asked AreStateEntries with_key_value [] (λ so_far k next q are is. entry_kept so_far k next are is) no_entries_are j es tt ees) e1)
