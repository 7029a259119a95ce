-- The paths of faults of plain values: numbers, texts, bytes, addresses, ids and schemas.
use Rattle.std.proofs.Common.{◌≡◌, ℕ, ◌+◌, inl, inr, Bool, true, false, cond, ◌&&◌, List, [], ◌∷◌, Option, Some, None, Result, Ok, Err, refl}
use Rattle.std.specs.Prelude.{codes, option_and_then, nat_le, nat_lt}
use Rattle.std.specs.List.{list_all}
use Rattle.std.specs.Result.{result_ok}
use Rattle.base64.specs.Engines.{standard}
use Rattle.base64.specs.GeneralPurpose.{decode_of}
use Rattle.std.proofs.lemmas.Bool.{cond-false}
use Rattle.teal_value.specs.Answer.{◌>>=◌}
use Rattle.teal_value.specs.AddressText.{address_of}
use Rattle.teal_value.specs.declared.address.Address.{Address}
use Rattle.teal_value.specs.declared.address_encoding.AddressFault.{AddressFault}
use Rattle.teal_value.specs.declared.address_encoding.AddressFault.TheVariants as address_fault
use Rattle.json.specs.Json.{Json}
use Rattle.json.specs.Find.{as_bool, as_number, as_str}
use Rattle.json_documents.specs.declared.document_fault.DocumentFault.{DocumentFault}
use Rattle.json_documents.specs.declared.document_fault.DocumentFault.TheVariants as what
use Rattle.json_documents.specs.Faults.{Fault, here, or_else_fault}
use Rattle.json_documents.specs.Members.{reject_unknown, optional}
use Rattle.json_documents.specs.Plain.{address, base64, boolean, bytes, decimal_of, on_address, text, uint}
use Rattle.json_documents.specs.Deleted.{not_deleted, only_false, still_known}
use Rattle.json_documents.specs.Ids.{end_of_ids, id_below, in_range, next_id, some_positive}
use Rattle.json_documents.specs.Schemas.{schema}
use Rattle.json_documents.specs.Steps.{at_name}
use Rattle.json_laws.specs.Paths.{Ends, next_id_of, table, IsObject, IsRefusedSchema, IsWrong, is_plain}
use Rattle.json_laws.proofs.PathSteps.{Spot, Located, bind_ok, into, known_object, located_bind, located_here, located_known, located_optional, then}

-- ---- a value that may not be there

-- where nothing is read, the fault leads to the value, which is wrong
pub located_or_else : {A : Type 0} (p : Spot) (o : Option A) (w : DocumentFault) → (o ≡ None → IsWrong p.document w p.path p.value) → Located p (or_else_fault o w)
located_or_else p None w h = located_here p w (h refl)
located_or_else p (Some x) w h = record { located = tt }

-- what was read without a fault is there
pub is_there : {A : Type 0} (o : Option A) (w : DocumentFault) (x : A) → or_else_fault o w ≡ Ok x → o ≡ Some x
is_there None w x e = absurd cc
is_there (Some y) w x e = cc

-- ---- numbers

-- a fault of a number leads to it
pub located_uint : (p : Spot) → Located p (uint p.value)
located_uint p = located_or_else p (option_and_then decimal_of (as_number p.value)) what.NotUint (λ e. e)

-- where faults of what is made of a number lead to where they say, so do those of both in a row
pub located_of_uint : {A : Type 0} (p : Spot) (k : ℕ → Result A Fault) → ((n : ℕ) → uint p.value ≡ Ok n → Located p (k n)) → Located p (uint p.value >>= k)
located_of_uint p k h = located_bind p (uint p.value) k (located_uint p) h

-- ---- texts

-- a fault of a text leads to it
pub located_text : (p : Spot) → Located p (text p.value)
located_text p = located_or_else p (as_str p.value) what.NotText (λ e. e)

-- a text that was read is that of a string
pub text_is : (j : Json) (s : List ℕ) → text j ≡ Ok s → as_str j ≡ Some s
text_is j s e = is_there (as_str j) what.NotText s e

pub located_of_text : {A : Type 0} (p : Spot) (k : List ℕ → Result A Fault) → ((s : List ℕ) → as_str p.value ≡ Some s → Located p (k s)) → Located p (text p.value >>= k)
located_of_text p k h = located_bind p (text p.value) k (located_text p) (λ s e. h s (text_is p.value s e))

-- a fault of bytes leads to their text
pub located_bytes : (p : Spot) → Located p (bytes p.value)
located_bytes p = located_of_text p base64 (λ s is. located_or_else p (result_ok (decode_of standard s)) what.BadBase64 (λ e. (s, is, e)))

pub located_of_bytes : {A : Type 0} (p : Spot) (k : List ℕ → Result A Fault) → ((s : List ℕ) → bytes p.value ≡ Ok s → Located p (k s)) → Located p (bytes p.value >>= k)
located_of_bytes p k h = located_bind p (bytes p.value) k (located_bytes p) h

on_address_located : (p : Spot) (s : List ℕ) (r : Result Address AddressFault) → as_str p.value ≡ Some s → address_of s ≡ r → Located p (on_address r)
on_address_located p s (Ok who) is e = record { located = tt }
on_address_located p s (Err address_fault.BadText) is e = located_here p _ (s, is, e)
on_address_located p s (Err address_fault.BadChecksum) is e = located_here p _ (s, is, e)

pub located_address : (p : Spot) → Located p (address p.value)
located_address p = located_of_text p (λ s. on_address (address_of s)) (λ s is. on_address_located p s (address_of s) is refl)

-- ---- what is deleted

gone_located : (p : Spot) (gone : Bool) → Ends (codes "deleted") p.path → as_bool p.value ≡ Some gone → Located p (only_false gone)
gone_located p true ends is = located_here p _ (ends, is)
gone_located p false ends is = record { located = tt }

located_not_deleted : (p : Spot) → Ends (codes "deleted") p.path → Located p (not_deleted p.value)
located_not_deleted p ends =
    located_bind p (boolean p.value) only_false (located_or_else p (as_bool p.value) what.NotBool (λ e. (ends, e))) (λ gone e. gone_located p gone ends (is_there (as_bool p.value) what.NotBool gone e))

-- a fault of an object's names, or of what says that it is deleted, leads to where it says
pub located_still_known : (names : List (List ℕ)) (p : Spot) → names ≡ table p.path → Located p (still_known names p.value)
located_still_known names p e =
    located_bind p (reject_unknown names p.value) _ (located_known names p e) (λ u is.
    located_optional (codes "deleted") refl not_deleted tt p (λ v at. located_not_deleted (into p (at_name (codes "deleted")) v at) (p.path, refl)))

-- what is there still is an object
pub still_object : (names : List (List ℕ)) (j : Json) (u : Unit {0}) → still_known names j ≡ Ok u → IsObject j
still_object names j u e = let is = bind_ok (reject_unknown names j) _ u e in known_object names j is.0 is.1

-- ---- ids

-- a value where a test holds, and else a fault of the value
pub located_if : {A : Type 0} (p : Spot) (b : Bool) (x : A) (w : DocumentFault) → (b ≡ false → IsWrong p.document w p.path p.value) → Located p (cond b (Ok x) (Err (here w)))
located_if p true x w h = record { located = tt }
located_if p false x w h = located_here p w (h refl)

-- the same, with what the test gives
pub located_refused : {A : Type 0} (p : Spot) (b : Bool) (x : A) (w : DocumentFault) → (cond b (Ok x) (Err (here w)) ≡ Err (here w) → IsWrong p.document w p.path p.value) → Located p (cond b (Ok x) (Err (here w)))
located_refused p b x w h = located_if p b x w (λ out. h (cond-false b (Ok x) (Err (here w)) out))

-- a fault of an id, also one not below the end of ids, leads to the id
pub located_id_below : (next : Option ℕ) (p : Spot) → next_id_of p.document ≡ Ok next → Ends (codes "id") p.path → Located p (id_below (end_of_ids next) p.value)
located_id_below next p given ends = located_of_uint p (in_range (end_of_ids next)) (λ n e. located_refused p (nat_le 1 n && nat_lt n (end_of_ids next)) n what.IdRange (λ out. inr (ends, (next, given, then _ _ _ _ e out))))

pub located_next_id : (p : Spot) → Ends (codes "next-id") p.path → Located p (next_id p.value)
located_next_id p ends = located_of_uint p some_positive (λ n e. located_refused p (nat_le 1 n) (Some n) what.IdRange (λ out. inl (ends, then _ _ _ _ e out)))

-- ---- schemas

pub located_schema : (bytes_name uints_name : List ℕ) (most : ℕ) → list_all is_plain bytes_name ≡ true → list_all is_plain uints_name ≡ true → (p : Spot) → bytes_name ∷ uints_name ∷ [] ≡ table p.path
    → (schema bytes_name uints_name most p.value ≡ Err (here what.SchemaSize) → IsRefusedSchema p.path p.value) → Located p (schema bytes_name uints_name most p.value)
located_schema bytes_name uints_name most plain_bytes plain_uints p at large =
    located_bind p (reject_unknown (bytes_name ∷ uints_name ∷ []) p.value) _ (located_known (bytes_name ∷ uints_name ∷ []) p at) (λ u is.
    located_bind p (optional bytes_name uint 0 p.value) _ (located_optional bytes_name plain_bytes uint 0 p (λ v e. located_uint _)) (λ bytes b.
    located_bind p (optional uints_name uint 0 p.value) _ (located_optional uints_name plain_uints uint 0 p (λ v e. located_uint _)) (λ uints n.
    located_refused p (nat_le (bytes + uints) most) (record { uints = uints; bytes = bytes }) what.SchemaSize (λ out. inl (large (then _ _ _ _ is (then _ _ _ _ b (then _ _ _ _ n out))))))))
