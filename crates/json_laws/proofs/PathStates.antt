-- The paths of faults of states and programs.
use Rattle.std.proofs.Common.{◌≡◌, ℕ, ◌+◌, ◌<◌, ◌⊎◌, inl, inr, Bool, true, false, cond, ◌&&◌, List, [], ◌∷◌, length, Option, None, Some, Result, Ok, Err, refl, sym, ap, subst, ◌∙◌, arith}
use Rattle.std.specs.Ordering.{is_eq}
use Rattle.std.specs.Prelude.{◌==◌, is_some, codes, nat_le}
use Rattle.std.proofs.lemmas.Bool.{cond-false, eqb-false, leb-false}
use Rattle.teal_value.specs.Keys.{most_key_bytes}
use Rattle.teal_value.specs.declared.value.Value.{Value}
use Rattle.teal_value.specs.declared.value.Value.TheVariants.{Uint, Bytes}
use Rattle.teal_check.specs.declared.fault.CheckFault.{CheckFault}
use Rattle.teal_check.specs.WellFormed.{WellFormed, checked}
use Rattle.avm_states.proofs.Maps.{is_Equal, lookup-inserted_other}
use Rattle.avm_states.proofs.KeyOrder.{byte_same, byte_total}
use Rattle.avm_states.specs.Entries.{Entries, byte_cmp, most_value_bytes, value_of_key, with_entry}
use Rattle.avm_states.specs.Schemas.{counts_in, is_within}
use Rattle.avm_ledger.specs.LedgerReader.{Room}
use Rattle.json.specs.Json.{Json}
use Rattle.json.specs.Find.{at}
use Rattle.json_documents.specs.declared.document_fault.DocumentFault.TheVariants as what
use Rattle.json_documents.specs.Steps.{Step, at_index, at_name}
use Rattle.json_documents.specs.Faults.{Fault, here, in_step}
use Rattle.json_documents.specs.Members.{reject_unknown, member, required, optional}
use Rattle.json_documents.specs.Arrays.{each}
use Rattle.json_documents.specs.Plain.{bytes, uint}
use Rattle.json_documents.specs.Programs.{checked_code, given_or, if_checked, program}
use Rattle.json_documents.specs.States.{key, kind, kind_of, short_key, short_value, state, value, value_of_kind, with_key_value, within}
use Rattle.json_documents.specs.Tables.{key_value_names, value_names}
use Rattle.json_laws.specs.Paths.{Ends, table, value_at, IsRefusedState, IsWrong}
use Rattle.json_laws.proofs.AcceptedSteps.{same_value}
use Rattle.json_laws.proofs.PathSteps.{Spot, into, Located, bind_ok, known_object, needed_read, optional_read, then, located_bind, located_each, located_here, located_known, located_needed, located_optional, located_step}
use Rattle.json_laws.proofs.PathPlain.{located_bytes, located_if, located_of_bytes, located_of_uint, located_refused, located_uint}

-- ---- the kind of a value

kind_located : (s : Spot) (n : ℕ) (one two : Bool) → (n == 1) ≡ one → (n == 2) ≡ two → uint s.value ≡ Ok n → Located s (cond one (Ok true) (cond two (Ok false) (Err (here what.ValueType))))
kind_located s n true two p q e = record { located = tt }
kind_located s n false true p q e = record { located = tt }
kind_located s n false false p q e = located_here s _ (n, e, (eqb-false n 1 p, eqb-false n 2 q))

located_kind : (p : Spot) → Located p (kind p.value)
located_kind p = located_of_uint p kind_of (λ n e. kind_located p n (n == 1) (n == 2) refl refl e)

-- ---- values

-- a byte string that is too long is no default
long_located : (p : Spot) (s : List ℕ) → optional (codes "bytes") bytes [] p.value ≡ Ok s → Located p (short_value s)
long_located p s e = long_if (nat_le (length s) most_value_bytes) refl (optional_read (codes "bytes") bytes [] p.value s e)
  where
    long_if : (b : Bool) → nat_le (length s) most_value_bytes ≡ b → (s ≡ []) ⊎ ((v : Json) × (member (codes "bytes") p.value ≡ Some v) × (bytes v ≡ Ok s))
        → Located p (cond b (Ok (Bytes s)) (in_step (at_name (codes "bytes")) (Err (here what.TooLong))))
    long_if true is read = record { located = tt }
    long_if false is (inl none) = absurd (omega (arith, leb-false (length s) most_value_bytes is, ap length none))
    long_if false is (inr there) = located_step (at_name (codes "bytes")) refl p there.0 (Err (here what.TooLong)) there.1 (located_here (into p (at_name (codes "bytes")) there.0 there.1) _ ((p.path, refl), (s, there.2, leb-false (length s) most_value_bytes is)))

value_located : (p : Spot) (is_bytes : Bool) (s : List ℕ) (n : ℕ) → ((r : Result Value Fault) → value_of_kind is_bytes s n ≡ r → value p.value ≡ r) → optional (codes "bytes") bytes [] p.value ≡ Ok s → Located p (value_of_kind is_bytes s n)
value_located p true s n is e = bytes_if (n == 0) refl
  where
    bytes_if : (b : Bool) → (n == 0) ≡ b → Located p (cond b (short_value s) (Err (here what.OtherKind)))
    bytes_if true zero = long_located p s e
    bytes_if false other = located_here p _ (is (Err (here what.OtherKind)) (cond-false (n == 0) (short_value s) (Err (here what.OtherKind)) other))
value_located p false s n is e = located_refused p (length s == 0) (Uint n) what.OtherKind (is (Err (here what.OtherKind)))

located_value : (p : Spot) → value_names ≡ table p.path → Located p (value p.value)
located_value p at =
    located_bind p (reject_unknown value_names p.value) _ (located_known value_names p at) (λ u is.
    located_bind p (required (codes "type") kind p.value) _ (located_needed (codes "type") refl kind p (known_object value_names p.value u is) (λ v e. located_kind _)) (λ is_bytes k.
    located_bind p (optional (codes "bytes") bytes [] p.value) _ (located_optional (codes "bytes") refl bytes [] p (λ v e. located_bytes _)) (λ s e.
    located_bind p (optional (codes "uint") uint 0 p.value) _ (located_optional (codes "uint") refl uint 0 p (λ v e. located_uint _)) (λ n m.
    value_located p is_bytes s n (λ r last. then _ _ _ _ is (then _ _ _ _ k (then _ _ _ _ e (then _ _ _ _ m last)))) e))))

-- ---- keys

located_key : (p : Spot) → Ends (codes "key") p.path → Located p (key p.value)
located_key p ends = located_of_bytes p short_key (λ s e. located_if p (nat_le (length s) most_key_bytes) s what.KeyLength (λ long. (ends, (s, e, leb-false (length s) most_key_bytes long))))

short_is : (short : Bool) (s k : List ℕ) → cond short (Ok s) (Err (here what.KeyLength)) ≡ Ok k → s ≡ k
short_is true s k e = cc
short_is false s k e = absurd cc

key_is : (j : Json) (k : List ℕ) → key j ≡ Ok k → bytes j ≡ Ok k
key_is j k e =
    let read = bind_ok (bytes j) short_key k e in
    read.1 ∙ ap Ok (short_is (nat_le (length read.0) most_key_bytes) read.0 k read.2)

-- ---- states

-- the n-th element of the array to which these steps lead has the key k
abbrev HasKey : Json → List Step → ℕ → List ℕ → Type 0
HasKey j above n k = (u : Json) × (value_at (at_name (codes "key") ∷ (at_index n ∷ above)) j ≡ Some u) × (bytes u ≡ Ok k)

-- each key comes from one of the first i elements
record AreKeys (j : Json) (above : List Step) (i : ℕ) (entries : Entries) : Type 0 where
  comes : (k : List ℕ) → is_some (value_of_key entries k) ≡ true → (n : ℕ) × (n < i) × HasKey j above n k

-- the new key, or one of those before
among : (entries : Entries) (own k : List ℕ) (v : Value) (is : Bool) → is_eq (byte_cmp k own) ≡ is → is_some (value_of_key (with_entry entries own v) k) ≡ true → (k ≡ own) ⊎ (is_some (value_of_key entries k) ≡ true)
among entries own k v true is has = inl (byte_same k own (is_Equal (byte_cmp k own) is))
among entries own k v false is has = inr (ap is_some (sym (lookup-inserted_other byte_total k own v entries is)) ∙ has)

one_more : (j : Json) (above : List Step) (i : ℕ) (entries : Entries) (own : List ℕ) (v : Value) → AreKeys j above i entries → HasKey j above i own → AreKeys j above (i + 1) (with_entry entries own v)
one_more j above i entries own v are one = record {
  comes = λ k has. by k (among entries own k v (is_eq (byte_cmp k own)) refl has);
}
  where
    by : (k : List ℕ) → (k ≡ own) ⊎ (is_some (value_of_key entries k) ≡ true) → (n : ℕ) × (n < i + 1) × HasKey j above n k
    by k (inl same) = (i, omega arith, subst (HasKey j above i) (sym same) one)
    by k (inr old) = let there = are.comes k old in (there.0, omega (arith, there.1), there.2)

new_is : (entries all : Entries) (k : List ℕ) (v : Value) (twice : Bool) → cond twice (in_step (at_name (codes "key")) (Err (here what.Twice))) (Ok (with_entry entries k v)) ≡ Ok all → with_entry entries k v ≡ all
new_is entries all k v true e = absurd cc
new_is entries all k v false e = same_value (with_entry entries k v) all e

-- an element that was read adds its key
keys_on : (p : Spot) (i : ℕ) (entries all : Entries) (v : Json) → at i p.value ≡ Some v → AreKeys p.document p.path i entries → with_key_value entries v ≡ Ok all → AreKeys p.document p.path (i + 1) all
keys_on p i entries all v is are e =
    let u = bind_ok (reject_unknown key_value_names v) _ all e in
    let k = bind_ok (required (codes "key") key v) _ all u.2 in
    let value_is = bind_ok (required (codes "value") value v) _ all k.2 in
    let there = needed_read (codes "key") key v k.0 k.1 in
    subst (AreKeys p.document p.path (i + 1)) (new_is entries all k.0 value_is.0 (is_some (value_of_key entries k.0)) value_is.2)
    (one_more p.document p.path i entries k.0 value_is.0 are (there.0, (into (into p (at_index i) v is) (at_name (codes "key")) there.0 there.1).leads, key_is there.0 k.0 there.2))

no_keys : (j : Json) (above : List Step) → AreKeys j above 0 []
no_keys j above = record { comes = λ k has. absurd cc }

new_located : (p : Spot) (i : ℕ) (entries : Entries) (e : Json) (is : at i p.value ≡ Some e) (k : List ℕ) (v : Value) (twice : Bool) → AreKeys p.document p.path i entries → is_some (value_of_key entries k) ≡ twice → required (codes "key") key e ≡ Ok k
    → Located (into p (at_index i) e is) (cond twice (in_step (at_name (codes "key")) (Err (here what.Twice))) (Ok (with_entry entries k v)))
new_located p i entries e is k v true are has read =
    let there = needed_read (codes "key") key e k read in
    let first = are.comes k has in
    located_step (at_name (codes "key")) refl (into p (at_index i) e is) there.0 (Err (here what.Twice)) there.1
    (located_here (into (into p (at_index i) e is) (at_name (codes "key")) there.0 there.1) _ (inr (refl, (k, first.0, first.2.0, first.1, first.2.1, first.2.2, key_is there.0 k there.2))))
new_located p i entries e is k v false are has read = record { located = tt }

-- the i-th element of a state
located_key_value : (p : Spot) (i : ℕ) (entries : Entries) (e : Json) (is : at i p.value ≡ Some e) → key_value_names ≡ table p.path → AreKeys p.document p.path i entries → Located (into p (at_index i) e is) (with_key_value entries e)
located_key_value p i entries e is names are =
    located_bind (into p (at_index i) e is) (reject_unknown key_value_names e) _ (located_known key_value_names (into p (at_index i) e is) names) (λ u known_are.
    located_bind (into p (at_index i) e is) (required (codes "key") key e) _ (located_needed (codes "key") refl key (into p (at_index i) e is) (known_object key_value_names e u known_are) (λ w m. located_key (into (into p (at_index i) e is) (at_name (codes "key")) w m) (at_index i ∷ p.path, refl))) (λ k read.
    located_bind (into p (at_index i) e is) (required (codes "value") value e) _ (located_needed (codes "value") refl value (into p (at_index i) e is) (known_object key_value_names e u known_are) (λ w m. located_value (into (into p (at_index i) e is) (at_name (codes "value")) w m) refl)) (λ v m.
    new_located p i entries e is k v (is_some (value_of_key entries k)) are refl read)))

-- a fault of a state leads to where it says
pub located_state : (room : Room) (p : Spot) → key_value_names ≡ table p.path → (state room p.value ≡ Err (here what.Schema) → IsRefusedState p.document p.path p.value) → Located p (state room p.value)
unfolding state
located_state room p names full =
    located_bind p (each with_key_value [] p.value) (within room) (located_each (AreKeys p.document p.path) with_key_value [] p (record {
      begins = no_keys p.document p.path;
      goes_on = λ i x y v at are read. keys_on p i x y v at are read;
      reads = λ i entries v at before are. located_key_value p i entries v at names are;
    })) (λ entries e.
    located_refused p (nat_le (length entries) room.entries && is_within (counts_in entries) room.kinds) entries what.Schema (λ out. full (then _ _ _ _ e out)))

-- ---- programs

checked_located : (p : Spot) (code : List ℕ) (r : Result WellFormed CheckFault) → ((f : CheckFault) → r ≡ Err f → IsWrong p.document (what.Program f) p.path p.value) → Located p (if_checked code r)
checked_located p code (Ok w) h = record { located = tt }
checked_located p code (Err f) h = located_here p _ (h f refl)

-- a fault of code leads to the value that gives it
pub located_checked_code : (p : Spot) (code : List ℕ) → ((f : CheckFault) → checked code ≡ Err f → IsWrong p.document (what.Program f) p.path p.value) → Located p (checked_code code)
located_checked_code p code h = checked_located p code (checked code) h

pub located_program : (p : Spot) → Ends (codes "approval-program") p.path ⊎ Ends (codes "clear-state-program") p.path → Located p (program p.value)
located_program p ends = located_of_bytes p checked_code (λ code is. located_checked_code p code (λ f e. inl (ends, (code, is, e))))

-- a fault of a program that a source may give in place of a member leads to where that of the member does
pub located_given_or : (p : Spot) (o : Option (List ℕ)) (r : Result (List ℕ) Fault) → Located p r → Located p (given_or o r)
located_given_or p None r h = h
located_given_or p (Some code) r h = record { located = tt }
