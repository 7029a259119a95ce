-- The counts of a state follow its entries: one value more or less, whatever stands before it.
use Rattle.std.proofs.Common.{◌≡◌, ◌<◌, ◌≤◌, ◌+◌, ◌^◌, ℕ, Bool, true, false, List, [], ◌∷◌, length, Option, None, Some, refl, sym, ap, ◌∙◌, subst, cond, arith}
use Rattle.std.specs.Ordering.{is_eq, match_ordering}
use Rattle.std.specs.declared.cmp.Ordering.{Ordering}
use Rattle.std.specs.declared.cmp.Ordering.TheVariants.{Less, Equal, Greater}
use Rattle.std.specs.Map.{keys_of}
use Rattle.std.specs.List.{All, AllByRecursion}
use Rattle.std.specs.BTreeMap.{is_at}
use Rattle.std.proofs.lemmas.List.Elements.{All-head, All-nil, All-tail}
use Rattle.std.proofs.lemmas.Map.Views.{All-keys-insert_entry, All-map-remove_entry}
use Rattle.std.specs.List.Sorted.{IsStrictlySortedBy}
use Rattle.teal_value.specs.declared.value.Value.{Value}
use Rattle.teal_value.specs.declared.value.Value.TheVariants.{Uint, Bytes}
use Rattle.avm_states.specs.declared.schema.Schema.{Schema}
use Rattle.avm_states.specs.Entries.{Entries, byte_cmp, value_of_key, with_entry, without_entry, IsInKeyOrder}
use Rattle.avm_states.specs.Schemas.{IsCounted, no_entries, count_with, count_without, counts_in, uncounted, counts_after, keeps_kind}
use Rattle.avm_states.proofs.Maps.{below_none, all_below, is_Equal}
use Rattle.avm_states.proofs.KeyOrder.{byte_same, byte_total}

-- a state without entries has no uints and no byte strings, and is in order
pub none_counted : IsCounted [] (record { uints = 0; bytes = 0 }) × IsInKeyOrder []
unfolding IsStrictlySortedBy
none_counted = (record { counts = refl; room = omega arith; keys = All-nil _ }, tt)

-- ---- on counts alone

schema_is : (s t : Schema) → s.uints ≡ t.uints → s.bytes ≡ t.bytes → s ≡ t
schema_is s t u b = λ i. record { uints = u i; bytes = b i }

with_without : (v : Value) (n : Schema) → count_without v (count_with v n) ≡ n
with_without (Uint a) n = schema_is _ _ (omega arith) refl
with_without (Bytes a) n = schema_is _ _ refl (omega arith)

-- one of the value's kind is counted
abbrev Counts : Value → Schema → Type 0
Counts (Uint a) n = 0 < n.uints
Counts (Bytes a) n = 0 < n.bytes

abbrev CountsIfThere : Option Value → Schema → Type 0
CountsIfThere None n = Unit {0}
CountsIfThere (Some v) n = Counts v n

without_with : (v : Value) (n : Schema) → Counts v n → count_with v (count_without v n) ≡ n
without_with (Uint a) n h = schema_is _ _ (omega arith) refl
without_with (Bytes a) n h = schema_is _ _ refl (omega arith)

without_first : (v w : Value) (n : Schema) → Counts v n → count_without v (count_with w n) ≡ count_with w (count_without v n)
without_first (Uint a) (Uint b) n h = schema_is _ _ (omega arith) refl
without_first (Uint a) (Bytes b) n h = refl
without_first (Bytes a) (Uint b) n h = refl
without_first (Bytes a) (Bytes b) n h = schema_is _ _ refl (omega arith)

uncounted_first : (o : Option Value) (w : Value) (n : Schema) → CountsIfThere o n → uncounted o (count_with w n) ≡ count_with w (uncounted o n)
uncounted_first None w n h = refl
uncounted_first (Some v) w n h = without_first v w n h

with_first : (v w : Value) (n : Schema) → count_with v (count_with w n) ≡ count_with w (count_with v n)
with_first (Uint a) (Uint b) n = refl
with_first (Uint a) (Bytes b) n = refl
with_first (Bytes a) (Uint b) n = refl
with_first (Bytes a) (Bytes b) n = refl

counted_more : (v w : Value) (n : Schema) → Counts v n → Counts v (count_with w n)
counted_more (Uint a) (Uint b) n h = omega arith
counted_more (Uint a) (Bytes b) n h = h
counted_more (Bytes a) (Uint b) n h = h
counted_more (Bytes a) (Bytes b) n h = omega arith

counted_itself : (v : Value) (n : Schema) → Counts v (count_with v n)
counted_itself (Uint a) n = omega arith
counted_itself (Bytes a) n = omega arith

more_if_there : (o : Option Value) (w : Value) (n : Schema) → CountsIfThere o n → CountsIfThere o (count_with w n)
more_if_there None w n h = tt
more_if_there (Some v) w n h = counted_more v w n h

-- ---- on entries

found_by : (e : List ℕ × Value) (n : Schema) (o : Option Value) → CountsIfThere o n → (b : Bool) → CountsIfThere (cond b (Some e.1) o) (count_with e.1 n)
found_by e n o h true = counted_itself e.1 n
found_by e n o h false = more_if_there o e.1 n h

-- a value that is found is counted
found_is_counted : (state : Entries) (key : List ℕ) → CountsIfThere (value_of_key state key) (counts_in state)
found_is_counted [] key = tt
found_is_counted (e ∷ es) key = found_by e (counts_in es) (value_of_key es key) (found_is_counted es key) (is_eq (byte_cmp key e.0))

put_by : (key : List ℕ) (v : Value) (e : List ℕ × Value) (es : Entries) → AllByRecursion (λ y. byte_cmp e.0 y ≡ Less) (keys_of es)
    → counts_in (with_entry es key v) ≡ counts_after (value_of_key es key) (Some v) (counts_in es) → (r : Ordering) → byte_cmp key e.0 ≡ r
    → counts_in (match_ordering r ((key, v) ∷ e ∷ es) ((e.0, v) ∷ es) (e ∷ with_entry es key v)) ≡ counts_after (value_of_key (e ∷ es) key) (Some v) (counts_in (e ∷ es))
put_by key v e es above h Less is =
    let none : value_of_key (e ∷ es) key ≡ None = below_none byte_total key (e ∷ es) (is, all_below byte_total key e.0 (keys_of es) is above) in
    sym (ap (λ o. counts_after o (Some v) (counts_in (e ∷ es))) none)
put_by key v e es above h Equal is =
    let some : value_of_key (e ∷ es) key ≡ Some e.1 = ap (λ s. cond (is_eq s) (Some e.1) (value_of_key es key)) is in
    sym (ap (count_with v) (with_without e.1 (counts_in es))) ∙ sym (ap (λ o. counts_after o (Some v) (counts_in (e ∷ es))) some)
put_by key v e es above h Greater is =
    let rest : value_of_key (e ∷ es) key ≡ value_of_key es key = ap (λ s. cond (is_eq s) (Some e.1) (value_of_key es key)) is in
    ap (count_with e.1) h
    ∙ with_first e.1 v (uncounted (value_of_key es key) (counts_in es))
    ∙ sym (ap (count_with v) (uncounted_first (value_of_key es key) e.1 (counts_in es) (found_is_counted es key)))
    ∙ sym (ap (λ o. counts_after o (Some v) (counts_in (e ∷ es))) rest)

-- the counts after a put follow from the counts before, the old value and the new one
pub follow_puts : (state : Entries) (key : List ℕ) (v : Value) → IsInKeyOrder state → counts_in (with_entry state key v) ≡ counts_after (value_of_key state key) (Some v) (counts_in state)
unfolding IsStrictlySortedBy
follow_puts [] key v s = refl
follow_puts (e ∷ es) key v s = put_by key v e es s.0 (follow_puts es key v s.1) (byte_cmp key e.0) refl

delete_by : (key : List ℕ) (e : List ℕ × Value) (es : Entries) → counts_in (without_entry es key) ≡ counts_after (value_of_key es key) None (counts_in es) → (b : Bool)
    → counts_in (cond b es (e ∷ without_entry es key)) ≡ counts_after (cond b (Some e.1) (value_of_key es key)) None (counts_in (e ∷ es))
delete_by key e es h true = sym (with_without e.1 (counts_in es))
delete_by key e es h false = ap (count_with e.1) h ∙ sym (uncounted_first (value_of_key es key) e.1 (counts_in es) (found_is_counted es key))

-- the counts after a delete follow from the counts before and the old value
pub follow_deletes : (state : Entries) (key : List ℕ) → counts_in (without_entry state key) ≡ counts_after (value_of_key state key) None (counts_in state)
follow_deletes [] key = refl
follow_deletes (e ∷ es) key = delete_by key e es (follow_deletes es key) (is_eq (byte_cmp key e.0))

same_kind_counts : (o : Option Value) (v : Value) (n : Schema) → CountsIfThere o n → keeps_kind o (Some v) ≡ true → counts_after o (Some v) n ≡ n
same_kind_counts None v n h k = absurd cc
same_kind_counts (Some (Uint a)) (Uint b) n h k = without_with (Uint a) n h
same_kind_counts (Some (Bytes a)) (Bytes b) n h k = without_with (Bytes a) n h
same_kind_counts (Some (Uint a)) (Bytes b) n h k = absurd cc
same_kind_counts (Some (Bytes a)) (Uint b) n h k = absurd cc

-- putting a value of the old one's kind leaves the counts as they were
pub stay_with_kind : (state : Entries) (key : List ℕ) (v : Value) → IsInKeyOrder state → keeps_kind (value_of_key state key) (Some v) ≡ true → counts_in (with_entry state key v) ≡ counts_in state
stay_with_kind state key v s k = follow_puts state key v s ∙ same_kind_counts (value_of_key state key) v (counts_in state) (found_is_counted state key) k

-- ---- the counts that a state keeps

total-count_with : (v : Value) (n : Schema) (m : ℕ) → n.uints + n.bytes ≡ m → (count_with v n).uints + (count_with v n).bytes ≡ m + 1
total-count_with (Uint a) n m h = omega (arith, h)
total-count_with (Bytes a) n m h = omega (arith, h)

total-counts_in : (es : Entries) → (counts_in es).uints + (counts_in es).bytes ≡ length es
total-counts_in [] = refl
total-counts_in (e ∷ es) = omega (arith, total-count_with e.1 (counts_in es) (length es) (total-counts_in es))

-- the counts that a state keeps are each below 2 ^ 64
pub few : (es : Entries) (n : Schema) → IsCounted es n → (n.uints < 2 ^ 64) × (n.bytes < 2 ^ 64)
few es n h =
    let total : (counts_in es).uints + (counts_in es).bytes ≡ length es = total-counts_in es in
    let uints : (counts_in es).uints ≡ n.uints = ap (λ m. m.uints) h.counts in
    let bytes : (counts_in es).bytes ≡ n.bytes = ap (λ m. m.bytes) h.counts in
    let room = h.room in
    (omega arith, omega arith)

both : Schema → Schema → Schema
both n m = record { uints = n.uints + m.uints; bytes = n.bytes + m.bytes }

count_with-by_sum : (v : Value) (n : Schema) → count_with v n ≡ both n (count_with v no_entries)
unfolding both
count_with-by_sum (Uint a) n = schema_is _ _ refl (omega arith)
count_with-by_sum (Bytes a) n = schema_is _ _ (omega arith) refl

-- after a put the counts are those without the old value, and one more of the new value's kind
pub counted_after_put : (es es' : Entries) (key : List ℕ) (v : Value) (n rest count : Schema) (old : Option Value) → IsInKeyOrder es → IsCounted es n → es' ≡ with_entry es key v
    → old ≡ value_of_key es key → rest ≡ uncounted old n → count ≡ count_with v no_entries → length es' < 2 ^ 64 → length key ≤ 64
    → IsCounted es' (record { uints = rest.uints + count.uints; bytes = rest.bytes + count.bytes })
unfolding both
counted_after_put es es' key v n rest count old s h is was left one room short = record {
  counts = ap counts_in is ∙ follow_puts es key v s ∙ ap (λ m. counts_after (value_of_key es key) (Some v) m) h.counts
      ∙ ap (λ o. count_with v (uncounted o n)) (sym was) ∙ count_with-by_sum v (uncounted old n) ∙ sym (λ i. both (left i) (one i));
  room = room;
  keys = subst (λ xs. All (λ k. length k ≤ 64) (keys_of xs)) (sym is) (All-keys-insert_entry byte_cmp key v (λ k. length k ≤ 64) es h.keys short);
}

-- after a delete the counts are those without the old value
pub counted_after_delete : (es es' : Entries) (key : List ℕ) (n rest : Schema) (old : Option Value) → IsCounted es n → es' ≡ without_entry es key
    → old ≡ value_of_key es key → rest ≡ uncounted old n → length es' < 2 ^ 64 → IsCounted es' rest
counted_after_delete es es' key n rest old h is was left room = record {
  counts = ap counts_in is ∙ follow_deletes es key ∙ ap (uncounted (value_of_key es key)) h.counts ∙ ap (λ o. uncounted o n) (sym was) ∙ sym left;
  room = room;
  keys = subst (λ xs. All (λ k. length k ≤ 64) (keys_of xs)) (sym is) (All-map-remove_entry (is_at (byte_cmp key)) (λ e. e.0) (λ k. length k ≤ 64) es h.keys);
}

-- no key has more than 64 bytes
pub no_long_key : (es : Entries) (key : List ℕ) → All (λ k. length k ≤ 64) (keys_of es) → 64 < length key → value_of_key es key ≡ None
no_long_key [] key short long = refl
no_long_key (e ∷ es) key short long =
    at_key (no_long_key es key (All-tail (λ k. length k ≤ 64) e.0 (keys_of es) short) long) (is_eq (byte_cmp key e.0)) refl
  where
    at_key : value_of_key es key ≡ None → (b : Bool) → is_eq (byte_cmp key e.0) ≡ b → cond b (Some e.1) (value_of_key es key) ≡ None
    at_key later false other = later
    at_key later true same =
        let key_is : key ≡ e.0 = byte_same key e.0 (is_Equal (byte_cmp key e.0) same) in
        absurd (omega (arith, All-head (λ k. length k ≤ 64) e.0 (keys_of es) short, long, ap length key_is))
