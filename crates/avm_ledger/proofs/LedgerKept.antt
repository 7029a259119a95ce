-- A ledger that is read keeps the rules.
use Rattle.std.proofs.Common.{◌≡◌, ℕ, zero, suc, ◌+◌, ◌^◌, ◌<◌, ◌≤◌, Bool, true, false, cond, eqb, ltb, leb, ◌&&◌, List, [], ◌∷◌, length, Option, Some, None, Result, Ok, Err, All, refl, sym, subst, arith}
use Rattle.std.specs.Ordering.{nat_cmp, is_lt}
use Rattle.std.specs.declared.cmp.Ordering.{Ordering}
use Rattle.std.specs.declared.cmp.Ordering.TheVariants.{Less, Equal, Greater}
use Rattle.std.specs.List.{AllByRecursion}
use Rattle.std.specs.List.Sorted.{IsStrictlySortedBy}
use Rattle.std.specs.Map.{keys_of}
use Rattle.std.specs.Int.{w8, w32, w64}
use Rattle.std.specs.Prelude.{is_ok}
use Rattle.std.proofs.lemmas.Bool.{ltb-true, leb-true, lt-ltb}
use Rattle.std.proofs.lemmas.Cmp.{nat_cmp_total, nat_list_cmp_total}
use Rattle.std.proofs.lemmas.List.Elements.{All-nil, All-cons}
use Rattle.teal_value.specs.declared.value.Value.{Value}
use Rattle.teal_value.specs.declared.value.Value.TheVariants.{Uint, Bytes}
use Rattle.teal_value.specs.declared.address.Address.{Address}
use Rattle.teal_check.specs.WellFormed.{checked}
use Rattle.avm_ledger.specs.declared.ledger_fault.LedgerFault.TheVariants.{Malformed, Truncated, Rest}
use Rattle.avm_states.specs.declared.schema.Schema.{Schema}
use Rattle.avm_states.specs.Entries.{Entries, byte_cmp}
use Rattle.avm_ledger.specs.declared.application.Application.{Application}
use Rattle.avm_ledger.specs.declared.application.StoredApplication.{StoredApplication}
use Rattle.avm_ledger.specs.Ledgers.{Ledger, account_cmp}
use Rattle.avm_states.specs.Schemas.{count_with, count_without, counts_in}
use Rattle.avm_ledger.specs.FieldReader.{number_at, short_string_at, string_at, address_at, schema_at, alone}
use Rattle.avm_ledger.specs.LedgerReader.{tested, Room, local_room, room_of_schema, stored_in, rises_from_key, key_at, uint_at, bytes_value_at, value_of_kind, value_at, entries_at, state_of_count, state_at, limited_schema_at, program_at, schemas_at, row_at, stored_application_at, id_between, applications_at, rises_from_pair, is_no_lower, account_at, local_id_at, local_states_at, next_id_at, ledger_front, ledger_at}
use Rattle.avm_ledger.specs.LedgerRules.{IsStateValue, IsStateEntry, IsStateIn, IsRow, IsApplicationBelow, IsLocalStateBelow, KeepsRules, IsCountable}
use Rattle.avm_states.proofs.Maps.{all_below}
use Rattle.avm_ledger.proofs.Changes.{account_total}
use Rattle.teal_code.proofs.Bytes.{AllBytes, all_bytes}
use Rattle.avm_ledger.proofs.FieldsEncoded.{from, same_value, byte_encoded, u32_encoded}
use Rattle.avm_ledger.proofs.FieldsFit.{u32_fits, u64_fits, address_fits}
use Rattle.avm_ledger.proofs.LedgerEncoded.{key_encoded, value_encoded, entries_encoded, state_encoded, row_encoded, stored_encoded, id_encoded, applications_encoded, account_encoded, local_id_encoded, local_states_encoded, next_id_encoded, and_first, if_kept, at_end}

-- a field that keeps its rule
pub rule_kept : {A : Type 0} (rule : A × List ℕ → Bool) (x y : A × List ℕ) → tested (rule x) x ≡ Ok y → (rule y ≡ true) × (x ≡ y)
rule_kept rule x y e = at_test (rule x) refl e
  where
    at_test : (b : Bool) → rule x ≡ b → tested b x ≡ Ok y → (rule y ≡ true) × (x ≡ y)
    at_test true test e = let same : x ≡ y = same_value _ _ e in (subst (λ z. rule z ≡ true) same test, same)
    at_test false test e = absurd cc

pub and_second : (a b : Bool) → (a && b) ≡ true → b ≡ true
and_second true b e = e
and_second false b e = absurd cc

-- what is tested as less is less
pub less : (o : Ordering) → is_lt o ≡ true → o ≡ Less
less Less e = refl
less Equal e = absurd cc
less Greater e = absurd cc

passed_rule : {A F : Type 0} (rule : Bool) (r : Result A F) (d : F) (x : A) → cond rule r (Err d) ≡ Ok x → rule ≡ true
passed_rule true r d x e = refl
passed_rule false r d x e = absurd cc

-- ---- states

abbrev HasRoom : Value → Schema → Type 0
HasRoom (Uint n) left = 0 < left.uints
HasRoom (Bytes s) left = 0 < left.bytes

-- a value that is read may stand in a state
pub value_kept : (left : Schema) (bytes : List ℕ) (x : Value × List ℕ) → AllBytes bytes → value_at left bytes ≡ Ok x → IsStateValue x.0 × HasRoom x.0 left
value_kept left bytes x all e =
    from (number_at Truncated w8 bytes) (value_of_kind left) x e (λ n en e1. at_uint n (byte_encoded Truncated bytes n all en).rest_are_bytes (eqb n.0 1 && ltb 0 left.uints) refl e1)
  where
    uint_value : (n : ℕ × List ℕ) → AllBytes n.1 → ltb 0 left.uints ≡ true → uint_at n.1 ≡ Ok x → IsStateValue x.0 × HasRoom x.0 left
    uint_value n all room e =
        from (number_at Truncated w64 n.1) _ x e (λ m em e1.
        let is : ◌≡◌ {A = Value × List ℕ} (Uint m.0, m.1) x = same_value _ _ e1 in
        subst (λ p. IsStateValue p.0 × HasRoom p.0 left) is (u64_fits Truncated n.1 m all em, ltb-true 0 left.uints room))

    bytes_value : (n : ℕ × List ℕ) → ltb 0 left.bytes ≡ true → bytes_value_at n.1 ≡ Ok x → IsStateValue x.0 × HasRoom x.0 left
    bytes_value n room e =
        from (short_string_at Truncated n.1) _ x e (λ m em e1.
        let short : leb (length m.0) 64 ≡ true = passed_rule (leb (length m.0) 64) (Ok (Bytes m.0, m.1)) Malformed x e1 in
        let is : ◌≡◌ {A = Value × List ℕ} (Bytes m.0, m.1) x = same_value _ _ (if_kept (leb (length m.0) 64) (Ok (Bytes m.0, m.1)) Malformed x e1) in
        subst (λ p. IsStateValue p.0 × HasRoom p.0 left) is (leb-true (length m.0) 64 short, ltb-true 0 left.bytes room))

    at_bytes : (n : ℕ × List ℕ) (b : Bool) → (eqb n.0 2 && ltb 0 left.bytes) ≡ b → cond b (bytes_value_at n.1) (Err Malformed) ≡ Ok x → IsStateValue x.0 × HasRoom x.0 left
    at_bytes n true test e = bytes_value n (and_second _ _ test) e
    at_bytes n false test e = absurd cc

    at_uint : (n : ℕ × List ℕ) → AllBytes n.1 → (b : Bool) → (eqb n.0 1 && ltb 0 left.uints) ≡ b → cond b (uint_at n.1) (cond (eqb n.0 2 && ltb 0 left.bytes) (bytes_value_at n.1) (Err Malformed)) ≡ Ok x → IsStateValue x.0 × HasRoom x.0 left
    at_uint n all true test e = uint_value n all (and_second _ _ test) e
    at_uint n all false test e = at_bytes n (eqb n.0 2 && ltb 0 left.bytes) refl e

-- each key is above the one before
abbrev IsAbove : Option (List ℕ) → List (List ℕ) → Type 0
IsAbove None keys = Unit {0}
IsAbove (Some before) keys = AllByRecursion (λ k. byte_cmp before k ≡ Less) keys

record AreEntries (before : Option (List ℕ)) (left : Schema) (es : Entries) : Type 0 where
  above : IsAbove before (keys_of es)
  rising : IsStrictlySortedBy byte_cmp (keys_of es)
  entries : All IsStateEntry es
  uints : (counts_in es).uints ≤ left.uints
  strings : (counts_in es).bytes ≤ left.bytes

one_above : (before : Option (List ℕ)) (k : List ℕ) (ks : List (List ℕ)) → rises_from_key before k ≡ true → AllByRecursion (λ y. byte_cmp k y ≡ Less) ks → IsAbove before (k ∷ ks)
one_above None k ks rises above = tt
one_above (Some b) k ks rises above = let lower : byte_cmp b k ≡ Less = less _ rises in (lower, all_below nat_list_cmp_total b k ks lower above)

counts_more : (v : Value) (n left : Schema) → HasRoom v left → n.uints ≤ (count_without v left).uints → n.bytes ≤ (count_without v left).bytes → ((count_with v n).uints ≤ left.uints) × ((count_with v n).bytes ≤ left.bytes)
counts_more (Uint m) n left room u b = (omega arith, omega arith)
counts_more (Bytes s) n left room u b = (omega arith, omega arith)

entries_kept : (n : ℕ) (before : Option (List ℕ)) (left : Schema) (bytes : List ℕ) (x : Entries × List ℕ) → AllBytes bytes → entries_at n before left bytes ≡ Ok x → AreEntries before left x.0
unfolding IsStrictlySortedBy
entries_kept zero before left bytes x all e =
    let is : ◌≡◌ {A = Entries × List ℕ} ([], bytes) x = same_value _ _ e in
    subst (λ p. AreEntries before left p.0) is (record { above = none before; rising = tt; entries = All-nil IsStateEntry; uints = omega arith; strings = omega arith })
  where
    none : (o : Option (List ℕ)) → IsAbove o []
    none None = tt
    none (Some b) = tt
entries_kept (suc n) before left bytes x all e =
    from (key_at before bytes) _ x e (λ k ek e1.
    from (short_string_at Truncated bytes) _ k ek (λ s es t1.
    let key = rule_kept (λ z. leb (length z.0) 64 && rises_from_key before z.0) s k t1 in
    let encoded = key_encoded before bytes k all ek in
    from (value_at left k.1) _ x e1 (λ v ev e2.
    let value = value_kept left k.1 v encoded.rest_are_bytes ev in
    let behind = value_encoded left k.1 v encoded.rest_are_bytes ev in
    from (entries_at n (Some k.0) (count_without v.0 left) v.1) _ x e2 (λ m em e3.
    let more = entries_kept n (Some k.0) (count_without v.0 left) v.1 m behind.rest_are_bytes em in
    let counts = counts_more v.0 (counts_in m.0) left value.1 more.uints more.strings in
    let is : ◌≡◌ {A = Entries × List ℕ} ((k.0, v.0) ∷ m.0, m.1) x = same_value _ _ e3 in
    subst (λ p. AreEntries before left p.0) is (record {
      above = one_above before k.0 (keys_of m.0) (and_second _ _ key.0) more.above;
      rising = (more.above, more.rising);
      entries = All-cons IsStateEntry (k.0, v.0) m.0 (leb-true (length k.0) 64 (and_first _ _ key.0), value.0) more.entries;
      uints = counts.0;
      strings = counts.1;
    })))))

-- a state that is read is one that there is room for
pub state_kept : (room : Room) (bytes : List ℕ) (x : Entries × List ℕ) → AllBytes bytes → state_at room bytes ≡ Ok x → IsStateIn room x.0
state_kept room bytes x all e =
    from (number_at Truncated w8 bytes) (state_of_count room) x e (λ n en e1.
    let few : leb n.0 room.entries ≡ true = passed_rule (leb n.0 room.entries) (entries_at n.0 None room.kinds n.1) Malformed x e1 in
    let read : entries_at n.0 None room.kinds n.1 ≡ Ok x = if_kept (leb n.0 room.entries) _ Malformed x e1 in
    let rest = (byte_encoded Truncated bytes n all en).rest_are_bytes in
    let are = entries_kept n.0 None room.kinds n.1 x rest read in
    let count : length x.0 ≡ n.0 = (entries_encoded n.0 None room.kinds n.1 x rest read).1 in
    record { rising = are.rising; entries = are.entries; few = subst (λ m. m ≤ room.entries) (sym count) (leb-true n.0 room.entries few); uints = are.uints; strings = are.strings })

-- ---- applications

-- a schema that is read is within the limit, and a program is checked
pub schema_kept : (most : ℕ) (bytes : List ℕ) (x : Schema × List ℕ) → limited_schema_at most bytes ≡ Ok x → x.0.uints + x.0.bytes ≤ most
schema_kept most bytes x e =
    from (schema_at Truncated bytes) _ x e (λ s es e1. leb-true _ most (rule_kept (λ z. leb (z.0.uints + z.0.bytes) most) s x e1).0)

pub program_kept : (bytes : List ℕ) (x : List ℕ × List ℕ) → program_at bytes ≡ Ok x → is_ok (checked x.0) ≡ true
program_kept bytes x e = from (string_at Truncated bytes) _ x e (λ p ep e1. (rule_kept (λ z. is_ok (checked z.0)) p x e1).0)

-- an id that is read is above the one before and below the next id
pub id_kept : (before next : ℕ) (bytes : List ℕ) (x : ℕ × List ℕ) → id_between before next bytes ≡ Ok x → (before < x.0) × (x.0 < next)
id_kept before next bytes x e =
    from (number_at Truncated w64 bytes) _ x e (λ i ei e1.
    let rule = (rule_kept (λ z. ltb before z.0 && ltb z.0 next) i x e1).0 in
    (ltb-true before x.0 (and_first _ _ rule), ltb-true x.0 next (and_second _ _ rule)))

schemas_kept : (bytes : List ℕ) (x : (Schema × Schema) × List ℕ) → schemas_at bytes ≡ Ok x → (x.0.0.uints + x.0.0.bytes ≤ 64) × (x.0.1.uints + x.0.1.bytes ≤ 16)
schemas_kept bytes x e =
    from (limited_schema_at 64 bytes) _ x e (λ g eg e1.
    from (limited_schema_at 16 g.1) _ x e1 (λ l el e2.
    let is : ◌≡◌ {A = (Schema × Schema) × List ℕ} ((g.0, l.0), l.1) x = same_value _ _ e2 in
    subst (λ p. (p.0.0.uints + p.0.0.bytes ≤ 64) × (p.0.1.uints + p.0.1.bytes ≤ 16)) is (schema_kept 64 bytes g eg, schema_kept 16 g.1 l el)))

-- an application without its global state that is read keeps the rules
pub row_kept : (bytes : List ℕ) (x : Application × List ℕ) → row_at bytes ≡ Ok x → IsRow x.0
row_kept bytes x e =
    from (address_at Truncated bytes) _ x e (λ a ea e1.
    from (program_at a.1) _ x e1 (λ b eb e2.
    from (program_at b.1) _ x e2 (λ c ec e3.
    from (schemas_at c.1) _ x e3 (λ s es e4.
    let schemas = schemas_kept c.1 s es in
    let row : Application = record { creator = a.0; approval = b.0; clear = c.0; global_schema = s.0.0; local_schema = s.0.1 } in
    let is : ◌≡◌ {A = Application × List ℕ} (row, s.1) x = same_value _ _ e4 in
    let keeps : IsRow row = record {
      creator = address_fits Truncated bytes a ea;
      approval = program_kept a.1 b eb;
      clear = program_kept b.1 c ec;
      global_schema = schemas.0;
      local_schema = schemas.1;
    } in
    subst (λ p. IsRow p.0) is keeps))))

stored_kept : (next id : ℕ) (bytes : List ℕ) (x : StoredApplication × List ℕ) → 1 ≤ id → id < next → AllBytes bytes → stored_application_at bytes ≡ Ok x → IsApplicationBelow next (id, x.0)
stored_kept next id bytes x positive below all e =
    from (row_at bytes) _ x e (λ r er e1.
    from (state_at (room_of_schema r.0.global_schema) r.1) _ x e1 (λ s es e2.
    let app : StoredApplication = record { row = r.0; state = s.0 } in
    let is : ◌≡◌ {A = StoredApplication × List ℕ} (app, s.1) x = same_value _ _ e2 in
    let state = state_kept (room_of_schema r.0.global_schema) r.1 s (row_encoded bytes r all er).rest_are_bytes es in
    subst (λ p. IsApplicationBelow next (id, p.0)) is (record { positive = positive; below = below; row = row_kept bytes r er; state = state })))

-- a number below another compares as less
pub nat_lower : (a b : ℕ) → a < b → nat_cmp a b ≡ Less
nat_lower a b lt = let test : ltb a b ≡ true = lt-ltb a b lt in rw test refl

pub record RiseAbove (before : ℕ) (apps : List (ℕ × StoredApplication)) : Type 0 where
  above : AllByRecursion (λ k. nat_cmp before k ≡ Less) (keys_of apps)
  pub rising : IsStrictlySortedBy nat_cmp (keys_of apps)

-- ids that are read rise, and are above the one before
pub applications_rise : (n before next : ℕ) (bytes : List ℕ) (x : List (ℕ × StoredApplication) × List ℕ) → applications_at n before next bytes ≡ Ok x → RiseAbove before x.0
unfolding IsStrictlySortedBy
applications_rise zero before next bytes x e =
    let is : ◌≡◌ {A = List (ℕ × StoredApplication) × List ℕ} ([], bytes) x = same_value _ _ e in
    subst (λ p. RiseAbove before p.0) is (record { above = tt; rising = tt })
applications_rise (suc n) before next bytes x e =
    from (id_between before next bytes) _ x e (λ i ei e1.
    from (stored_application_at i.1) _ x e1 (λ a ea e2.
    from (applications_at n i.0 next a.1) _ x e2 (λ m em e3.
    let more = applications_rise n i.0 next a.1 m em in
    let lower : nat_cmp before i.0 ≡ Less = nat_lower before i.0 (id_kept before next bytes i ei).0 in
    let is : ◌≡◌ {A = List (ℕ × StoredApplication) × List ℕ} ((i.0, a.0) ∷ m.0, m.1) x = same_value _ _ e3 in
    subst (λ p. RiseAbove before p.0) is (record { above = (lower, all_below nat_cmp_total before i.0 (keys_of m.0) lower more.above); rising = (more.above, more.rising) }))))

applications_kept : (n before next : ℕ) (bytes : List ℕ) (x : List (ℕ × StoredApplication) × List ℕ) → AllBytes bytes → applications_at n before next bytes ≡ Ok x → All (IsApplicationBelow next) x.0
applications_kept zero before next bytes x all e =
    let is : ◌≡◌ {A = List (ℕ × StoredApplication) × List ℕ} ([], bytes) x = same_value _ _ e in
    subst (λ p. All (IsApplicationBelow next) p.0) is (All-nil (IsApplicationBelow next))
applications_kept (suc n) before next bytes x all e =
    from (id_between before next bytes) _ x e (λ i ei e1.
    let id = id_kept before next bytes i ei in
    let behind = id_encoded before next bytes i all ei in
    from (stored_application_at i.1) _ x e1 (λ a ea e2.
    let app = stored_encoded i.1 a behind.rest_are_bytes ea in
    let positive : 1 ≤ i.0 = omega (arith, id.0) in
    let keeps = stored_kept next i.0 i.1 a positive id.1 behind.rest_are_bytes ea in
    from (applications_at n i.0 next a.1) _ x e2 (λ m em e3.
    let more = applications_kept n i.0 next a.1 m app.rest_are_bytes em in
    let is : ◌≡◌ {A = List (ℕ × StoredApplication) × List ℕ} ((i.0, a.0) ∷ m.0, m.1) x = same_value _ _ e3 in
    subst (λ p. All (IsApplicationBelow next) p.0) is (All-cons (IsApplicationBelow next) (i.0, a.0) m.0 keeps more))))

-- ---- local states

-- all pairs of an account and an application are above the pair before, if there is one
abbrev pub IsAbovePair : Option (Address × ℕ) → List (Address × ℕ) → Type 0
IsAbovePair None keys = Unit {0}
IsAbovePair (Some before) keys = AllByRecursion (λ k. account_cmp before k ≡ Less) keys

-- the account and application pairs of local states rise, and are above the pair before, if any
pub record RiseFrom (before : Option (Address × ℕ)) (states : List ((Address × ℕ) × Entries)) : Type 0 where
  pub above : IsAbovePair before (keys_of states)
  pub rising : IsStrictlySortedBy account_cmp (keys_of states)

pair_above : (before : Option (Address × ℕ)) (k : Address × ℕ) (ks : List (Address × ℕ)) → rises_from_pair before k ≡ true → AllByRecursion (λ y. account_cmp k y ≡ Less) ks → IsAbovePair before (k ∷ ks)
pair_above None k ks rises above = tt
pair_above (Some b) k ks rises above = let lower : account_cmp b k ≡ Less = less _ rises in (lower, all_below account_total b k ks lower above)

-- local states that are read rise, and are above the pair before
pub local_states_rise : (n : ℕ) (before : Option (Address × ℕ)) (next : ℕ) (apps : List (ℕ × StoredApplication)) (bytes : List ℕ) (x : List ((Address × ℕ) × Entries) × List ℕ) → local_states_at n before next apps bytes ≡ Ok x → RiseFrom before x.0
unfolding IsStrictlySortedBy
local_states_rise zero before next apps bytes x e =
    let is : ◌≡◌ {A = List ((Address × ℕ) × Entries) × List ℕ} ([], bytes) x = same_value _ _ e in
    subst (λ p. RiseFrom before p.0) is (record { above = none before; rising = tt })
  where
    none : (o : Option (Address × ℕ)) → IsAbovePair o []
    none None = tt
    none (Some b) = tt
local_states_rise (suc n) before next apps bytes x e =
    from (account_at before bytes) _ x e (λ a ea e1.
    from (local_id_at before next a.0 a.1) _ x e1 (λ i ei e2.
    from (id_between 0 next a.1) _ i ei (λ j ej t.
    let pair = rule_kept (λ z. rises_from_pair before (a.0, z.0)) j i t in
    from (state_at (local_room (stored_in apps i.0)) i.1) _ x e2 (λ s es e3.
    from (local_states_at n (Some (a.0, i.0)) next apps s.1) _ x e3 (λ m em e4.
    let more = local_states_rise n (Some (a.0, i.0)) next apps s.1 m em in
    let is : ◌≡◌ {A = List ((Address × ℕ) × Entries) × List ℕ} (((a.0, i.0), s.0) ∷ m.0, m.1) x = same_value _ _ e4 in
    subst (λ p. RiseFrom before p.0) is (record { above = pair_above before (a.0, i.0) (keys_of m.0) pair.0 more.above; rising = (more.above, more.rising) }))))))

local_states_kept : (n : ℕ) (before : Option (Address × ℕ)) (next : ℕ) (apps : List (ℕ × StoredApplication)) (bytes : List ℕ) (x : List ((Address × ℕ) × Entries) × List ℕ) → AllBytes bytes → local_states_at n before next apps bytes ≡ Ok x
    → All (IsLocalStateBelow next apps) x.0
local_states_kept zero before next apps bytes x all e =
    let is : ◌≡◌ {A = List ((Address × ℕ) × Entries) × List ℕ} ([], bytes) x = same_value _ _ e in
    subst (λ p. All (IsLocalStateBelow next apps) p.0) is (All-nil (IsLocalStateBelow next apps))
local_states_kept (suc n) before next apps bytes x all e =
    from (account_at before bytes) _ x e (λ a ea e1.
    let who = account_encoded before bytes a all ea in
    from (address_at Truncated bytes) _ a ea (λ w ew t1.
    let account : length a.0.0 ≡ 32 = subst (λ p. length p.0.0 ≡ 32) (rule_kept (λ z. is_no_lower before z.0) w a t1).1 (address_fits Truncated bytes w ew) in
    from (local_id_at before next a.0 a.1) _ x e1 (λ i ei e2.
    let id = local_id_encoded before next a.0 a.1 i who.rest_are_bytes ei in
    from (id_between 0 next a.1) _ i ei (λ j ej t2.
    let pair = rule_kept (λ z. rises_from_pair before (a.0, z.0)) j i t2 in
    let between : (0 < i.0) × (i.0 < next) = subst (λ p. (0 < p.0) × (p.0 < next)) pair.1 (id_kept 0 next a.1 j ej) in
    let positive : 1 ≤ i.0 = omega (arith, between.0) in
    from (state_at (local_room (stored_in apps i.0)) i.1) _ x e2 (λ s es e3.
    let state = state_encoded (local_room (stored_in apps i.0)) i.1 s id.rest_are_bytes es in
    let keeps = state_kept (local_room (stored_in apps i.0)) i.1 s id.rest_are_bytes es in
    from (local_states_at n (Some (a.0, i.0)) next apps s.1) _ x e3 (λ m em e4.
    let more = local_states_kept n (Some (a.0, i.0)) next apps s.1 m state.rest_are_bytes em in
    let one : IsLocalStateBelow next apps ((a.0, i.0), s.0) = record { positive = positive; below = between.1; account = account; state = keeps } in
    let is : ◌≡◌ {A = List ((Address × ℕ) × Entries) × List ℕ} (((a.0, i.0), s.0) ∷ m.0, m.1) x = same_value _ _ e4 in
    subst (λ p. All (IsLocalStateBelow next apps) p.0) is (All-cons (IsLocalStateBelow next apps) ((a.0, i.0), s.0) m.0 one more)))))))

-- ---- ledgers

-- a next id that is read is one
pub next_id_kept : (bytes : List ℕ) (x : ℕ × List ℕ) → AllBytes bytes → next_id_at bytes ≡ Ok x → (1 ≤ x.0) × (x.0 < 2 ^ 64)
next_id_kept bytes x all e =
    from (number_at Truncated w64 bytes) _ x e (λ k ek e1.
    let positive = rule_kept (λ z. leb 1 z.0) k x e1 in
    (leb-true 1 x.0 positive.0, subst (λ p. p.0 < 2 ^ 64) positive.1 (u64_fits Truncated bytes k all ek)))

front_kept : (bytes : List ℕ) (x : Ledger × List ℕ) → AllBytes bytes → ledger_front bytes ≡ Ok x → KeepsRules x.0 × IsCountable x.0
front_kept bytes x all e =
    from (next_id_at bytes) _ x e (λ n en e1.
    let next = next_id_encoded bytes n all en in
    let id = next_id_kept bytes n all en in
    from (number_at Truncated w32 n.1) _ x e1 (λ c ec e2.
    let count = u32_encoded Truncated n.1 c next.rest_are_bytes ec in
    from (applications_at c.0 0 n.0 c.1) _ x e2 (λ a ea e3.
    let apps = applications_encoded c.0 0 n.0 c.1 a count.rest_are_bytes ea in
    let kept_apps = applications_kept c.0 0 n.0 c.1 a count.rest_are_bytes ea in
    from (number_at Truncated w32 a.1) _ x e3 (λ d ed e4.
    let states = u32_encoded Truncated a.1 d apps.0.rest_are_bytes ed in
    from (local_states_at d.0 None n.0 a.0 d.1) _ x e4 (λ s es e5.
    let locals = local_states_encoded d.0 None n.0 a.0 d.1 s states.rest_are_bytes es in
    let kept_states = local_states_kept d.0 None n.0 a.0 d.1 s states.rest_are_bytes es in
    let l : Ledger = record { next_id = n.0; applications = a.0; local_states = s.0 } in
    let is : ◌≡◌ {A = Ledger × List ℕ} (l, s.1) x = same_value _ _ e5 in
    let rules : KeepsRules l = record {
      next_id = id.0;
      small = id.1;
      rising_ids = (applications_rise c.0 0 n.0 c.1 a ea).rising;
      applications = kept_apps;
      rising_accounts = (local_states_rise d.0 None n.0 a.0 d.1 s es).rising;
      local_states = kept_states;
    } in
    let few : IsCountable l = record {
      applications = subst (λ m. m < 2 ^ 32) (sym apps.1) (u32_fits Truncated n.1 c next.rest_are_bytes ec);
      local_states = subst (λ m. m < 2 ^ 32) (sym locals.1) (u32_fits Truncated a.1 d apps.0.rest_are_bytes ed);
    } in
    subst (λ p. KeepsRules p.0 × IsCountable p.0) is (rules, few))))))

-- a ledger that is read keeps the rules, and four bytes count its applications and local states
pub ledger_kept : (bytes : List ℕ) (l : Ledger) → All (λ b. b < 256) bytes → ledger_at bytes ≡ Ok l → KeepsRules l × IsCountable l
ledger_kept bytes l all e =
    from (ledger_front bytes) (alone Rest) l e (λ f ef e1.
    subst (λ m. KeepsRules m × IsCountable m) (at_end l f.0 f.1 (eqb (length f.1) 0) refl e1).0 (front_kept bytes f (all_bytes bytes all) ef))
