-- A ledger that is read is encoded by the bytes.
use Rattle.std.proofs.Common.{◌≡◌, ℕ, zero, suc, ◌<◌, Bool, true, false, cond, eqb, ltb, ◌&&◌, List, [], ◌∷◌, ◌++◌, length, Option, Some, None, Result, Ok, Err, All, refl, sym, ap, subst, ◌∙◌}
use Rattle.std.specs.List.{flat_map}
use Rattle.std.specs.Int.{w8, w32, w64}
use Rattle.std.proofs.lemmas.Bool.{eqb-true}
use Rattle.std.proofs.lemmas.List.{append-nil, append_assoc, nil_from_length}
use Rattle.teal_value.specs.declared.value.Value.{Value}
use Rattle.teal_value.specs.declared.value.Value.TheVariants.{Uint, Bytes}
use Rattle.teal_value.specs.declared.address.Address.{Address}
use Rattle.avm_ledger.specs.declared.ledger_fault.LedgerFault.{LedgerFault}
use Rattle.avm_ledger.specs.declared.ledger_fault.LedgerFault.TheVariants.{Malformed, Truncated, Rest}
use Rattle.avm_states.specs.declared.schema.Schema.{Schema}
use Rattle.avm_states.specs.Entries.{Entries}
use Rattle.avm_ledger.specs.declared.application.Application.{Application}
use Rattle.avm_ledger.specs.declared.application.StoredApplication.{StoredApplication}
use Rattle.avm_ledger.specs.Ledgers.{Ledger}
use Rattle.avm_states.specs.Schemas.{count_without}
use Rattle.avm_ledger.specs.Encodings.{u8_bytes, u32_bytes, u64_bytes, short_string_bytes, string_bytes, counted_bytes, value_bytes, entry_bytes, state_bytes, schema_bytes, row_bytes, application_bytes, local_state_bytes, ledger_bytes}
use Rattle.avm_ledger.specs.FieldReader.{number_at, short_string_at, string_at, address_at, schema_at, alone}
use Rattle.avm_ledger.specs.LedgerReader.{tested, Room, local_room, room_of_schema, stored_in, key_at, uint_at, bytes_value_at, value_of_kind, value_at, entries_at, state_of_count, state_at, limited_schema_at, program_at, schemas_at, row_at, stored_application_at, id_between, applications_at, account_at, local_id_at, local_states_at, next_id_at, ledger_front, ledger_at}
use Rattle.teal_value.proofs.Binding.{bind_ok}
use Rattle.teal_code.proofs.Bytes.{AllBytes, all_bytes}
use Rattle.avm_ledger.proofs.FieldsEncoded.{from, same_value, one_more, IsEncoded, encoded, join, byte_encoded, u32_encoded, u64_encoded, short_string_encoded, string_encoded, address_encoded, schema_encoded}

-- a field that keeps its rule
pub kept : {A : Type 0} (rule : Bool) (x y : A × List ℕ) → tested rule x ≡ Ok y → x ≡ y
kept true x y e = same_value _ _ e
kept false x y e = absurd cc

-- ---- states

-- a key that is read is encoded by the first bytes
pub key_encoded : (before : Option (List ℕ)) (bytes : List ℕ) (x : List ℕ × List ℕ) → AllBytes bytes → key_at before bytes ≡ Ok x → IsEncoded bytes (short_string_bytes x.0) x.1
key_encoded before bytes x all e =
    let k = bind_ok (short_string_at Truncated bytes) _ x e in
    subst (λ p. IsEncoded bytes (short_string_bytes p.0) p.1) (kept _ k.0 x k.2) (short_string_encoded Truncated bytes k.0 all k.1)

pub and_first : (a b : Bool) → (a && b) ≡ true → a ≡ true
and_first true b e = refl
and_first false b e = absurd cc

-- what succeeds behind a rule succeeds without it
pub if_kept : {A F : Type 0} (rule : Bool) (r : Result A F) (d : F) (x : A) → cond rule r (Err d) ≡ Ok x → r ≡ Ok x
if_kept true r d x e = e
if_kept false r d x e = absurd cc

-- a value behind its kind
kind_encoded : (bytes : List ℕ) (n : ℕ × List ℕ) (left : Schema) (x : Value × List ℕ) → IsEncoded bytes (u8_bytes n.0) n.1 → value_of_kind left n ≡ Ok x → IsEncoded bytes (value_bytes x.0) x.1
kind_encoded bytes n left x is e = at_uint (eqb n.0 1 && ltb 0 left.uints) refl e
  where
    uint_value : n.0 ≡ 1 → uint_at n.1 ≡ Ok x → IsEncoded bytes (value_bytes x.0) x.1
    uint_value one e =
        let m = bind_ok (number_at Truncated w64 n.1) _ x e in
        let word = u64_encoded Truncated n.1 m.0 is.rest_are_bytes m.1 in
        let same : ◌≡◌ {A = Value × List ℕ} (Uint m.0.0, m.0.1) x = same_value _ _ m.2 in
        let kind : IsEncoded bytes (1 ∷ []) n.1 = subst (λ k. IsEncoded bytes (u8_bytes k) n.1) one is in
        subst (λ p. IsEncoded bytes (value_bytes p.0) p.1) same (join bytes (1 ∷ []) n.1 (u64_bytes m.0.0) m.0.1 kind word)

    bytes_value : n.0 ≡ 2 → bytes_value_at n.1 ≡ Ok x → IsEncoded bytes (value_bytes x.0) x.1
    bytes_value two e =
        let m = bind_ok (short_string_at Truncated n.1) _ x e in
        let string = short_string_encoded Truncated n.1 m.0 is.rest_are_bytes m.1 in
        let same : ◌≡◌ {A = Value × List ℕ} (Bytes m.0.0, m.0.1) x = kept _ _ x m.2 in
        let kind : IsEncoded bytes (2 ∷ []) n.1 = subst (λ k. IsEncoded bytes (u8_bytes k) n.1) two is in
        subst (λ p. IsEncoded bytes (value_bytes p.0) p.1) same (join bytes (2 ∷ []) n.1 (short_string_bytes m.0.0) m.0.1 kind string)

    at_bytes : (b : Bool) → (eqb n.0 2 && ltb 0 left.bytes) ≡ b → cond b (bytes_value_at n.1) (Err Malformed) ≡ Ok x → IsEncoded bytes (value_bytes x.0) x.1
    at_bytes true test e = bytes_value (eqb-true n.0 2 (and_first _ _ test)) e
    at_bytes false test e = absurd cc

    at_uint : (b : Bool) → (eqb n.0 1 && ltb 0 left.uints) ≡ b → cond b (uint_at n.1) (cond (eqb n.0 2 && ltb 0 left.bytes) (bytes_value_at n.1) (Err Malformed)) ≡ Ok x → IsEncoded bytes (value_bytes x.0) x.1
    at_uint true test e = uint_value (eqb-true n.0 1 (and_first _ _ test)) e
    at_uint false test e = at_bytes (eqb n.0 2 && ltb 0 left.bytes) refl e

-- a value that is read is encoded by the first bytes
pub value_encoded : (left : Schema) (bytes : List ℕ) (x : Value × List ℕ) → AllBytes bytes → value_at left bytes ≡ Ok x → IsEncoded bytes (value_bytes x.0) x.1
value_encoded left bytes x all e =
    let n = bind_ok (number_at Truncated w8 bytes) (value_of_kind left) x e in
    kind_encoded bytes n.0 left x (byte_encoded Truncated bytes n.0 all n.1) n.2

-- entries that are read are encoded by the first bytes, and are as many as were asked for
pub entries_encoded : (n : ℕ) (before : Option (List ℕ)) (left : Schema) (bytes : List ℕ) (x : Entries × List ℕ) → AllBytes bytes → entries_at n before left bytes ≡ Ok x
    → IsEncoded bytes (flat_map entry_bytes x.0) x.1 × (length x.0 ≡ n)
entries_encoded zero before left bytes x all e =
    let is : ◌≡◌ {A = Entries × List ℕ} ([], bytes) x = same_value _ _ e in
    (subst (λ p. IsEncoded bytes (flat_map entry_bytes p.0) p.1) is (encoded bytes [] bytes all refl), sym (ap (λ p. length p.0) is))
entries_encoded (suc n) before left bytes x all e =
    from (key_at before bytes) _ x e (λ k ek e1.
    let key = key_encoded before bytes k all ek in
    from (value_at left k.1) _ x e1 (λ v ev e2.
    let value = value_encoded left k.1 v key.rest_are_bytes ev in
    from (entries_at n (Some k.0) (count_without v.0 left) v.1) _ x e2 (λ m em e3.
    let more = entries_encoded n (Some k.0) (count_without v.0 left) v.1 m value.rest_are_bytes em in
    let is : ◌≡◌ {A = Entries × List ℕ} ((k.0, v.0) ∷ m.0, m.1) x = same_value _ _ e3 in
    let entry = join bytes (short_string_bytes k.0) k.1 (value_bytes v.0) v.1 key value in (
      subst (λ p. IsEncoded bytes (flat_map entry_bytes p.0) p.1) is (one_more entry_bytes (k.0, v.0) m.0 bytes v.1 m.1 entry more.0),
      sym (ap (λ p. length p.0) is) ∙ ap suc more.1,
    ))))

pub state_encoded : (room : Room) (bytes : List ℕ) (x : Entries × List ℕ) → AllBytes bytes → state_at room bytes ≡ Ok x → IsEncoded bytes (state_bytes x.0) x.1
state_encoded room bytes x all e =
    let n = bind_ok (number_at Truncated w8 bytes) (state_of_count room) x e in
    let count = byte_encoded Truncated bytes n.0 all n.1 in
    let more = entries_encoded n.0.0 None room.kinds n.0.1 x count.rest_are_bytes (if_kept _ _ _ x n.2) in
    subst (λ m. IsEncoded bytes (u8_bytes m ++ flat_map entry_bytes x.0) x.1) (sym more.1) (join bytes (u8_bytes n.0.0) n.0.1 (flat_map entry_bytes x.0) x.1 count more.0)

-- ---- applications

pub limited_schema_encoded : (most : ℕ) (bytes : List ℕ) (x : Schema × List ℕ) → AllBytes bytes → limited_schema_at most bytes ≡ Ok x → IsEncoded bytes (schema_bytes x.0) x.1
limited_schema_encoded most bytes x all e =
    let s = bind_ok (schema_at Truncated bytes) _ x e in
    subst (λ p. IsEncoded bytes (schema_bytes p.0) p.1) (kept _ s.0 x s.2) (schema_encoded Truncated bytes s.0 all s.1)

pub program_encoded : (bytes : List ℕ) (x : List ℕ × List ℕ) → AllBytes bytes → program_at bytes ≡ Ok x → IsEncoded bytes (string_bytes x.0) x.1
program_encoded bytes x all e =
    let p = bind_ok (string_at Truncated bytes) _ x e in
    subst (λ q. IsEncoded bytes (string_bytes q.0) q.1) (kept _ p.0 x p.2) (string_encoded Truncated bytes p.0 all p.1)

schemas_encoded : (bytes : List ℕ) (x : (Schema × Schema) × List ℕ) → AllBytes bytes → schemas_at bytes ≡ Ok x → IsEncoded bytes (schema_bytes x.0.0 ++ schema_bytes x.0.1) x.1
schemas_encoded bytes x all e =
    from (limited_schema_at 64 bytes) _ x e (λ g eg e1.
    let global = limited_schema_encoded 64 bytes g all eg in
    from (limited_schema_at 16 g.1) _ x e1 (λ l el e2.
    let local = limited_schema_encoded 16 g.1 l global.rest_are_bytes el in
    let is : ◌≡◌ {A = (Schema × Schema) × List ℕ} ((g.0, l.0), l.1) x = same_value _ _ e2 in
    subst (λ p. IsEncoded bytes (schema_bytes p.0.0 ++ schema_bytes p.0.1) p.1) is (join bytes _ g.1 _ l.1 global local)))

-- an application without its global state that is read is encoded by the first bytes
pub row_encoded : (bytes : List ℕ) (x : Application × List ℕ) → AllBytes bytes → row_at bytes ≡ Ok x → IsEncoded bytes (row_bytes x.0) x.1
row_encoded bytes x all e =
    from (address_at Truncated bytes) _ x e (λ a ea e1.
    let creator = address_encoded Truncated bytes a all ea in
    from (program_at a.1) _ x e1 (λ b eb e2.
    let approval = program_encoded a.1 b creator.rest_are_bytes eb in
    from (program_at b.1) _ x e2 (λ c ec e3.
    let clear = program_encoded b.1 c approval.rest_are_bytes ec in
    from (schemas_at c.1) _ x e3 (λ s es e4.
    let schemas = schemas_encoded c.1 s clear.rest_are_bytes es in
    let row : Application = record { creator = a.0; approval = b.0; clear = c.0; global_schema = s.0.0; local_schema = s.0.1 } in
    let is : ◌≡◌ {A = Application × List ℕ} (row, s.1) x = same_value _ _ e4 in
    let programs = join bytes _ b.1 _ c.1 (join bytes _ a.1 _ b.1 creator approval) clear in
    subst (λ p. IsEncoded bytes (row_bytes p.0) p.1) is
    (subst (λ bs. IsEncoded bytes bs s.1) (sym (append_assoc _ (schema_bytes s.0.0) (schema_bytes s.0.1))) (join bytes _ c.1 _ s.1 programs schemas))))))

-- an application that is read is encoded by the first bytes
pub stored_encoded : (bytes : List ℕ) (x : StoredApplication × List ℕ) → AllBytes bytes → stored_application_at bytes ≡ Ok x → IsEncoded bytes (row_bytes x.0.row ++ state_bytes x.0.state) x.1
stored_encoded bytes x all e =
    from (row_at bytes) _ x e (λ r er e1.
    let row = row_encoded bytes r all er in
    from (state_at (room_of_schema r.0.global_schema) r.1) _ x e1 (λ s es e2.
    let state = state_encoded (room_of_schema r.0.global_schema) r.1 s row.rest_are_bytes es in
    let app : StoredApplication = record { row = r.0; state = s.0 } in
    let is : ◌≡◌ {A = StoredApplication × List ℕ} (app, s.1) x = same_value _ _ e2 in
    subst (λ p. IsEncoded bytes (row_bytes p.0.row ++ state_bytes p.0.state) p.1) is (join bytes _ r.1 _ s.1 row state)))

pub id_encoded : (before next : ℕ) (bytes : List ℕ) (x : ℕ × List ℕ) → AllBytes bytes → id_between before next bytes ≡ Ok x → IsEncoded bytes (u64_bytes x.0) x.1
id_encoded before next bytes x all e =
    let n = bind_ok (number_at Truncated w64 bytes) _ x e in
    subst (λ p. IsEncoded bytes (u64_bytes p.0) p.1) (kept _ n.0 x n.2) (u64_encoded Truncated bytes n.0 all n.1)

-- applications that are read are encoded by the first bytes, and are as many as were asked for
pub applications_encoded : (n before next : ℕ) (bytes : List ℕ) (x : List (ℕ × StoredApplication) × List ℕ) → AllBytes bytes → applications_at n before next bytes ≡ Ok x
    → IsEncoded bytes (flat_map application_bytes x.0) x.1 × (length x.0 ≡ n)
applications_encoded zero before next bytes x all e =
    let is : ◌≡◌ {A = List (ℕ × StoredApplication) × List ℕ} ([], bytes) x = same_value _ _ e in
    (subst (λ p. IsEncoded bytes (flat_map application_bytes p.0) p.1) is (encoded bytes [] bytes all refl), sym (ap (λ p. length p.0) is))
applications_encoded (suc n) before next bytes x all e =
    from (id_between before next bytes) _ x e (λ i ei e1.
    let id = id_encoded before next bytes i all ei in
    from (stored_application_at i.1) _ x e1 (λ a ea e2.
    let app = stored_encoded i.1 a id.rest_are_bytes ea in
    from (applications_at n i.0 next a.1) _ x e2 (λ m em e3.
    let more = applications_encoded n i.0 next a.1 m app.rest_are_bytes em in
    let is : ◌≡◌ {A = List (ℕ × StoredApplication) × List ℕ} ((i.0, a.0) ∷ m.0, m.1) x = same_value _ _ e3 in
    let both = join bytes (u64_bytes i.0) i.1 (row_bytes a.0.row ++ state_bytes a.0.state) a.1 id app in (
      subst (λ p. IsEncoded bytes (flat_map application_bytes p.0) p.1) is (one_more application_bytes (i.0, a.0) m.0 bytes a.1 m.1 both more.0),
      sym (ap (λ p. length p.0) is) ∙ ap suc more.1,
    ))))

-- ---- local states

pub account_encoded : (before : Option (Address × ℕ)) (bytes : List ℕ) (x : Address × List ℕ) → AllBytes bytes → account_at before bytes ≡ Ok x → IsEncoded bytes x.0.0 x.1
account_encoded before bytes x all e =
    let a = bind_ok (address_at Truncated bytes) _ x e in
    subst (λ p. IsEncoded bytes p.0.0 p.1) (kept _ a.0 x a.2) (address_encoded Truncated bytes a.0 all a.1)

pub local_id_encoded : (before : Option (Address × ℕ)) (next : ℕ) (who : Address) (bytes : List ℕ) (x : ℕ × List ℕ) → AllBytes bytes → local_id_at before next who bytes ≡ Ok x → IsEncoded bytes (u64_bytes x.0) x.1
local_id_encoded before next who bytes x all e =
    let i = bind_ok (id_between 0 next bytes) _ x e in
    subst (λ p. IsEncoded bytes (u64_bytes p.0) p.1) (kept _ i.0 x i.2) (id_encoded 0 next bytes i.0 all i.1)

-- local states that are read are encoded by the first bytes, and are as many as were asked for
pub local_states_encoded : (n : ℕ) (before : Option (Address × ℕ)) (next : ℕ) (apps : List (ℕ × StoredApplication)) (bytes : List ℕ) (x : List ((Address × ℕ) × Entries) × List ℕ) → AllBytes bytes → local_states_at n before next apps bytes ≡ Ok x
    → IsEncoded bytes (flat_map local_state_bytes x.0) x.1 × (length x.0 ≡ n)
local_states_encoded zero before next apps bytes x all e =
    let is : ◌≡◌ {A = List ((Address × ℕ) × Entries) × List ℕ} ([], bytes) x = same_value _ _ e in
    (subst (λ p. IsEncoded bytes (flat_map local_state_bytes p.0) p.1) is (encoded bytes [] bytes all refl), sym (ap (λ p. length p.0) is))
local_states_encoded (suc n) before next apps bytes x all e =
    from (account_at before bytes) _ x e (λ a ea e1.
    let who = account_encoded before bytes a all ea in
    from (local_id_at before next a.0 a.1) _ x e1 (λ i ei e2.
    let id = local_id_encoded before next a.0 a.1 i who.rest_are_bytes ei in
    from (state_at (local_room (stored_in apps i.0)) i.1) _ x e2 (λ s es e3.
    let state = state_encoded (local_room (stored_in apps i.0)) i.1 s id.rest_are_bytes es in
    from (local_states_at n (Some (a.0, i.0)) next apps s.1) _ x e3 (λ m em e4.
    let more = local_states_encoded n (Some (a.0, i.0)) next apps s.1 m state.rest_are_bytes em in
    let is : ◌≡◌ {A = List ((Address × ℕ) × Entries) × List ℕ} (((a.0, i.0), s.0) ∷ m.0, m.1) x = same_value _ _ e4 in
    let entry = join bytes _ i.1 _ s.1 (join bytes _ a.1 _ i.1 who id) state in (
      subst (λ p. IsEncoded bytes (flat_map local_state_bytes p.0) p.1) is (one_more local_state_bytes ((a.0, i.0), s.0) m.0 bytes s.1 m.1 entry more.0),
      sym (ap (λ p. length p.0) is) ∙ ap suc more.1,
    )))))

-- ---- ledgers

pub next_id_encoded : (bytes : List ℕ) (x : ℕ × List ℕ) → AllBytes bytes → next_id_at bytes ≡ Ok x → IsEncoded bytes (u64_bytes x.0) x.1
next_id_encoded bytes x all e =
    let n = bind_ok (number_at Truncated w64 bytes) _ x e in
    subst (λ p. IsEncoded bytes (u64_bytes p.0) p.1) (kept _ n.0 x n.2) (u64_encoded Truncated bytes n.0 all n.1)

-- a count, and so many
counted : {A : Type 0} (encoding : A → List ℕ) (bytes : List ℕ) (n : ℕ × List ℕ) (xs : List A) (rest : List ℕ) → IsEncoded bytes (u32_bytes n.0) n.1 → IsEncoded n.1 (flat_map encoding xs) rest → length xs ≡ n.0 → IsEncoded bytes (counted_bytes u32_bytes encoding xs) rest
counted encoding bytes n xs rest count more is =
    subst (λ m. IsEncoded bytes (u32_bytes m ++ flat_map encoding xs) rest) (sym is) (join bytes (u32_bytes n.0) n.1 (flat_map encoding xs) rest count more)

ledger_joined : (l : Ledger) (bytes a b rest : List ℕ) → IsEncoded bytes (u64_bytes l.next_id) a → IsEncoded a (counted_bytes u32_bytes application_bytes l.applications) b
    → IsEncoded b (counted_bytes u32_bytes local_state_bytes l.local_states) rest → IsEncoded bytes (ledger_bytes l) rest
ledger_joined l bytes a b rest next apps states = join bytes _ a _ rest next (join a _ b _ rest apps states)

front_encoded : (bytes : List ℕ) (x : Ledger × List ℕ) → AllBytes bytes → ledger_front bytes ≡ Ok x → IsEncoded bytes (ledger_bytes x.0) x.1
front_encoded bytes x all e =
    from (next_id_at bytes) _ x e (λ n en e1.
    let next = next_id_encoded bytes n all en in
    from (number_at Truncated w32 n.1) _ x e1 (λ c ec e2.
    let count = u32_encoded Truncated n.1 c next.rest_are_bytes ec in
    from (applications_at c.0 0 n.0 c.1) _ x e2 (λ a ea e3.
    let apps = applications_encoded c.0 0 n.0 c.1 a count.rest_are_bytes ea in
    from (number_at Truncated w32 a.1) _ x e3 (λ d ed e4.
    let states = u32_encoded Truncated a.1 d apps.0.rest_are_bytes ed in
    from (local_states_at d.0 None n.0 a.0 d.1) _ x e4 (λ s es e5.
    let locals = local_states_encoded d.0 None n.0 a.0 d.1 s states.rest_are_bytes es in
    let l : Ledger = record { next_id = n.0; applications = a.0; local_states = s.0 } in
    let is : ◌≡◌ {A = Ledger × List ℕ} (l, s.1) x = same_value _ _ e5 in
    subst (λ p. IsEncoded bytes (ledger_bytes p.0) p.1) is
    (ledger_joined l bytes n.1 a.1 s.1 next (counted application_bytes n.1 c a.0 a.1 count apps.0 apps.1) (counted local_state_bytes a.1 d s.0 s.1 states locals.0 locals.1)))))))

-- where a ledger is read, it is the one at the front, and no bytes stand behind it
pub at_end : (l m : Ledger) (rest : List ℕ) (b : Bool) → eqb (length rest) 0 ≡ b → ◌≡◌ {A = Result Ledger LedgerFault} (cond b (Ok m) (Err Rest)) (Ok l) → (m ≡ l) × (rest ≡ [])
at_end l m rest true test e = (same_value _ _ e, nil_from_length rest (eqb-true (length rest) 0 test))
at_end l m rest false test e = absurd cc

-- a ledger that is read is encoded by those very bytes
pub ledger_encoded : (bytes : List ℕ) (l : Ledger) → All (λ b. b < 256) bytes → ledger_at bytes ≡ Ok l → ledger_bytes l ≡ bytes
ledger_encoded bytes l all e =
    let f = bind_ok (ledger_front bytes) (alone Rest) l e in
    let front = front_encoded bytes f.0 (all_bytes bytes all) f.1 in
    let end = at_end l f.0.0 f.0.1 (eqb (length f.0.1) 0) refl f.2 in
    sym (front.same ∙ ap (λ rest. ledger_bytes f.0.0 ++ rest) end.1 ∙ append-nil (ledger_bytes f.0.0) ∙ ap ledger_bytes end.0)
