-- What is read as an item, as a value or as a list is encoded by the bytes, and keeps the rules.
use Rattle.std.proofs.Common.{◌≡◌, ℕ, zero, suc, ◌<◌, ◌≤◌, Bool, true, false, cond, eqb, leb, List, [], ◌∷◌, ◌++◌, length, Option, None, Some, Result, Ok, All, refl, sym, ap, subst}
use Rattle.std.specs.Prelude.{is_none}
use Rattle.std.specs.Int.{w8, w32, w64}
use Rattle.std.specs.List.{flat_map}
use Rattle.std.proofs.lemmas.Bool.{eqb-true, leb-true}
use Rattle.std.proofs.lemmas.List.Elements.{All-nil, All-cons}
use Rattle.teal_code.proofs.Bytes.{AllBytes, all_bytes}
use Rattle.avm_ledger.specs.declared.ledger_fault.LedgerFault.{LedgerFault}
use Rattle.avm_ledger.specs.declared.ledger_fault.LedgerFault.TheVariants.{Truncated}
use Rattle.avm_ledger.specs.Encodings.{u8_bytes, u32_bytes, u64_bytes, short_string_bytes, row_bytes, schema_bytes, state_bytes, value_bytes, counted_bytes}
use Rattle.avm_ledger.specs.FieldReader.{Front, number_at, short_string_at, address_at}
use Rattle.avm_ledger.specs.LedgerReader.{local_room, value_at, state_at, limited_schema_at, row_at, next_id_at}
use Rattle.avm_ledger.proofs.FieldsEncoded.{from, same_value, one_more, IsEncoded, encoded, join, byte_encoded, u32_encoded, u64_encoded, short_string_encoded, address_encoded}
use Rattle.avm_ledger.proofs.FieldsFit.{u64_fits, address_fits}
use Rattle.avm_ledger.proofs.LedgerEncoded.{value_encoded, state_encoded, limited_schema_encoded, row_encoded, next_id_encoded}
use Rattle.avm_ledger.proofs.LedgerKept.{rule_kept, value_kept, state_kept, schema_kept, row_kept, next_id_kept}
use Rattle.avm_items.specs.declared.item.Item.{Item}
use Rattle.avm_items.specs.declared.item.Item.TheVariants as item
use Rattle.avm_items.specs.declared.item_value.ItemValue.{ItemValue}
use Rattle.avm_items.specs.declared.item_value.ItemValue.TheVariants as value
use Rattle.avm_items.specs.Items.{ItemMap, value_in, with_item}
use Rattle.avm_item_codec.specs.ItemEncoding.{item_bytes, item_value_bytes, item_entry_bytes}
use Rattle.avm_item_codec.specs.ItemReader.{app_item_at, counts_item_at, key_item_at, local_item_at, short_key_at, item_of_kind, item_front, next_value_at, row_value_at, counts_value_at, one_of_each, key_value_at, local_value_at, if_there, maybe_at, item_value_at, item_entry_front, new_entry_at, more_items_at, items_front}
use Rattle.avm_item_codec.specs.ItemRules.{IsItem, IsValueFor, IsEntry, AreNew, with_all}
use Rattle.avm_item_codec.specs.ItemRoundTrip.{IsListOf}

-- which way a test of a number went
choice : {A F G : Type 0} (n k : ℕ) (r s : Result A F) (y : A) → cond (eqb n k) r s ≡ Ok y → (n ≡ k → r ≡ Ok y → G) → (s ≡ Ok y → G) → G
choice {A} {F} {G} n k r s y e here later = at_test (eqb n k) refl e
  where
    at_test : (b : Bool) → eqb n k ≡ b → cond b r s ≡ Ok y → G
    at_test true test e = here (eqb-true n k test) e
    at_test false test e = later e

-- ---- items

-- the bytes begin with the item, and it is one
abbrev IsReadItem : List ℕ → Item × List ℕ → Type 0
IsReadItem bytes x = IsEncoded bytes (item_bytes x.0) x.1 × IsItem x.0

short_key_read : (bytes : List ℕ) (x : List ℕ × List ℕ) → AllBytes bytes → short_key_at bytes ≡ Ok x → IsEncoded bytes (short_string_bytes x.0) x.1 × (length x.0 ≤ 64)
short_key_read bytes x all e =
    from (short_string_at Truncated bytes) _ x e (λ s es e1.
    let rule = rule_kept (λ z. leb (length z.0) 64) s x e1 in
    (subst (λ p. IsEncoded bytes (short_string_bytes p.0) p.1) rule.1 (short_string_encoded Truncated bytes s all es), leb-true (length x.0) 64 rule.0))

app_read : (bytes behind : List ℕ) (x : Item × List ℕ) → IsEncoded bytes (1 ∷ []) behind → app_item_at behind ≡ Ok x → IsReadItem bytes x
app_read bytes behind x kind e =
    from (number_at Truncated w64 behind) _ x e (λ id eid e1.
    let same : ◌≡◌ {A = Item × List ℕ} (item.App id.0, id.1) x = same_value _ _ e1 in
    let name = u64_encoded Truncated behind id kind.rest_are_bytes eid in
    subst (IsReadItem bytes) same (join bytes (1 ∷ []) behind (u64_bytes id.0) id.1 kind name, u64_fits Truncated behind id kind.rest_are_bytes eid))

counts_read : (bytes behind : List ℕ) (x : Item × List ℕ) → IsEncoded bytes (2 ∷ []) behind → counts_item_at behind ≡ Ok x → IsReadItem bytes x
counts_read bytes behind x kind e =
    from (number_at Truncated w64 behind) _ x e (λ id eid e1.
    let same : ◌≡◌ {A = Item × List ℕ} (item.Counts id.0, id.1) x = same_value _ _ e1 in
    let name = u64_encoded Truncated behind id kind.rest_are_bytes eid in
    subst (IsReadItem bytes) same (join bytes (2 ∷ []) behind (u64_bytes id.0) id.1 kind name, u64_fits Truncated behind id kind.rest_are_bytes eid))

key_read : (bytes behind : List ℕ) (x : Item × List ℕ) → IsEncoded bytes (3 ∷ []) behind → key_item_at behind ≡ Ok x → IsReadItem bytes x
key_read bytes behind x kind e =
    from (number_at Truncated w64 behind) _ x e (λ id eid e1.
    let id_encoded = u64_encoded Truncated behind id kind.rest_are_bytes eid in
    from (short_key_at id.1) _ x e1 (λ key ekey e2.
    let key_encoded = short_key_read id.1 key id_encoded.rest_are_bytes ekey in
    let same : ◌≡◌ {A = Item × List ℕ} (item.Key id.0 key.0, key.1) x = same_value _ _ e2 in
    let name = join behind (u64_bytes id.0) id.1 (short_string_bytes key.0) key.1 id_encoded key_encoded.0 in
    subst (IsReadItem bytes) same (join bytes (3 ∷ []) behind (u64_bytes id.0 ++ short_string_bytes key.0) key.1 kind name, (u64_fits Truncated behind id kind.rest_are_bytes eid, key_encoded.1))))

local_read : (bytes behind : List ℕ) (x : Item × List ℕ) → IsEncoded bytes (4 ∷ []) behind → local_item_at behind ≡ Ok x → IsReadItem bytes x
local_read bytes behind x kind e =
    from (address_at Truncated behind) _ x e (λ who ewho e1.
    let who_encoded = address_encoded Truncated behind who kind.rest_are_bytes ewho in
    from (number_at Truncated w64 who.1) _ x e1 (λ id eid e2.
    let id_encoded = u64_encoded Truncated who.1 id who_encoded.rest_are_bytes eid in
    let same : ◌≡◌ {A = Item × List ℕ} (item.Local who.0 id.0, id.1) x = same_value _ _ e2 in
    let name = join behind who.0.0 who.1 (u64_bytes id.0) id.1 who_encoded id_encoded in
    subst (IsReadItem bytes) same (join bytes (4 ∷ []) behind (who.0.0 ++ u64_bytes id.0) id.1 kind name, (address_fits Truncated behind who ewho, u64_fits Truncated who.1 id who_encoded.rest_are_bytes eid))))

kind_read : (bytes : List ℕ) (k : ℕ × List ℕ) (x : Item × List ℕ) → IsEncoded bytes (u8_bytes k.0) k.1 → item_of_kind k ≡ Ok x → IsReadItem bytes x
kind_read bytes k x is e =
    choice k.0 0 _ _ x e (λ kind e. let same : ◌≡◌ {A = Item × List ℕ} (item.NextApp, k.1) x = same_value _ _ e in subst (IsReadItem bytes) same (of_kind 0 kind, tt)) (λ e.
    choice k.0 1 _ _ x e (λ kind e. app_read bytes k.1 x (of_kind 1 kind) e) (λ e.
    choice k.0 2 _ _ x e (λ kind e. counts_read bytes k.1 x (of_kind 2 kind) e) (λ e.
    choice k.0 3 _ _ x e (λ kind e. key_read bytes k.1 x (of_kind 3 kind) e) (λ e.
    choice k.0 4 _ _ x e (λ kind e. local_read bytes k.1 x (of_kind 4 kind) e) (λ e. absurd cc)))))
  where
    of_kind : (n : ℕ) → k.0 ≡ n → IsEncoded bytes (u8_bytes n) k.1
    of_kind n same = subst (λ m. IsEncoded bytes (u8_bytes m) k.1) same is

-- an item that is read is encoded by the first bytes
pub item_read : (bytes : List ℕ) (x : Item × List ℕ) → AllBytes bytes → item_front bytes ≡ Ok x → IsEncoded bytes (item_bytes x.0) x.1 × IsItem x.0
item_read bytes x all e =
    from (number_at Truncated w8 bytes) item_of_kind x e (λ k ek e1. kind_read bytes k x (byte_encoded Truncated bytes k all ek) e1)

-- ---- values

-- the bytes begin with the value, and the item may have it
abbrev IsReadValue : Item → List ℕ → ItemValue × List ℕ → Type 0
IsReadValue x bytes y = IsEncoded bytes (item_value_bytes y.0) y.1 × IsValueFor x y.0

next_read : (bytes : List ℕ) (y : ItemValue × List ℕ) → AllBytes bytes → next_value_at bytes ≡ Ok y → IsReadValue item.NextApp bytes y
next_read bytes y all e =
    from (next_id_at bytes) _ y e (λ id eid e1.
    let same : ◌≡◌ {A = ItemValue × List ℕ} (value.NextApp id.0, id.1) y = same_value _ _ e1 in
    subst (IsReadValue item.NextApp bytes) same (next_id_encoded bytes id all eid, next_id_kept bytes id all eid))

module _ (x : Item) where
  -- what is read behind the byte that says that a value is there
  abbrev IsReadThere : (List ℕ → Front LedgerFault ItemValue) → Type 0
  IsReadThere there = (bytes behind : List ℕ) (y : ItemValue × List ℕ) → IsEncoded bytes (1 ∷ []) behind → there behind ≡ Ok y → IsReadValue x bytes y

  maybe_read : (there : List ℕ → Front LedgerFault ItemValue) → IsValueFor x value.Absent → IsReadThere there → (bytes : List ℕ) (y : ItemValue × List ℕ) → AllBytes bytes → maybe_at there bytes ≡ Ok y → IsReadValue x bytes y
  maybe_read there absent read bytes y all e =
      from (number_at Truncated w8 bytes) (if_there there) y e (λ b eb e1.
      let byte = byte_encoded Truncated bytes b all eb in
      choice b.0 0 _ _ y e1
      (λ zero e2. let same : ◌≡◌ {A = ItemValue × List ℕ} (value.Absent, b.1) y = same_value _ _ e2 in subst (IsReadValue x bytes) same (subst (λ n. IsEncoded bytes (u8_bytes n) b.1) zero byte, absent))
      (λ e2. choice b.0 1 _ _ y e2 (λ one e3. read bytes b.1 y (subst (λ n. IsEncoded bytes (u8_bytes n) b.1) one byte) e3) (λ e3. absurd cc)))

row_there : (id : ℕ) → IsReadThere (item.App id) row_value_at
row_there id bytes behind y byte e =
    from (row_at behind) _ y e (λ row er e1.
    let same : ◌≡◌ {A = ItemValue × List ℕ} (value.App row.0, row.1) y = same_value _ _ e1 in
    subst (IsReadValue (item.App id) bytes) same (join bytes (1 ∷ []) behind (row_bytes row.0) row.1 byte (row_encoded behind row byte.rest_are_bytes er), row_kept behind row er))

counts_there : (id : ℕ) → IsReadThere (item.Counts id) counts_value_at
counts_there id bytes behind y byte e =
    from (limited_schema_at 64 behind) _ y e (λ n en e1.
    let same : ◌≡◌ {A = ItemValue × List ℕ} (value.Counts n.0, n.1) y = same_value _ _ e1 in
    let encodes = limited_schema_encoded 64 behind n byte.rest_are_bytes en in
    subst (IsReadValue (item.Counts id) bytes) same (join bytes (1 ∷ []) behind (schema_bytes n.0) n.1 byte encodes, schema_kept 64 behind n en))

key_there : (id : ℕ) (key : List ℕ) → IsReadThere (item.Key id key) key_value_at
key_there id key bytes behind y byte e =
    from (value_at one_of_each behind) _ y e (λ v ev e1.
    let same : ◌≡◌ {A = ItemValue × List ℕ} (value.Key v.0, v.1) y = same_value _ _ e1 in
    let encodes = value_encoded one_of_each behind v byte.rest_are_bytes ev in
    subst (IsReadValue (item.Key id key) bytes) same (join bytes (1 ∷ []) behind (value_bytes v.0) v.1 byte encodes, (value_kept one_of_each behind v byte.rest_are_bytes ev).0))

-- a value that is read is encoded by the first bytes
pub value_read : (x : Item) (bytes : List ℕ) (y : ItemValue × List ℕ) → AllBytes bytes → item_value_at x bytes ≡ Ok y → IsEncoded bytes (item_value_bytes y.0) y.1 × IsValueFor x y.0
value_read item.NextApp bytes y all e = next_read bytes y all e
value_read (item.App id) bytes y all e = maybe_read (item.App id) row_value_at tt (row_there id) bytes y all e
value_read (item.Counts id) bytes y all e = maybe_read (item.Counts id) counts_value_at tt (counts_there id) bytes y all e
value_read (item.Key id key) bytes y all e = maybe_read (item.Key id key) key_value_at tt (key_there id key) bytes y all e
value_read (item.Local who id) bytes y all e = maybe_read (item.Local who id) local_value_at tt there bytes y all e
  where
    there : IsReadThere (item.Local who id) local_value_at
    there bytes behind y byte e =
        from (state_at (local_room None) behind) _ y e (λ s es e1.
        let same : ◌≡◌ {A = ItemValue × List ℕ} (value.Local s.0, s.1) y = same_value _ _ e1 in
        let encodes = state_encoded (local_room None) behind s byte.rest_are_bytes es in
        subst (IsReadValue (item.Local who id) bytes) same (join bytes (1 ∷ []) behind (state_bytes s.0) s.1 byte encodes, state_kept (local_room None) behind s byte.rest_are_bytes es))

-- ---- lists

entry_read : (bytes : List ℕ) (e : (Item × ItemValue) × List ℕ) → AllBytes bytes → item_entry_front bytes ≡ Ok e → IsEncoded bytes (item_entry_bytes e.0) e.1 × IsEntry e.0
entry_read bytes y all e =
    from (item_front bytes) _ y e (λ x ex e1.
    let item = item_read bytes x all ex in
    from (item_value_at x.0 x.1) _ y e1 (λ v ev e2.
    let read = value_read x.0 x.1 v item.0.rest_are_bytes ev in
    let same : ◌≡◌ {A = (Item × ItemValue) × List ℕ} ((x.0, v.0), v.1) y = same_value _ _ e2 in
    subst (λ p. IsEncoded bytes (item_entry_bytes p.0) p.1 × IsEntry p.0) same (join bytes (item_bytes x.0) x.1 (item_value_bytes v.0) v.1 item.0 read.0, (item.1, read.1))))

no_value : (o : Option ItemValue) → is_none o ≡ true → o ≡ None
no_value None e = refl
no_value (Some v) e = absurd cc

-- the entries that so many items are read from, beside those that are known
record AreRead (known : ItemMap) (n : ℕ) (bytes : List ℕ) (x : ItemMap × List ℕ) (es : List (Item × ItemValue)) : Type 0 where
  encoded : IsEncoded bytes (flat_map item_entry_bytes es) x.1
  count : length es ≡ n
  new : AreNew known es
  all : with_all known es ≡ x.0
  entries : All IsEntry es

more_read : (known : ItemMap) (n : ℕ) (bytes : List ℕ) (x : ItemMap × List ℕ) → AllBytes bytes → more_items_at known n bytes ≡ Ok x → (es : List (Item × ItemValue)) × AreRead known n bytes x es
more_read known zero bytes x all e =
    let same : ◌≡◌ {A = ItemMap × List ℕ} (known, bytes) x = same_value _ _ e in
    ([], subst (λ p. AreRead known 0 bytes p []) same (record { encoded = encoded bytes [] bytes all refl; count = refl; new = tt; all = refl; entries = All-nil IsEntry }))
more_read known (suc n) bytes x all e =
    from (new_entry_at known bytes) _ x e (λ y ey e1.
    from (item_entry_front bytes) _ y ey (λ z ez e2.
    let rule = rule_kept (λ p. is_none (value_in known p.0.0)) z y e2 in
    let entry = subst (λ p. IsEncoded bytes (item_entry_bytes p.0) p.1 × IsEntry p.0) rule.1 (entry_read bytes z all ez) in
    let more = more_read (with_item known y.0.0 y.0.1) n y.1 x entry.0.rest_are_bytes e1 in
    let are = more.1 in (
      y.0 ∷ more.0,
      record {
        encoded = one_more item_entry_bytes y.0 more.0 bytes y.1 x.1 entry.0 are.encoded;
        count = ap suc are.count;
        new = (no_value _ rule.0, are.new);
        all = are.all;
        entries = All-cons IsEntry y.0 more.0 entry.1 are.entries;
      },
    )))

-- items that are read are encoded by the first bytes, in some order
pub list_read : (bytes : List ℕ) (items : ItemMap) (rest : List ℕ) → All (λ b. b < 256) bytes → items_front bytes ≡ Ok (items, rest) → (es : List (Item × ItemValue)) × IsListOf bytes items rest es
list_read bytes items rest all e =
    from (number_at Truncated w32 bytes) _ (items, rest) e (λ n en e1.
    let count = u32_encoded Truncated bytes n (all_bytes bytes all) en in
    let more = more_read [] n.0 n.1 (items, rest) count.rest_are_bytes e1 in
    let are = more.1 in
    let both = join bytes (u32_bytes n.0) n.1 (flat_map item_entry_bytes more.0) rest count are.encoded in
    let whole : IsEncoded bytes (counted_bytes u32_bytes item_entry_bytes more.0) rest = subst (λ m. IsEncoded bytes (u32_bytes m ++ flat_map item_entry_bytes more.0) rest) (sym are.count) both in
    (more.0, record { encoded = sym whole.same; once = are.new; are = are.all; entries = are.entries }))

pub item_encodes : (bytes : List ℕ) (x : Item) (rest : List ℕ) → All (λ b. b < 256) bytes → item_front bytes ≡ Ok (x, rest) → (item_bytes x ++ rest ≡ bytes) × IsItem x
item_encodes bytes x rest all e = let read = item_read bytes (x, rest) (all_bytes bytes all) e in (sym read.0.same, read.1)

pub value_encodes : (x : Item) (bytes : List ℕ) (v : ItemValue) (rest : List ℕ) → All (λ b. b < 256) bytes → item_value_at x bytes ≡ Ok (v, rest) → (item_value_bytes v ++ rest ≡ bytes) × IsValueFor x v
value_encodes x bytes v rest all e = let read = value_read x bytes (v, rest) (all_bytes bytes all) e in (sym read.0.same, read.1)
