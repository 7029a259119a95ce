-- Items, their values and lists of them are read from their bytes.
use Rattle.std.proofs.Common.{◌≡◌, ℕ, suc, ◌^◌, ◌<◌, ◌≤◌, true, cond, leb, List, [], ◌∷◌, ◌++◌, length, None, Some, Ok, All, refl, sym, ap, subst, ◌∙◌, append_assoc, arith}
use Rattle.std.specs.Prelude.{is_none}
use Rattle.std.specs.Ordering.{is_eq, ordering_reverse}
use Rattle.std.specs.List.{flat_map}
use Rattle.std.specs.declared.cmp.Ordering.TheVariants.{Greater}
use Rattle.std.proofs.lemmas.Bool.{le-leb}
use Rattle.std.proofs.lemmas.List.{append-nil}
use Rattle.std.proofs.lemmas.List.Elements.{All-head, All-tail}
use Rattle.avm_ledger.specs.declared.ledger_fault.LedgerFault.{LedgerFault}
use Rattle.avm_ledger.specs.declared.ledger_fault.LedgerFault.TheVariants.{Truncated, Rest}
use Rattle.avm_ledger.specs.Encodings.{u8_bytes, u32_bytes, u64_bytes, row_bytes, schema_bytes, state_bytes, value_bytes, counted_bytes}
use Rattle.avm_ledger.specs.FieldReader.{Front, alone}
use Rattle.avm_ledger.specs.LedgerReader.{local_room, value_at}
use Rattle.avm_ledger.proofs.FieldsBack.{then, address_back, byte_back, u32_back, u64_back, short_string_back}
use Rattle.avm_ledger.proofs.LedgerBack.{value_back, state_back, limited_schema_back, row_back, next_id_back}
use Rattle.avm_ledger.proofs.RisingReading.{AllLower, all_below, insert_last}
use Rattle.avm_items.specs.declared.item.Item.{Item}
use Rattle.avm_items.specs.declared.item.Item.TheVariants as item
use Rattle.avm_items.specs.declared.item_value.ItemValue.{ItemValue}
use Rattle.avm_items.specs.declared.item_value.ItemValue.TheVariants as value
use Rattle.avm_items.specs.Items.{ItemMap, item_cmp, value_in, with_item, IsInItemOrder}
use Rattle.avm_items.proofs.Puts.{item_total}
use Rattle.teal_value.specs.declared.value.Value.{Value}
use Rattle.teal_value.specs.declared.value.Value.TheVariants.{Uint, Bytes}
use Rattle.avm_ledger.specs.LedgerRules.{IsStateValue}
use Rattle.avm_item_codec.specs.ItemEncoding.{item_bytes, item_value_bytes, item_entry_bytes, items_bytes}
use Rattle.avm_item_codec.specs.ItemReader.{item_front, short_key_at, maybe_at, one_of_each, local_value_at, item_value_at, item_entry_front, new_entry_at, more_items_at, items_front, items_at}
use Rattle.avm_item_codec.specs.ItemRules.{IsItem, IsValueFor, IsEntry, AreNew, with_all}

-- ---- items

short_key_back : (key rest : List ℕ) → length key ≤ 64 → short_key_at (u8_bytes (length key) ++ (key ++ rest)) ≡ Ok (key, rest)
short_key_back key rest small =
    let short : leb (length key) 64 ≡ true = le-leb (length key) 64 small in
    then _ _ _ _ (short_string_back Truncated key rest (omega arith)) (rw short refl)

-- an item is read from its bytes, whatever stands behind them
pub item_back : (x : Item) (rest : List ℕ) → IsItem x → item_front (item_bytes x ++ rest) ≡ Ok (x, rest)
item_back item.NextApp rest is = then _ _ _ _ (byte_back Truncated 0 rest (omega arith)) refl
item_back (item.App id) rest is =
    then _ _ _ _ (byte_back Truncated 1 (u64_bytes id ++ rest) (omega arith)) (then _ _ _ _ (u64_back Truncated id rest is) refl)
item_back (item.Counts id) rest is =
    then _ _ _ _ (byte_back Truncated 2 (u64_bytes id ++ rest) (omega arith)) (then _ _ _ _ (u64_back Truncated id rest is) refl)
item_back (item.Key id key) rest is =
    let behind = u8_bytes (length key) ++ (key ++ rest) in
    then _ _ _ _ (byte_back Truncated 3 (u64_bytes id ++ behind) (omega arith))
    (then _ _ _ _ (u64_back Truncated id behind is.0) (then _ _ _ _ (short_key_back key rest is.1) refl))
item_back (item.Local who id) rest is =
    let behind = u64_bytes id ++ rest in
    ap (λ xs. item_front (4 ∷ xs)) (append_assoc who.0 (u64_bytes id) rest)
    ∙ then _ _ _ _ (byte_back Truncated 4 (who.0 ++ behind) (omega arith))
    (then _ _ _ _ (address_back Truncated who behind is.0) (then _ _ _ _ (u64_back Truncated id rest is.1) refl))

-- ---- values

entry_value_back : (v : Value) (rest : List ℕ) → IsStateValue v → value_at one_of_each (value_bytes v ++ rest) ≡ Ok (v, rest)
entry_value_back (Uint n) rest is = value_back (Uint n) one_of_each rest is (omega arith)
entry_value_back (Bytes s) rest is = value_back (Bytes s) one_of_each rest is (omega arith)

absent_back : (there : List ℕ → Front LedgerFault ItemValue) (rest : List ℕ) → maybe_at there (0 ∷ rest) ≡ Ok (value.Absent, rest)
absent_back there rest = then _ _ _ _ (byte_back Truncated 0 rest (omega arith)) refl

there_back : (there : List ℕ → Front LedgerFault ItemValue) (bytes rest : List ℕ) (v : ItemValue) → there bytes ≡ Ok (v, rest) → maybe_at there (1 ∷ bytes) ≡ Ok (v, rest)
there_back there bytes rest v e = then _ _ _ _ (byte_back Truncated 1 bytes (omega arith)) e

-- a value that an item may have is read from its bytes, whatever stands behind them
pub item_value_back : (x : Item) (v : ItemValue) (rest : List ℕ) → IsValueFor x v → item_value_at x (item_value_bytes v ++ rest) ≡ Ok (v, rest)
item_value_back item.NextApp (value.NextApp id) rest is = then _ _ _ _ (next_id_back id rest is.0 is.1) refl
item_value_back (item.App id) value.Absent rest is = absent_back _ rest
item_value_back (item.App id) (value.App row) rest is = there_back _ (row_bytes row ++ rest) rest _ (then _ _ _ _ (row_back row rest is) refl)
item_value_back (item.Counts id) value.Absent rest is = absent_back _ rest
item_value_back (item.Counts id) (value.Counts n) rest is =
    there_back _ (schema_bytes n ++ rest) rest _ (then _ _ _ _ (limited_schema_back 64 n rest is (omega arith)) refl)
item_value_back (item.Key id key) value.Absent rest is = absent_back _ rest
item_value_back (item.Key id key) (value.Key v) rest is = there_back _ (value_bytes v ++ rest) rest _ (then _ _ _ _ (entry_value_back v rest is) refl)
item_value_back (item.Local who id) value.Absent rest is = absent_back _ rest
item_value_back (item.Local who id) (value.Local state) rest is = there_back local_value_at (state_bytes state ++ rest) rest _ (then _ _ _ _ (state_back (local_room None) state rest is (omega arith)) refl)
item_value_back _ _ rest is = absurd is

-- ---- lists

entry_back : (e : Item × ItemValue) (rest : List ℕ) → IsEntry e → item_entry_front (item_entry_bytes e ++ rest) ≡ Ok (e, rest)
entry_back e rest is =
    ap item_entry_front (append_assoc (item_bytes e.0) (item_value_bytes e.1) rest)
    ∙ then _ _ _ _ (item_back e.0 (item_value_bytes e.1 ++ rest) is.0) (then _ _ _ _ (item_value_back e.0 e.1 rest is.1) refl)

new_back : (known : ItemMap) (e : Item × ItemValue) (rest : List ℕ) → IsEntry e → value_in known e.0 ≡ None → new_entry_at known (item_entry_bytes e ++ rest) ≡ Ok (e, rest)
new_back known e rest is new =
    let none : is_none (value_in known e.0) ≡ true = ap is_none new in
    then _ _ _ _ (entry_back e rest is) (rw none refl)

more_back : (known : ItemMap) (es : List (Item × ItemValue)) (rest : List ℕ) → All IsEntry es → AreNew known es
    → more_items_at known (length es) (flat_map item_entry_bytes es ++ rest) ≡ Ok (with_all known es, rest)
more_back known [] rest all new = refl
more_back known (e ∷ es) rest all new =
    ap (more_items_at known (suc (length es))) (append_assoc (item_entry_bytes e) (flat_map item_entry_bytes es) rest)
    ∙ then _ _ _ _ (new_back known e (flat_map item_entry_bytes es ++ rest) (All-head IsEntry e es all) new.0)
    (more_back (with_item known e.0 e.1) es rest (All-tail IsEntry e es all) new.1)

-- a list of items, each once, is read from its bytes, whatever stands behind them
pub list_back : (es : List (Item × ItemValue)) (rest : List ℕ) → All IsEntry es → AreNew [] es → length es < 2 ^ 32
    → items_front (counted_bytes u32_bytes item_entry_bytes es ++ rest) ≡ Ok (with_all [] es, rest)
list_back es rest all new few =
    ap items_front (append_assoc (u32_bytes (length es)) (flat_map item_entry_bytes es) rest)
    ∙ then _ _ _ _ (u32_back Truncated (length es) (flat_map item_entry_bytes es ++ rest) few) (more_back [] es rest all new)

-- such a list is what its bytes are read as
pub list_back_alone : (es : List (Item × ItemValue)) → All IsEntry es → AreNew [] es → length es < 2 ^ 32
    → items_at (counted_bytes u32_bytes item_entry_bytes es) ≡ Ok (with_all [] es)
list_back_alone es all new few =
    ap items_at (sym (append-nil (counted_bytes u32_bytes item_entry_bytes es)))
    ∙ then (items_front (counted_bytes u32_bytes item_entry_bytes es ++ [])) (with_all [] es, []) (alone Rest) (Ok (with_all [] es)) (list_back es [] all new few) refl

-- an item above all that are known isn't known
none_above : (k : Item) (known : ItemMap) → AllLower item_total known k → value_in known k ≡ None
none_above k [] lower = refl
none_above k (e ∷ es) lower =
    let above : item_cmp k e.0 ≡ Greater = item_total.antisymm k e.0 ∙ ap ordering_reverse lower.0 in
    ap (λ s. cond (is_eq s) (Some e.1) (value_in es k)) above ∙ none_above k es lower.1

-- items in their order are each new, and stay as they are
in_order : (before es : ItemMap) → IsInItemOrder (before ++ es) → AreNew before es × (with_all before es ≡ before ++ es)
in_order before [] sorted = (tt, sym (append-nil before))
in_order before (e ∷ es) sorted =
    let lower = all_below item_total before es e sorted in
    let last : with_item before e.0 e.1 ≡ before ++ e ∷ [] = insert_last item_total e.0 e.1 before lower in
    let all : (before ++ e ∷ []) ++ es ≡ before ++ e ∷ es = append_assoc before (e ∷ []) es in
    let more = in_order (before ++ e ∷ []) es (subst IsInItemOrder (sym all) sorted) in
    ((none_above e.0 before lower, subst (λ m. AreNew m es) (sym last) more.0), ap (λ m. with_all m es) last ∙ more.1 ∙ all)

-- items in their order are what their bytes are read as
pub map_back : (items : ItemMap) → All IsEntry items → IsInItemOrder items → length items < 2 ^ 32 → items_at (items_bytes items) ≡ Ok items
map_back items all sorted few =
    let is = in_order [] items sorted in
    list_back_alone items all is.0 few ∙ ap Ok is.1

-- ---- no encoding begins another

pub no_item_begins : (x y : Item) (p q : List ℕ) → IsItem x → IsItem y → item_bytes x ++ p ≡ item_bytes y ++ q → (x ≡ y) × (p ≡ q)
no_item_begins x y p q is is' e =
    let same = sym (item_back x p is) ∙ ap item_front e ∙ item_back y q is' in
    let pair : ◌≡◌ {A = Item × List ℕ} (x, p) (y, q) = cc in
    (ap (λ z. z.0) pair, ap (λ z. z.1) pair)

pub no_value_begins : (x : Item) (v w : ItemValue) (p q : List ℕ) → IsValueFor x v → IsValueFor x w → item_value_bytes v ++ p ≡ item_value_bytes w ++ q → (v ≡ w) × (p ≡ q)
no_value_begins x v w p q is is' e =
    let same = sym (item_value_back x v p is) ∙ ap (item_value_at x) e ∙ item_value_back x w q is' in
    let pair : ◌≡◌ {A = ItemValue × List ℕ} (v, p) (w, q) = cc in
    (ap (λ z. z.0) pair, ap (λ z. z.1) pair)
