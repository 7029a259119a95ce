-- That the old value of an item, put back, gives the ledger of before; and so for many, the last one first.
use Rattle.std.proofs.Common.{◌≡◌, ℕ, suc, add-one, ◌+◌, ◌<◌, Bool, true, false, cond, List, [], ◌∷◌, ◌++◌, length, get_or, set, take, drop, Option, None, Some, refl, sym, ap, ◌∙◌, subst, append_assoc, drop-cons, arith}
use Rattle.std.proofs.lemmas.List.{append-nil, drop-set-lt, take_more_set}
use Rattle.std.specs.Option.{option_map}
use Rattle.std.specs.Prelude.{option_and_then}
use Rattle.std.proofs.lemmas.Cmp.{nat_cmp_total}
use Rattle.std.specs.FinMap.{nat_cmp-IsAntisymmetric}
use Rattle.teal_value.specs.declared.address.Address.{Address}
use Rattle.teal_value.specs.declared.value.Value.{Value}
use Rattle.avm_ledger.specs.declared.application.Application.{Application}
use Rattle.avm_ledger.specs.declared.application.StoredApplication.{StoredApplication}
use Rattle.avm_states.specs.Entries.{Entries, value_of_key, with_entry, without_entry}
use Rattle.avm_ledger.specs.Ledgers.{Ledger, application_at, global_value, local_state_at, with_application, with_local_state, with_row, with_state, IsInOrder}
use Rattle.avm_states.proofs.KeyOrder.{byte_same, byte_total}
use Rattle.avm_ledger.proofs.Changes.{account_same, account_total, set_application}
use Rattle.avm_states.proofs.Maps.{lookup-inserted, insert-insert_same, insert_same, remove-insert_same, remove_absent}
use Rattle.avm_items.specs.declared.item.Item.{Item}
use Rattle.avm_items.specs.declared.item.Item.TheVariants as item
use Rattle.avm_items.specs.declared.item_value.ItemValue.{ItemValue}
use Rattle.avm_items.specs.declared.item_value.ItemValue.TheVariants as value
use Rattle.avm_items.specs.Items.{ItemMap, key_value}
use Rattle.avm_items.specs.LedgerItems.{at, put_one, row_value, entry_value, local_value}
use Rattle.avm_items.specs.Putting.{is_absent, set_one, set_all, absent_one, absent_items, CanPutBack, PutsBack, AllPutBack}

-- ---- applications

-- the value of an application's item, absent where there is no application
abbrev pub application_value : Option Application → ItemValue
application_value None = value.Absent
application_value (Some row) = value.App row

application_back : (l : Ledger) (id : ℕ) (row : Application) → IsInOrder l → (a : Option StoredApplication) → application_at l id ≡ a
    → PutsBack (with_application l id (with_row a row)) l (item.App id, application_value (option_map (λ app. app.row) a))
application_back l id row o None e = record {
  can = λ h. refl;
  gives = ap (λ apps. record l { applications = apps })
      (remove-insert_same nat_cmp_total nat_cmp-IsAntisymmetric id (with_row None row) l.applications o.applications
      ∙ remove_absent nat_cmp_total nat_cmp-IsAntisymmetric id l.applications o.applications e);
}
application_back l id row o (Some app) e =
    let new = with_application l id (with_row (Some app) row) in
    let there = set_application l id (with_row (Some app) row) in
    record {
      can = λ h. let none : value.App row ≡ value.Absent = sym (ap row_value there) ∙ h in absurd cc;
      gives = ap (λ a. with_application new id (with_row a app.row)) there
          ∙ ap (λ apps. record l { applications = apps })
          (insert-insert_same nat_cmp_total nat_cmp-IsAntisymmetric id (with_row (Some app) row) app l.applications o.applications
          ∙ insert_same nat_cmp_total nat_cmp-IsAntisymmetric id app l.applications o.applications e);
    }

-- putting back an application's old row, or its absence, undoes the setting of its row
pub application_put_back : (l new : Ledger) (id : ℕ) (row : Application) (old : Option Application) (v : ItemValue) → IsInOrder l
    → old ≡ option_map (λ app. app.row) (application_at l id) → new ≡ with_application l id (with_row (application_at l id) row) → application_value old ≡ v
    → PutsBack new l (item.App id, v)
application_put_back l new id row old v o was is e =
    let back = application_back l id row o (application_at l id) refl in
    subst (λ m. PutsBack m l (item.App id, v)) (sym is) (subst (λ u. PutsBack (with_application l id (with_row (application_at l id) row)) l (item.App id, u)) (sym (ap application_value was) ∙ e) back)

-- ---- keys

-- the ledger with a change of an application's global state, if the application stands
abbrev pub changed : Ledger → ℕ → (Entries → Entries) → Ledger
changed l id change = with_state l id change (application_at l id)

-- where an application stands, the change sets it with its changed global state
pub changed_there : (l : Ledger) (id : ℕ) (change : Entries → Entries) (app : StoredApplication) → application_at l id ≡ Some app
    → changed l id change ≡ with_application l id (record app { state = change app.state })
changed_there l id change app e = ap (with_state l id change) e

pub changed_gone : (l : Ledger) (id : ℕ) (change : Entries → Entries) → application_at l id ≡ None → changed l id change ≡ l
changed_gone l id change e = ap (with_state l id change) e

-- an application that stands has the changed state afterwards
pub changed_after : (l : Ledger) (id : ℕ) (change : Entries → Entries) (app : StoredApplication) → application_at l id ≡ Some app
    → application_at (changed l id change) id ≡ Some (record app { state = change app.state })
changed_after l id change app e = ap (λ m. application_at m id) (changed_there l id change app e) ∙ set_application l id (record app { state = change app.state })

-- two changes of one state, one after the other
pub changed_twice : (l : Ledger) → IsInOrder l → (id : ℕ) (first second : Entries → Entries) (app : StoredApplication) → application_at l id ≡ Some app
    → changed (changed l id first) id second ≡ with_application l id (record app { state = second (first app.state) })
changed_twice l o id first second app e =
    let written = record app { state = first app.state } in
    changed_there (changed l id first) id second written (changed_after l id first app e)
    ∙ ap (λ m. with_application m id (record app { state = second (first app.state) })) (changed_there l id first app e)
    ∙ ap (λ apps. record l { applications = apps }) (insert-insert_same nat_cmp_total nat_cmp-IsAntisymmetric id written (record app { state = second (first app.state) }) l.applications o.applications)

changed_back : (l : Ledger) → IsInOrder l → (id : ℕ) (first second : Entries → Entries) (app : StoredApplication) → application_at l id ≡ Some app → second (first app.state) ≡ app.state
    → changed (changed l id first) id second ≡ l
changed_back l o id first second app e back =
    changed_twice l o id first second app e
    ∙ ap (λ s. with_application l id (record app { state = s })) back
    ∙ ap (λ apps. record l { applications = apps }) (insert_same nat_cmp_total nat_cmp-IsAntisymmetric id app l.applications o.applications e)

key_there : (l : Ledger) (id : ℕ) (key : List ℕ) (v : Value) (app : StoredApplication) → application_at l id ≡ Some app
    → at (changed l id (λ s. with_entry s key v)) (item.Key id key) ≡ value.Key v
key_there l id key v app e =
    ap (λ a. entry_value a key) (changed_after l id (λ s. with_entry s key v) app e) ∙ ap key_value (lookup-inserted byte_total key v app.state)

entry_back : (l : Ledger) (id : ℕ) (key : List ℕ) (v : Value) → IsInOrder l → (app : StoredApplication) → application_at l id ≡ Some app → (w : Option Value) → value_of_key app.state key ≡ w
    → PutsBack (changed l id (λ s. with_entry s key v)) l (item.Key id key, key_value w)
entry_back l id key v o app e None found = record {
  can = λ h. refl;
  gives = let s = o.global_states id app e in
      changed_back l o id (λ s. with_entry s key v) (λ s. without_entry s key) app e
      (remove-insert_same byte_total byte_same key v app.state s ∙ remove_absent byte_total byte_same key app.state s found);
}
entry_back l id key v o app e (Some w) found = record {
  can = λ h. let none : value.Key v ≡ value.Absent = sym (key_there l id key v app e) ∙ h in absurd cc;
  gives = let s = o.global_states id app e in
      changed_back l o id (λ s. with_entry s key v) (λ s. with_entry s key w) app e
      (insert-insert_same byte_total byte_same key v w app.state s ∙ insert_same byte_total byte_same key w app.state s found);
}

key_back : (l : Ledger) (id : ℕ) (key : List ℕ) (v : Value) → IsInOrder l → (a : Option StoredApplication) → application_at l id ≡ a
    → PutsBack (changed l id (λ s. with_entry s key v)) l (item.Key id key, entry_value a key)
key_back l id key v o None e = record {
  can = λ h. refl;
  gives = ap (λ m. changed m id (λ s. without_entry s key)) (changed_gone l id (λ s. with_entry s key v) e) ∙ changed_gone l id (λ s. without_entry s key) e;
}
key_back l id key v o (Some app) e = entry_back l id key v o app e (value_of_key app.state key) refl

key_value_of : (a : Option StoredApplication) (key : List ℕ) → entry_value a key ≡ key_value (option_and_then (λ app. value_of_key app.state key) a)
key_value_of None key = refl
key_value_of (Some app) key = refl

-- putting back a key's old value, or its absence, undoes the setting of the key
pub key_put_back : (l new : Ledger) (id : ℕ) (key : List ℕ) (v : Value) (old : Option Value) (u : ItemValue) → IsInOrder l → old ≡ global_value l id key
    → new ≡ with_state l id (λ s. with_entry s key v) (application_at l id) → key_value old ≡ u → PutsBack new l (item.Key id key, u)
key_put_back l new id key v old u o was is e =
    let back = key_back l id key v o (application_at l id) refl in
    let same : entry_value (application_at l id) key ≡ u = key_value_of (application_at l id) key ∙ sym (ap key_value was) ∙ e in
    subst (λ m. PutsBack m l (item.Key id key, u)) (sym is) (subst (λ x. PutsBack (changed l id (λ s. with_entry s key v)) l (item.Key id key, x)) same back)

-- ---- local states

local_back : (l : Ledger) (who : Address) (id : ℕ) (state : Entries) → IsInOrder l → (old : Option Entries) → local_state_at l who id ≡ old
    → PutsBack (with_local_state l who id state) l (item.Local who id, local_value old)
local_back l who id state o None e = record {
  can = λ h. refl;
  gives = ap (λ states. record l { local_states = states })
      (remove-insert_same account_total account_same (who, id) state l.local_states o.local_states ∙ remove_absent account_total account_same (who, id) l.local_states o.local_states e);
}
local_back l who id state o (Some old) e = record {
  can = λ h. let none : value.Local state ≡ value.Absent = sym (ap local_value (lookup-inserted account_total (who, id) state l.local_states)) ∙ h in absurd cc;
  gives = ap (λ states. record l { local_states = states })
      (insert-insert_same account_total account_same (who, id) state old l.local_states o.local_states ∙ insert_same account_total account_same (who, id) old l.local_states o.local_states e);
}

-- putting back an old local state, or its absence, undoes the setting of the local state
pub local_put_back : (l new : Ledger) (who : Address) (id : ℕ) (state : Entries) (old : Option Entries) (v : ItemValue) → IsInOrder l → old ≡ local_state_at l who id
    → new ≡ with_local_state l who id state → local_value old ≡ v → PutsBack new l (item.Local who id, v)
local_put_back l new who id state old v o was is e =
    subst (λ m. PutsBack m l (item.Local who id, v)) (sym is)
    (subst (λ u. PutsBack (with_local_state l who id state) l (item.Local who id, u)) e (local_back l who id state o old (sym was)))

-- ---- many

-- the last of the old values can be put back first, and the others lead back from there
pub last_put_back : (l : Ledger) (es : List (Item × ItemValue)) (e : Item × ItemValue) (before : Ledger) → AllPutBack l (es ++ e ∷ []) before
    → CanPutBack l e × AllPutBack (put_one l e.0 e.1) es before
last_put_back l [] e before (middle, same, back) =
    (subst (λ m. CanPutBack m e) (sym same) back.can, ap (λ m. put_one m e.0 e.1) same ∙ back.gives)
last_put_back l (f ∷ es) e before (middle, all, back) =
    let rest = last_put_back l es e middle all in
    (rest.0, (middle, rest.1, back))

-- if one value can be put back first, and the others lead back from there, then all lead back
pub one_more_put_back : (l : Ledger) (es : List (Item × ItemValue)) (e : Item × ItemValue) (before : Ledger) → CanPutBack l e → AllPutBack (put_one l e.0 e.1) es before
    → AllPutBack l (es ++ e ∷ []) before
one_more_put_back l [] e before can same = (l, refl, record { can = can; gives = same })
one_more_put_back l (f ∷ es) e before can (middle, all, back) = (middle, one_more_put_back l es e middle can all, back)

-- ---- the changes so far

-- Some entries were changed, up to an index, from a ledger. What is left of them leads to a ledger and to the items that
-- are to be absent, and the others lead back.
pub record Changes (entries : ItemMap) (index : ℕ) (l : Ledger) (kept : List Item) (before after : Ledger) (all_kept : List Item) : Type 0 where
  pub set : set_all l (drop index entries) ≡ after
  pub absent : kept ++ absent_items (drop index entries) ≡ all_kept
  pub back : AllPutBack l (take index entries) before

absent_more : (xs ys : List Item) (e : Item × ItemValue) → xs ++ absent_one e ys ≡ (xs ++ absent_one e []) ++ ys
absent_more xs ys e = by_test (is_absent e.1)
  where
    by_test : (b : Bool) → xs ++ cond b (e.0 ∷ ys) ys ≡ (xs ++ cond b (e.0 ∷ []) []) ++ ys
    by_test true = sym (append_assoc xs (e.0 ∷ []) ys)
    by_test false = ap (λ zs. zs ++ ys) (sym (append-nil xs))

-- one more entry is changed, and its item's old value takes its place among the entries
pub one_more_changed : (entries : ItemMap) (index : ℕ) (l new before after : Ledger) (kept more all_kept : List Item) (e back : Item × ItemValue)
    → Changes entries index l kept before after all_kept → index < length entries → e ≡ get_or entries index e
    → new ≡ set_one l e → more ≡ kept ++ absent_one e [] → PutsBack new l back
    → Changes (set entries index back) (index + 1) new more before after all_kept
one_more_changed entries index l new before after kept more all_kept e back so_far within read is keeps puts =
    let rest = drop (index + 1) entries in
    let begins : drop index entries ≡ e ∷ rest = rw add-one (drop-cons entries index e within ∙ ap (λ f. f ∷ drop (suc index) entries) (sym read)) in
    let same : drop (index + 1) (set entries index back) ≡ rest = drop-set-lt (index + 1) entries index back (omega arith) in
    record {
      set = ap (set_all new) same ∙ ap (λ m. set_all m rest) is ∙ sym (ap (set_all l) begins) ∙ so_far.set;
      absent = ap (λ xs. more ++ absent_items xs) same ∙ ap (λ xs. xs ++ absent_items rest) keeps
          ∙ sym (absent_more kept (absent_items rest) e) ∙ sym (ap (λ xs. kept ++ absent_items xs) begins) ∙ so_far.absent;
      back = subst (λ es. AllPutBack new es before) (sym (take_more_set entries index back within))
          (one_more_put_back new (take index entries) back before puts.can (subst (λ m. AllPutBack m (take index entries) before) (sym puts.gives) so_far.back));
    }
