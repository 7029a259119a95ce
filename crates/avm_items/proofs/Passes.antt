-- That items may be taken out last: setting what is not to be absent, and then taking out the rest, puts them all.
use Rattle.std.proofs.Common.{◌≡◌, ℕ, Bool, true, false, List, [], ◌∷◌, Option, None, Some, refl, sym, ap, ◌∙◌, subst, cond}
use Rattle.std.specs.Ordering.{is_eq, nat_cmp, ordering_then}
use Rattle.std.specs.declared.cmp.Ordering.TheVariants.{Less}
use Rattle.std.specs.Cmp.{tied_itself}
use Rattle.std.specs.FinMap.{nat_cmp-IsAntisymmetric}
use Rattle.std.specs.List.{AllByRecursion}
use Rattle.std.specs.List.Sorted.{IsStrictlySortedBy}
use Rattle.std.specs.Map.{keys_of}
use Rattle.std.proofs.lemmas.Cmp.{nat_cmp_total}
use Rattle.teal_value.specs.declared.address.Address.{Address}
use Rattle.teal_value.specs.declared.value.Value.{Value}
use Rattle.avm_ledger.specs.declared.application.Application.{Application}
use Rattle.avm_ledger.specs.declared.application.StoredApplication.{StoredApplication}
use Rattle.avm_states.specs.Entries.{Entries, byte_cmp, with_entry, without_entry, IsInKeyOrder}
use Rattle.avm_ledger.specs.Ledgers.{Ledger, application_at, with_application, without_application, with_local_state, with_row, with_state, IsInOrder}
use Rattle.avm_states.proofs.KeyOrder.{byte_same, byte_total}
use Rattle.avm_ledger.proofs.Changes.{account_same, account_total}
use Rattle.avm_states.proofs.Maps.{lookup-removed, is_Equal, insert-insert, remove-insert, remove-insert_same}
use Rattle.avm_items.specs.declared.item.Item.{Item}
use Rattle.avm_items.specs.declared.item.Item.TheVariants as item
use Rattle.avm_items.specs.declared.item_value.ItemValue.{ItemValue}
use Rattle.avm_items.specs.declared.item_value.ItemValue.TheVariants as value
use Rattle.avm_items.specs.Items.{ItemMap, IsInItemOrder, item_cmp}
use Rattle.avm_items.specs.LedgerItems.{put_one, put}
use Rattle.avm_items.specs.Putting.{is_absent, set_one, set_all, absent_items, without_all}
use Rattle.avm_items.proofs.PutBack.{changed, changed_there, changed_gone, changed_twice}
use Rattle.avm_items.proofs.Puts.{accounts_apart, differ, ids_apart, other_application, other_without, stays_in_order}

-- ---- applications

turned_apart : (a b : ℕ) → is_eq (nat_cmp a b) ≡ false → is_eq (nat_cmp b a) ≡ false
turned_apart a b n = ids_apart b a (λ e. let tied : is_eq (nat_cmp a b) ≡ true = ap (λ x. is_eq (nat_cmp a x)) e ∙ ap is_eq (tied_itself nat_cmp_total a) in cc)

-- an application taken out, and another one's row set
without_then_row : (l : Ledger) (id other : ℕ) (row : Application) → IsInOrder l → is_eq (nat_cmp id other) ≡ false
    → without_application (with_application l other (with_row (application_at l other) row)) id
    ≡ with_application (without_application l id) other (with_row (application_at (without_application l id) other) row)
without_then_row l id other row o n =
    ap (λ apps. record l { applications = apps }) (remove-insert nat_cmp_total nat_cmp-IsAntisymmetric id other (with_row (application_at l other) row) l.applications o.applications n)
    ∙ sym (ap (λ a. with_application (without_application l id) other (with_row a row)) (other_without l id other (turned_apart id other n)))

-- an application taken out, and a change of a state
without_then_change : (l : Ledger) (id other : ℕ) (change : Entries → Entries) → IsInOrder l → (a : Option StoredApplication) → application_at l other ≡ a → (b : Bool) → is_eq (nat_cmp id other) ≡ b
    → without_application (changed l other change) id ≡ changed (without_application l id) other change
without_then_change l id other change o a e true p =
    let same : id ≡ other = nat_cmp-IsAntisymmetric id other (is_Equal (nat_cmp id other) p) in
    subst (λ x. without_application (changed l x change) id ≡ changed (without_application l id) x change) same (own a (ap (application_at l) same ∙ e))
  where
    own : (a : Option StoredApplication) → application_at l id ≡ a → without_application (changed l id change) id ≡ changed (without_application l id) id change
    own None e =
        let gone : application_at (without_application l id) id ≡ None = lookup-removed nat_cmp_total id l.applications o.applications in
        ap (λ m. without_application m id) (changed_gone l id change e) ∙ sym (changed_gone (without_application l id) id change gone)
    own (Some app) e =
        let gone : application_at (without_application l id) id ≡ None = lookup-removed nat_cmp_total id l.applications o.applications in
        ap (λ m. without_application m id) (changed_there l id change app e)
        ∙ ap (λ apps. record l { applications = apps }) (remove-insert_same nat_cmp_total nat_cmp-IsAntisymmetric id (record app { state = change app.state }) l.applications o.applications)
        ∙ sym (changed_gone (without_application l id) id change gone)
without_then_change l id other change o None e false p =
    ap (λ m. without_application m id) (changed_gone l other change e)
    ∙ sym (changed_gone (without_application l id) other change (other_without l id other (turned_apart id other p) ∙ e))
without_then_change l id other change o (Some app) e false p =
    ap (λ m. without_application m id) (changed_there l other change app e)
    ∙ ap (λ apps. record l { applications = apps }) (remove-insert nat_cmp_total nat_cmp-IsAntisymmetric id other (record app { state = change app.state }) l.applications o.applications p)
    ∙ sym (changed_there (without_application l id) other change app (other_without l id other (turned_apart id other p) ∙ e))

-- ---- two changes of states, in either order

changed_other : (l : Ledger) (id other : ℕ) (change : Entries → Entries) → is_eq (nat_cmp other id) ≡ false → (a : Option StoredApplication) → application_at l id ≡ a
    → application_at (changed l id change) other ≡ application_at l other
changed_other l id other change n None e = ap (λ m. application_at m other) (changed_gone l id change e)
changed_other l id other change n (Some app) e =
    ap (λ m. application_at m other) (changed_there l id change app e) ∙ other_application l id other (record app { state = change app.state }) n

own_changes : (l : Ledger) → IsInOrder l → (id : ℕ) (f g : Entries → Entries) → ((s : Entries) → IsInKeyOrder s → f (g s) ≡ g (f s)) → (a : Option StoredApplication) → application_at l id ≡ a
    → changed (changed l id g) id f ≡ changed (changed l id f) id g
own_changes l o id f g alike None e =
    ap (λ m. changed m id f) (changed_gone l id g e) ∙ changed_gone l id f e ∙ sym (ap (λ m. changed m id g) (changed_gone l id f e) ∙ changed_gone l id g e)
own_changes l o id f g alike (Some app) e =
    changed_twice l o id g f app e
    ∙ ap (λ s. with_application l id (record app { state = s })) (alike app.state (o.global_states id app e))
    ∙ sym (changed_twice l o id f g app e)

other_changes : (l : Ledger) → IsInOrder l → (id other : ℕ) (f g : Entries → Entries) → is_eq (nat_cmp id other) ≡ false
    → (a : Option StoredApplication) → application_at l id ≡ a → (b : Option StoredApplication) → application_at l other ≡ b
    → changed (changed l other g) id f ≡ changed (changed l id f) other g
other_changes l o id other f g n None e b d =
    changed_gone (changed l other g) id f (changed_other l other id g n b d ∙ e) ∙ sym (ap (λ m. changed m other g) (changed_gone l id f e))
other_changes l o id other f g n (Some app) e None d =
    ap (λ m. changed m id f) (changed_gone l other g d)
    ∙ sym (changed_gone (changed l id f) other g (changed_other l id other f (turned_apart id other n) (Some app) e ∙ d))
other_changes l o id other f g n (Some app) e (Some bpp) d =
    let a' = record app { state = f app.state } in
    let b' = record bpp { state = g bpp.state } in
    changed_there (changed l other g) id f app (changed_other l other id g n (Some bpp) d ∙ e)
    ∙ ap (λ m. with_application m id a') (changed_there l other g bpp d)
    ∙ ap (λ apps. record l { applications = apps }) (insert-insert nat_cmp_total nat_cmp-IsAntisymmetric id other a' b' l.applications o.applications n)
    ∙ sym (ap (λ m. with_application m other b') (changed_there l id f app e))
    ∙ sym (changed_there (changed l id f) other g bpp (changed_other l id other f (turned_apart id other n) (Some app) e ∙ d))

-- ---- an item taken out, and a later one set

keys_by : (l : Ledger) → IsInOrder l → (id other : ℕ) (key key' : List ℕ) (w : Value) → item_cmp (item.Key id key) (item.Key other key') ≡ Less → (b : Bool) → is_eq (nat_cmp id other) ≡ b
    → changed (changed l other (λ s. with_entry s key' w)) id (λ s. without_entry s key) ≡ changed (changed l id (λ s. without_entry s key)) other (λ s. with_entry s key' w)
keys_by l o id other key key' w less true p =
    let tied = is_Equal (nat_cmp id other) p in
    let same : id ≡ other = nat_cmp-IsAntisymmetric id other tied in
    let keys : byte_cmp key key' ≡ Less = ap (λ r. ordering_then r (byte_cmp key key')) (sym tied) ∙ less in
    subst (λ x. changed (changed l x (λ s. with_entry s key' w)) id (λ s. without_entry s key) ≡ changed (changed l id (λ s. without_entry s key)) x (λ s. with_entry s key' w)) same
    (own_changes l o id (λ s. without_entry s key) (λ s. with_entry s key' w) (λ s t. remove-insert byte_total byte_same key key' w s t (ap is_eq keys)) (application_at l id) refl)
keys_by l o id other key key' w less false p =
    other_changes l o id other (λ s. without_entry s key) (λ s. with_entry s key' w) p (application_at l id) refl (application_at l other) refl

state_then_local : (l : Ledger) (id : ℕ) (change : Entries → Entries) (who : Address) (other : ℕ) (state : Entries) → (a : Option StoredApplication)
    → with_state (with_local_state l who other state) id change a ≡ with_local_state (with_state l id change a) who other state
state_then_local l id change who other state None = refl
state_then_local l id change who other state (Some app) = refl

taken_later : (l : Ledger) (x y : Item) (v : ItemValue) → IsInOrder l → item_cmp x y ≡ Less → is_absent v ≡ false → put_one (put_one l y v) x value.Absent ≡ put_one (put_one l x value.Absent) y v
taken_later l x y value.Absent o less p = absurd cc
taken_later l item.NextApp y v o less p = refl
taken_later l (item.Counts id) y v o less p = refl
taken_later l (item.App id) (item.App other) (value.App row) o less p = without_then_row l id other row o (ids_apart id other (λ e. differ (item.App other) (item.App id) (ap is_eq less) (ap item.App e)))
taken_later l (item.App id) (item.Key other key) (value.Key w) o less p = without_then_change l id other (λ s. with_entry s key w) o (application_at l other) refl (is_eq (nat_cmp id other)) refl
taken_later l (item.App id) (item.Local who other) (value.Local state) o less p = refl
taken_later l (item.App id) item.NextApp v o less p = absurd cc
taken_later l (item.App id) y v o less p = refl
taken_later l (item.Key id key) (item.Key other key') (value.Key w) o less p = keys_by l o id other key key' w less (is_eq (nat_cmp id other)) refl
taken_later l (item.Key id key) (item.Local who other) (value.Local state) o less p = state_then_local l id (λ s. without_entry s key) who other state (application_at l id)
taken_later l (item.Key id key) item.NextApp v o less p = absurd cc
taken_later l (item.Key id key) (item.App other) v o less p = absurd cc
taken_later l (item.Key id key) y v o less p = refl
taken_later l (item.Local who id) (item.Local who' id') (value.Local state) o less p =
    ap (λ states. record l { local_states = states }) (remove-insert account_total account_same (who, id) (who', id') state l.local_states o.local_states (accounts_apart (who', id') (who, id) (λ e. differ (item.Local who' id') (item.Local who id) (ap is_eq less) (ap (λ x. item.Local x.0 x.1) e))))
taken_later l (item.Local who id) item.NextApp v o less p = absurd cc
taken_later l (item.Local who id) (item.App other) v o less p = absurd cc
taken_later l (item.Local who id) (item.Key other key) v o less p = absurd cc
taken_later l (item.Local who id) y v o less p = refl

-- ---- all at last

set_one_in_order : (l : Ledger) (e : Item × ItemValue) → IsInOrder l → (b : Bool) → IsInOrder (cond b l (put_one l e.0 e.1))
set_one_in_order l e o true = o
set_one_in_order l e o false = stays_in_order l e.0 e.1 o

taken_after_one : (l : Ledger) (x : Item) (e : Item × ItemValue) → IsInOrder l → item_cmp x e.0 ≡ Less → (b : Bool) → is_absent e.1 ≡ b
    → put_one (cond b l (put_one l e.0 e.1)) x value.Absent ≡ cond b (put_one l x value.Absent) (put_one (put_one l x value.Absent) e.0 e.1)
taken_after_one l x e o less true p = refl
taken_after_one l x e o less false p = taken_later l x e.0 e.1 o less p

taken_after_all : (l : Ledger) (x : Item) (es : ItemMap) → IsInOrder l → AllByRecursion (λ y. item_cmp x y ≡ Less) (keys_of es) → put_one (set_all l es) x value.Absent ≡ set_all (put_one l x value.Absent) es
taken_after_all l x [] o below = refl
taken_after_all l x (e ∷ es) o below =
    taken_after_all (set_one l e) x es (set_one_in_order l e o (is_absent e.1)) below.1
    ∙ ap (λ m. set_all m es) (taken_after_one l x e o below.0 (is_absent e.1) refl)

absent_is : (v : ItemValue) → is_absent v ≡ true → value.Absent ≡ v
absent_is value.Absent p = refl
absent_is v p = absurd cc

two_passes_by : (l : Ledger) (e : Item × ItemValue) (es : ItemMap) → IsInOrder l → AllByRecursion (λ y. item_cmp e.0 y ≡ Less) (keys_of es)
    → ((m : Ledger) → IsInOrder m → without_all (set_all m es) (absent_items es) ≡ put m es) → (b : Bool) → is_absent e.1 ≡ b
    → without_all (set_all (cond b l (put_one l e.0 e.1)) es) (cond b (e.0 ∷ absent_items es) (absent_items es)) ≡ put (put_one l e.0 e.1) es
two_passes_by l e es o below rest true p =
    ap (λ m. without_all m (absent_items es)) (taken_after_all l e.0 es o below)
    ∙ rest (put_one l e.0 value.Absent) (stays_in_order l e.0 value.Absent o)
    ∙ ap (λ v. put (put_one l e.0 v) es) (absent_is e.1 p)
two_passes_by l e es o below rest false p = rest (put_one l e.0 e.1) (stays_in_order l e.0 e.1 o)

-- setting the present items first and removing the absent ones last equals putting all in turn
pub two_passes : (l : Ledger) (items : ItemMap) → IsInOrder l → IsInItemOrder items → without_all (set_all l items) (absent_items items) ≡ put l items
unfolding IsStrictlySortedBy
two_passes l [] o s = refl
two_passes l (e ∷ es) o s = two_passes_by l e es o s.0 (λ m n. two_passes m es n s.1) (is_absent e.1) refl
