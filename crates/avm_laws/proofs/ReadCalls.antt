-- That what was read decides how a call ends, and what it changes.
use Rattle.std.proofs.Common.{◌≡◌, Bool, true, false, cond, [], ◌∷◌, Option, None, Some, Ok, refl, sym, ap, ◌∙◌, subst, Err}
use Rattle.std.specs.Prelude.{All, not, unwrap_or}
use Rattle.std.specs.Ordering.{is_eq}
use Rattle.std.specs.List.{AllByRecursion, Contains}
use Rattle.std.specs.List.Sorted.{IsStrictlySortedBy}
use Rattle.std.specs.Map.{keys_of}
use Rattle.std.specs.declared.cmp.Ordering.TheVariants.{Less}
use Rattle.std.proofs.lemmas.List.Elements.{All-nil, All-cons, All-contains, All-head, All-tail}
use Rattle.avm_ledger.specs.declared.header.Header.{Header}
use Rattle.avm_ledger.specs.Ledgers.{IsOrderly, Ledger}
use Rattle.avm_states.proofs.Maps.{is_Equal, above_tied, below_none}
use Rattle.avm_items.specs.declared.call_data.CallData.{CallData}
use Rattle.avm_items.specs.declared.item.Item.{Item}
use Rattle.avm_items.specs.declared.item_value.ItemValue.{ItemValue}
use Rattle.avm_items.specs.declared.item_value.ItemValue.TheVariants as value
use Rattle.avm_items.specs.Items.{ItemMap, Known, Look, IsInItemOrder, item_cmp, value_in}
use Rattle.avm_items.specs.LedgerItems.{at, is_of_gone, AgreesWithReads, pruned, value_before}
use Rattle.avm_items.specs.Asks.{Ask, Gives, Asks, Answer, result_over, items_asked, answer_at, answer_from}
use Rattle.avm_items.specs.SameValues.{is_same_value}
use Rattle.avm_call.specs.Calls.{CallResult, call_result}
use Rattle.avm_call.specs.Replay.{changes_on}
use Rattle.avm_call.specs.AskedFor.{AreAskedFor, asked_at, asked_while_known}
use Rattle.avm_call.proofs.AskedFor.{below, err_same, on_top}
use Rattle.avm_items.proofs.Puts.{item_total}
use Rattle.avm_laws.proofs.Given.{found_itself}
use Rattle.avm_ops.proofs.WrittenItems.{IsThere}
use Rattle.avm_laws.proofs.Accounted.{Accounted, if-result}
use Rattle.avm_laws.proofs.AccountedCalls.{call_accounted}
use Rattle.avm_ledger.proofs.KeptOrder.{next_is_free}
use Rattle.avm_laws.proofs.CallChanges.{asks_for_none_gone, sorted_writes}

-- ---- a run over what was read, and over a ledger that has it

-- the ledger has what was read of the items that are asked for
abbrev pub HasReads : Ledger → Known → Type 0
HasReads l known = (x : Item) (v : ItemValue) → known x ≡ Some v → is_of_gone l x ≡ false → at l x ≡ v

-- an item that was read, as the ledger has it
abbrev pub IsReadAt : Ledger → Known → Item → Type 0
IsReadAt l known x = value_before known x ≡ at l x

-- over what was read and over the ledger, the result, the questions and the values are the same
pub record Alike {A : Type 0} (l : Ledger) (known : Known) (t : Ask A) (a : A) : Type 0 where
  pub result : result_over (at l) t ≡ a
  pub asked : asked_while_known known t ≡ items_asked (at l) t
  pub read : All (IsReadAt l known) (items_asked (at l) t)

gives_same : {A : Type 0} {a b : A} → ◌≡◌ {A = Answer A} (Ok a) (Ok b) → a ≡ b
gives_same e = cc

alike_at : {A : Type 0} (l : Ledger) (known : Known) (x : Item) (k : ItemValue → Ask A) (a : A) → HasReads l known → ((v : ItemValue) → All (IsThere l) (items_asked (at l) (k v)) → answer_from known (k v) ≡ Ok a → Alike l known (k v) a)
    → All (IsThere l) (x ∷ items_asked (at l) (k (at l x))) → (o : Option ItemValue) → known x ≡ o → answer_at x (λ v. answer_from known (k v)) o ≡ Ok a → Alike l known (Asks x k) a
alike_at l known x k a has next there None is e = absurd cc
alike_at l known x k a has next there (Some v) is e =
    let here : at l x ≡ v = has x v is (All-head (IsThere l) x (items_asked (at l) (k (at l x))) there) in
    let before : value_before known x ≡ v = ap (λ o. unwrap_or o value.Absent) is in
    let rest = next v (subst (λ u. All (IsThere l) (items_asked (at l) (k u))) here (All-tail (IsThere l) x (items_asked (at l) (k (at l x))) there)) e in
    record {
      result = ap (λ u. result_over (at l) (k u)) here ∙ rest.result;
      asked = ap (asked_at x (λ u. asked_while_known known (k u))) is ∙ ap (λ xs. x ∷ xs) rest.asked ∙ sym (ap (λ u. x ∷ items_asked (at l) (k u)) here);
      read = All-cons (IsReadAt l known) x (items_asked (at l) (k (at l x))) (before ∙ sym here) (subst (λ u. All (IsReadAt l known) (items_asked (at l) (k u))) (sym here) rest.read);
    }

-- a result over what was read is the same over a ledger that has it, if nothing gone is asked for
pub alike : {A : Type 0} (l : Ledger) (known : Known) (t : Ask A) (a : A) → HasReads l known → All (IsThere l) (items_asked (at l) t) → answer_from known t ≡ Ok a → Alike l known t a
alike l known (Gives b) a has there e = record { result = gives_same e; asked = refl; read = All-nil (IsReadAt l known) }
alike l known (Asks x k) a has there e = alike_at l known x k a has (λ v. alike l known (k v) a has) there (known x) refl e

call_alike : (l : Ledger) (reads : ItemMap) (call : CallData) (header : Header) (r : CallResult) → IsOrderly l → AgreesWithReads l reads → answer_from (value_in reads) (call_result call header) ≡ Ok r → Alike l (value_in reads) (call_result call header) r
call_alike l reads call header r orderly agrees e = alike l (value_in reads) (call_result call header) r agrees (asks_for_none_gone l call header orderly) e

-- a call that ended over what it read ends in the same way over each ledger that agrees with that
pub ends_alike : (l : Ledger) (reads : ItemMap) (call : CallData) (header : Header) (r : CallResult) → IsOrderly l → AgreesWithReads l reads → answer_from (value_in reads) (call_result call header) ≡ Ok r
    → result_over (at l) (call_result call header) ≡ r
ends_alike l reads call header r orderly agrees e = (call_alike l reads call header r orderly agrees e).result

-- ---- questions that are left

used_at : {A : Type 0} (l : Ledger) (known : Known) (x : Item) (k : ItemValue → Ask A) (y : Item) → HasReads l known → ((v : ItemValue) → All (IsThere l) (items_asked (at l) (k v)) → answer_from known (k v) ≡ Err y → Contains (items_asked (at l) (k v)) y)
    → All (IsThere l) (x ∷ items_asked (at l) (k (at l x))) → (o : Option ItemValue) → known x ≡ o → answer_at x (λ v. answer_from known (k v)) o ≡ Err y → Contains (x ∷ items_asked (at l) (k (at l x))) y
used_at l known x k y has next there None is e = subst (Contains (x ∷ items_asked (at l) (k (at l x)))) (err_same e) (on_top x (items_asked (at l) (k (at l x))))
used_at l known x k y has next there (Some v) is e =
    let here : at l x ≡ v = has x v is (All-head (IsThere l) x (items_asked (at l) (k (at l x))) there) in
    below x (items_asked (at l) (k (at l x))) y
    (subst (λ u. Contains (items_asked (at l) (k u)) y) (sym here) (next v (subst (λ u. All (IsThere l) (items_asked (at l) (k u))) here (All-tail (IsThere l) x (items_asked (at l) (k (at l x))) there)) e))

used : {A : Type 0} (l : Ledger) (known : Known) (t : Ask A) (y : Item) → HasReads l known → All (IsThere l) (items_asked (at l) t) → answer_from known t ≡ Err y → Contains (items_asked (at l) t) y
used l known (Gives a) y has there e = absurd cc
used l known (Asks x k) y has there e = used_at l known x k y has (λ v. used l known (k v) y has) there (known x) refl e

-- an item that is asked for over what was read is used on each ledger that agrees with that
pub asks_for_what_is_used : (l : Ledger) (reads : ItemMap) (call : CallData) (header : Header) (x : Item) → IsOrderly l → AgreesWithReads l reads → answer_from (value_in reads) (call_result call header) ≡ Err x
    → Contains (items_asked (at l) (call_result call header)) x
asks_for_what_is_used l reads call header x orderly agrees e = used l (value_in reads) (call_result call header) x agrees (asks_for_none_gone l call header orderly) e

-- ---- what it changes

later : (e : Item × ItemValue) (es : ItemMap) → AllByRecursion (λ y. item_cmp e.0 y ≡ Less) (keys_of es) → (x : Item) (v : ItemValue) → value_in es x ≡ Some v → (b : Bool) → is_eq (item_cmp x e.0) ≡ b → cond b (Some e.1) (value_in es x) ≡ Some v
later e es below x v there true tied =
    let none : value_in es x ≡ None = below_none item_total x es (above_tied item_total x e.0 (keys_of es) (is_Equal (item_cmp x e.0) tied) below) in
    let no : None ≡ Some v = sym none ∙ there in
    absurd cc
later e es below x v there false apart = there

-- writes pruned alike, where two ledgers have the same values of the items written
pub pruned_alike : (before look : Look) (w : ItemMap) → IsInItemOrder w → Accounted (λ x. before x ≡ look x) w → pruned before w ≡ pruned look w
unfolding IsStrictlySortedBy
pruned_alike before look [] s all = refl
pruned_alike before look (e ∷ es) s all =
    let same : before e.0 ≡ look e.0 = all e.0 e.1 (found_itself e es) in
    let rest = pruned_alike before look es s.1 (λ x v there. all x v (later e es s.0 x v there (is_eq (item_cmp x e.0)) refl)) in
    λ i. cond (not (is_same_value (same i) e.1)) (e ∷ rest i) (rest i)

-- the writes that differ from what was read are the changes on each ledger that agrees with that
pub changes_what_it_read : (l : Ledger) (reads : ItemMap) (call : CallData) (header : Header) (r : CallResult) → IsOrderly l → AgreesWithReads l reads → AreAskedFor reads call header → answer_from (value_in reads) (call_result call header) ≡ Ok r
    → pruned (value_before (value_in reads)) r.1 ≡ changes_on l call header
changes_what_it_read l reads call header r orderly agrees asked e =
    let known = value_in reads in
    let t = call_result call header in
    let same = call_alike l reads call header r orderly agrees e in
    let w = (result_over (at l) t).1 in
    ap (λ x. pruned (value_before known) x.1) (sym same.result)
    ∙ pruned_alike (value_before known) (at l) w (sorted_writes l call header orderly)
    (if-result (at l) (IsReadAt l known) (λ x. Accounted (IsReadAt l known) x.1) t same.read (call_accounted l (IsReadAt l known) absent (next_is_free l orderly) call header))
  where
    agreed : (x : Item) (v : ItemValue) → value_in reads x ≡ Some v → at l x ≡ v
    agreed x v is =
        let same = call_alike l reads call header r orderly agrees e in
        agrees x v is (All-contains (IsThere l) (items_asked (at l) (call_result call header)) x (asks_for_none_gone l call header orderly) (subst (λ xs. Contains xs x) same.asked (asked x v is)))

    absent : (x : Item) → at l x ≡ value.Absent → IsReadAt l (value_in reads) x
    absent x none = by (value_in reads x) (agreed x)
      where
        by : (o : Option ItemValue) → ((v : ItemValue) → o ≡ Some v → at l x ≡ v) → unwrap_or o value.Absent ≡ at l x
        by None h = sym none
        by (Some v) h = sym (h v refl)
