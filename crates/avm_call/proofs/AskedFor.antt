-- What a call has asked for stays what it has asked for, with each answer.
use Rattle.std.proofs.Common.{◌≡◌, Bool, true, false, List, [], ◌∷◌, Option, None, Some, Err, refl, sym, ap, ◌∙◌, subst, cond, inl, inr, arith}
use Rattle.std.specs.Ordering.{is_eq}
use Rattle.std.specs.List.{Contains}
use Rattle.std.proofs.lemmas.List.Elements.{Contains-append_cases, Contains-append_left, Contains-append_right, Contains-push}
use Rattle.avm_ledger.specs.declared.header.Header.{Header}
use Rattle.avm_states.proofs.Maps.{is_Equal, lookup-inserted, lookup-inserted_other}
use Rattle.avm_items.specs.declared.call_data.CallData.{CallData}
use Rattle.avm_items.specs.declared.item.Item.{Item}
use Rattle.avm_items.specs.declared.item_value.ItemValue.{ItemValue}
use Rattle.avm_items.specs.Items.{ItemMap, Known, item_cmp, value_in, with_item}
use Rattle.avm_items.specs.Asks.{Ask, Gives, Asks, Answer, answer_at, answer_from}
use Rattle.avm_items.proofs.Puts.{item_total, item_same}
use Rattle.avm_items.proofs.Questions.{question_with_more}
use Rattle.avm_call.specs.Calls.{call_result}
use Rattle.avm_call.specs.AskedFor.{AreAskedFor, asked_at, asked_while_known}

pub err_same : {A : Type 0} {a b : Item} → ◌≡◌ {A = Answer A} (Err a) (Err b) → a ≡ b
err_same e = cc

pub on_top : (x : Item) (xs : List Item) → Contains (x ∷ xs) x
on_top x xs = Contains-append_left (x ∷ []) xs x (Contains-push [] x)

pub below : (x : Item) (xs : List Item) (y : Item) → Contains xs y → Contains (x ∷ xs) y
below x xs y h = Contains-append_right (x ∷ []) xs y h

record AskedAfter {A : Type 0} (known more : Known) (t : Ask A) (x : Item) : Type 0 where
  stays : (y : Item) → Contains (asked_while_known known t) y → Contains (asked_while_known more t) y
  answered : Contains (asked_while_known more t) x

none_asked : {P : Type 0} (y : Item) → Contains [] y → P
none_asked y h = absurd (omega (arith, h.1))

grown : (x : Item) (xs ys : List Item) → ((z : Item) → Contains xs z → Contains ys z) → (z : Item) → Contains (x ∷ xs) z → Contains (x ∷ ys) z
grown x xs ys more z h = elim (Contains-append_cases (x ∷ []) xs z h) [ inl one ↦ Contains-append_left (x ∷ []) ys z one | inr rest ↦ below x ys z (more z rest) ]

after_at : {A : Type 0} (known more : Known) (x : Item) (v : ItemValue) → more x ≡ Some v → (y : Item) (k : ItemValue → Ask A) → ((u : ItemValue) → answer_from known (k u) ≡ Err x → AskedAfter known more (k u) x)
    → (o : Option ItemValue) → known y ≡ o → ((u : ItemValue) → o ≡ Some u → more y ≡ Some u) → answer_at y (λ u. answer_from known (k u)) o ≡ Err x → AskedAfter known more (Asks y k) x
after_at known more x v there y k next None is same e =
    let is_x : y ≡ x = err_same e in
    record {
      stays = λ z h. none_asked z (subst (λ xs. Contains xs z) (ap (asked_at y (λ u. asked_while_known known (k u))) is) h);
      answered = subst (Contains (asked_while_known more (Asks y k))) is_x
          (subst (λ xs. Contains xs y) (sym (ap (asked_at y (λ u. asked_while_known more (k u))) (ap more is_x ∙ there))) (on_top y (asked_while_known more (k v))));
    }
after_at known more x v there y k next (Some u) is same e =
    let rest = next u e in
    let before = ap (asked_at y (λ w. asked_while_known known (k w))) is in
    let after = ap (asked_at y (λ w. asked_while_known more (k w))) (same u refl) in
    record {
      stays = λ z h. subst (λ xs. Contains xs z) (sym after) (grown y (asked_while_known known (k u)) (asked_while_known more (k u)) rest.stays z (subst (λ xs. Contains xs z) before h));
      answered = subst (λ xs. Contains xs x) (sym after) (below y (asked_while_known more (k u)) x rest.answered);
    }

asked_after : {A : Type 0} (known more : Known) (x : Item) (v : ItemValue) → more x ≡ Some v → ((y : Item) (u : ItemValue) → known y ≡ Some u → more y ≡ Some u) → (t : Ask A) → answer_from known t ≡ Err x → AskedAfter known more t x
asked_after known more x v there same (Gives a) e = absurd cc
asked_after known more x v there same (Asks y k) e = after_at known more x v there y k (λ u. asked_after known more x v there same (k u)) (known y) refl (same y) e

-- ---- one item more

value_there : (reads : ItemMap) (x : Item) (v : ItemValue) (y : Item) (b : Bool) → is_eq (item_cmp y x) ≡ b → value_in (with_item reads x v) y ≡ cond b (Some v) (value_in reads y)
value_there reads x v y true tied = ap (value_in (with_item reads x v)) (item_same y x (is_Equal (item_cmp y x) tied)) ∙ lookup-inserted item_total x v reads
value_there reads x v y false other = lookup-inserted_other item_total y x v reads other

stays_there : (reads : ItemMap) (x : Item) (v : ItemValue) → value_in reads x ≡ None → (y : Item) (u : ItemValue) → value_in reads y ≡ Some u → value_in (with_item reads x v) y ≡ Some u
stays_there reads x v unknown y u h = by (is_eq (item_cmp y x)) refl
  where
    by : (b : Bool) → is_eq (item_cmp y x) ≡ b → value_in (with_item reads x v) y ≡ Some u
    by true tied = let no : None ≡ Some u = sym unknown ∙ sym (ap (value_in reads) (item_same y x (is_Equal (item_cmp y x) tied))) ∙ h in absurd cc
    by false other = value_there reads x v y false other ∙ h

-- where no items are supplied, none is there that was not asked for
pub none_asked_for : (call : CallData) (header : Header) → AreAskedFor [] call header
none_asked_for call header = λ x v e. absurd cc

-- once the item that a call asks for is added, each item supplied is still asked for
pub asked_with_answer : (reads : ItemMap) (call : CallData) (header : Header) (x : Item) (v : ItemValue) → AreAskedFor reads call header → answer_from (value_in reads) (call_result call header) ≡ Err x → AreAskedFor (with_item reads x v) call header
asked_with_answer reads call header x v asked e = λ y u there. by y u (is_eq (item_cmp y x)) refl there
  where
    unknown : value_in reads x ≡ None
    unknown = (question_with_more (value_in reads) (value_in reads) (record { same = λ y u h. h }) (call_result call header) x e).0

    answer : value_in (with_item reads x v) x ≡ Some v
    answer = lookup-inserted item_total x v reads

    after : AskedAfter (value_in reads) (value_in (with_item reads x v)) (call_result call header) x
    after = asked_after (value_in reads) (value_in (with_item reads x v)) x v answer (stays_there reads x v unknown) (call_result call header) e

    by : (y : Item) (u : ItemValue) (b : Bool) → is_eq (item_cmp y x) ≡ b → value_in (with_item reads x v) y ≡ Some u → Contains (asked_while_known (value_in (with_item reads x v)) (call_result call header)) y
    by y u true tied h = subst (Contains (asked_while_known (value_in (with_item reads x v)) (call_result call header))) (sym (item_same y x (is_Equal (item_cmp y x) tied))) after.answered
    by y u false other h = after.stays y (asked y u (sym (value_there reads x v y false other) ∙ h))
