-- One more item supplied: what was known stays, and one question less is left.
use Rattle.std.proofs.Common.{◌≡◌, ◌+◌, ◌-◌, ◌<◌, length, sym, ap, subst, ◌∙◌, arith}
use Rattle.std.specs.Prelude.{IsTrue, None, Some, Err}
use Rattle.avm_ledger.specs.declared.header.Header.{Header}
use Rattle.avm_states.proofs.Maps.{lookup-inserted_other}
use Rattle.avm_items.specs.declared.call_data.CallData.{CallData}
use Rattle.avm_items.specs.declared.item.Item.{Item}
use Rattle.avm_items.specs.declared.item_value.ItemValue.{ItemValue}
use Rattle.avm_items.specs.Items.{Known, ItemMap, value_in, with_item}
use Rattle.avm_items.specs.Asks.{answer_from}
use Rattle.avm_items.specs.Counting.{Any}
use Rattle.avm_items.specs.Locality.{Extends}
use Rattle.avm_items.proofs.Counting.{at_most-more, one_less, asks_some}
use Rattle.avm_items.proofs.OneMore.{is_there, one_longer, same_or_other, still_known}
use Rattle.avm_items.proofs.Puts.{item_total}
use Rattle.avm_items.proofs.Questions.{question_with_more}
use Rattle.avm_call.specs.Calls.{call_result}
use Rattle.avm_call.specs.Ends.{has_programs, most_items}
use Rattle.avm_call.proofs.AskedFor.{asked_with_answer}
use Rattle.avm_run.specs.Progress.{IsFew}

extends_itself : (known : Known) → Extends known known
extends_itself known = record { same = λ x v e. e }

-- a question is for an item that was not supplied
pub not_supplied : (known : Known) (call : CallData) (header : Header) (x : Item) → answer_from known (call_result call header) ≡ Err x → known x ≡ None
not_supplied known call header x e = (question_with_more known known (extends_itself known) (call_result call header) x e).0

-- ---- what is found after an item was added

found_after : (P : ItemValue → Type 0) (items : ItemMap) (x : Item) (v : ItemValue) → P v → ((y : Item) (u : ItemValue) → value_in items y ≡ Some u → P u) → (y : Item) (u : ItemValue) → value_in (with_item items x v) y ≡ Some u → P u
found_after P items x v new old y u e =
    same_or_other x y
    (λ same. let is : Some v ≡ Some u = sym (is_there items x v) ∙ ap (value_in (with_item items x v)) (sym same) ∙ e in let value : v ≡ u = cc in subst P value new)
    (λ other. old y u (sym (lookup-inserted_other item_total y x v items other) ∙ e))

-- ---- the questions that are left

abbrev Comes : ItemValue → Type 0
Comes v = IsTrue (has_programs v)

-- where IsFew holds, a call that still asks was supplied with fewer than most_items items
pub few_left : (call : CallData) (header : Header) (reads : ItemMap) (x : Item) → IsFew call header reads → answer_from (value_in reads) (call_result call header) ≡ Err x → length reads < most_items
few_left call header reads x few e =
    let h : 0 < most_items - length reads = asks_some Comes (most_items - length reads) Any (value_in reads) x (call_result call header) few.left e in
    omega arith

-- IsFew stays with an item that the call asks for, which has programs if it is an application
pub fewer : (call : CallData) (header : Header) (reads : ItemMap) (x : Item) (v : ItemValue) → IsTrue (has_programs v) → IsFew call header reads → answer_from (value_in reads) (call_result call header) ≡ Err x → IsFew call header (with_item reads x v)
fewer call header reads x v comes few asks =
    let none = not_supplied (value_in reads) call header x asks in
    let fit = found_after Comes reads x v comes few.programs in
    let long = one_longer reads x v none in
    let less = one_less Comes (most_items - length reads) Any (value_in reads) (value_in (with_item reads x v)) (still_known reads x v none) fit x v (is_there reads x v) (call_result call header) few.left asks in
    record { asked = asked_with_answer reads call header x v few.asked asks; programs = fit; left = at_most-more Comes (most_items - length reads - 1) (most_items - length (with_item reads x v)) Any _ (omega (arith, long)) less.1 }

-- with an item that a call asks for, the items supplied are one more
pub longer_by_one : (call : CallData) (header : Header) (reads : ItemMap) (x : Item) (v : ItemValue) → answer_from (value_in reads) (call_result call header) ≡ Err x → length (with_item reads x v) ≡ length reads + 1
longer_by_one call header reads x v asks = one_longer reads x v (not_supplied (value_in reads) call header x asks)
