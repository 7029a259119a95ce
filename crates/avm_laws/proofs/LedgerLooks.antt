-- Calls over look-ups of a ledger.
use Rattle.std.proofs.Common.{◌≡◌, ap, sym, refl, false, ◌&&◌, List, [], ◌∷◌, All}
use Rattle.std.proofs.lemmas.List.Elements.{All-head, All-tail}
use Rattle.avm_ledger.specs.Ledgers.{Ledger}
use Rattle.avm_items.specs.declared.item.Item.{Item}
use Rattle.avm_items.specs.Items.{Look}
use Rattle.avm_items.specs.LedgerItems.{at, is_of_gone}
use Rattle.avm_items.specs.Locality.{AlikeOn}
use Rattle.avm_items.specs.Asks.{items_asked}
use Rattle.avm_items.proofs.Questions.{alike_results}
use Rattle.avm_call.specs.Calls.{call_result}
use Rattle.avm_laws.specs.LedgerLooks.{CallsAreTheLedgers, IsLookOf, LedgersAreLooks, was_given}
use Rattle.avm_laws.proofs.CallChanges.{asks_for_none_gone}

standing : (l : Ledger) (look : Look) → IsLookOf l look → (x : Item) → is_of_gone l x ≡ false → at l x ≡ look x
standing l look is x there = sym (is.same x (ap (λ b. b && was_given l x) there))

alike : (l : Ledger) (look : Look) → IsLookOf l look → (xs : List Item) → All (λ x. is_of_gone l x ≡ false) xs → AlikeOn xs (at l) look
alike l look is [] all = tt
alike l look is (x ∷ xs) all = (
  standing l look is x (All-head (λ y. is_of_gone l y ≡ false) x xs all),
  alike l look is xs (All-tail (λ y. is_of_gone l y ≡ false) x xs all),
)

-- an orderly ledger's own look-up is one of its look-ups
pub ledgers_are_looks : LedgersAreLooks
ledgers_are_looks l orderly = record { orderly = orderly; same = λ x there. refl }

-- a call over a look-up of a ledger has the result that it has over the ledger
pub calls_are_the_ledgers : CallsAreTheLedgers
calls_are_the_ledgers l look call header is =
    sym (alike_results (at l) look (call_result call header) (alike l look is (items_asked (at l) (call_result call header)) (asks_for_none_gone l call header is.orderly)))
