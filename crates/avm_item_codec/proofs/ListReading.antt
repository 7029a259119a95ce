-- Reading items with their values one after another.
use Rattle.std.proofs.Common.{◌≡◌, ℕ, zero, suc, ◌<◌, List, Ok, refl, sym, ap, ◌∙◌, arith}
use Rattle.teal_value.specs.Answer.{Fails}
use Rattle.teal_value.specs.declared.failure.Failure.{Failure}
use Rattle.teal_value.specs.declared.failure.Failure.TheVariants as failure
use Rattle.avm_ledger.specs.declared.ledger_fault.LedgerFault.{LedgerFault}
use Rattle.avm_ledger.specs.FieldReader.{Front}
use Rattle.avm_ledger.proofs.FieldsBack.{then}
use Rattle.avm_ledger.proofs.RisingReading.{stopped}
use Rattle.avm_items.specs.declared.item.Item.{Item}
use Rattle.avm_items.specs.declared.item_value.ItemValue.{ItemValue}
use Rattle.avm_items.specs.Items.{ItemMap, with_item}
use Rattle.avm_item_codec.specs.ItemReader.{new_entry_at, more_items_at}

-- after one more entry is read and put in, those so far and the rest still give what is meant
pub goes_on : (known now : ItemMap) (left n : ℕ) (rest : List ℕ) (x : Item) (v : ItemValue) (behind : List ℕ) (meant : Front LedgerFault ItemMap)
    → more_items_at known left rest ≡ meant → new_entry_at known rest ≡ Ok ((x, v), behind) → now ≡ with_item known x v → left ≡ suc n → more_items_at now n behind ≡ meant
goes_on known now left n rest x v behind meant is e put less =
    ap (λ m. more_items_at m n behind) put ∙ sym (then _ _ _ _ e refl) ∙ ap (λ m. more_items_at known m rest) (sym less) ∙ is

-- while any are left, a failure at the next entry is the failure of the whole reading
pub no_entry : (known : ItemMap) (left : ℕ) (rest : List ℕ) (d : Failure LedgerFault) (meant : Front LedgerFault ItemMap)
    → more_items_at known left rest ≡ meant → Fails d (new_entry_at known rest) → 0 < left → Fails d meant
no_entry known left rest failure.Memory meant is e some = tt
no_entry known zero rest (failure.Fault f) meant is e some = absurd (omega arith)
no_entry known (suc n) rest (failure.Fault f) meant is e some = sym is ∙ stopped (new_entry_at known rest) f _ e
