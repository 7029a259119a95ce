-- What the laws of the bytes of items say of items that were read.
use Rattle.std.proofs.Common.{◌≡◌, ℕ, ◌^◌, ◌<◌, Bool, true, false, cond, eqb, List, [], length, Result, Ok, Err, All, refl, subst, ap, ◌∙◌}
use Rattle.std.specs.Prelude.{IfOk}
use Rattle.std.proofs.lemmas.Bool.{eqb-true}
use Rattle.std.proofs.lemmas.List.{nil_from_length}
use Rattle.teal_value.specs.Answer.{Gives}
use Rattle.teal_value.specs.declared.failure.Failure.{Failure}
use Rattle.avm_ledger.specs.declared.ledger_fault.LedgerFault.{LedgerFault}
use Rattle.avm_ledger.specs.declared.ledger_fault.LedgerFault.TheVariants.{Rest}
use Rattle.avm_ledger.specs.FieldReader.{alone}
use Rattle.avm_ledger.specs.Encodings.{counted_bytes, u32_bytes}
use Rattle.avm_ledger.proofs.FieldsEncoded.{from, same_value}
use Rattle.avm_items.specs.declared.item.Item.{Item}
use Rattle.avm_items.specs.declared.item_value.ItemValue.{ItemValue}
use Rattle.avm_items.specs.Items.{ItemMap}
use Rattle.avm_item_codec.specs.ItemEncoding.{item_entry_bytes}
use Rattle.avm_item_codec.specs.ItemReader.{items_front, items_at}
use Rattle.avm_item_codec.specs.ItemRules.{IsEntry, AreNew, with_all}
use Rattle.avm_item_codec.specs.ItemRoundTrip.{IsListOf}
use Rattle.avm_item_codec.proofs.ItemsBack.{list_back_alone}
use Rattle.avm_item_codec.proofs.ItemsEncoded.{list_read}

at_end : (x : ItemMap × List ℕ) (items : ItemMap) (b : Bool) → eqb (length x.1) 0 ≡ b → ◌≡◌ {A = Result ItemMap LedgerFault} (cond b (Ok x.0) (Err Rest)) (Ok items) → (x.0 ≡ items) × (x.1 ≡ [])
at_end x items true test e = (same_value _ _ e, nil_from_length x.1 (eqb-true (length x.1) 0 test))
at_end x items false test e = absurd cc

alone_read : (bytes : List ℕ) (items : ItemMap) → All (λ b. b < 256) bytes → items_at bytes ≡ Ok items → (es : List (Item × ItemValue)) × IsListOf bytes items [] es
alone_read bytes items all e =
    from (items_front bytes) (alone Rest) items e (λ x ex e1.
    let end = at_end x items (eqb (length x.1) 0) refl e1 in
    list_read bytes items [] all (ex ∙ ap (λ m. Ok (m, x.1)) end.0 ∙ ap (λ rest. Ok (items, rest)) end.1))

-- items that are read are encoded by those very bytes, in some order
pub encoding_of : (bytes : List ℕ) (r : Result ItemMap (Failure LedgerFault)) → All (λ b. b < 256) bytes → Gives (λ x. x) r (items_at bytes) → IfOk r (λ items. (es : List (Item × ItemValue)) × IsListOf bytes items [] es)
encoding_of bytes (Ok items) all e = alone_read bytes items all e
encoding_of bytes (Err d) all e = tt

-- bytes of entries that keep the rules are read as their items, unless memory is refused
pub only_its_items : (bytes : List ℕ) (r : Result ItemMap (Failure LedgerFault)) (es : List (Item × ItemValue)) → Gives (λ x. x) r (items_at bytes) → All IsEntry es → AreNew [] es → length es < 2 ^ 32
    → bytes ≡ counted_bytes u32_bytes item_entry_bytes es → Gives (λ x. x) r (Ok (with_all [] es))
only_its_items bytes r es given all new few e = subst (λ m. Gives (λ x. x) r m) (ap items_at e ∙ list_back_alone es all new few) given
