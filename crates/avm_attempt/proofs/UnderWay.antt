-- A run that is supplied from items that are known, from one question to the next.
use Rattle.std.proofs.Common.{◌≡◌, ◌+◌, ◌<◌, [], length, refl, sym, ap, subst, ◌∙◌}
use Rattle.std.specs.Prelude.{ℕ, Option, Some, None, Ok}
use Rattle.avm_states.proofs.Maps.{lookup-inserted_other}
use Rattle.avm_ledger.specs.declared.header.Header.{Header}
use Rattle.avm_ledger.specs.Ledgers.{Ledger}
use Rattle.avm_items.specs.declared.call_data.CallData.{CallData}
use Rattle.avm_items.specs.declared.item.Item.{Item}
use Rattle.avm_items.specs.declared.item_value.ItemValue.{ItemValue}
use Rattle.avm_items.specs.Items.{ItemMap, value_in, with_item}
use Rattle.avm_items.specs.LedgerItems.{AgreesWithReads}
use Rattle.avm_items.specs.Locality.{Extends}
use Rattle.avm_items.proofs.OneMore.{is_there, one_longer, same_or_other}
use Rattle.avm_items.proofs.Puts.{item_total}
use Rattle.avm_items.proofs.Questions.{question_with_more}
use Rattle.avm_call.specs.Calls.{call_result}
use Rattle.avm_call.specs.Ends.{most_items}
use Rattle.avm_run.specs.declared.call_run.Advance.TheVariants as advance
use Rattle.avm_run.specs.Advances.{Advances, AsksFor, Supplies}
use Rattle.avm_run.specs.FinishedCalls.{IsCallOnLedgers}
use Rattle.avm_run.specs.Results.{CallRecord}
use Rattle.avm_run.specs.RunState.{Progress}
use Rattle.avm_attempt.specs.Attempts.{AsksFirst, EndsOver, MayGoOn, HasAskedFor}

-- the items that a run was supplied with
abbrev pub reads_in : Option Progress → ItemMap
reads_in (Some p) = p.reads
reads_in None = []

-- a run of the call that was supplied with known items
abbrev pub IsUnderWay : CallData → Header → ItemMap → Option Progress → Type 0
IsUnderWay call header known None = ⊥
IsUnderWay call header known (Some p) = (p.call ≡ call) × (p.header ≡ header) × Extends (value_in p.reads) (value_in known)

-- a run that begins was supplied with nothing
pub begins : (call : CallData) (header : Header) (known : ItemMap) (run : Option Progress)
    → run ≡ Some (record { call = call; header = header; reads = []; asked = None; steps = None }) → IsUnderWay call header known run
begins call header known run is = subst (IsUnderWay call header known) (sym is) (refl, refl, record { same = λ x v e. absurd cc })

-- it may go on
pub may_go_on : (call : CallData) (header : Header) (known : ItemMap) (run : Option Progress) → IsUnderWay call header known run → MayGoOn run
may_go_on call header known None way = way
may_go_on call header known (Some p) way = tt

-- ---- it asks

-- a run that asks for an item has asked for it
pub has_asked : (run now : Option Progress) (x : Item) → Advances run now (Ok (advance.Need x)) → HasAskedFor x now
has_asked None now x asks = absurd asks
has_asked (Some p) now x asks = subst (HasAskedFor x) (sym asks.1.now) refl

-- what it asks for and is not known is the first such item of the call
pub asks_first : (call : CallData) (header : Header) (known : ItemMap) (run now : Option Progress) (x : Item) → IsUnderWay call header known run → Advances run now (Ok (advance.Need x)) → value_in known x ≡ None
    → AsksFirst call header known x
asks_first call header known None now x way asks none = absurd way
asks_first call header known (Some p) now x way asks none =
    let over = (question_with_more (value_in p.reads) (value_in known) way.2 (call_result p.call p.header) x asks.1.definition).1 none in
    record { unknown = none; first = rw (← way.0, ← way.1) over }

-- with the value that is known
known_after : (reads known : ItemMap) (x : Item) (v : ItemValue) → Extends (value_in reads) (value_in known) → value_in known x ≡ Some v → Extends (value_in (with_item reads x v)) (value_in known)
known_after reads known x v more is = record {
  same = λ y u e.
      same_or_other x y (λ same. ap (value_in known) same ∙ is ∙ sym (is_there reads x v) ∙ ap (value_in (with_item reads x v)) (sym same) ∙ e)
      (λ other. more.same y u (sym (lookup-inserted_other item_total y x v reads other) ∙ e));
}

-- a run that was supplied with the known value of an item that it asked for
pub record IsSuppliedOn (call : CallData) (header : Header) (known : ItemMap) (run now : Option Progress) : Type 0 where
  pub under_way : IsUnderWay call header known now
  pub longer : length (reads_in now) ≡ length (reads_in run) + 1
  pub few : length (reads_in run) < most_items

-- a run after it was supplied
abbrev after_supply : Item → ItemValue → Progress → Option Progress
after_supply x v p = Some (record p { reads = with_item p.reads x v; asked = None })

supplied_with : (call : CallData) (header : Header) (known : ItemMap) (p q : Progress) (asked now : Option Progress) (x : Item) (v : ItemValue) → IsUnderWay call header known (Some p) → (steps : Option ℕ) → AsksFor p steps asked x
    → asked ≡ Some q → Supplies (Some q) now x v None → value_in known x ≡ Some v → IsSuppliedOn call header known (Some p) now
supplied_with call header known p q asked now x v way steps asks is given found =
    let same : ◌≡◌ {A = Progress} q (record p { asked = Some x; steps = steps }) = let both : ◌≡◌ {A = Option Progress} (Some q) (Some (record p { asked = Some x; steps = steps })) = sym is ∙ asks.now in cc in
    let is_now : now ≡ after_supply x v (record p { asked = Some x; steps = steps }) = given.1 ∙ ap (after_supply x v) same in
    subst (IsSuppliedOn call header known (Some p)) (sym is_now) (record {
      under_way = (way.0, way.1, known_after p.reads known x v way.2 found);
      longer = one_longer p.reads x v asks.not_supplied;
      few = asks.few;
    })

-- supplied with the known value, it is under way still, with one item more
pub supplied_on : (call : CallData) (header : Header) (known : ItemMap) (run asked now : Option Progress) (x : Item) (v : ItemValue) → IsUnderWay call header known run → Advances run asked (Ok (advance.Need x))
    → Supplies asked now x v None → value_in known x ≡ Some v → IsSuppliedOn call header known run now
supplied_on call header known None asked now x v way asks given found = absurd way
supplied_on call header known (Some p) None now x v way asks given found = absurd given
supplied_on call header known (Some p) (Some q) now x v way asks given found = supplied_with call header known p q (Some q) now x v way asks.0 asks.1 refl given found

-- ---- it ends

agrees_less : (l : Ledger) (reads known : ItemMap) → Extends (value_in reads) (value_in known) → AgreesWithReads l known → AgreesWithReads l reads
agrees_less l reads known more agrees = λ x v e there. agrees x v (more.same x v e) there

-- where it ends, the call has ended over known items
pub ends_over : (call : CallData) (header : Header) (known : ItemMap) (run now : Option Progress) (f : CallRecord) → IsUnderWay call header known run → Advances run now (Ok (advance.Done f)) → IsCallOnLedgers f → EndsOver call header known f
ends_over call header known None now f way ends law = absurd way
ends_over call header known (Some p) now f way ends law =
    let more : Extends (value_in f.reads) (value_in known) = rw ends.same_reads way.2 in
    record {
      same_call = ends.same_call ∙ way.0;
      same_header = ends.same_header ∙ way.1;
      reads = more;
      on_ledgers = λ l order agrees. law l order (agrees_less l f.reads known more agrees);
    }
