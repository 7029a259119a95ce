-- One thing is found after so many steps of the program of an entry's call.
use Rattle.std.proofs.Common.{◌≡◌, ℕ, Option, Some, None, Result, Ok, Err, ap, refl, subst, sym, ◌∙◌}
use Rattle.std.specs.Prelude.{IsSome}
use Rattle.avm_ledger.specs.declared.application.Application.{Application}
use Rattle.avm_ledger.specs.declared.header.Header.{Header}
use Rattle.avm_ledger.specs.Ledgers.{Ledger}
use Rattle.avm_ledger.specs.Encodings.{ledger_digest}
use Rattle.avm_items.specs.declared.call_data.CallData.{CallData}
use Rattle.avm_items.specs.Asks.{result_over}
use Rattle.avm_items.specs.LedgerItems.{at}
use Rattle.avm_call.specs.declared.outcome.Why.{Why}
use Rattle.avm_call.specs.Calls.{Target, admitted}
use Rattle.avm_call.specs.Views.{View, view_after}
use Rattle.avm_block.specs.declared.entry.Entry.{Entry}
use Rattle.avm_block.specs.Blocks.{Block}
use Rattle.avm_block.specs.declared.past_faults.OpenFault.TheVariants as opening
use Rattle.avm_stepper.specs.Opening.{HasNoProgram, IsWithoutProgram, entry_numbered, ledger_before, row_of_target}
use Rattle.avm_input.specs.declared.refusals.Refusal.{Refusal}
use Rattle.avm_input.specs.declared.refusals.Refusal.TheVariants as refusal
use Rattle.avm_stepper.specs.StepsMade.{CanGo}
use Rattle.avm_commands.specs.DebugCommands.{Finds, IsEnded, IsFound, OneFinding}

same_some : {A : Type 0} {x y : A} → Some x ≡ Some y → x ≡ y
same_some e = cc

some_or_none : {A : Type 0} (o : Option A) → IsSome o → o ≡ None → ⊥
some_or_none (Some x) is none = absurd cc
some_or_none None is none = absurd cc

is_some_there : {A : Type 0} (o : Option A) (x : A) → o ≡ Some x → IsSome o
is_some_there (Some y) x is = refl
is_some_there None x is = absurd cc

-- ---- nothing is shown of a call without a program

unseen_in : (l : Ledger) (call : CallData) (header : Header) (id : ℕ) (o : Option Application) (n : ℕ) (v : View) → result_over (at l) (admitted call) ≡ Ok (record { id = id; row = o }) → o ≡ None → view_after l call header n ≡ Some v → ⊥
unseen_in l call header id None n v admits none shown =
    let unseen : view_after l call header n ≡ None = rw admits refl in
    let never : None ≡ Some v = sym unseen ∙ shown in absurd cc
unseen_in l call header id (Some row) n v admits none shown = absurd cc

unseen_by : (l : Ledger) (call : CallData) (header : Header) (r : Result Target Why) (n : ℕ) (v : View) → result_over (at l) (admitted call) ≡ r → row_of_target r ≡ None → view_after l call header n ≡ Some v → ⊥
unseen_by l call header (Ok t) n v admits none shown = unseen_in l call header t.id t.row n v admits none shown
unseen_by l call header (Err w) n v admits none shown =
    let unseen : view_after l call header n ≡ None = rw admits refl in
    let never : None ≡ Some v = sym unseen ∙ shown in absurd cc

unseen : (l : Ledger) (call : CallData) (header : Header) (n : ℕ) (v : View) → HasNoProgram l call → view_after l call header n ≡ Some v → ⊥
unseen l call header n v none shown = unseen_by l call header (result_over (at l) (admitted call)) n v refl none shown

-- ---- two findings in one entry

module _ (base : Ledger) (b : Block) (number steps : ℕ) where
  abbrev NoEntry : Type 0
  NoEntry = entry_numbered b.entries number ≡ None

  abbrev WrongBase : Type 0
  WrongBase = IsSome (entry_numbered b.entries number) × (b.base ≡ ledger_digest base → ⊥)

  same_entry : (e f : Entry) → entry_numbered b.entries number ≡ Some e → entry_numbered b.entries number ≡ Some f → e ≡ f
  same_entry e f is other = same_some (sym is ∙ other)

  no_entry : (e : Entry) → NoEntry → entry_numbered b.entries number ≡ Some e → ⊥
  no_entry e none is = some_or_none (entry_numbered b.entries number) (is_some_there (entry_numbered b.entries number) e is) none

  one_view : (v w : View) → IsFound base b number steps v → IsFound base b number steps w → v ≡ w
  one_view v w f g =
      let shown = subst (λ (e : Entry). view_after (ledger_before base b e) e.call b.header steps ≡ Some v) (same_entry f.entry g.entry f.there g.there) f.shown in
      same_some (sym shown ∙ g.shown)

  view_has_program : (v : View) → IsFound base b number steps v → IsWithoutProgram base b number → ⊥
  view_has_program v f g =
      let shown = subst (λ (e : Entry). view_after (ledger_before base b e) e.call b.header steps ≡ Some v) (same_entry f.entry g.entry f.there g.there) f.shown in
      unseen (ledger_before base b g.entry) g.entry.call b.header steps v g.none shown

  view_is_not_ended : (v : View) → IsFound base b number steps v → IsEnded base b number steps → ⊥
  view_is_not_ended v f g =
      let can = subst (λ (e : Entry). CanGo (ledger_before base b e) e.call b.header steps) (same_entry f.entry g.entry f.there g.there) f.can_go in
      let (n, lt, no_next) = g.ends in no_next (can n lt)

  end_has_program : IsEnded base b number steps → IsWithoutProgram base b number → ⊥
  end_has_program f g =
      let none = subst (λ (e : Entry). HasNoProgram (ledger_before base b e) e.call) (same_entry g.entry f.entry g.there f.there) g.none in
      some_or_none _ f.program none

  -- the findings that there are
  by_finding : (P : Result View Refusal → Type 0) (r : Result View Refusal) → Finds (base, b) number steps r
      → ((v : View) → IsFound base b number steps v → P (Ok v))
      → (NoEntry → P (Err (refusal.Opening opening.NoEntry)))
      → (WrongBase → P (Err (refusal.Opening opening.WrongBase)))
      → (IsWithoutProgram base b number → P (Err (refusal.Opening opening.NoProgram)))
      → (IsEnded base b number steps → P (Err refusal.Ended))
      → P r
  by_finding P (Ok v) f view no_entry wrong no_program ended = view v f
  by_finding P (Err (refusal.Opening opening.NoEntry)) f view no_entry wrong no_program ended = no_entry f
  by_finding P (Err (refusal.Opening opening.WrongBase)) f view no_entry wrong no_program ended = wrong f
  by_finding P (Err (refusal.Opening opening.NoProgram)) f view no_entry wrong no_program ended = no_program f
  by_finding P (Err refusal.Ended) f view no_entry wrong no_program ended = ended f
  by_finding P (Err _) f view no_entry wrong no_program ended = absurd f

  found_alike : (r s : Result View Refusal) → Finds (base, b) number steps r → Finds (base, b) number steps s → r ≡ s
  found_alike r s f g =
      by_finding (λ x. x ≡ s) r f
      (λ v h. by_finding (λ y. Ok v ≡ y) s g
      (λ w k. ap Ok (one_view v w h k))
      (λ k. absurd (no_entry h.entry k h.there))
      (λ k. absurd (k.1 h.same_base))
      (λ k. absurd (view_has_program v h k))
      (λ k. absurd (view_is_not_ended v h k)))
      (λ h. by_finding (λ y. Err (refusal.Opening opening.NoEntry) ≡ y) s g
      (λ w k. absurd (no_entry k.entry h k.there))
      (λ k. refl)
      (λ k. absurd (some_or_none _ k.0 h))
      (λ k. absurd (no_entry k.entry h k.there))
      (λ k. absurd (no_entry k.entry h k.there)))
      (λ h. by_finding (λ y. Err (refusal.Opening opening.WrongBase) ≡ y) s g
      (λ w k. absurd (h.1 k.same_base))
      (λ k. absurd (some_or_none _ h.0 k))
      (λ k. refl)
      (λ k. absurd (h.1 k.same_base))
      (λ k. absurd (h.1 k.same_base)))
      (λ h. by_finding (λ y. Err (refusal.Opening opening.NoProgram) ≡ y) s g
      (λ w k. absurd (view_has_program w k h))
      (λ k. absurd (no_entry h.entry k h.there))
      (λ k. absurd (k.1 h.same_base))
      (λ k. refl)
      (λ k. absurd (end_has_program k h)))
      (λ h. by_finding (λ y. Err refusal.Ended ≡ y) s g
      (λ w k. absurd (view_is_not_ended w k h))
      (λ k. absurd (no_entry h.entry k h.there))
      (λ k. absurd (k.1 h.same_base))
      (λ k. absurd (end_has_program h k))
      (λ k. refl))

pub one_finding : OneFinding
one_finding input number steps r s f g = found_alike input.0 input.1 number steps r s f g
