-- A block that is shown has a text.
use Rattle.std.proofs.Common.{◌≡◌, ℕ, ◌^◌, ◌<◌, ◌≤◌, Bool, true, false, List, [], ◌∷◌, All, Option, Some, None, IsUtf8, refl, sym, subst, arith}
use Rattle.std.specs.Prelude.{codes, decimal}
use Rattle.std.proofs.lemmas.Fmt.{IsAscii-decimal}
use Rattle.std.proofs.lemmas.List.Elements.{All-cons, All-head, All-nil, All-tail}
use Rattle.std.proofs.lemmas.Str.{IsUtf8-append, IsUtf8-from_ascii}
use Rattle.teal_code.specs.Limits.{most_program_bytes}
use Rattle.teal_value.specs.declared.fault.Fault.{Fault}
use Rattle.teal_value.specs.declared.fault.Fault.TheVariants as fault
use Rattle.teal_value.specs.FaultNames.{fault_name}
use Rattle.avm_states.specs.declared.schema.Schema.{Schema}
use Rattle.avm_ledger.specs.declared.header.Profile.{Profile}
use Rattle.avm_ledger.specs.declared.header.Profile.TheVariants.{Two, Three}
use Rattle.avm_ledger.specs.Ledgers.{Ledger}
use Rattle.avm_ledger.specs.LedgerRules.{KeepsRules}
use Rattle.avm_items.specs.declared.call_data.Completion.{Completion}
use Rattle.avm_items.specs.declared.call_data.Completion.TheVariants.{NoOp}
use Rattle.avm_items.specs.declared.call_data.CallData.{CallData}
use Rattle.avm_items.specs.CallFields.{completion_number}
use Rattle.avm_call.specs.declared.outcome.Cause.{Cause}
use Rattle.avm_call.specs.declared.outcome.Cause.TheVariants as cause
use Rattle.avm_call.specs.declared.outcome.Outcome.{Outcome}
use Rattle.avm_call.specs.declared.outcome.Outcome.TheVariants as outcome
use Rattle.avm_call.specs.declared.outcome.Why.{Why}
use Rattle.avm_call.specs.declared.outcome.Why.TheVariants as why
use Rattle.avm_call.specs.FaultNames.{why_name}
use Rattle.avm_call.specs.Places.{HasCausePlace, HasPlace}
use Rattle.avm_block.specs.declared.entry.Entry.{Entry}
use Rattle.avm_block.specs.AcceptedCalls.{is_accepted}
use Rattle.avm_block.specs.BlockRoundTrip.{AreEntries, IsBlock}
use Rattle.avm_block.specs.Blocks.{Block, calls_in, calls_of}
use Rattle.avm_input.specs.Outcomes.{cause_text, faulted_text, outcome_text}
use Rattle.avm_rule_laws.specs.Rules.{IsCallOfBytes}
use Rattle.json.specs.Json.{Json}
use Rattle.json.proofs.Printed.Utf8.{IsUtf8-are_ascii, are_ascii}
use Rattle.json_views.specs.Documents.{address, base64, object_of, uint}
use Rattle.json_views.specs.ShownBlocks.{profile_number, shown_block, shown_block_entry}
use Rattle.json_views.specs.ShownCalls.{schema_members, shown_call}
use Rattle.json_laws.specs.OfBytes.{IsWholeLedgerOfBytes}
use Rattle.json_laws.proofs.CallPlaces.{call_is, call_places, schema_is, schema_places}
use Rattle.json_laws.proofs.MembersBack.{Place, present, unless}
use Rattle.json_laws.proofs.ShownLedgerTexts.{accounts_shown, address_shown, applications_shown, base64_shown, digits_shown}
use Rattle.json_laws.proofs.TextsBack.{AreShown, IsShown, array_shown, beside, deeper, object_shown, text_shown, uint_shown}

-- ---- members that may be left out

-- a member that is left out, or whose value has a text
abbrev MayBeShown : ℕ → Option Json → Type 0
MayBeShown d None = Unit {0}
MayBeShown d (Some j) = IsShown d j

-- each name is ASCII, and each value that is there has a text
abbrev PlacesShown : ℕ → List Place → Type 0
PlacesShown d [] = Unit {0}
PlacesShown d (p ∷ ps) = ((are_ascii p.0 ≡ true) × MayBeShown d p.1) × PlacesShown d ps

maybe : (d : ℕ) (empty : Bool) (j : Json) → IsShown d j → MayBeShown d (unless empty j)
maybe d true j h = tt
maybe d false j h = h

present_shown : (d : ℕ) (ps : List Place) → PlacesShown d ps → AreShown d (present ps)
present_shown d [] h = tt
present_shown d ((name, None) ∷ ps) h = present_shown d ps h.1
present_shown d ((name, Some j) ∷ ps) h = (h.0, present_shown d ps h.1)

-- ---- calls

schema_shown : (s : Schema) → s.uints < 256 → s.bytes < 256 → IsShown 4 (object_of (schema_members s))
schema_shown s uints bytes =
    subst (IsShown 4) (sym (schema_is s)) (object_shown 3 _ (present_shown 3 (schema_places s)
    (beside (refl, maybe 3 _ _ (uint_shown 3 s.bytes (omega arith)))
    ((refl, maybe 3 _ _ (uint_shown 3 s.uints (omega arith))), tt))))

completion_small : (k : Completion) → completion_number k < 2 ^ 64
completion_small NoOp = omega arith
completion_small _ = omega arith

call_shown : (c : CallData) → IsCallOfBytes c → IsShown 5 (shown_call c)
call_shown c of =
    subst (IsShown 5) (sym (call_is c)) (object_shown 4 _ (present_shown 4 (call_places c)
    (beside (refl, maybe 4 _ _ (array_shown 3 base64 c.arguments (λ k e lt. base64_shown 3 _)))
    (beside (refl, maybe 4 _ _ (uint_shown 4 (completion_number c.completion) (completion_small c.completion)))
    (beside (refl, maybe 4 _ _ (base64_shown 4 c.approval))
    (beside (refl, maybe 4 _ _ (array_shown 3 address c.accounts (λ k e lt. address_shown 3 _ (of.accounts k e lt))))
    (beside (refl, maybe 4 _ _ (array_shown 3 uint c.foreign_applications (λ k e lt. uint_shown 3 _ (of.fields.foreign_applications k e lt))))
    (beside (refl, maybe 4 _ _ (schema_shown c.global_schema of.fields.global_uints of.fields.global_strings))
    (beside (refl, maybe 4 _ _ (uint_shown 4 c.application of.fields.application))
    (beside (refl, maybe 4 _ _ (schema_shown c.local_schema of.fields.local_uints of.fields.local_strings))
    (beside (refl, maybe 4 _ _ (base64_shown 4 c.clear))
    (beside (refl, maybe 4 _ _ (uint_shown 4 c.fee of.fields.fee))
    (beside (refl, maybe 4 _ _ (uint_shown 4 c.first_valid of.fields.first_valid))
    (beside (refl, maybe 4 _ _ (uint_shown 4 c.last_valid of.fields.last_valid))
    (beside (refl, maybe 4 _ _ (base64_shown 4 c.lease))
    (beside (refl, maybe 4 _ _ (base64_shown 4 c.note))
    (beside (refl, maybe 4 _ _ (address_shown 4 c.rekey_to of.rekey_to))
    (beside (refl, address_shown 4 c.sender of.sender)
    ((refl, text_shown 4 (codes "appl") (IsUtf8-are_ascii (codes "appl") refl)), tt)))))))))))))))))))

-- ---- outcomes

faults_ascii : (f : Fault) → are_ascii (fault_name f) ≡ true
faults_ascii fault.Err = refl
faults_ascii _ = refl

whys_ascii : (w : Why) → are_ascii (why_name w) ≡ true
whys_ascii why.NoApp = refl
whys_ascii _ = refl

word : (s : List ℕ) → are_ascii s ≡ true → IsUtf8 s
word s small = IsUtf8-are_ascii s small

faulted_utf8 : (f : Fault) (place : ℕ) → place ≤ most_program_bytes → IsUtf8 (faulted_text f place)
faulted_utf8 f place within =
    IsUtf8-append (codes "faulted ") _ (word (codes "faulted ") refl) (IsUtf8-append (fault_name f) _ (word (fault_name f) (faults_ascii f))
    (IsUtf8-append (codes " ") (decimal place) (word (codes " ") refl) (IsUtf8-from_ascii (decimal place) (IsAscii-decimal place (omega (arith, within))))))

cause_utf8 : (c : Cause) → HasCausePlace c → IsUtf8 (cause_text c)
cause_utf8 cause.Gone h = word (codes "gone") refl
cause_utf8 cause.Rejected h = word (codes "rejected") refl
cause_utf8 (cause.Faulted f place) h = faulted_utf8 f place h

outcome_utf8 : (o : Outcome) → HasPlace o → IsUtf8 (outcome_text o)
outcome_utf8 outcome.Approved h = word (codes "approved") refl
outcome_utf8 outcome.Rejected h = word (codes "rejected") refl
outcome_utf8 (outcome.Faulted f place) h = faulted_utf8 f place h
outcome_utf8 (outcome.Refused w) h = IsUtf8-append (codes "refused ") (why_name w) (word (codes "refused ") refl) (word (why_name w) (whys_ascii w))
outcome_utf8 (outcome.ClearedAnyway c) h = IsUtf8-append (codes "cleared ") (cause_text c) (word (codes "cleared ") refl) (cause_utf8 c h)

-- ---- blocks

-- an entry whose value has a text
EntryShown : Entry → Type 0
EntryShown e = IsShown 6 (shown_block_entry e)

entries_shown : (accepted : CallData → Bool) (before : ℕ) (es : List Entry) → AreEntries accepted before es → All IsCallOfBytes (calls_in es) → All EntryShown es
unfolding EntryShown
entries_shown accepted before [] are of = All-nil EntryShown
entries_shown accepted before (e ∷ es) are of =
    All-cons EntryShown e es
    (object_shown 5 _ (beside (refl, text_shown 5 (outcome_text e.outcome) (outcome_utf8 e.outcome are.0.outcome))
    (beside (refl, uint_shown 5 e.timestamp are.0.timestamp)
    ((refl, call_shown e.call (All-head IsCallOfBytes e.call (calls_in es) of)), tt))))
    (entries_shown accepted e.timestamp es are.1 (All-tail IsCallOfBytes e.call (calls_in es) of))

profile_small : (p : Profile) → profile_number p < 2 ^ 64
profile_small Two = omega arith
profile_small Three = omega arith

-- a ledger and a block that are shown have a text that is read back
pub block_shown : (l : Ledger) (b : Block) → KeepsRules l → IsWholeLedgerOfBytes l → IsBlock is_accepted b → All IsCallOfBytes (calls_of b) → IsShown 127 (shown_block l b)
unfolding EntryShown
block_shown l b rules of is calls =
    deeper 8 127 _ (omega arith) (object_shown 7 _
    (beside (refl, accounts_shown l rules of)
    (beside (refl, applications_shown l rules of)
    (beside (refl, object_shown 6 _ (beside (refl, digits_shown 6 _) (beside (refl, digits_shown 6 _) (beside (refl, digits_shown 6 _) ((refl, digits_shown 6 _), tt)))))
    (beside (refl, uint_shown 7 b.header.latest_timestamp is.header.latest_timestamp)
    (beside (refl, uint_shown 7 b.header.max_life is.header.max_life)
    (beside (refl, uint_shown 7 b.header.min_balance is.header.min_balance)
    (beside (refl, uint_shown 7 b.header.min_fee is.header.min_fee)
    (beside (refl, uint_shown 7 l.next_id rules.small)
    (beside (refl, uint_shown 7 (profile_number b.header.profile) (profile_small b.header.profile))
    (beside (refl, uint_shown 7 b.header.round is.header.round)
    ((refl, array_shown 6 shown_block_entry b.entries (entries_shown (is_accepted b.header.profile) 0 b.entries is.entries calls)), tt))))))))))))
