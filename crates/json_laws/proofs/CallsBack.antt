-- A call is read back from how it is shown.
use Rattle.std.proofs.Common.{◌≡◌, ℕ, ◌+◌, ◌<◌, ◌≤◌, true, eqb, leb, List, [], ◌∷◌, ◌++◌, length, replicate, All, codes, Some, None, Result, Ok, refl, sym, ap, ◌∙◌, arith}
use Rattle.std.specs.Prelude.{◌^◌}
use Rattle.std.proofs.lemmas.Bool.{and_parts, eqb-true, le-leb}
use Rattle.std.proofs.lemmas.List.{nil_from_length}
use Rattle.teal_value.specs.Answer.{◌>>=◌}
use Rattle.avm_states.specs.declared.schema.Schema.{Schema}
use Rattle.avm_states.specs.Schemas.{most_global_entries, most_local_entries, no_entries}
use Rattle.avm_items.specs.declared.call_data.Completion.{Completion}
use Rattle.avm_items.specs.declared.call_data.Completion.TheVariants.{NoOp, OptIn, CloseOut, ClearState, UpdateApplication, DeleteApplication}
use Rattle.avm_items.specs.declared.call_data.CallData.{CallData}
use Rattle.avm_items.specs.CallFields.{completion_number}
use Rattle.avm_call.specs.CallRules.{call_fault, entries_in}
use Rattle.avm_rule_laws.specs.Rules.{AreBytes, IsCallOfBytes}
use Rattle.avm_rule_laws.proofs.CheckedCalls.{schemas_fit}
use Rattle.json.specs.Json.{Json}
use Rattle.json_documents.specs.Arrays.{each}
use Rattle.json_documents.specs.Faults.{Fault}
use Rattle.json_documents.specs.Members.{optional, optional_in}
use Rattle.json_documents.specs.Groups.{Groups, group}
use Rattle.json_documents.specs.Plain as read
use Rattle.json_documents.specs.Schemas.{schema}
use Rattle.json_documents.specs.Sources.{no_sources}
use Rattle.json_documents.specs.Tables.{transaction_names}
use Rattle.json_documents.specs.Transactions.{action, call_type, lease, lone_call, target, terms, transaction, unless_broken, zero_address, zeros}
use Rattle.json_views.specs.Documents.{address, array_of, base64, object_of, text, uint}
use Rattle.json_views.specs.ShownCalls.{are_zeros, schema_members, shown_call}
use Rattle.json_laws.proofs.ArraysBack.{array_back, at_seam, then}
use Rattle.json_laws.proofs.CallPlaces.{call_is, call_places, schema_is, schema_places}
use Rattle.json_laws.proofs.MembersBack.{Place, all_known, are_among, member_of, needed_back, optional_back, present, under, unless}
use Rattle.json_laws.proofs.PlainBack.{address_back, bytes_back, uint_back}

-- ---- what is left out is the default

no_number : (n : ℕ) → eqb n 0 ≡ true → 0 ≡ n
no_number n e = sym (eqb-true n 0 e)

no_elements : {A : Type 0} (xs : List A) → eqb (length xs) 0 ≡ true → [] ≡ xs
no_elements xs e = sym (nil_from_length xs (eqb-true (length xs) 0 e))

no_room : (s : Schema) → eqb (s.bytes + s.uints) 0 ≡ true → no_entries ≡ s
no_room s e =
    let none = eqb-true (s.bytes + s.uints) 0 e in
    let uints : 0 ≡ s.uints = omega arith in
    let bytes : 0 ≡ s.bytes = omega arith in
    λ i. record { uints = uints i; bytes = bytes i }

zeros_by : (s : List ℕ) → are_zeros s ≡ true → replicate (length s) 0 ≡ s
zeros_by [] e = refl
zeros_by (b ∷ s) e =
    let parts = and_parts (eqb b 0) (are_zeros s) e in
    let first : 0 ≡ b = sym (eqb-true b 0 parts.0) in
    λ i. first i ∷ zeros_by s parts.1 i

all_zeros : (s : List ℕ) → length s ≡ 32 → are_zeros s ≡ true → zeros ≡ s
all_zeros s size e = ap (λ n. replicate n 0) (sym size) ∙ zeros_by s e

first_completion : (k : Completion) → eqb (completion_number k) 0 ≡ true → NoOp ≡ k
first_completion NoOp e = refl
first_completion OptIn e = absurd cc
first_completion CloseOut e = absurd cc
first_completion ClearState e = absurd cc
first_completion UpdateApplication e = absurd cc
first_completion DeleteApplication e = absurd cc

-- ---- the values

list_back : {A : Type 0} (one : Json → Result A Fault) (shown : A → Json) (xs : List A) → All (λ x. one (shown x) ≡ Ok x) xs
    → each (λ so_far j. one j >>= λ x. Ok (so_far ++ x ∷ [])) [] (array_of shown xs) ≡ Ok xs
list_back one shown xs all =
    array_back (λ so_far j. one j >>= λ x. Ok (so_far ++ x ∷ [])) shown (λ ys. ys) xs (λ before x rest is.
    then (one (shown x)) x (λ y. Ok (before ++ y ∷ [])) (Ok (before ++ x ∷ [])) (at_seam (λ y. one (shown y) ≡ Ok y) before x rest xs is all) refl)

action_back : (k : Completion) → action (uint (completion_number k)) ≡ Ok k
action_back NoOp = then _ _ _ _ (uint_back 0 (omega arith)) refl
action_back OptIn = then _ _ _ _ (uint_back 1 (omega arith)) refl
action_back CloseOut = then _ _ _ _ (uint_back 2 (omega arith)) refl
action_back ClearState = then _ _ _ _ (uint_back 3 (omega arith)) refl
action_back UpdateApplication = then _ _ _ _ (uint_back 4 (omega arith)) refl
action_back DeleteApplication = then _ _ _ _ (uint_back 5 (omega arith)) refl

lease_back : (s : List ℕ) → length s ≡ 32 → AreBytes s → lease (base64 s) ≡ Ok s
lease_back s size of = then _ _ _ _ (bytes_back s of) (rw size refl)

schema_back : (most : ℕ) (s : Schema) → s.uints + s.bytes ≤ most → most ≤ 64 → schema (codes "nbs") (codes "nui") most (object_of (schema_members s)) ≡ Ok s
schema_back most s few small =
    let within : leb (s.bytes + s.uints) most ≡ true = le-leb (s.bytes + s.uints) most (omega arith) in
    let ps = schema_places s in
    ap (schema (codes "nbs") (codes "nui") most) (schema_is s)
    ∙ then _ _ _ _ (all_known (codes "nbs" ∷ codes "nui" ∷ []) ps refl)
    (then _ _ _ _ (optional_back (codes "nbs") read.uint 0 s.bytes ps (eqb s.bytes 0) (uint s.bytes) refl refl (no_number s.bytes) (uint_back s.bytes (omega arith)))
    (then _ _ _ _ (optional_back (codes "nui") read.uint 0 s.uints ps (eqb s.uints 0) (uint s.uints) refl refl (no_number s.uints) (uint_back s.uints (omega arith)))
    (rw within refl)))

-- ---- the members

-- what stands under the names of a call's members
record ShowsCall (c : CallData) (ps : List Place) : Type 0 where
  apaa : under (codes "apaa") ps ≡ unless (eqb (length c.arguments) 0) (array_of base64 c.arguments)
  apan : under (codes "apan") ps ≡ unless (eqb (completion_number c.completion) 0) (uint (completion_number c.completion))
  apap : under (codes "apap") ps ≡ unless (eqb (length c.approval) 0) (base64 c.approval)
  apat : under (codes "apat") ps ≡ unless (eqb (length c.accounts) 0) (array_of address c.accounts)
  apfa : under (codes "apfa") ps ≡ unless (eqb (length c.foreign_applications) 0) (array_of uint c.foreign_applications)
  apgs : under (codes "apgs") ps ≡ unless (eqb (c.global_schema.bytes + c.global_schema.uints) 0) (object_of (schema_members c.global_schema))
  apid : under (codes "apid") ps ≡ unless (eqb c.application 0) (uint c.application)
  apls : under (codes "apls") ps ≡ unless (eqb (c.local_schema.bytes + c.local_schema.uints) 0) (object_of (schema_members c.local_schema))
  apsu : under (codes "apsu") ps ≡ unless (eqb (length c.clear) 0) (base64 c.clear)
  fee : under (codes "fee") ps ≡ unless (eqb c.fee 0) (uint c.fee)
  fv : under (codes "fv") ps ≡ unless (eqb c.first_valid 0) (uint c.first_valid)
  lv : under (codes "lv") ps ≡ unless (eqb c.last_valid 0) (uint c.last_valid)
  lx : under (codes "lx") ps ≡ unless (are_zeros c.lease) (base64 c.lease)
  note : under (codes "note") ps ≡ unless (eqb (length c.note) 0) (base64 c.note)
  rekey : under (codes "rekey") ps ≡ unless (are_zeros c.rekey_to.0) (address c.rekey_to)
  snd : under (codes "snd") ps ≡ Some (address c.sender)
  type : under (codes "type") ps ≡ Some (text (codes "appl"))
  grp : under (codes "grp") ps ≡ None
  reject_unknown : are_among transaction_names ps ≡ true

shows : (c : CallData) → ShowsCall c (call_places c)
shows c = record {
  apaa = refl;
  apan = refl;
  apap = refl;
  apat = refl;
  apfa = refl;
  apgs = refl;
  apid = refl;
  apls = refl;
  apsu = refl;
  fee = refl;
  fv = refl;
  lv = refl;
  lx = refl;
  note = refl;
  rekey = refl;
  snd = refl;
  type = refl;
  grp = refl;
  reject_unknown = refl;
}

module _ (c : CallData) (ps : List Place) (is : ShowsCall c ps) (of : IsCallOfBytes c) where
  uint_member : (name : List ℕ) (n : ℕ) → under name ps ≡ unless (eqb n 0) (uint n) → n < 2 ^ 64 → optional name read.uint 0 (object_of (present ps)) ≡ Ok n
  uint_member name n at small = optional_back name read.uint 0 n ps (eqb n 0) (uint n) at refl (no_number n) (uint_back n small)

  bytes_member : (name s : List ℕ) → under name ps ≡ unless (eqb (length s) 0) (base64 s) → AreBytes s → optional name read.bytes [] (object_of (present ps)) ≡ Ok s
  bytes_member name s at all = optional_back name read.bytes [] s ps (eqb (length s) 0) (base64 s) at refl (no_elements s) (bytes_back s all)

  list_member : {A : Type 0} (name : List ℕ) (one : Json → Result A Fault) (shown : A → Json) (xs : List A) → under name ps ≡ unless (eqb (length xs) 0) (array_of shown xs)
      → All (λ x. one (shown x) ≡ Ok x) xs → optional name (each (λ so_far j. one j >>= λ x. Ok (so_far ++ x ∷ [])) []) [] (object_of (present ps)) ≡ Ok xs
  list_member name one shown xs at all = optional_back name _ [] xs ps (eqb (length xs) 0) (array_of shown xs) at refl (no_elements xs) (list_back one shown xs all)

  schema_member : (name : List ℕ) (most : ℕ) (s : Schema) → under name ps ≡ unless (eqb (s.bytes + s.uints) 0) (object_of (schema_members s)) → s.uints + s.bytes ≤ most → most ≤ 64
      → optional name (schema (codes "nbs") (codes "nui") most) no_entries (object_of (present ps)) ≡ Ok s
  schema_member name most s at few small = optional_back name _ no_entries s ps (eqb (s.bytes + s.uints) 0) (object_of (schema_members s)) at refl (no_room s) (schema_back most s few small)

  target_back : (i : ℕ) → entries_in c.global_schema ≤ most_global_entries → entries_in c.local_schema ≤ most_local_entries → target no_sources i (object_of (present ps)) ≡ Ok (record {
    arguments = c.arguments;
    completion = c.completion;
    approval = c.approval;
    accounts = c.accounts;
    foreign_applications = c.foreign_applications;
    global_schema = c.global_schema;
    application = c.application;
    local_schema = c.local_schema;
    clear = c.clear;
  })
  target_back i global local =
      then _ _ _ _ (list_member (codes "apaa") read.bytes base64 c.arguments is.apaa (λ k d lt. bytes_back _ (of.arguments k d lt)))
      (then _ _ _ _ (optional_back (codes "apan") action NoOp c.completion ps (eqb (completion_number c.completion) 0) (uint (completion_number c.completion)) is.apan refl (first_completion c.completion) (action_back c.completion))
      (then _ _ _ _ (bytes_member (codes "apap") c.approval is.apap of.approval)
      (then _ _ _ _ (list_member (codes "apat") read.address address c.accounts is.apat (λ k d lt. address_back _ (of.fields.accounts k d lt) (of.accounts k d lt)))
      (then _ _ _ _ (list_member (codes "apfa") read.uint uint c.foreign_applications is.apfa (λ k d lt. uint_back _ (of.fields.foreign_applications k d lt)))
      (then _ _ _ _ (schema_member (codes "apgs") 64 c.global_schema is.apgs global (omega arith))
      (then _ _ _ _ (uint_member (codes "apid") c.application is.apid of.fields.application)
      (then _ _ _ _ (schema_member (codes "apls") 16 c.local_schema is.apls local (omega arith))
      (then _ _ _ _ (bytes_member (codes "apsu") c.clear is.apsu of.clear) refl))))))))

  terms_back : terms (object_of (present ps)) ≡ Ok (record {
    fee = c.fee;
    first_valid = c.first_valid;
    last_valid = c.last_valid;
    lease = c.lease;
    note = c.note;
    rekey_to = c.rekey_to;
    sender = c.sender;
  })
  terms_back =
      then _ _ _ _ (uint_member (codes "fee") c.fee is.fee of.fields.fee)
      (then _ _ _ _ (uint_member (codes "fv") c.first_valid is.fv of.fields.first_valid)
      (then _ _ _ _ (uint_member (codes "lv") c.last_valid is.lv of.fields.last_valid)
      (then _ _ _ _ (optional_back (codes "lx") lease zeros c.lease ps (are_zeros c.lease) (base64 c.lease) is.lx refl (all_zeros c.lease of.fields.lease) (lease_back c.lease of.fields.lease of.lease))
      (then _ _ _ _ (bytes_member (codes "note") c.note is.note of.note)
      (then _ _ _ _ (optional_back (codes "rekey") read.address zero_address c.rekey_to ps (are_zeros c.rekey_to.0) (address c.rekey_to) is.rekey refl (λ e. let same = all_zeros c.rekey_to.0 of.fields.rekey_to e in λ i. record { 0 = same i }) (address_back c.rekey_to of.fields.rekey_to of.rekey_to))
      (then _ _ _ _ (needed_back (codes "snd") read.address c.sender ps (address c.sender) is.snd refl (address_back c.sender of.fields.sender of.sender)) refl))))))

  lone_back : (groups : Groups) → lone_call groups (object_of (present ps)) ≡ Ok None
  lone_back groups =
      then _ _ _ _ (needed_back (codes "type") call_type tt ps (text (codes "appl")) is.type refl refl) (ap (optional_in (codes "grp") (group groups) None) (member_of (codes "grp") ps None is.grp))

-- ---- calls

-- a call of bytes that breaks no rule of calls is read back from how it is shown, in no group
pub call_back : (c : CallData) (groups : Groups) (i : ℕ) → IsCallOfBytes c → call_fault c ≡ None → transaction no_sources groups i (shown_call c) ≡ Ok (c, None)
call_back c groups i of none =
    let ps = call_places c in
    let fit = schemas_fit c none in
    ap (transaction no_sources groups i) (call_is c) ∙ checked c (call_places c) (shows c) of i none fit.0 fit.1
  where
    checked : (c : CallData) (ps : List Place) → ShowsCall c ps → IsCallOfBytes c → (i : ℕ) → call_fault c ≡ None → entries_in c.global_schema ≤ most_global_entries
        → entries_in c.local_schema ≤ most_local_entries → transaction no_sources groups i (object_of (present ps)) ≡ Ok (c, None)
    checked c ps is of i none global local =
        then _ _ _ _ (lone_back c ps is of groups)
        (then _ _ _ _ (all_known transaction_names ps is.reject_unknown)
        (then _ _ _ _ (target_back c ps is of i global local)
        (then _ _ _ _ (terms_back c ps is of)
        (then _ _ _ _ (ap (unless_broken c) none) refl))))
