-- Applications are read back from how they are shown.
use Rattle.std.proofs.Common.{◌≡◌, ℕ, ◌+◌, ◌<◌, ◌≤◌, true, leb, ltb, List, [], ◌∷◌, ◌++◌, All, Result, Ok, Err, refl, sym, ◌∙◌, subst, arith}
use Rattle.std.specs.Prelude.{◌^◌, codes, is_ok, max}
use Rattle.std.specs.Ordering.{nat_cmp}
use Rattle.std.specs.Map.{keys_of}
use Rattle.std.specs.List.Sorted.{IsStrictlySortedBy}
use Rattle.std.proofs.lemmas.Bool.{le-leb, lt-ltb}
use Rattle.std.proofs.lemmas.Cmp.{nat_cmp_total}
use Rattle.teal_check.specs.declared.fault.CheckFault.{CheckFault}
use Rattle.teal_check.specs.WellFormed.{WellFormed, checked}
use Rattle.avm_states.specs.declared.schema.Schema.{Schema}
use Rattle.avm_ledger.specs.declared.application.StoredApplication.{StoredApplication}
use Rattle.avm_ledger.specs.LedgerReader.{room_of_schema}
use Rattle.avm_ledger.specs.LedgerRules.{IsApplicationBelow}
use Rattle.avm_ledger.specs.Ledgers.{Ledger}
use Rattle.avm_rule_laws.specs.Rules.{AreBytes}
use Rattle.json_documents.specs.Arrays.{each}
use Rattle.json_documents.specs.Members.{least_unknown}
use Rattle.json_documents.specs.Applications.{application, limits, params}
use Rattle.json_documents.specs.Drafts.{add_application}
use Rattle.json_documents.specs.Ids.{id_below}
use Rattle.json_documents.specs.Programs.{if_checked, program}
use Rattle.json_documents.specs.Schemas.{schema}
use Rattle.json_documents.specs.Sources.{no_sources}
use Rattle.json_views.specs.Documents.{array_of, base64, uint}
use Rattle.json_views.specs.Applications.{shown_application, shown_params, shown_schema}
use Rattle.json_laws.specs.OfBytes.{IsApplicationOfBytes}
use Rattle.json_laws.proofs.ArraysBack.{AddItself, array_back, at_seam, then, then_in}
use Rattle.avm_ledger.proofs.RisingReading.{goes_last}
use Rattle.json_laws.proofs.OrderBack.{not_there}
use Rattle.json_laws.proofs.PlainBack.{address_back, bytes_back, uint_back}
use Rattle.json_laws.proofs.StatesBack.{state_back}

-- a positive id below the end of ids is read back
pub id_back : (end id : ℕ) → 1 ≤ id → id < end → end < 2 ^ 64 → id_below end (uint id) ≡ Ok id
id_back end id positive below small =
    let above : leb 1 id ≡ true = le-leb 1 id positive in
    let under : ltb id end ≡ true = lt-ltb id end below in
    then _ _ _ _ (uint_back id (omega arith)) (rw (above, under) refl)

schema_back : (most : ℕ) (s : Schema) → s.uints + s.bytes ≤ most → most ≤ 64 → schema (codes "num-byte-slice") (codes "num-uint") most (shown_schema s) ≡ Ok s
unfolding least_unknown
schema_back most s few small =
    let within : leb (s.bytes + s.uints) most ≡ true = le-leb (s.bytes + s.uints) most (omega arith) in
    then_in _ _ _ _ _ (uint_back s.bytes (omega arith)) (then_in _ _ _ _ _ (uint_back s.uints (omega arith)) (rw within refl))

passed : (code : List ℕ) (r : Result WellFormed CheckFault) → is_ok r ≡ true → if_checked code r ≡ Ok code
passed code (Ok w) is = refl
passed code (Err f) is = absurd cc

program_back : (code : List ℕ) → AreBytes code → is_ok (checked code) ≡ true → program (base64 code) ≡ Ok code
program_back code of is = then _ _ _ _ (bytes_back code of) (passed code (checked code) is)

module _ (next : ℕ) (e : ℕ × StoredApplication) (is : IsApplicationBelow next e) (of : IsApplicationOfBytes e) where
  limits_back : limits (shown_params e.1) ≡ Ok (record { global_schema = e.1.row.global_schema; local_schema = e.1.row.local_schema; state = e.1.state })
  limits_back =
      then_in _ _ _ _ _ (schema_back 64 e.1.row.global_schema is.row.global_schema (omega arith))
      (then_in _ _ _ _ _ (schema_back 16 e.1.row.local_schema is.row.local_schema (omega arith))
      (then_in _ _ _ _ _ (state_back (room_of_schema e.1.row.global_schema) e.1.state is.state of.state) refl))

  params_back : (id : ℕ) → params no_sources id (shown_params e.1) ≡ Ok e.1
  unfolding least_unknown
  params_back id =
      then_in _ _ _ _ _ (program_back e.1.row.approval of.row.approval is.row.approval)
      (then_in _ _ _ _ _ (program_back e.1.row.clear of.row.clear is.row.clear)
      (then_in _ _ _ _ _ (address_back e.1.row.creator is.row.creator of.row.creator)
      (then _ _ _ _ limits_back refl)))

  application_back : (l : Ledger) → next < 2 ^ 64 → application next no_sources l (shown_application e) ≡ add_application l e.0 e.1
  unfolding least_unknown
  application_back l small = then_in _ _ _ _ _ (id_back next e.0 is.positive is.below small) (then_in _ _ _ _ _ (params_back e.0) refl)

-- the ledger of these applications, with a next id that is given
abbrev pub with_applications : ℕ → List (ℕ × StoredApplication) → Ledger
with_applications next apps = record { next_id = next; applications = apps; local_states = [] }

module _ (next : ℕ) (apps : List (ℕ × StoredApplication)) (small : next < 2 ^ 64) (rising : IsStrictlySortedBy nat_cmp (keys_of apps)) (all : All (IsApplicationBelow next) apps) (of : All IsApplicationOfBytes apps) where
  applications_add : AddItself (application next no_sources) shown_application (with_applications next) apps
  applications_add before e rest is =
      let rules = at_seam (IsApplicationBelow next) before e rest apps is all in
      let order : IsStrictlySortedBy nat_cmp (keys_of (before ++ e ∷ rest)) = subst (λ es. IsStrictlySortedBy nat_cmp (keys_of es)) (sym is) rising in
      let kept : max next (e.0 + 1) ≡ next = omega (arith, rules.below) in
      let added : add_application (with_applications next before) e.0 e.1 ≡ Ok (with_applications next (before ++ e ∷ [])) =
      rw (not_there nat_cmp_total before rest e order, goes_last nat_cmp_total before rest e order, kept) refl in
      application_back next e rules (at_seam IsApplicationOfBytes before e rest apps is of) (with_applications next before) small ∙ added

  -- the applications of a ledger are read back from how they are shown
  pub applications_back : each (application next no_sources) (with_applications next []) (array_of shown_application apps) ≡ Ok (with_applications next apps)
  applications_back = array_back (application next no_sources) shown_application (with_applications next) apps applications_add
