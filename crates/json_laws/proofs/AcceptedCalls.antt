-- What calls keep that are read from transactions.
use Rattle.std.proofs.Common.{◌≡◌, ℕ, zero, suc, ◌+◌, ◌<◌, ◌≤◌, Bool, true, false, cond, eqb, List, [], ◌∷◌, ◌++◌, length, Option, Some, None, Ok, Err, refl, ap, subst, arith, length-append}
use Rattle.std.specs.Prelude.{All, codes, is_some}
use Rattle.std.proofs.lemmas.Bool.{eqb-true}
use Rattle.std.proofs.lemmas.List.Elements.{All-nil, All-push, All-replicate, All-weaker}
use Rattle.teal_value.specs.Answer.{◌>>=◌}
use Rattle.teal_value.specs.declared.address.Address.{Address}
use Rattle.avm_states.specs.Schemas.{most_global_entries, most_local_entries, no_entries}
use Rattle.avm_items.specs.declared.call_data.Completion.TheVariants as completion
use Rattle.avm_items.specs.declared.call_data.CallData.{CallData}
use Rattle.avm_call_codec.specs.CallRoundTrip.{IsAddress, IsWord}
use Rattle.avm_call.specs.declared.call_fault.CallFault.{CallFault}
use Rattle.avm_call.specs.CallRules.{call_fault}
use Rattle.avm_block.specs.Blocks.{most_calls}
use Rattle.avm_block.proofs.CheckedCalls.{HasSizes}
use Rattle.avm_rule_laws.specs.Rules.{AreBytes}
use Rattle.json.specs.Json.{Json, Items, no_items, item}
use Rattle.json.specs.Json as json
use Rattle.json.specs.Find.{as_array, at, get_item}
use Rattle.json_documents.specs.declared.document_fault.DocumentFault.TheVariants as what
use Rattle.json_documents.specs.Faults.{here, in_step}
use Rattle.json_documents.specs.Steps.{at_index}
use Rattle.json_documents.specs.Members.{reject_unknown, required, optional}
use Rattle.json_documents.specs.Arrays.{each, elements, gathered}
use Rattle.json_documents.specs.Plain.{address, bytes, uint}
use Rattle.json_documents.specs.Programs.{given_or}
use Rattle.json_documents.specs.Schemas.{schema}
use Rattle.json_documents.specs.Sources.{Programs, Sources, no_sources, program_for}
use Rattle.json_documents.specs.Groups.{Groups}
use Rattle.json_documents.specs.Tables.{signed_names, transaction_names}
use Rattle.json_documents.specs.Transactions.{Batch, action, checked_call, empty_batch, fields, lease, lone_call, target, terms, transaction, transactions, unless_broken, with_address, with_bytes, with_call, with_signed, with_uint, zero_address, zeros}
use Rattle.json_laws.proofs.AcceptedSteps.{TypeIn, each_keeps, from, needed_gives, nothing_asked, optional_gives, passed, same_value, there, without_step}
use Rattle.json_laws.proofs.AcceptedValues.{IsWholeAddress, address_whole, bytes_are, bytes_in, schema_in, uint_small, word_in}
use Rattle.json_laws.proofs.AcceptedSources.{AreEach, AreSources, given_program_keeps}

-- ---- values of some members

-- a lease of bytes
record IsLease (s : List ℕ) : Type 0 where
  size : length s ≡ 32
  of_bytes : AreBytes s

lease_is : (j : Json) (s : List ℕ) → lease j ≡ Ok s → IsLease s
lease_is j s e =
    from (bytes j) _ s e (λ t et e1.
    let p = passed (eqb (length t) 32) t s (here what.LeaseLength) e1 in
    subst IsLease p.1 (record { size = eqb-true (length t) 32 p.0; of_bytes = bytes_are j t et }))

zeros_are : IsLease zeros
zeros_are = record { size = refl; of_bytes = All-replicate (λ b. b < 256) 32 0 (omega arith) }

zero_whole : IsWholeAddress zero_address
zero_whole = record { size = refl; of_bytes = All-replicate (λ b. b < 256) 32 0 (omega arith) }

with_bytes_keeps : (so_far : List (List ℕ)) (j : Json) (x : List (List ℕ)) → All AreBytes so_far → with_bytes so_far j ≡ Ok x → All AreBytes x
with_bytes_keeps so_far j x all e = from (bytes j) _ x e (λ s es e1. subst (All AreBytes) (same_value (so_far ++ s ∷ []) x e1) (All-push AreBytes so_far s all (bytes_are j s es)))

with_address_keeps : (so_far : List Address) (j : Json) (x : List Address) → All IsWholeAddress so_far → with_address so_far j ≡ Ok x → All IsWholeAddress x
with_address_keeps so_far j x all e = from (address j) _ x e (λ who ew e1. subst (All IsWholeAddress) (same_value (so_far ++ who ∷ []) x e1) (All-push IsWholeAddress so_far who all (address_whole j who ew)))

with_uint_keeps : (so_far : List ℕ) (j : Json) (x : List ℕ) → All IsWord so_far → with_uint so_far j ≡ Ok x → All IsWord x
with_uint_keeps so_far j x all e = from (uint j) _ x e (λ n en e1. subst (All IsWord) (same_value (so_far ++ n ∷ []) x e1) (All-push IsWord so_far n all (uint_small j n en)))

-- ---- the two parts of a call

abbrev Target : Type 0
Target = TypeIn (target no_sources 0 json.null)

abbrev Terms : Type 0
Terms = TypeIn (terms json.null)

-- what is kept of which application is called and with what, where programs keep C
record IsTarget (C : List ℕ → Type 0) (t : Target) : Type 0 where
  arguments : All AreBytes t.arguments
  accounts : All IsWholeAddress t.accounts
  foreign_applications : All IsWord t.foreign_applications
  application : IsWord t.application
  global_schema : t.global_schema.uints + t.global_schema.bytes ≤ most_global_entries
  local_schema : t.local_schema.uints + t.local_schema.bytes ≤ most_local_entries
  approval : C t.approval
  clear : C t.clear

-- what is kept of who calls, what is paid and when
record AreTerms (t : Terms) : Type 0 where
  fee : IsWord t.fee
  first_valid : IsWord t.first_valid
  last_valid : IsWord t.last_valid
  lease : IsLease t.lease
  note : AreBytes t.note
  rekey_to : IsWholeAddress t.rekey_to
  sender : IsWholeAddress t.sender

terms_are : (j : Json) (x : Terms) → terms j ≡ Ok x → AreTerms x
terms_are j x e =
    from (optional (codes "fee") uint 0 j) _ x e (λ fee fe e1.
    from (optional (codes "fv") uint 0 j) _ x e1 (λ first ie e2.
    from (optional (codes "lv") uint 0 j) _ x e2 (λ last le e3.
    from (optional (codes "lx") lease zeros j) _ x e3 (λ own oe e4.
    from (optional (codes "note") bytes [] j) _ x e4 (λ note ne e5.
    from (optional (codes "rekey") address zero_address j) _ x e5 (λ rekey re e6.
    from (required (codes "snd") address j) _ x e6 (λ sender se e7.
    subst AreTerms (same_value (record { fee = fee; first_valid = first; last_valid = last; lease = own; note = note; rekey_to = rekey; sender = sender }) x e7) (record {
      fee = word_in (codes "fee") 0 j fee (omega arith) fe;
      first_valid = word_in (codes "fv") 0 j first (omega arith) ie;
      last_valid = word_in (codes "lv") 0 j last (omega arith) le;
      lease = optional_gives nothing_asked IsLease (codes "lx") lease zeros zeros_are (λ k t q is. lease_is k t is) j own tt oe;
      note = bytes_in (codes "note") j note ne;
      rekey_to = optional_gives nothing_asked IsWholeAddress (codes "rekey") address zero_address zero_whole (λ k a q is. address_whole k a is) j rekey tt re;
      sender = needed_gives nothing_asked IsWholeAddress (codes "snd") address (λ k a q is. address_whole k a is) j sender tt se;
    }))))))))

-- ---- calls

-- a call that breaks no rule of calls, of bytes, whose programs keep C
pub record IsCall (C : List ℕ → Type 0) (c : CallData) : Type 0 where
  pub keeps_rules : call_fault c ≡ None
  pub sizes : HasSizes c
  pub sender : AreBytes c.sender.0
  pub note : AreBytes c.note
  pub lease : AreBytes c.lease
  pub rekey_to : AreBytes c.rekey_to.0
  pub arguments : All AreBytes c.arguments
  pub accounts : All IsWholeAddress c.accounts
  pub approval : C c.approval
  pub clear : C c.clear

not_broken : (c x : CallData) (o : Option CallFault) → call_fault c ≡ o → unless_broken c o ≡ Ok x → (call_fault c ≡ None) × (c ≡ x)
not_broken c x None is e = (is, same_value c x e)
not_broken c x (Some f) is e = absurd cc

fields_make : (C : List ℕ → Type 0) (of : Target) (by : Terms) (x : CallData) → IsTarget C of → AreTerms by → checked_call (fields of by) ≡ Ok x → IsCall C x
fields_make C of by x t b e =
    let p = not_broken (fields of by) x (call_fault (fields of by)) refl e in
    subst (IsCall C) p.1 (record {
      keeps_rules = p.0;
      sizes = record {
        sender = b.sender.size;
        fee = b.fee;
        first_valid = b.first_valid;
        last_valid = b.last_valid;
        lease = b.lease.size;
        rekey_to = b.rekey_to.size;
        application = t.application;
        accounts = All-weaker IsWholeAddress IsAddress (λ who is. is.size) of.accounts t.accounts;
        foreign_applications = t.foreign_applications;
        global_uints = omega (arith, t.global_schema);
        global_strings = omega (arith, t.global_schema);
        local_uints = omega (arith, t.local_schema);
        local_strings = omega (arith, t.local_schema);
      };
      sender = b.sender.of_bytes;
      note = b.note;
      lease = b.lease.of_bytes;
      rekey_to = b.rekey_to.of_bytes;
      arguments = t.arguments;
      accounts = t.accounts;
      approval = t.approval;
      clear = t.clear;
    })

-- what holds of bytes that are given, and of programs that keep P
pub record Weakens (P C : List ℕ → Type 0) : Type 0 where
  pub of_bytes : (s : List ℕ) → AreBytes s → C s
  pub of_programs : (code : List ℕ) → P code → C code

module _ (P C : List ℕ → Type 0) (weakens : Weakens P C) (sources : Sources) (are : AreSources P sources) where
  program_in : (programs : Programs) (i : ℕ) (name : List ℕ) (j : Json) (s : List ℕ) → AreEach P programs → given_or (program_for programs i) (optional name bytes [] j) ≡ Ok s → C s
  program_in programs i name j s each_is e =
      given_program_keeps C programs i (optional name bytes [] j) s (All-weaker (λ e. P e.1) (λ e. C e.1) (λ e p. weakens.of_programs e.1 p) programs each_is) (λ is. weakens.of_bytes s (bytes_in name j s is)) e

  target_is : (i : ℕ) (j : Json) (x : Target) → target sources i j ≡ Ok x → IsTarget C x
  target_is i j x e =
      from (optional (codes "apaa") (each with_bytes []) [] j) _ x e (λ arguments ae e1.
      from (optional (codes "apan") action completion.NoOp j) _ x e1 (λ after te e2.
      from (given_or (program_for sources.call_approvals i) (optional (codes "apap") bytes [] j)) _ x e2 (λ approval pe e3.
      from (optional (codes "apat") (each with_address []) [] j) _ x e3 (λ accounts ce e4.
      from (optional (codes "apfa") (each with_uint []) [] j) _ x e4 (λ foreign fe e5.
      from (optional (codes "apgs") (schema (codes "nbs") (codes "nui") most_global_entries) no_entries j) _ x e5 (λ global ge e6.
      from (optional (codes "apid") uint 0 j) _ x e6 (λ application ie e7.
      from (optional (codes "apls") (schema (codes "nbs") (codes "nui") most_local_entries) no_entries j) _ x e7 (λ local le e8.
      from (given_or (program_for sources.call_clears i) (optional (codes "apsu") bytes [] j)) _ x e8 (λ clear re e9.
      subst (IsTarget C) (same_value (record {
        arguments = arguments;
        completion = after;
        approval = approval;
        accounts = accounts;
        foreign_applications = foreign;
        global_schema = global;
        application = application;
        local_schema = local;
        clear = clear;
      }) x e9) (record {
        arguments = optional_gives nothing_asked (All AreBytes) (codes "apaa") (each with_bytes []) [] (All-nil AreBytes) (each_keeps nothing_asked (All AreBytes) with_bytes [] (λ so k y q all is. with_bytes_keeps so k y all is) (All-nil AreBytes)) j arguments tt ae;
        accounts = optional_gives nothing_asked (All IsWholeAddress) (codes "apat") (each with_address []) [] (All-nil IsWholeAddress) (each_keeps nothing_asked (All IsWholeAddress) with_address [] (λ so k y q all is. with_address_keeps so k y all is) (All-nil IsWholeAddress)) j accounts tt ce;
        foreign_applications = optional_gives nothing_asked (All IsWord) (codes "apfa") (each with_uint []) [] (All-nil IsWord) (each_keeps nothing_asked (All IsWord) with_uint [] (λ so k y q all is. with_uint_keeps so k y all is) (All-nil IsWord)) j foreign tt fe;
        application = word_in (codes "apid") 0 j application (omega arith) ie;
        global_schema = schema_in (codes "apgs") (codes "nbs") (codes "nui") most_global_entries j global ge;
        local_schema = schema_in (codes "apls") (codes "nbs") (codes "nui") most_local_entries j local le;
        approval = program_in sources.call_approvals i (codes "apap") j approval are.call_approvals pe;
        clear = program_in sources.call_clears i (codes "apsu") j clear are.call_clears re;
      }))))))))))

  transaction_is : (groups : Groups) (i : ℕ) (j : Json) (x : CallData × Option (List ℕ)) → transaction sources groups i j ≡ Ok x → IsCall C x.0
  transaction_is groups i j x e =
      from (lone_call groups j) _ x e (λ own eu e1.
      from (reject_unknown transaction_names j) _ x e1 (λ v ev e2.
      from (target sources i j) _ x e2 (λ of eo e3.
      from (terms j) _ x e3 (λ by eb e4.
      from (checked_call (fields of by)) _ x e4 (λ c ec e5.
      subst (λ (t : CallData × Option (List ℕ)). IsCall C t.0) (same_value (c, own) x e5) (fields_make C of by c (target_is i j of eo) (terms_are j by eb) ec))))))

  -- each call of a batch is one
  AreCalls : Batch → Type 0
  AreCalls b = All (IsCall C) b.calls

  with_signed_keeps : (so_far : Batch) (j : Json) (x : Batch) → AreCalls so_far → with_signed sources so_far j ≡ Ok x → AreCalls x
  unfolding AreCalls
  with_signed_keeps so_far j x all e =
      from (reject_unknown signed_names j) _ x e (λ u eu e1.
      from (required (codes "txn") (transaction sources so_far.groups (length so_far.calls)) j) _ x e1 (λ t et e2.
      let call = needed_gives nothing_asked (λ (t : CallData × Option (List ℕ)). IsCall C t.0) (codes "txn") (transaction sources so_far.groups (length so_far.calls)) (λ k d q is. transaction_is so_far.groups (length so_far.calls) k d is) j t tt et in
      subst AreCalls (same_value (with_call so_far t.0 t.1) x e2) (All-push (IsCall C) so_far.calls t.0 all call)))

  calls_are : (j : Json) (x : List CallData) → transactions sources j ≡ Ok x → All (IsCall C) x
  unfolding AreCalls
  calls_are j x e = by (is_some (at most_calls j)) e
    where
      by : (b : Bool) → cond b (Err (here what.TooMany)) (each (with_signed sources) empty_batch j >>= λ b. Ok b.calls) ≡ Ok x → All (IsCall C) x
      by true e = absurd cc
      by false e =
          from (each (with_signed sources) empty_batch j) _ x e (λ b eb e1.
          subst (All (IsCall C)) (same_value b.calls x e1) (each_keeps nothing_asked AreCalls (with_signed sources) empty_batch (λ so k y q all is. with_signed_keeps so k y all is) (All-nil (IsCall C)) j b tt eb))

  -- a call of a document breaks no rule of calls, is of bytes, and has programs that keep C
  pub optional_calls_are : (j : Json) (x : List CallData) → optional (codes "txns") (transactions sources) [] j ≡ Ok x → All (IsCall C) x
  optional_calls_are j x e = optional_gives nothing_asked (All (IsCall C)) (codes "txns") (transactions sources) [] (All-nil (IsCall C)) (λ k y q is. calls_are k y is) j x tt e

-- ---- how many there are

count : Items → ℕ
count no_items = 0
count (item j js) = suc (count js)

few_items : (n : ℕ) (js : Items) → is_some (get_item n js) ≡ false → count js ≤ n
unfolding count
few_items n no_items e = omega arith
few_items zero (item j js) e = absurd cc
few_items (suc n) (item j js) e = let more = few_items n js e in omega (arith, more)

-- how many calls a batch has
how_many : Batch → ℕ
how_many b = length b.calls

one_more : (sources : Sources) (so_far : Batch) (j : Json) (next : Batch) → with_signed sources so_far j ≡ Ok next → how_many next ≡ how_many so_far + 1
unfolding how_many
one_more sources so_far j next e =
    from (reject_unknown signed_names j) _ next e (λ u eu e1.
    from (required (codes "txn") (transaction sources so_far.groups (length so_far.calls)) j) _ next e1 (λ t et e2.
    let same : length (so_far.calls ++ t.0 ∷ []) ≡ length next.calls = ap (λ (b : Batch). length b.calls) (same_value (with_call so_far t.0 t.1) next e2) in
    omega (arith, length-append so_far.calls (t.0 ∷ []), same)))

one_each : (sources : Sources) (i : ℕ) (so_far : Batch) (js : Items) (x : Batch) → gathered (with_signed sources) i so_far js ≡ Ok x → how_many x ≡ how_many so_far + count js
unfolding gathered count
one_each sources i so_far no_items x e = let same : how_many so_far ≡ how_many x = ap how_many (same_value so_far x e) in omega arith
one_each sources i so_far (item j js) x e =
    from (in_step (at_index i) (with_signed sources so_far j)) _ x e (λ next en e1.
    let one = one_more sources so_far j next (without_step _ (with_signed sources so_far j) next en) in
    let more = one_each sources (i + 1) next js x e1 in
    omega (arith, more, one))

few_at : (j : Json) (js : Items) → as_array j ≡ Some js → is_some (at most_calls j) ≡ false → count js ≤ most_calls
few_at (json.array ks) js e few = let same : ks ≡ js = cc in few_items most_calls js (subst (λ k. is_some (get_item most_calls k) ≡ false) same few)
few_at json.null js e few = absurd cc
few_at (json.boolean b) js e few = absurd cc
few_at (json.number s) js e few = absurd cc
few_at (json.string s) js e few = absurd cc
few_at (json.object ms) js e few = absurd cc

few_calls : (sources : Sources) (j : Json) (x : List CallData) → transactions sources j ≡ Ok x → length x ≤ most_calls
unfolding how_many
few_calls sources j x e = by (is_some (at most_calls j)) refl e
  where
    by : (b : Bool) → is_some (at most_calls j) ≡ b → cond b (Err (here what.TooMany)) (each (with_signed sources) empty_batch j >>= λ b. Ok b.calls) ≡ Ok x → length x ≤ most_calls
    by true is e = absurd cc
    by false is e =
        from (each (with_signed sources) empty_batch j) _ x e (λ b eb e1.
        from (elements j) _ b eb (λ js ej e2.
        let lengths = one_each sources 0 empty_batch js b e2 in
        let few = few_at j js (there (as_array j) what.NotArray js ej) is in
        let same : length b.calls ≡ length x = ap length (same_value b.calls x e1) in
        omega (arith, lengths, few, same)))

-- the calls of a document are no more than a block takes
pub optional_calls_are_few : (sources : Sources) (j : Json) (x : List CallData) → optional (codes "txns") (transactions sources) [] j ≡ Ok x → length x ≤ most_calls
optional_calls_are_few sources j x e = optional_gives nothing_asked (λ calls. length calls ≤ most_calls) (codes "txns") (transactions sources) [] (omega arith) (λ k y q is. few_calls sources k y is) j x tt e
