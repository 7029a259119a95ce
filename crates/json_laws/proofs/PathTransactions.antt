-- The paths of faults of transactions.
use Rattle.std.proofs.Common.{◌≡◌, ℕ, ◌+◌, ◌<◌, ◌⊎◌, ◌||◌, inl, inr, Bool, true, false, cond, List, [], ◌∷◌, length, length-append, Option, Some, None, Result, Ok, Err, refl, sym, ap, subst, ◌∙◌, arith}
use Rattle.std.specs.Prelude.{◌==◌, is_some, codes}
use Rattle.std.specs.BTreeSet.{insert_key}
use Rattle.std.specs.Ordering.{is_eq, match_ordering}
use Rattle.std.specs.declared.cmp.Ordering.{Ordering}
use Rattle.std.specs.declared.cmp.Ordering.TheVariants.{Less, Equal, Greater}
use Rattle.std.specs.Str.{bytes_eq}
use Rattle.std.proofs.lemmas.Bool.{cond-true, eqb-false, true≢false}
use Rattle.std.proofs.lemmas.Slice.Eq.{bytes_eq-Decides}
use Rattle.teal_value.specs.Answer.{◌>>=◌}
use Rattle.teal_value.specs.declared.address.Address.{Address}
use Rattle.avm_states.proofs.KeyOrder.{byte_same}
use Rattle.avm_states.proofs.Maps.{is_Equal}
use Rattle.avm_states.specs.Entries.{byte_cmp}
use Rattle.avm_states.specs.Schemas.{most_global_entries, most_local_entries, no_entries}
use Rattle.avm_items.specs.declared.call_data.Completion.TheVariants as completion
use Rattle.avm_items.specs.declared.call_data.CallData.{CallData}
use Rattle.avm_block.specs.Blocks.{most_calls}
use Rattle.avm_call.specs.declared.call_fault.CallFault.{CallFault}
use Rattle.avm_call.specs.declared.call_fault.CallFault.TheVariants as call
use Rattle.avm_call.specs.CallRules.{call_fault}
use Rattle.json.specs.Json.{Json, Members}
use Rattle.json.specs.Find.{as_object, as_str, at}
use Rattle.json_documents.specs.declared.document_fault.DocumentFault.{DocumentFault}
use Rattle.json_documents.specs.declared.document_fault.DocumentFault.TheVariants as what
use Rattle.json_documents.specs.Steps.{Step, at_index, at_name}
use Rattle.json_documents.specs.Faults.{Fault, here, in_step}
use Rattle.json_documents.specs.Members.{reject_unknown, member, required, optional, optional_in}
use Rattle.json_documents.specs.Arrays.{each}
use Rattle.json_documents.specs.Plain.{address, bytes, uint}
use Rattle.json_documents.specs.Groups.{Groups, group, has_group, new_group, whole_group, with_group}
use Rattle.json_documents.specs.Schemas.{schema}
use Rattle.json_documents.specs.Programs.{given_or}
use Rattle.json_documents.specs.Sources.{Sources, program_for}
use Rattle.json_documents.specs.Transactions.{Batch, action, call_type, checked_call, completion_of, empty_batch, lease, lone_call, only_appl, target, terms, transaction, transactions, unless_broken, whole_lease, with_address, with_bytes, with_call, with_signed, with_uint, zero_address, zeros, fields}
use Rattle.json_documents.specs.Tables.{signed_names, transaction_names}
use Rattle.json_laws.specs.Paths.{Ends, IsRefusedCall, IsSecondGroup, IsObject, sources_of, table, value_at}
use Rattle.json_laws.proofs.AcceptedSteps.{from, passed, same_value}
use Rattle.json_laws.proofs.PathSteps.{Spot, into, Located, bind_ok, in_step_ok, known_object, optional_read, needed_read, located_all, located_bind, located_each, located_here, located_known, located_needed, located_optional, then}
use Rattle.json_laws.proofs.PathPlain.{located_address, located_bytes, located_if, located_of_bytes, located_of_text, located_of_uint, located_schema, located_uint}
use Rattle.json_laws.proofs.PathStates.{located_given_or}

-- ---- values of some members

appl_located : (p : Spot) (s : List ℕ) (appl : Bool) → as_str p.value ≡ Some s → bytes_eq s (codes "appl") ≡ appl → Located {A = Unit {0}} p (cond appl (Ok tt) (Err (here what.TxnType)))
appl_located p s true is e = record { located = tt }
appl_located p s false is e = located_here p _ (s, is, λ same. absurd (true≢false (sym ((bytes_eq-Decides s (codes "appl")).1 same) ∙ e)))

located_call_type : (p : Spot) → Located p (call_type p.value)
located_call_type p = located_of_text p only_appl (λ s is. appl_located p s (bytes_eq s (codes "appl")) is refl)

completion_located : (at : Spot) (n : ℕ) (a b c d e f : Bool) → uint at.value ≡ Ok n → (n == 0) ≡ a → (n == 1) ≡ b → (n == 2) ≡ c → (n == 3) ≡ d → (n == 4) ≡ e → (n == 5) ≡ f
    → Located at (cond a (Ok completion.NoOp) (cond b (Ok completion.OptIn) (cond c (Ok completion.CloseOut) (cond d (Ok completion.ClearState) (cond e (Ok completion.UpdateApplication) (cond f (Ok completion.DeleteApplication) (Err (here what.Completion))))))))
completion_located at n true b c d e f is p q r s t u = record { located = tt }
completion_located at n false true c d e f is p q r s t u = record { located = tt }
completion_located at n false false true d e f is p q r s t u = record { located = tt }
completion_located at n false false false true e f is p q r s t u = record { located = tt }
completion_located at n false false false false true f is p q r s t u = record { located = tt }
completion_located at n false false false false false true is p q r s t u = record { located = tt }
completion_located at n false false false false false false is p q r s t u =
    located_here at _ (n, is, omega (arith, eqb-false n 0 p, eqb-false n 1 q, eqb-false n 2 r, eqb-false n 3 s, eqb-false n 4 t, eqb-false n 5 u))

located_action : (p : Spot) → Located p (action p.value)
located_action p = located_of_uint p completion_of (λ n is. completion_located p n (n == 0) (n == 1) (n == 2) (n == 3) (n == 4) (n == 5) is refl refl refl refl refl refl)

located_lease : (p : Spot) → Located p (lease p.value)
located_lease p = located_of_bytes p whole_lease (λ s is. located_if p (length s == 32) s what.LeaseLength (λ other. (s, is, eqb-false (length s) 32 other)))

located_with_bytes : (so_far : List (List ℕ)) (p : Spot) → Located p (with_bytes so_far p.value)
located_with_bytes so_far p = located_of_bytes p _ (λ s is. record { located = tt })

located_with_address : (so_far : List Address) (p : Spot) → Located p (with_address so_far p.value)
located_with_address so_far p = located_bind p (address p.value) _ (located_address p) (λ who is. record { located = tt })

located_with_uint : (so_far : List ℕ) (p : Spot) → Located p (with_uint so_far p.value)
located_with_uint so_far p = located_of_uint p _ (λ n is. record { located = tt })

located_target : (sources : Sources) (i : ℕ) (p : Spot) → Located p (target sources i p.value)
located_target sources i p =
    located_bind p (optional (codes "apaa") (each with_bytes []) [] p.value) _ (located_optional (codes "apaa") refl (each with_bytes []) [] p (λ v e. located_all with_bytes [] (into p (at_name (codes "apaa")) v e) (λ i x k at before. located_with_bytes x _))) (λ arguments e.
    located_bind p (optional (codes "apan") action completion.NoOp p.value) _ (located_optional (codes "apan") refl action completion.NoOp p (λ v e. located_action _)) (λ after e.
    located_bind p (given_or (program_for sources.call_approvals i) (optional (codes "apap") bytes [] p.value)) _
    (located_given_or p (program_for sources.call_approvals i) (optional (codes "apap") bytes [] p.value) (located_optional (codes "apap") refl bytes [] p (λ v e. located_bytes _))) (λ approval e.
    located_bind p (optional (codes "apat") (each with_address []) [] p.value) _ (located_optional (codes "apat") refl (each with_address []) [] p (λ v e. located_all with_address [] (into p (at_name (codes "apat")) v e) (λ i x k at before. located_with_address x _))) (λ accounts e.
    located_bind p (optional (codes "apfa") (each with_uint []) [] p.value) _ (located_optional (codes "apfa") refl (each with_uint []) [] p (λ v e. located_all with_uint [] (into p (at_name (codes "apfa")) v e) (λ i x k at before. located_with_uint x _))) (λ foreign e.
    located_bind p (optional (codes "apgs") (schema (codes "nbs") (codes "nui") most_global_entries) no_entries p.value) _ (located_optional (codes "apgs") refl (schema (codes "nbs") (codes "nui") most_global_entries) no_entries p (λ v e. located_schema (codes "nbs") (codes "nui") most_global_entries refl refl (into p (at_name (codes "apgs")) v e) refl (λ large. inr (inr (inl ((p.path, refl), large)))))) (λ global e.
    located_bind p (optional (codes "apid") uint 0 p.value) _ (located_optional (codes "apid") refl uint 0 p (λ v e. located_uint _)) (λ application e.
    located_bind p (optional (codes "apls") (schema (codes "nbs") (codes "nui") most_local_entries) no_entries p.value) _ (located_optional (codes "apls") refl (schema (codes "nbs") (codes "nui") most_local_entries) no_entries p (λ v e. located_schema (codes "nbs") (codes "nui") most_local_entries refl refl (into p (at_name (codes "apls")) v e) refl (λ large. inr (inr (inr ((p.path, refl), large)))))) (λ local e.
    located_bind p (given_or (program_for sources.call_clears i) (optional (codes "apsu") bytes [] p.value)) _
    (located_given_or p (program_for sources.call_clears i) (optional (codes "apsu") bytes [] p.value) (located_optional (codes "apsu") refl bytes [] p (λ v e. located_bytes _))) (λ clear e.
    record { located = tt })))))))))

located_terms : (p : Spot) → IsObject p.value → Located p (terms p.value)
located_terms p is =
    located_bind p (optional (codes "fee") uint 0 p.value) _ (located_optional (codes "fee") refl uint 0 p (λ v e. located_uint _)) (λ fee e.
    located_bind p (optional (codes "fv") uint 0 p.value) _ (located_optional (codes "fv") refl uint 0 p (λ v e. located_uint _)) (λ first e.
    located_bind p (optional (codes "lv") uint 0 p.value) _ (located_optional (codes "lv") refl uint 0 p (λ v e. located_uint _)) (λ last e.
    located_bind p (optional (codes "lx") lease zeros p.value) _ (located_optional (codes "lx") refl lease zeros p (λ v e. located_lease _)) (λ own e.
    located_bind p (optional (codes "note") bytes [] p.value) _ (located_optional (codes "note") refl bytes [] p (λ v e. located_bytes _)) (λ note e.
    located_bind p (optional (codes "rekey") address zero_address p.value) _ (located_optional (codes "rekey") refl address zero_address p (λ v e. located_address _)) (λ rekey e.
    located_bind p (required (codes "snd") address p.value) _ (located_needed (codes "snd") refl address p is (λ v e. located_address _)) (λ sender e.
    record { located = tt })))))))

call_located : (p : Spot) (c : CallData) (o : Option CallFault) → ((w : DocumentFault) → unless_broken c o ≡ Err (here w) → IsRefusedCall p.document w p.path p.value) → Located p (unless_broken c o)
call_located p c None breaks = record { located = tt }
call_located p c (Some call.Accounts) breaks = located_here p _ (breaks what.Accounts refl)
call_located p c (Some call.Args) breaks = located_here p _ (breaks what.Args refl)
call_located p c (Some call.ArgBytes) breaks = located_here p _ (breaks what.ArgBytes refl)
call_located p c (Some call.Foreign) breaks = located_here p _ (breaks what.Foreign refl)
call_located p c (Some call.Note) breaks = located_here p _ (breaks what.Note refl)
call_located p c (Some call.ProgramsMissing) breaks = located_here p _ (breaks what.ProgramsMissing refl)
call_located p c (Some call.ProgramsGiven) breaks = located_here p _ (breaks what.ProgramsGiven refl)
call_located p c (Some call.SchemaSize) breaks = located_here p _ (inr (breaks what.SchemaSize refl))
call_located p c (Some call.ClearOnCreate) breaks = located_here p _ (breaks what.ClearOnCreate refl)
call_located p c (Some (call.Program f)) breaks = located_here p _ (inr (inr (breaks (what.Program f) refl)))

-- ---- groups

new_is : (b : Bool) (g : List ℕ) (own : Option (List ℕ)) → cond b (Err (here what.Group)) (Ok (Some g)) ≡ Ok own → own ≡ Some g
new_is true g own e = absurd cc
new_is false g own e = sym (same_value (Some g) own e)

-- a group that was read is that of its text
group_is : (groups : Groups) (j : Json) (own : Option (List ℕ)) → group groups j ≡ Ok own → (g : List ℕ) × (bytes j ≡ Ok g) × (own ≡ Some g)
group_is groups j own e =
    let s = bind_ok (bytes j) _ own e in
    let g = bind_ok (whole_group s.0) _ own s.2 in
    (g.0, s.1 ∙ ap (λ t. Ok t) (passed (length s.0 == 32) s.0 g.0 (here what.GroupLength) g.1).1, new_is (has_group groups g.0) g.0 own g.2)

-- what is read as a group behind others is read as this group without them
group_alone : (groups : Groups) (j : Json) (own : Option (List ℕ)) → group groups j ≡ Ok own → group [] j ≡ Ok own
group_alone groups j own e =
    let s = bind_ok (bytes j) _ own e in
    let g = bind_ok (whole_group s.0) _ own s.2 in
    then _ _ _ _ s.1 (then _ _ _ _ g.1 (ap (λ o. Ok o) (sym (new_is (has_group groups g.0) g.0 own g.2))))

own_alone : (groups : Groups) (o : Option Json) (own : Option (List ℕ)) → optional_in (codes "grp") (group groups) None o ≡ Ok own → optional_in (codes "grp") (group []) None o ≡ Ok own
own_alone groups None own e = e
own_alone groups (Some v) own e = ap (in_step (at_name (codes "grp"))) (group_alone groups v own (in_step_ok (at_name (codes "grp")) (group groups v) own e))

-- the tests of a transaction before its names, in two parts
lone_parts : (groups : Groups) (j : Json) (own : Option (List ℕ)) → lone_call groups j ≡ Ok own
    → (is_some (as_object j) ≡ true) × ((u : Unit {0}) × (required (codes "type") call_type j ≡ Ok u) × (optional (codes "grp") (group groups) None j ≡ Ok own))
lone_parts groups j own e = by (is_some (as_object j)) refl e
  where
    by : (b : Bool) → is_some (as_object j) ≡ b → cond b (required (codes "type") call_type j >>= λ _. optional (codes "grp") (group groups) None j) (Err (here what.NotObject)) ≡ Ok own
        → (is_some (as_object j) ≡ true) × ((u : Unit {0}) × (required (codes "type") call_type j ≡ Ok u) × (optional (codes "grp") (group groups) None j ≡ Ok own))
    by true is e = (is, bind_ok (required (codes "type") call_type j) _ own e)
    by false is e = absurd cc

lone_alone : (groups : Groups) (j : Json) (own : Option (List ℕ)) → lone_call groups j ≡ Ok own → lone_call [] j ≡ Ok own
lone_alone groups j own e =
    let parts = lone_parts groups j own e in
    cond-true (is_some (as_object j)) _ _ parts.0 ∙ then _ _ _ _ parts.1.1 (own_alone groups (member (codes "grp") j) own parts.1.2)

new_located : (p : Spot) (b : Bool) (g : List ℕ) → (b ≡ true → IsSecondGroup p.document p.path p.value) → Located {A = Option (List ℕ)} p (cond b (Err (here what.Group)) (Ok (Some g)))
new_located p true g second = located_here p _ (second refl)
new_located p false g second = record { located = tt }

located_group : (groups : Groups) (p : Spot) → Ends (codes "grp") p.path → ((g : List ℕ) → has_group groups g ≡ true → bytes p.value ≡ Ok g → IsSecondGroup p.document p.path p.value) → Located p (group groups p.value)
located_group groups p ends second =
    located_of_bytes p _ (λ s is.
    located_bind p (whole_group s) (new_group groups) (located_if p (length s == 32) s what.GroupLength (λ other. (ends, (s, is, eqb-false (length s) 32 other)))) (λ g e.
    new_located p (has_group groups g) g (λ has. second g has (is ∙ ap (λ t. Ok t) (passed (length s == 32) s g (here what.GroupLength) e).1))))

-- the n-th element of the array to which these steps lead has this group
abbrev HasGroup : Json → List Step → ℕ → List ℕ → Type 0
HasGroup j above n g = (u : Json) × (value_at (at_name (codes "grp") ∷ (at_name (codes "txn") ∷ (at_index n ∷ above))) j ≡ Some u) × (bytes u ≡ Ok g)

-- each group is that of one of the first i elements
record AreGroups (j : Json) (above : List Step) (i : ℕ) (groups : Groups) : Type 0 where
  comes : (g : List ℕ) → has_group groups g ≡ true → (n : ℕ) × (n < i) × HasGroup j above n g

no_groups : (j : Json) (above : List Step) → AreGroups j above 0 []
no_groups j above = record { comes = λ g has. absurd cc }

-- the group that was added, or one of those before
same_or_before : (own g : List ℕ) (groups : Groups) → has_group (insert_key byte_cmp groups own) g ≡ true → (g ≡ own) ⊎ (has_group groups g ≡ true)
same_or_before own g [] has = first_or (is_eq (byte_cmp g own)) refl has
  where
    first_or : (b : Bool) → is_eq (byte_cmp g own) ≡ b → (b || false) ≡ true → (g ≡ own) ⊎ (false ≡ true)
    first_or true is e = inl (byte_same g own (is_Equal (byte_cmp g own) is))
    first_or false is e = inr e
same_or_before own g (x ∷ xs) has = at_order (byte_cmp own x) (same_or_before own g xs) has
  where
    or_later : {A B : Type 0} (b : Bool) (c : Bool) → (b ≡ true → A) → (c ≡ true → B) → (b || c) ≡ true → A ⊎ B
    or_later true c first later e = inl (first refl)
    or_later false c first later e = inr (later e)

    in_order : (b c d : Bool) → (c ≡ true → (g ≡ own) ⊎ (d ≡ true)) → (b || c) ≡ true → (g ≡ own) ⊎ ((b || d) ≡ true)
    in_order true c d later e = inr refl
    in_order false c d later e = later e

    at_order : (r : Ordering) → (has_group (insert_key byte_cmp xs own) g ≡ true → (g ≡ own) ⊎ (has_group xs g ≡ true))
        → has_group (match_ordering r (own ∷ x ∷ xs) (x ∷ xs) (x ∷ insert_key byte_cmp xs own)) g ≡ true → (g ≡ own) ⊎ (has_group (x ∷ xs) g ≡ true)
    at_order Less later e = or_later (is_eq (byte_cmp g own)) (has_group (x ∷ xs) g) (λ is. byte_same g own (is_Equal (byte_cmp g own) is)) (λ is. is) e
    at_order Equal later e = inr e
    at_order Greater later e = in_order (is_eq (byte_cmp g x)) (has_group (insert_key byte_cmp xs own) g) (has_group xs g) later e

groups_on : (j : Json) (above : List Step) (i : ℕ) (groups : Groups) (own : Option (List ℕ)) → AreGroups j above i groups → ((g : List ℕ) → own ≡ Some g → HasGroup j above i g) → AreGroups j above (i + 1) (with_group groups own)
groups_on j above i groups None are one = record {
  comes = λ g has. let there = are.comes g has in (there.0, omega (arith, there.1), there.2);
}
groups_on j above i groups (Some own) are one = record {
  comes = λ g has. by g (same_or_before own g groups has);
}
  where
    by : (g : List ℕ) → (g ≡ own) ⊎ (has_group groups g ≡ true) → (n : ℕ) × (n < i + 1) × HasGroup j above n g
    by g (inl same) = (i, omega arith, subst (HasGroup j above i) (sym same) (one own refl))
    by g (inr old) = let there = are.comes g old in (there.0, omega (arith, there.1), there.2)

-- ---- one transaction behind others

lone_located : (groups : Groups) (p : Spot) (o : Option Members) → as_object p.value ≡ o
    → ((g : List ℕ) (v : Json) → has_group groups g ≡ true → bytes v ≡ Ok g → IsSecondGroup p.document (at_name (codes "grp") ∷ p.path) v)
    → Located p (cond (is_some o) (required (codes "type") call_type p.value >>= λ _. optional (codes "grp") (group groups) None p.value) (Err (here what.NotObject)))
lone_located groups p None e second = located_here p _ e
lone_located groups p (Some ms) e second =
    located_bind p (required (codes "type") call_type p.value) (λ _. optional (codes "grp") (group groups) None p.value) (located_needed (codes "type") refl call_type p (ap is_some e) (λ v e. located_call_type _)) (λ u t.
    located_optional (codes "grp") refl (group groups) None p (λ v at. located_group groups (into p (at_name (codes "grp")) v at) (p.path, refl) (λ g has is. second g v has is)))

located_transaction : (sources : Sources) (groups : Groups) (i : ℕ) (p : Spot) → transaction_names ≡ table p.path
    → ((g : List ℕ) (v : Json) → has_group groups g ≡ true → bytes v ≡ Ok g → IsSecondGroup p.document (at_name (codes "grp") ∷ p.path) v)
    → ((w : DocumentFault) → transaction sources [] i p.value ≡ Err (here w) → IsRefusedCall p.document w p.path p.value) → Located p (transaction sources groups i p.value)
located_transaction sources groups i p names second refused =
    located_bind p (lone_call groups p.value) _ (lone_located groups p (as_object p.value) refl second) (λ own l.
    located_bind p (reject_unknown transaction_names p.value) _ (located_known transaction_names p names) (λ w is.
    located_bind p (target sources i p.value) _ (located_target sources i p) (λ of t.
    located_bind p (terms p.value) _ (located_terms p (known_object transaction_names p.value w is)) (λ by m.
    located_bind p (checked_call (fields of by)) _ (call_located p (fields of by) (call_fault (fields of by)) (λ broken last.
    refused broken (then _ _ _ _ (lone_alone groups p.value own l) (then _ _ _ _ is (then _ _ _ _ t (then _ _ _ _ m (ap (λ (r : Result CallData Fault). r >>= λ c. Ok (c, own)) last))))))) (λ c k.
    record { located = tt })))))

-- what is kept of the first i transactions of the array to which these steps lead
record AreFirst (j : Json) (above : List Step) (i : ℕ) (b : Batch) : Type 0 where
  count : length b.calls ≡ i
  groups : AreGroups j above i b.groups

-- the i-th transaction
located_with_signed : (sources : Sources) (p : Spot) (i : ℕ) (so_far : Batch) (v : Json) (is : at i p.value ≡ Some v) → signed_names ≡ table p.path → sources_of p.document ≡ Ok sources → AreFirst p.document p.path i so_far
    → Located (into p (at_index i) v is) (with_signed sources so_far v)
located_with_signed sources p i so_far v is names given are = located_at (into p (at_index i) v is) names
    (λ g u has read. let first = are.groups.comes g has in (refl, refl, (g, first.0, first.2.0, first.1, first.2.1, first.2.2, read)))
    (λ w u refused. (refl, (sources, given, subst (λ n. transaction sources [] n u ≡ Err (here w)) are.count refused)))
  where
    located_at : (q : Spot) → signed_names ≡ table q.path
        → ((g : List ℕ) (u : Json) → has_group so_far.groups g ≡ true → bytes u ≡ Ok g → IsSecondGroup q.document (at_name (codes "grp") ∷ (at_name (codes "txn") ∷ q.path)) u)
        → ((w : DocumentFault) (u : Json) → transaction sources [] (length so_far.calls) u ≡ Err (here w) → IsRefusedCall q.document w (at_name (codes "txn") ∷ q.path) u) → Located q (with_signed sources so_far q.value)
    located_at q names second refused =
        located_bind q (reject_unknown signed_names q.value) _ (located_known signed_names q names) (λ u k.
        located_bind q (required (codes "txn") (transaction sources so_far.groups (length so_far.calls)) q.value) _
        (located_needed (codes "txn") refl (transaction sources so_far.groups (length so_far.calls)) q (known_object signed_names q.value u k) (λ w e. located_transaction sources so_far.groups (length so_far.calls) (into q (at_name (codes "txn")) w e) refl second (λ broken. refused broken w))) (λ t e.
        record { located = tt }))

-- the group of a transaction that was read is what was read before its names
own_group : (sources : Sources) (groups : Groups) (i : ℕ) (j : Json) (t : CallData × Option (List ℕ)) → transaction sources groups i j ≡ Ok t → lone_call groups j ≡ Ok t.1
own_group sources groups i j t e =
    from (lone_call groups j) _ t e (λ own o e1.
    from (reject_unknown transaction_names j) _ t e1 (λ k ke e2.
    from (target sources i j) _ t e2 (λ of oe e3.
    from (terms j) _ t e3 (λ by be e4.
    from (checked_call (fields of by)) _ t e4 (λ call ce e5.
    o ∙ ap (λ (x : CallData × Option (List ℕ)). Ok x.1) (same_value (call, own) t e5))))))

-- a transaction that was read adds its call and its group
transactions_on : (sources : Sources) (p : Spot) (i : ℕ) (so_far all : Batch) (v : Json) → at i p.value ≡ Some v → AreFirst p.document p.path i so_far → with_signed sources so_far v ≡ Ok all → AreFirst p.document p.path (i + 1) all
transactions_on sources p i so_far all v is are e =
    let u = bind_ok (reject_unknown signed_names v) _ all e in
    let t = bind_ok (required (codes "txn") (transaction sources so_far.groups (length so_far.calls)) v) _ all u.2 in
    let there = needed_read (codes "txn") (transaction sources so_far.groups (length so_far.calls)) v t.0 t.1 in
    let lone = own_group sources so_far.groups (length so_far.calls) there.0 t.0 there.2 in
    let at_txn = into (into p (at_index i) v is) (at_name (codes "txn")) there.0 there.1 in
    subst (AreFirst p.document p.path (i + 1)) (same_value (with_call so_far t.0.0 t.0.1) all t.2) (record {
      count = length-append so_far.calls (t.0.0 ∷ []) ∙ ap (λ n. n + 1) are.count;
      groups = groups_on p.document p.path i so_far.groups t.0.1 are.groups (λ g has. has_own at_txn t.0.1 g has (optional_read (codes "grp") (group so_far.groups) None there.0 t.0.1 (lone_parts so_far.groups there.0 t.0.1 lone).1.2));
    })
  where
    has_own : (q : Spot) (own : Option (List ℕ)) (g : List ℕ) → own ≡ Some g → (own ≡ None) ⊎ ((w : Json) × (member (codes "grp") q.value ≡ Some w) × (group so_far.groups w ≡ Ok own))
        → (w : Json) × (value_at (at_name (codes "grp") ∷ q.path) q.document ≡ Some w) × (bytes w ≡ Ok g)
    has_own q own g has (inl none) = absurd cc
    has_own q own g has (inr there) =
        let read = group_is so_far.groups there.0 own there.2 in
        let same : read.0 ≡ g = some_same (sym read.2 ∙ has) in
        (there.0, (into q (at_name (codes "grp")) there.0 there.1).leads, read.1 ∙ ap (λ t. Ok t) same)
      where
        some_same : {A : Type 0} {a b : A} → Some a ≡ Some b → a ≡ b
        some_same e = cc

many_located : (sources : Sources) (p : Spot) (many : Bool) → is_some (at most_calls p.value) ≡ many → signed_names ≡ table p.path → sources_of p.document ≡ Ok sources
    → Located p (cond many (Err (here what.TooMany)) (each (with_signed sources) empty_batch p.value >>= λ b. Ok b.calls))
many_located sources p true e names given = located_here p _ e
many_located sources p false e names given =
    located_bind p (each (with_signed sources) empty_batch p.value) _
    (located_each (AreFirst p.document p.path) (with_signed sources) empty_batch p (record {
      begins = record { count = refl; groups = no_groups p.document p.path };
      goes_on = λ i x y v at are read. transactions_on sources p i x y v at are read;
      reads = λ i x v at before are. located_with_signed sources p i x v at names given are;
    })) (λ b k. record { located = tt })

-- a fault of transactions leads to where it says
pub located_transactions : (sources : Sources) (p : Spot) → signed_names ≡ table p.path → sources_of p.document ≡ Ok sources → Located p (transactions sources p.value)
located_transactions sources p names given = many_located sources p (is_some (at most_calls p.value)) refl names given
