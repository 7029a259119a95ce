-- The paths of faults of sources, and of sources whose targets are missing.
use Rattle.std.proofs.Common.{◌≡◌, ℕ, suc, ◌+◌, ◌∙◌, inl, inr, ◌⊎◌, ◌<◌, Bool, true, false, cond, List, [], ◌∷◌, ◌++◌, Option, None, Some, Result, Ok, Err, refl, sym, ap, subst, append_assoc, arith}
use Rattle.std.proofs.lemmas.List.{append-nil}
use Rattle.std.specs.Prelude.{is_ok, is_some, codes}
use Rattle.std.specs.Ordering.{is_eq, nat_cmp}
use Rattle.std.specs.FinMap.{nat_cmp-IsAntisymmetric}
use Rattle.std.proofs.lemmas.Bool.{true≢false}
use Rattle.std.proofs.lemmas.Cmp.{nat_cmp_total}
use Rattle.avm_states.proofs.Maps.{is_Equal, lookup-inserted_other}
use Rattle.std.specs.Str.{bytes_eq}
use Rattle.teal_value.specs.Answer.{◌>>=◌}
use Rattle.teal_source.specs.declared.fault.AsmFault.{AsmFault}
use Rattle.teal_asm.specs.Program.{assembled}
use Rattle.avm_ledger.specs.Ledgers.{Ledger}
use Rattle.json.specs.Json.{Json, Items, no_items, item}
use Rattle.json.specs.Find.{as_array, as_str, at, get_item}
use Rattle.json_documents.specs.declared.document_fault.DocumentFault.TheVariants as what
use Rattle.json_documents.specs.Steps.{Step, at_index, at_name}
use Rattle.json_documents.specs.Faults.{Fault, here, in_step, or_else_fault}
use Rattle.json_documents.specs.Members.{reject_unknown, required, optional}
use Rattle.json_documents.specs.Arrays.{each, gathered}
use Rattle.json_documents.specs.Plain.{text, uint}
use Rattle.json_documents.specs.Programs.{checked_code, on_source, program_of_source}
use Rattle.json_documents.specs.Sources.{Place, Programs, Sources, field_named, has_target, index_of, is_there, no_sources, program_at, program_for, source as read_source, source_field, targets, targets_from, with_none, with_program, with_source, with_source_at}
use Rattle.json_documents.specs.Placeholders.{has_placeholders, is_source_of_placeholder}
use Rattle.json_documents.specs.Tables.{source_names}
use Rattle.json_laws.specs.Paths.{Ends, value_at, IsSecondSource, IsWrong, LacksTarget, place, sources_of, table}
use Rattle.json_laws.proofs.AcceptedSteps.{TypeIn, same_value}
use Rattle.json_laws.proofs.PathSteps.{Spot, into, Located, array_is, bind_ok, in_step_ok, known_object, needed_read, optional_read, located_bind, located_each, located_here, located_known, located_needed, located_optional, located_step, then}
use Rattle.json_laws.proofs.PathPlain.{is_there as item_is_there, text_is, located_of_text, located_text, located_uint}
use Rattle.json_laws.proofs.PathStates.{located_checked_code}

-- ---- a source

source_is : (r : Result (List ℕ) AsmFault) (code : List ℕ) → on_source r ≡ Ok code → r ≡ Ok code
source_is (Ok s) code e = cc
source_is (Err f) code e = absurd cc

on_source_located : (p : Spot) (s : List ℕ) (r : Result (List ℕ) AsmFault) → as_str p.value ≡ Some s → assembled s ≡ r → Located p (on_source r)
on_source_located p s (Ok code) is e = record { located = tt }
on_source_located p s (Err f) is e = located_here p _ (s, is, e)

source_located : (p : Spot) (s : List ℕ) → Ends (codes "source") p.path → as_str p.value ≡ Some s → Located p (program_of_source s)
source_located p s ends is =
    located_bind p (on_source (assembled s)) checked_code (on_source_located p s (assembled s) is refl)
    (λ code e. located_checked_code p code (λ f broken. inr (inl (ends, (s, is, (code, source_is (assembled s) code e, broken))))))

-- what one of four names stands for, and else a fault
abbrev of_names : {A : Type 0} → A → A → A → A → Bool → Bool → Bool → Bool → Result A Fault
of_names a b c d p q r s = cond p (Ok a) (cond q (Ok b) (cond r (Ok c) (cond s (Ok d) (Err (here what.FieldName)))))

named_located : {A : Type 0} (a b c d : A) (p q r s : Bool) (at : Spot) → (of_names a b c d p q r s ≡ Err (here what.FieldName) → IsWrong at.document what.FieldName at.path at.value) → Located at (of_names a b c d p q r s)
named_located a b c d true q r s at h = record { located = tt }
named_located a b c d false true r s at h = record { located = tt }
named_located a b c d false false true s at h = record { located = tt }
named_located a b c d false false false true at h = record { located = tt }
named_located a b c d false false false false at h = located_here at _ (h refl)

-- what holds of the four holds of whichever a name stands for
named_is : {A : Type 0} (P : A → Type 0) (a b c d : A) (p q r s : Bool) (x : A) → of_names a b c d p q r s ≡ Ok x → P a → P b → P c → P d → P x
named_is P a b c d true q r s x e pa pb pc pd = let same : a ≡ x = cc in subst P same pa
named_is P a b c d false true r s x e pa pb pc pd = let same : b ≡ x = cc in subst P same pb
named_is P a b c d false false true s x e pa pb pc pd = let same : c ≡ x = cc in subst P same pc
named_is P a b c d false false false true x e pa pb pc pd = let same : d ≡ x = cc in subst P same pd
named_is P a b c d false false false false x e pa pb pc pd = absurd cc

located_source_field : (at : Spot) → Located at (source_field at.value)
located_source_field at = located_of_text at field_named (λ s is. named_located _ _ _ _ (bytes_eq s (codes "approv")) (bytes_eq s (codes "clearp")) (bytes_eq s (codes "apap")) (bytes_eq s (codes "apsu")) at (λ e. (s, is, e)))

-- ---- each source has its place

-- which program a source is
abbrev SourceField : Type 0
SourceField = TypeIn (field_named [])

at_end : (s : Sources) (for : SourceField) (n : ℕ) (code name : List ℕ) → field_named name ≡ Ok for → (with_source_at s for n code).places ≡ s.places ++ Some (for, n) ∷ []
at_end s for n code name e = named_is (λ for. (with_source_at s for n code).places ≡ s.places ++ Some (for, n) ∷ []) _ _ _ _ (bytes_eq name (codes "approv")) (bytes_eq name (codes "clearp")) (bytes_eq name (codes "apap")) (bytes_eq name (codes "apsu")) for e refl refl refl refl

-- what a source that was read adds, and by which name
record Adds (s all : Sources) (v : Json) : Type 0 where
  name : List ℕ
  for : SourceField
  n : ℕ
  code : List ℕ
  named : field_named name ≡ Ok for
  placed : place v ≡ Ok (for, n)
  added : with_source_at s for n code ≡ all

once_added : (s all : Sources) (for : SourceField) (n : ℕ) (source : List ℕ) (twice : Bool) → cond twice (Err (here what.Twice)) (in_step (at_name (codes "source")) (program_of_source source) >>= λ code. Ok (with_source_at s for n code)) ≡ Ok all
    → (code : List ℕ) × (with_source_at s for n code ≡ all)
once_added s all for n source true e = absurd cc
once_added s all for n source false e =
    let read = bind_ok (in_step (at_name (codes "source")) (program_of_source source)) (λ code. Ok (with_source_at s for n code)) all e in
    (read.0, same_value _ all read.2)

source_adds : (s all : Sources) (v : Json) → with_source s v ≡ Ok all → Adds s all v
source_adds s all v e =
    let u = bind_ok (reject_unknown source_names v) _ all e in
    let app = bind_ok (optional (codes "app-index") uint 0 v) _ all u.2 in
    let for = bind_ok (required (codes "field-name") source_field v) _ all app.2 in
    let source = bind_ok (required (codes "source") text v) _ all for.2 in
    let txn = bind_ok (optional (codes "txn-index") uint 0 v) _ all source.2 in
    let name = needed_read (codes "field-name") source_field v for.0 for.1 in
    let named = bind_ok (text name.0) field_named for.0 name.2 in
    let once = once_added s all for.0 (index_of for.0 app.0 txn.0) source.0 (is_some (program_at s for.0 (index_of for.0 app.0 txn.0))) txn.2 in
    record {
      name = named.0;
      for = for.0;
      n = index_of for.0 app.0 txn.0;
      code = once.0;
      named = named.2;
      placed = then _ _ _ _ app.1 (then _ _ _ _ for.1 (then _ _ _ _ txn.1 refl));
      added = once.1;
    }

-- what is passed over adds nothing, any other source is read
none_or : (b : Bool) (s all : Sources) (r : Result Sources Fault) → cond b (Ok (with_none s)) r ≡ Ok all → (with_none s ≡ all) ⊎ (r ≡ Ok all)
none_or true s all r e = inl (same_value (with_none s) all e)
none_or false s all r e = inr e

-- the place of a source, if it has one
abbrev IsPlace : Option Place → Json → Type 0
IsPlace None v = Unit {0}
IsPlace (Some at) v = place v ≡ Ok at

source_placed : (there : Bool) (s all : Sources) (v : Json) → read_source there s v ≡ Ok all → (at : Option Place) × IsPlace at v × (all.places ≡ s.places ++ at ∷ [])
source_placed there s all v e = by (none_or (is_source_of_placeholder there v) s all (with_source s v) e)
  where
    by : (with_none s ≡ all) ⊎ (with_source s v ≡ Ok all) → (at : Option Place) × IsPlace at v × (all.places ≡ s.places ++ at ∷ [])
    by (inl none) = (None, tt, ap (λ (x : Sources). x.places) (sym none))
    by (inr one) =
        let adds = source_adds s all v one in
        (Some (adds.for, adds.n), adds.placed, subst (λ (x : Sources). x.places ≡ s.places ++ Some (adds.for, adds.n) ∷ []) adds.added (at_end s adds.for adds.n adds.code adds.name adds.named))

-- ---- each program comes from a source

-- the n-th element of the array to which these steps lead is a source for this place
abbrev HasPlace : Json → List Step → ℕ → Place → Type 0
HasPlace j above n at = (u : Json) × (value_at (at_index n ∷ above) j ≡ Some u) × (place u ≡ Ok at)

-- each program is that of one of the first i elements
record ComeFrom (j : Json) (above : List Step) (i : ℕ) (s : Sources) : Type 0 where
  comes : (name : List ℕ) (for : SourceField) (n : ℕ) → field_named name ≡ Ok for → is_some (program_at s for n) ≡ true → (k : ℕ) × (k < i) × HasPlace j above k (for, n)

none_come : (j : Json) (above : List Step) → ComeFrom j above 0 no_sources
none_come j above = record {
  comes = λ name for n named has.
      let none : program_at no_sources for n ≡ None = named_is (λ for. program_at no_sources for n ≡ None) _ _ _ _ (bytes_eq name (codes "approv")) (bytes_eq name (codes "clearp")) (bytes_eq name (codes "apap")) (bytes_eq name (codes "apsu")) for named refl refl refl refl in
      absurd (true≢false (sym has ∙ ap is_some none));
}

abbrev the : {A : Type 0} (r : Result A Fault) → is_ok r ≡ true → A
the (Ok x) e = x
the (Err f) e = absurd (true≢false (sym e))

-- the four fields
abbrev approval : SourceField
approval = the (field_named (codes "approv")) refl

abbrev clear : SourceField
clear = the (field_named (codes "clearp")) refl

abbrev call_approval : SourceField
call_approval = the (field_named (codes "apap")) refl

abbrev call_clear : SourceField
call_clear = the (field_named (codes "apsu")) refl

by_name : (P : SourceField → Type 0) (name : List ℕ) (for : SourceField) → field_named name ≡ Ok for → P approval → P clear → P call_approval → P call_clear → P for
by_name P name for e a b c d = named_is P approval clear call_approval call_clear (bytes_eq name (codes "approv")) (bytes_eq name (codes "clearp")) (bytes_eq name (codes "apap")) (bytes_eq name (codes "apsu")) for e a b c d

abbrev AreSame : Place → Place → Type 0
AreSame a b = a ≡ b

-- the program that was added, or one of those before
same_or_before : (for : SourceField) (programs : Programs) (m n : ℕ) (code : List ℕ) (is : Bool) → is_eq (nat_cmp n m) ≡ is → is_some (program_for (with_program programs m code) n) ≡ true
    → AreSame (for, n) (for, m) ⊎ (is_some (program_for programs n) ≡ true)
same_or_before for programs m n code true is has = inl (ap (λ k. (for, k)) (nat_cmp-IsAntisymmetric n m (is_Equal (nat_cmp n m) is)))
same_or_before for programs m n code false is has = inr (ap is_some (sym (lookup-inserted_other nat_cmp_total n m code programs is)) ∙ has)

-- where a program is for a field, beside one that was added for another
abbrev IsOneOf : Sources → ℕ → ℕ → List ℕ → SourceField → SourceField → Type 0
IsOneOf s m n code own for = is_some (program_at (with_source_at s own m code) for n) ≡ true → AreSame (for, n) (own, m) ⊎ (is_some (program_at s for n) ≡ true)

one_of : (s : Sources) (own for : SourceField) (m n : ℕ) (code own_name name : List ℕ) → field_named own_name ≡ Ok own → field_named name ≡ Ok for → IsOneOf s m n code own for
one_of s own for m n code own_name name own_is is =
    by_name (λ own. IsOneOf s m n code own for) own_name own own_is
    (by_name (λ for. IsOneOf s m n code approval for) name for is (λ has. same_or_before approval s.approvals m n code (is_eq (nat_cmp n m)) refl has) (λ has. inr has) (λ has. inr has) (λ has. inr has))
    (by_name (λ for. IsOneOf s m n code clear for) name for is (λ has. inr has) (λ has. same_or_before clear s.clears m n code (is_eq (nat_cmp n m)) refl has) (λ has. inr has) (λ has. inr has))
    (by_name (λ for. IsOneOf s m n code call_approval for) name for is (λ has. inr has) (λ has. inr has) (λ has. same_or_before call_approval s.call_approvals m n code (is_eq (nat_cmp n m)) refl has) (λ has. inr has))
    (by_name (λ for. IsOneOf s m n code call_clear for) name for is (λ has. inr has) (λ has. inr has) (λ has. inr has) (λ has. same_or_before call_clear s.call_clears m n code (is_eq (nat_cmp n m)) refl has))

-- of the first i elements and this one
one_of_more : (j : Json) (above : List Step) (i : ℕ) (own at : Place) → HasPlace j above i own → (at ≡ own) ⊎ ((n : ℕ) × (n < i) × HasPlace j above n at) → (n : ℕ) × (n < i + 1) × HasPlace j above n at
one_of_more j above i own at has (inl same) = (i, omega arith, subst (HasPlace j above i) (sym same) has)
one_of_more j above i own at has (inr there) = (there.0, omega (arith, there.1), there.2)

same_programs : (s : Sources) (name : List ℕ) (for : SourceField) (n : ℕ) → field_named name ≡ Ok for → program_at (with_none s) for n ≡ program_at s for n
same_programs s name for n named = by_name (λ for. program_at (with_none s) for n ≡ program_at s for n) name for named refl refl refl refl

none_on : (j : Json) (above : List Step) (i : ℕ) (s : Sources) → ComeFrom j above i s → ComeFrom j above (i + 1) (with_none s)
none_on j above i s come = record {
  comes = λ name for n named has.
      let first = come.comes name for n named (sym (ap is_some (same_programs s name for n named)) ∙ has) in
      (first.0, omega (arith, first.1), first.2);
}

sources_on : (there : Bool) (p : Spot) (i : ℕ) (s all : Sources) (v : Json) → at i p.value ≡ Some v → ComeFrom p.document p.path i s → read_source there s v ≡ Ok all → ComeFrom p.document p.path (i + 1) all
sources_on there p i s all v is come e = by (none_or (is_source_of_placeholder there v) s all (with_source s v) e)
  where
    before : {A B C : Type 0} → A ⊎ B → (B → C) → A ⊎ C
    before (inl a) f = inl a
    before (inr b) f = inr (f b)

    by : (with_none s ≡ all) ⊎ (with_source s v ≡ Ok all) → ComeFrom p.document p.path (i + 1) all
    by (inl none) = subst (ComeFrom p.document p.path (i + 1)) none (none_on p.document p.path i s come)
    by (inr one) =
        let adds = source_adds s all v one in
        subst (ComeFrom p.document p.path (i + 1)) adds.added (record {
          comes = λ name for n named has. one_of_more p.document p.path i (adds.for, adds.n) (for, n) (v, (into p (at_index i) v is).leads, adds.placed)
              (before (one_of s adds.for for adds.n n adds.code adds.name name adds.named named has) (come.comes name for n named));
        })

-- ---- one source behind others

once_located : (p : Spot) (source : List ℕ) (with_code : List ℕ → Sources) (twice : Bool) → (twice ≡ true → IsSecondSource p.document p.path p.value) → required (codes "source") text p.value ≡ Ok source
    → Located p (cond twice (Err (here what.Twice)) (in_step (at_name (codes "source")) (program_of_source source) >>= λ code. Ok (with_code code)))
once_located p source with_code true second e = located_here p _ (inl (second refl))
once_located p source with_code false second e =
    let there = needed_read (codes "source") text p.value source e in
    located_bind p (in_step (at_name (codes "source")) (program_of_source source)) (λ code. Ok (with_code code))
    (located_step (at_name (codes "source")) refl p there.0 (program_of_source source) there.1 (source_located (into p (at_name (codes "source")) there.0 there.1) source (p.path, refl) (text_is there.0 source there.2)))
    (λ code c. record { located = tt })

-- the i-th source
located_with_source : (p : Spot) (i : ℕ) (s : Sources) (v : Json) (is : at i p.value ≡ Some v) → source_names ≡ table p.path → Ends (codes "sources") p.path → ComeFrom p.document p.path i s → Located (into p (at_index i) v is) (with_source s v)
located_with_source p i s v is names ends come = located_at (into p (at_index i) v is) names (λ name for n named twice placed.
    let first = come.comes name for n named twice in
    (ends, ((for, n), first.0, first.2.0, first.1, first.2.1, first.2.2, placed)))
  where
    located_at : (q : Spot) → source_names ≡ table q.path
        → ((name : List ℕ) (for : SourceField) (n : ℕ) → field_named name ≡ Ok for → is_some (program_at s for n) ≡ true → place q.value ≡ Ok (for, n) → IsSecondSource q.document q.path q.value) → Located q (with_source s q.value)
    located_at q names second =
        located_bind q (reject_unknown source_names q.value) _ (located_known source_names q names) (λ u is.
        located_bind q (optional (codes "app-index") uint 0 q.value) _ (located_optional (codes "app-index") refl uint 0 q (λ v e. located_uint _)) (λ app a.
        located_bind q (required (codes "field-name") source_field q.value) _ (located_needed (codes "field-name") refl source_field q (known_object source_names q.value u is) (λ v e. located_source_field _)) (λ for f.
        located_bind q (required (codes "source") text q.value) _ (located_needed (codes "source") refl text q (known_object source_names q.value u is) (λ v e. located_text _)) (λ source e.
        located_bind q (optional (codes "txn-index") uint 0 q.value) _ (located_optional (codes "txn-index") refl uint 0 q (λ v e. located_uint _)) (λ txn t.
        let name = needed_read (codes "field-name") source_field q.value for f in
        let named = bind_ok (text name.0) field_named for name.2 in
        once_located q source (with_source_at s for (index_of for app txn)) (is_some (program_at s for (index_of for app txn)))
        (λ twice. second named.0 for (index_of for app txn) named.2 twice (then _ _ _ _ a (then _ _ _ _ f (then _ _ _ _ t refl)))) e)))))

none_located_or : (p : Spot) (b : Bool) (s : Sources) (r : Result Sources Fault) → Located p r → Located p (cond b (Ok (with_none s)) r)
none_located_or p true s r h = record { located = tt }
none_located_or p false s r h = h

-- a fault of sources leads to where it says
pub located_sources : (there : Bool) (p : Spot) → source_names ≡ table p.path → Ends (codes "sources") p.path → Located p (each (read_source there) no_sources p.value)
located_sources there p names ends = located_each (ComeFrom p.document p.path) (read_source there) no_sources p (record {
  begins = none_come p.document p.path;
  goes_on = λ i x y v is come e. sources_on there p i x y v is come e;
  reads = λ i s v is before come. none_located_or (into p (at_index i) v is) (is_source_of_placeholder there v) s (with_source s v) (located_with_source p i s v is names ends come);
})

-- ---- all places

-- these are the places of these sources
abbrev ArePlaces : List (Option Place) → Items → Type 0
ArePlaces [] no_items = Unit {0}
ArePlaces [] (item v vs) = ⊥
ArePlaces (q ∷ qs) no_items = ⊥
ArePlaces (q ∷ qs) (item v vs) = IsPlace q v × ArePlaces qs vs

gathered_places : (there : Bool) (i : ℕ) (so_far s : Sources) (vs : Items) → gathered (read_source there) i so_far vs ≡ Ok s → (qs : List (Option Place)) × (s.places ≡ so_far.places ++ qs) × ArePlaces qs vs
unfolding gathered
gathered_places there i so_far s no_items e = let same : s ≡ so_far = cc in ([], ap (λ (x : Sources). x.places) same ∙ sym (append-nil so_far.places), tt)
gathered_places there i so_far s (item v vs) e =
    let first = bind_ok (in_step (at_index i) (read_source there so_far v)) (λ next. gathered (read_source there) (i + 1) next vs) s e in
    let one = source_placed there so_far first.0 v (in_step_ok (at_index i) (read_source there so_far v) first.0 first.1) in
    let rest = gathered_places there (i + 1) first.0 s vs first.2 in
    (one.0 ∷ rest.0, rest.1 ∙ (ap (λ qs. qs ++ rest.0) one.2 ∙ append_assoc so_far.places (one.0 ∷ []) rest.0), (one.1, rest.2))

-- ---- targets

-- a source whose target is missing is wrong
abbrev SaysMissing : Spot → Ledger → ℕ → Type 0
SaysMissing p l calls = (i : ℕ) (at : Place) (v : Json) → place v ≡ Ok at → is_there l calls at ≡ false → LacksTarget p.document (at_index i ∷ p.path) v

target_if : (is_there : Bool) (i : ℕ) (rest : Result (Unit {0}) Fault) (p : Spot) (v : Json) → at i p.value ≡ Some v → (is_there ≡ false → LacksTarget p.document (at_index i ∷ p.path) v) → Located p rest
    → Located p (cond is_there rest (in_step (at_index i) (Err (here what.NoTarget))))
target_if true i rest p v e missing h = h
target_if false i rest p v e missing h = located_step (at_index i) tt p v (Err (here what.NoTarget)) e (located_here (into p (at_index i) v e) _ (missing refl))

missing_place : (p : Spot) (l : Ledger) (calls i : ℕ) (q : Option Place) (v : Json) → IsPlace q v → SaysMissing p l calls → has_target l calls q ≡ false → LacksTarget p.document (at_index i ∷ p.path) v
missing_place p l calls i None v is says none = absurd (true≢false none)
missing_place p l calls i (Some q) v is says none = says i q v is none

targets_located : (l : Ledger) (calls i : ℕ) (qs : List (Option Place)) (vs : Items) (p : Spot) → ((k : ℕ) → at (i + k) p.value ≡ get_item k vs) → ArePlaces qs vs → SaysMissing p l calls → Located p (targets_from i l calls qs)
unfolding targets_from
targets_located l calls i [] vs p there are says = record { located = tt }
targets_located l calls i (q ∷ qs) no_items p there are says = absurd are
targets_located l calls i (q ∷ qs) (item v vs) p there are says =
    target_if (has_target l calls q) i (targets_from (i + 1) l calls qs) p v (ap (λ n. at n p.value) (omega arith) ∙ there 0) (missing_place p l calls i q v are.0 says)
    (targets_located l calls (i + 1) qs vs p (λ k. ap (λ n. at n p.value) (omega arith) ∙ there (suc k)) are.1 says)

sources_located : (there : Bool) (l : Ledger) (calls : ℕ) (s : Sources) (p : Spot) → each (read_source there) no_sources p.value ≡ Ok s → SaysMissing p l calls → Located p (targets_from 0 l calls s.places)
sources_located there l calls s p e says =
    let read = bind_ok (or_else_fault (as_array p.value) what.NotArray) (λ vs. gathered (read_source there) 0 no_sources vs) s e in
    let is = array_is p.value read.0 (item_is_there (as_array p.value) what.NotArray read.0 read.1) in
    let places = gathered_places there 0 no_sources s read.0 read.2 in
    subst (λ qs. Located p (targets_from 0 l calls qs)) (sym places.1)
    (targets_located l calls 0 places.0 read.0 p (λ k. ap (λ n. at n p.value) (omega arith) ∙ ap (at k) is) places.2 says)

none_at : (p : Spot) (l : Ledger) (calls : ℕ) → Located p (targets no_sources l calls)
unfolding targets_from
none_at p l calls = record { located = tt }

none_located : (p : Spot) (l : Ledger) (calls : ℕ) (s : Sources) → s ≡ no_sources → Located p (targets s l calls)
none_located p l calls s e = subst (λ (x : Sources). Located p (targets x l calls)) (sym e) (none_at p l calls)

-- the fault of a source whose target is missing leads to the source
pub located_targets : (p : Spot) (s : Sources) (l : Ledger) (calls : ℕ) → sources_of p.value ≡ Ok s → ((i : ℕ) (at : Place) (v : Json) → place v ≡ Ok at → is_there l calls at ≡ false → LacksTarget p.document (at_index i ∷ (at_name (codes "sources") ∷ p.path)) v) → Located p (targets s l calls)
located_targets p s l calls e says =
    elim (optional_read (codes "sources") (each (read_source (has_placeholders p.value)) no_sources) no_sources p.value s e) [
      | inl none ↦ none_located p l calls s none
      | inr there ↦ located_step (at_name (codes "sources")) refl p there.0 (targets_from 0 l calls s.places) there.1 (sources_located (has_placeholders p.value) l calls s (into p (at_name (codes "sources")) there.0 there.1) there.2 says)
    ]
