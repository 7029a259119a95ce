-- What a call writes and asks for, with the ledger that has its writes: before its program, through it, and after.
use Rattle.std.proofs.Common.{◌≡◌, ℕ, ◌+◌, ◌-◌, ◌^◌, Bool, true, false, cond, List, [], ◌∷◌, Option, None, Some, Result, Ok, Err, refl, sym, ap, ◌∙◌, subst, eq-eqb}
use Rattle.std.specs.Prelude.{◌==◌, ◌&&◌, ◌||◌, not, filter, is_none, is_some, unwrap_or}
use Rattle.std.specs.Ordering.{is_eq}
use Rattle.std.specs.List.{AllByRecursion}
use Rattle.std.specs.List.Sorted.{IsStrictlySortedBy}
use Rattle.std.specs.Map.{keys_of}
use Rattle.std.specs.declared.cmp.Ordering.TheVariants.{Less}
use Rattle.std.specs.BTreeMap.{is_at}
use Rattle.std.proofs.lemmas.Bool.{eqb-true, not-true}
use Rattle.std.proofs.lemmas.Map.Entries.{lookup-filter-keys}
use Rattle.avm_ledger.specs.declared.application.Application.{Application}
use Rattle.avm_ledger.specs.declared.application.StoredApplication.{StoredApplication}
use Rattle.avm_ledger.specs.declared.header.Header.{Header}
use Rattle.avm_ledger.specs.Ledgers.{Ledger, application_at, without_application, IsInOrder}
use Rattle.std.proofs.lemmas.Cmp.{nat_cmp_total}
use Rattle.avm_states.proofs.Maps.{sorted-inserted, lookup-removed}
use Rattle.avm_items.specs.declared.call_data.Completion.{Completion}
use Rattle.avm_items.specs.declared.call_data.Completion.TheVariants as completion
use Rattle.avm_items.specs.declared.call_data.CallData.{CallData}
use Rattle.avm_items.specs.declared.item.Item.{Item}
use Rattle.avm_items.specs.declared.item.Item.TheVariants as item
use Rattle.avm_items.specs.declared.item_value.ItemValue.{ItemValue}
use Rattle.avm_items.specs.declared.item_value.ItemValue.TheVariants as value
use Rattle.avm_items.specs.CallFields.{creates, clears, new_keys}
use Rattle.avm_items.specs.Items.{ItemMap, Known, IsInItemOrder, is_global_of, item_cmp, value_in, with_item, application_in, local_state_in}
use Rattle.avm_items.specs.LedgerItems.{at, put_one, row_value, entry_value, is_of_gone}
use Rattle.avm_items.specs.Asks.{Gives, and_then}
use Rattle.avm_items.specs.Acts.{Act, done, on_ok, test, ◌>>=◌}
use Rattle.avm_items.proofs.Puts.{has_what_was_put, keeps_others, stays_in_order, item_total}
use Rattle.avm_call.specs.declared.outcome.Ended.{Ended}
use Rattle.avm_call.specs.declared.outcome.Ended.TheVariants as ended
use Rattle.avm_call.specs.declared.outcome.Why.{Why}
use Rattle.avm_call.specs.declared.outcome.Why.TheVariants as why
use Rattle.avm_call.specs.declared.outcome.Cause.{Cause}
use Rattle.avm_call.specs.declared.outcome.Cause.TheVariants as cause
use Rattle.avm_call.specs.declared.outcome.Outcome.{Outcome}
use Rattle.avm_call.specs.declared.outcome.Outcome.TheVariants as outcome
use Rattle.avm_call.specs.Runs.{Position, start, program_result}
use Rattle.avm_call.specs.Calls.{CallResult, Target, created, new_target, called_target, target, sender_item, is_opted_in, opt_in_test, admitted, new_application, opting_in, prepared, execution, deleted, updated, cleared, ending, runs, runs_on, goes_on, call_result, completed_by}
use Rattle.avm_laws.proofs.Given.{item_same}
use Rattle.avm_ops.proofs.ActParts as part
use Rattle.avm_ops.proofs.Questions.{Along, along-then}
use Rattle.avm_ops.proofs.WrittenItems.{IsThere}
use Rattle.avm_laws.proofs.Following.{Has, Follows, same_counts, value_with, has_put, counts_put, follows_local, follows_next, follows_create, follows_row}
use Rattle.avm_laws.proofs.FollowedRuns.{Over, StepsKeep, result_stands, row_stands}

-- ---- what a call leaves

-- a ledger that has what was written, but for what it can't have: the keys and counts of an application that is gone
pub record Leaves (l : Ledger) (K : Ledger → Type 0) (w : ItemMap) : Type 0 where
  pub ledger : Ledger
  pub order : IsInOrder ledger
  pub sorted : IsInItemOrder w
  pub has : (x : Item) → is_of_gone ledger x ≡ false → Has l w ledger x
  pub stands : (x : Item) (v : ItemValue) → value_in w x ≡ Some v → is_of_gone ledger x ≡ false
  pub keeps : K ledger

follows_leave : (new : Known) (l : Ledger) (K : Ledger → Type 0) (w : ItemMap) (m : Ledger) → Follows new l w m → K m → Leaves l K w
follows_leave new l K w m f keeps = record { ledger = m; order = f.order; sorted = f.sorted; has = λ x stands. f.has x; stands = f.stands; keeps = keeps }

-- ---- what each part of a call keeps, of its ledger and of the positions of its program

-- each part of a call keeps K, and each step of its program keeps Kp
pub record IsKept (call : CallData) (header : Header) (K : Ledger → Type 0) (Kp : Position → Ledger → Type 0) : Type 0 where
  pub new : creates call ≡ true → (m : Ledger) → K m → (m.next_id == 2 ^ 64 - 1) ≡ false → application_at m m.next_id ≡ None
      → K (put_one (put_one m item.NextApp (value.NextApp (m.next_id + 1))) (item.App m.next_id) (value.App (created call)))
  pub opted_in : (m : Ledger) (id : ℕ) (row : Application) → K m → at m (item.App id) ≡ value.App row → K (put_one m (sender_item call id) (value.Local []))
  pub opted_out : (m : Ledger) (id : ℕ) → K m → K (put_one m (sender_item call id) value.Absent)
  pub row : call.completion ≡ completion.UpdateApplication → (m : Ledger) (id : ℕ) (row : Application) → K m → at m (item.App id) ≡ value.App row → K (put_one m (item.App id) (value.App (updated call row)))
  pub gone : (m : Ledger) (id : ℕ) → K m → K (put_one m (item.App id) value.Absent)
  pub begins : (m : Ledger) (id : ℕ) (row : Application) (w : ItemMap) → K m → at m (item.App id) ≡ value.App row → Kp (start (execution call header id row).program w) m
  pub steps : (m : Ledger) (id : ℕ) (row : Application) → K m → at m (item.App id) ≡ value.App row → StepsKeep (execution call header id row) row Kp
  pub ends : (p : Position) (m : Ledger) → Kp p m → K m

-- ---- before anything is written

nothing_new : Known
nothing_new x = None

follows_nothing : (new : Known) (l : Ledger) → IsInOrder l → ((x : Item) (v : ItemValue) → new x ≡ Some v → at l x ≡ v) → Follows new l [] l
unfolding IsStrictlySortedBy
follows_nothing new l o fresh = record { fresh = fresh; order = o; sorted = tt; has = λ x. refl; asked = λ x unknown stands. stands; stands = λ x v e. absurd cc }

nothing_left : (l : Ledger) (K : Ledger → Type 0) → IsInOrder l → K l → Leaves l K []
unfolding nothing_new
nothing_left l K o keeps = follows_leave nothing_new l K [] l (follows_nothing nothing_new l o (λ x v e. absurd cc)) keeps

state_left : (l : Ledger) (call : CallData) (id : ℕ) (K : Ledger → Type 0) → IsInOrder l → K (put_one l (sender_item call id) value.Absent) → Leaves l K (with_item [] (sender_item call id) value.Absent)
unfolding nothing_new
state_left l call id K o keeps =
    follows_leave nothing_new l K (with_item [] (sender_item call id) value.Absent) (put_one l (sender_item call id) value.Absent)
    (follows_local nothing_new l [] l call.sender id value.Absent (follows_nothing nothing_new l o (λ x v e. absurd cc)) tt) keeps

-- what is known of keys without a look is so
pub old_fresh : (l : Ledger) (call : CallData) (id : ℕ) → creates call ≡ false → (x : Item) (v : ItemValue) → new_keys call id x ≡ Some v → at l x ≡ v
old_fresh l call id old item.NextApp v e = absurd cc
old_fresh l call id old (item.App other) v e = absurd cc
old_fresh l call id old (item.Counts other) v e = absurd cc
old_fresh l call id old (item.Key other key) v e =
    let none : None ≡ Some v = sym (ap (λ b. cond (b && (other == id)) (Some value.Absent) None) old) ∙ e in absurd cc
old_fresh l call id old (item.Local who other) v e = absurd cc

-- the same where the call creates an application and the id has none yet
pub new_fresh : (l : Ledger) (call : CallData) (id : ℕ) → creates call ≡ true → application_at l id ≡ None → (x : Item) (v : ItemValue) → new_keys call id x ≡ Some v → at l x ≡ v
new_fresh l call id new none item.NextApp v e = absurd cc
new_fresh l call id new none (item.App other) v e = absurd cc
new_fresh l call id new none (item.Counts other) v e = absurd cc
new_fresh l call id new none (item.Key other key) v e = by (other == id) refl (sym (ap (λ b. cond (b && (other == id)) (Some value.Absent) None) new) ∙ e)
  where
    by : (b : Bool) → (other == id) ≡ b → cond b (Some value.Absent) None ≡ Some v → at l (item.Key other key) ≡ v
    by true same is =
        let absent : value.Absent ≡ v = cc in
        ap (λ n. entry_value (application_at l n) key) (eqb-true other id same) ∙ ap (λ a. entry_value a key) none ∙ absent
    by false differs is = absurd cc
new_fresh l call id new none (item.Local who other) v e = absurd cc

new_key : (call : CallData) (id : ℕ) → creates call ≡ true → (key : List ℕ) → new_keys call id (item.Key id key) ≡ Some value.Absent
new_key call id new key = λ i. cond (new i && eq-eqb id id refl i) (Some value.Absent) None

-- ---- what is prepared for the program

opting_over : (call : CallData) (header : Header) (id : ℕ) (row : Application) (l : Ledger) (K : Ledger → Type 0) (Kp : Position → Ledger → Type 0) → IsKept call header K Kp → (w : ItemMap) → Over (execution call header id row) row l K w
    → (c : Completion) → Over (execution call header id row) row l K (elim c as (λ _. ItemMap) [ completion.OptIn ↦ with_item w (sender_item call id) (value.Local []) | _ ↦ w ])
opting_over call header id row l K Kp kept w o completion.NoOp = o
opting_over call header id row l K Kp kept w o completion.OptIn = record {
  ledger = put_one o.ledger (sender_item call id) (value.Local []);
  follows = follows_local (new_keys call id) l w o.ledger call.sender id (value.Local []) o.follows tt;
  current = keeps_others o.ledger (sender_item call id) (item.App id) (value.Local []) refl refl ∙ o.current;
  keeps = kept.opted_in o.ledger id row o.keeps o.current;
}
opting_over call header id row l K Kp kept w o completion.CloseOut = o
opting_over call header id row l K Kp kept w o completion.ClearState = o
opting_over call header id row l K Kp kept w o completion.UpdateApplication = o
opting_over call header id row l K Kp kept w o completion.DeleteApplication = o

creation_over : (call : CallData) (header : Header) (l : Ledger) (K : Ledger → Type 0) (Kp : Position → Ledger → Type 0) → IsKept call header K Kp → IsInOrder l → K l → creates call ≡ true → application_at l l.next_id ≡ None
    → (l.next_id == 2 ^ 64 - 1) ≡ false → Over (execution call header l.next_id (created call)) (created call) l K (new_application call l.next_id)
creation_over call header l K Kp kept o keeps new none few =
    let id = l.next_id in
    let m = put_one l item.NextApp (value.NextApp (id + 1)) in
    let f = follows_next (new_keys call id) l [] l (id + 1) (follows_nothing (new_keys call id) l o (new_fresh l call id new none)) in
    record {
      ledger = put_one m (item.App id) (value.App (created call));
      follows = follows_create (new_keys call id) l (with_item [] item.NextApp (value.NextApp (id + 1))) m id (created call) f none (new_key call id new);
      current = has_what_was_put m (item.App id) (value.App (created call)) f.order tt;
      keeps = kept.new new l keeps few none;
    }

-- ---- after the program

below_by : {X : Type 0} (P : Item → Type 0) (e : Item × X) (es fs : List (Item × X)) → P e.0 → AllByRecursion P (keys_of fs) → (b : Bool) → AllByRecursion P (keys_of (cond b (e ∷ fs) fs))
below_by P e es fs h g true = (h, g)
below_by P e es fs h g false = g

below_filter : {X : Type 0} (P : Item → Type 0) (p : Item × X → Bool) (es : List (Item × X)) → AllByRecursion P (keys_of es) → AllByRecursion P (keys_of (filter p es))
below_filter P p [] h = tt
below_filter P p (e ∷ es) h = below_by P e es (filter p es) h.0 (below_filter P p es h.1) (p e)

sorted_by : (e : Item × ItemValue) (fs : ItemMap) → AllByRecursion (λ y. item_cmp e.0 y ≡ Less) (keys_of fs) → IsInItemOrder fs → (b : Bool) → IsInItemOrder (cond b (e ∷ fs) fs)
unfolding IsStrictlySortedBy
sorted_by e fs below s true = (below, s)
sorted_by e fs below s false = s

pub sorted_filter : (p : Item × ItemValue → Bool) (es : ItemMap) → IsInItemOrder es → IsInItemOrder (filter p es)
unfolding IsStrictlySortedBy
sorted_filter p [] s = tt
sorted_filter p (e ∷ es) s = sorted_by e (filter p es) (below_filter (λ y. item_cmp e.0 y ≡ Less) p es s.0) (sorted_filter p es s.1) (p e)

-- the items that aren't filtered out
pub kept_value : (id : ℕ) (w : ItemMap) (x : Item) → value_in (filter (λ e. not (is_global_of id e.0)) w) x ≡ cond (not (is_global_of id x)) (value_in w x) None
kept_value id w x =
    lookup-filter-keys (is_at (item_cmp x)) (λ k. not (is_global_of id k)) (not (is_global_of id x)) (λ k tied. ap (λ y. not (is_global_of id y)) (sym (item_same x k tied))) w

-- what there is, once an application is gone, isn't its own
not_gone : (m : Ledger) (id other : ℕ) → IsInOrder m → (b : Bool) → (other == id) ≡ b → is_none (application_at (without_application m id) other) ≡ false → b ≡ false
not_gone m id other o true same there =
    let gone : is_none (application_at (without_application m id) id) ≡ true = ap is_none (lookup-removed nat_cmp_total id m.applications o.applications) in
    sym gone ∙ subst (λ n. is_none (application_at (without_application m id) n) ≡ false) (eqb-true other id same) there
not_gone m id other o false differs there = refl

not_its_own : (m : Ledger) (id : ℕ) → IsInOrder m → (x : Item) → is_of_gone (put_one m (item.App id) value.Absent) x ≡ false → is_global_of id x ≡ false
not_its_own m id o item.NextApp there = refl
not_its_own m id o (item.App other) there = refl
not_its_own m id o (item.Counts other) there = not_gone m id other o (other == id) refl there
not_its_own m id o (item.Key other key) there = not_gone m id other o (other == id) refl there
not_its_own m id o (item.Local who other) there = refl

gone_keeps : (m : Ledger) (id : ℕ) (x : Item) → is_global_of id x ≡ false → is_of_gone (put_one m (item.App id) value.Absent) x ≡ is_of_gone m x
gone_keeps m id item.NextApp h = refl
gone_keeps m id (item.App other) h = refl
gone_keeps m id (item.Counts other) h = same_counts (application_at (without_application m id) other) (application_at m other) (keeps_others m (item.App id) (item.Counts other) value.Absent refl h)
gone_keeps m id (item.Key other key) h = same_counts (application_at (without_application m id) other) (application_at m other) (keeps_others m (item.App id) (item.Counts other) value.Absent refl h)
gone_keeps m id (item.Local who other) h = refl

kept_has : (l : Ledger) (w : ItemMap) (m : Ledger) (id : ℕ) (x : Item) → is_global_of id x ≡ false → Has l w m x → Has l (filter (λ e. not (is_global_of id e.0)) w) m x
kept_has l w m id x own has = has ∙ ap (λ f. unwrap_or f (at l x)) (sym (kept_value id w x ∙ ap (λ b. cond (not b) (value_in w x) None) own))

gone_has : (l : Ledger) (w : ItemMap) (m : Ledger) (id : ℕ) → IsInOrder m → (x : Item) → is_global_of id x ≡ false → Has l w m x → Has l (deleted id w) (put_one m (item.App id) value.Absent) x
gone_has l w m id o item.NextApp own has = has_put l m (filter (λ e. not (is_global_of id e.0)) w) (item.App id) value.Absent item.NextApp o tt refl refl (kept_has l w m id item.NextApp own has)
gone_has l w m id o (item.App other) own has = has_put l m (filter (λ e. not (is_global_of id e.0)) w) (item.App id) value.Absent (item.App other) o tt refl refl (kept_has l w m id (item.App other) own has)
gone_has l w m id o (item.Counts other) own has =
    counts_put l m (filter (λ e. not (is_global_of id e.0)) w) (item.App id) value.Absent other refl (keeps_others m (item.App id) (item.Counts other) value.Absent refl own) (kept_has l w m id (item.Counts other) own has)
gone_has l w m id o (item.Key other key) own has =
    has_put l m (filter (λ e. not (is_global_of id e.0)) w) (item.App id) value.Absent (item.Key other key) o tt refl own (kept_has l w m id (item.Key other key) own has)
gone_has l w m id o (item.Local who other) own has =
    has_put l m (filter (λ e. not (is_global_of id e.0)) w) (item.App id) value.Absent (item.Local who other) o tt refl refl (kept_has l w m id (item.Local who other) own has)

-- where a value is left, nothing took it out and it was there before
pub kept_only : {A : Type 0} (b : Bool) (o : Option A) (v : A) → cond (not b) o None ≡ Some v → (b ≡ false) × (o ≡ Some v)
kept_only true o v e = absurd cc
kept_only false o v e = (refl, e)

gone_stands : (w : ItemMap) (m : Ledger) (id : ℕ) → ((x : Item) (v : ItemValue) → value_in w x ≡ Some v → is_of_gone m x ≡ false) → (x : Item) (v : ItemValue) → (b : Bool) → is_eq (item_cmp x (item.App id)) ≡ b
    → cond b (Some value.Absent) (value_in (filter (λ e. not (is_global_of id e.0)) w) x) ≡ Some v → is_of_gone (put_one m (item.App id) value.Absent) x ≡ false
gone_stands w m id stands x v true tied there = subst (λ y. is_of_gone (put_one m (item.App id) value.Absent) y ≡ false) (sym (item_same x (item.App id) tied)) refl
gone_stands w m id stands x v false apart there =
    let kept = kept_only (is_global_of id x) (value_in w x) v (sym (kept_value id w x) ∙ there) in
    gone_keeps m id x kept.0 ∙ stands x v kept.1

deleted_leaves : (new : Known) (l : Ledger) (K : Ledger → Type 0) (w : ItemMap) (m : Ledger) (id : ℕ) → Follows new l w m → K (put_one m (item.App id) value.Absent) → Leaves l K (deleted id w)
deleted_leaves new l K w m id f keeps = record {
  ledger = put_one m (item.App id) value.Absent;
  order = stays_in_order m (item.App id) value.Absent f.order;
  sorted = sorted-inserted item_total (item.App id) value.Absent (filter (λ e. not (is_global_of id e.0)) w) (sorted_filter (λ e. not (is_global_of id e.0)) w f.sorted);
  has = λ x there. gone_has l w m id f.order x (not_its_own m id f.order x there) (f.has x);
  stands = λ x v there. gone_stands w m id f.stands x v (is_eq (item_cmp x (item.App id))) refl (sym (value_with (filter (λ e. not (is_global_of id e.0)) w) (item.App id) value.Absent x) ∙ there);
  keeps = keeps;
}

completed_leaves : (call : CallData) (header : Header) (id : ℕ) (row : Application) (l : Ledger) (K : Ledger → Type 0) (Kp : Position → Ledger → Type 0) → IsKept call header K Kp → (w : ItemMap) → Over (execution call header id row) row l K w
    → (c : Completion) → call.completion ≡ c → Leaves l K (completed_by c call id row w)
completed_leaves call header id row l K Kp kept w o completion.NoOp is = follows_leave (new_keys call id) l K w o.ledger o.follows o.keeps
completed_leaves call header id row l K Kp kept w o completion.OptIn is = follows_leave (new_keys call id) l K w o.ledger o.follows o.keeps
completed_leaves call header id row l K Kp kept w o completion.CloseOut is =
    follows_leave (new_keys call id) l K (with_item w (sender_item call id) value.Absent) (put_one o.ledger (sender_item call id) value.Absent)
    (follows_local (new_keys call id) l w o.ledger call.sender id value.Absent o.follows tt) (kept.opted_out o.ledger id o.keeps)
completed_leaves call header id row l K Kp kept w o completion.ClearState is =
    follows_leave (new_keys call id) l K (with_item w (sender_item call id) value.Absent) (put_one o.ledger (sender_item call id) value.Absent)
    (follows_local (new_keys call id) l w o.ledger call.sender id value.Absent o.follows tt) (kept.opted_out o.ledger id o.keeps)
completed_leaves call header id row l K Kp kept w o completion.UpdateApplication is =
    follows_leave (new_keys call id) l K (with_item w (item.App id) (value.App (updated call row))) (put_one o.ledger (item.App id) (value.App (updated call row)))
    (follows_row (new_keys call id) l w o.ledger id (updated call row) o.follows (row_stands (application_at o.ledger id) row o.current)) (kept.row is o.ledger id row o.keeps o.current)
completed_leaves call header id row l K Kp kept w o completion.DeleteApplication is = deleted_leaves (new_keys call id) l K w o.ledger id o.follows (kept.gone o.ledger id o.keeps)

cleared_leaves : (call : CallData) (header : Header) (id : ℕ) (l : Ledger) (K : Ledger → Type 0) (Kp : Position → Ledger → Type 0) → IsKept call header K Kp → IsInOrder l → K l → (c : Cause) (o : Outcome) (b : Bool)
    → Leaves l K (cond {A = CallResult} b (cleared call id c) (o, [])).1
cleared_leaves call header id l K Kp kept order keeps c o true = state_left l call id K order (kept.opted_out l id keeps)
cleared_leaves call header id l K Kp kept order keeps c o false = nothing_left l K order keeps

ending_leaves : (call : CallData) (header : Header) (id : ℕ) (row : Application) (l : Ledger) (K : Ledger → Type 0) (Kp : Position → Ledger → Type 0) → IsKept call header K Kp → IsInOrder l → K l → (end : ItemMap × Ended) → Over (execution call header id row) row l K end.0
    → Leaves l K (ending call id row end).1
ending_leaves call header id row l K Kp kept order keeps (w, ended.Approved) o = completed_leaves call header id row l K Kp kept w o call.completion refl
ending_leaves call header id row l K Kp kept order keeps (w, ended.Rejected) o = cleared_leaves call header id l K Kp kept order keeps cause.Rejected outcome.Rejected (clears call.completion)
ending_leaves call header id row l K Kp kept order keeps (w, ended.Faulted f place) o = cleared_leaves call header id l K Kp kept order keeps (cause.Faulted f place) (outcome.Faulted f place) (clears call.completion)

-- ---- the program

runs_leave : (call : CallData) (header : Header) (id : ℕ) (row : Application) (l : Ledger) (K : Ledger → Type 0) (Kp : Position → Ledger → Type 0) → IsKept call header K Kp → IsInOrder l → K l → Over (execution call header id row) row l K (prepared call id)
    → Along (at l) (IsThere l) (λ r. Leaves l K r.1) (runs call header id row)
runs_leave call header id row l K Kp kept order keeps o =
    let e = execution call header id row in
    let w = prepared call id in
    along-then (at l) (IsThere l) (λ end. Over e row l K end.0) (λ r. Leaves l K r.1) (program_result e w) (λ end. Gives (ending call id row end))
    (result_stands e row l Kp K (kept.steps o.ledger id row o.keeps o.current) kept.ends w
    (record { ledger = o.ledger; follows = o.follows; current = o.current; keeps = kept.begins o.ledger id row w o.keeps o.current }))
    (ending_leaves call header id row l K Kp kept order keeps)

-- ---- the tests before it

-- the target is the new application with the next id, or has the row that the ledger has at its id
abbrev pub IsTarget : Ledger → CallData → Bool → Target → Type 0
IsTarget l call true t = (t.id ≡ l.next_id) × (t.row ≡ Some (created call)) × ((l.next_id == 2 ^ 64 - 1) ≡ false)
IsTarget l call false t = t.row ≡ application_in (at l (item.App t.id))

-- P holds of the target, unless the call is refused
abbrev pub OnTarget : (Target → Type 0) → Result Target Why → Type 0
OnTarget P (Ok t) = P t
OnTarget P (Err w) = Unit {0}

target_by : (l : Ledger) (call : CallData) (b : Bool) → Along (at l) (IsThere l) (OnTarget (IsTarget l call b)) (elim b [ true ↦ new_target call | false ↦ called_target call ])
target_by l call true =
    (refl, part.then_test (Along (at l) (IsThere l) (OnTarget (IsTarget l call true))) (not (l.next_id == 2 ^ 64 - 1)) why.IdsEnd (λ _. done (record { id = l.next_id; row = Some (created call) })) tt (λ few. (refl, refl, not-true (l.next_id == 2 ^ 64 - 1) few)))
target_by l call false = (
  refl,
  part.then_test (Along (at l) (IsThere l) (OnTarget (IsTarget l call false))) (is_some (application_in (at l (item.App call.application))) || clears call.completion) why.NoApp
      (λ _. done (record { id = call.application; row = application_in (at l (item.App call.application)) })) tt (λ there. refl),
)

test_any : (l : Ledger) (b : Bool) (w : Why) → Along (at l) (IsThere l) (λ r. Unit {0}) (test b w)
test_any l true w = tt
test_any l false w = tt

opt_in_by : (l : Ledger) (call : CallData) (id : ℕ) (c : Completion) → Along (at l) (IsThere l) (λ r. Unit {0}) (elim c as (λ _. Act Why (Unit {0})) [
  | completion.OptIn ↦ is_opted_in call id >>= λ in_already. test (not in_already) why.AlreadyIn
  | completion.CloseOut ↦ is_opted_in call id >>= λ is_in. test is_in why.NotIn
  | completion.ClearState ↦ is_opted_in call id >>= λ is_in. test is_in why.NotIn
  | _ ↦ done tt
])
opt_in_by l call id completion.NoOp = tt
opt_in_by l call id completion.OptIn = (refl, test_any l (not (is_some (local_state_in (at l (sender_item call id))))) why.AlreadyIn)
opt_in_by l call id completion.CloseOut = (refl, test_any l (is_some (local_state_in (at l (sender_item call id)))) why.NotIn)
opt_in_by l call id completion.ClearState = (refl, test_any l (is_some (local_state_in (at l (sender_item call id)))) why.NotIn)
opt_in_by l call id completion.UpdateApplication = tt
opt_in_by l call id completion.DeleteApplication = tt

admits : (l : Ledger) (call : CallData) (P : Target → Type 0) (r : Result Target Why) → OnTarget P r → Along (at l) (IsThere l) (OnTarget P) (on_ok (λ t. opt_in_test call t.id >>= λ _. done t) r)
admits l call P (Ok t) h = along-then (at l) (IsThere l) (λ r. Unit {0}) (OnTarget P) (opt_in_test call t.id) (on_ok (λ _. done t)) (opt_in_by l call t.id call.completion) after
  where
    after : (r : Result (Unit {0}) Why) → Unit {0} → Along (at l) (IsThere l) (OnTarget P) (on_ok (λ _. done t) r)
    after (Ok u) any = h
    after (Err w) any = tt
admits l call P (Err w) h = tt

-- the tests ask for no key or counts of a gone application, and if they pass they find the target
pub admitted_is : (l : Ledger) (call : CallData) → Along (at l) (IsThere l) (OnTarget (IsTarget l call (creates call))) (admitted call)
admitted_is l call = along-then (at l) (IsThere l) (OnTarget (IsTarget l call (creates call))) (OnTarget (IsTarget l call (creates call))) (target call) _ (target_by l call (creates call)) (admits l call (IsTarget l call (creates call)))

-- ---- the whole call

prepared_new : (call : CallData) (header : Header) (l : Ledger) (K : Ledger → Type 0) (Kp : Position → Ledger → Type 0) → IsKept call header K Kp → IsInOrder l → K l → application_at l l.next_id ≡ None → (t : Target) (row : Application) → t.row ≡ Some row
    → creates call ≡ true → IsTarget l call true t → Over (execution call header t.id row) row l K (prepared call t.id)
prepared_new call header l K Kp kept o keeps none t row is new (id, own, few) =
    let same : row ≡ created call = some_same (sym is ∙ own) in
    let made = creation_over call header l K Kp kept o keeps new none few in
    let w = new_application call l.next_id in
    let opted = opting_over call header l.next_id (created call) l K Kp kept w made call.completion in
    let there : Over (execution call header l.next_id (created call)) (created call) l K (prepared call l.next_id) =
    subst (λ b. Over (execution call header l.next_id (created call)) (created call) l K (opting_in call l.next_id (cond b w []))) (sym new) opted in
    subst (λ n. Over (execution call header n row) row l K (prepared call n)) (sym id) (subst (λ r. Over (execution call header l.next_id r) r l K (prepared call l.next_id)) (sym same) there)
  where
    some_same : {a b : Application} → Some a ≡ Some b → a ≡ b
    some_same e = cc

row_there : (a : Option StoredApplication) (row : Application) → Some row ≡ application_in (row_value a) → row_value a ≡ value.App row
row_there None row e = absurd cc
row_there (Some app) row e = ap value.App (cc)

prepared_old : (call : CallData) (header : Header) (l : Ledger) (K : Ledger → Type 0) (Kp : Position → Ledger → Type 0) → IsKept call header K Kp → IsInOrder l → K l → (t : Target) (row : Application) → t.row ≡ Some row
    → creates call ≡ false → IsTarget l call false t → Over (execution call header t.id row) row l K (prepared call t.id)
prepared_old call header l K Kp kept o keeps t row is old found =
    let here : Over (execution call header t.id row) row l K [] = record {
      ledger = l;
      follows = follows_nothing (new_keys call t.id) l o (old_fresh l call t.id old);
      current = row_there (application_at l t.id) row (sym is ∙ found);
      keeps = keeps;
    } in
    subst (λ b. Over (execution call header t.id row) row l K (opting_in call t.id (cond b (new_application call t.id) []))) (sym old)
    (opting_over call header t.id row l K Kp kept [] here call.completion)

-- a ledger has the items prepared for the program, and the row of the application that runs
pub prepared_over : (call : CallData) (header : Header) (l : Ledger) (K : Ledger → Type 0) (Kp : Position → Ledger → Type 0) → IsKept call header K Kp → IsInOrder l → K l → application_at l l.next_id ≡ None → (t : Target) (row : Application) → t.row ≡ Some row
    → (b : Bool) → creates call ≡ b → IsTarget l call b t → Over (execution call header t.id row) row l K (prepared call t.id)
prepared_over call header l K Kp kept o keeps none t row is true new h = prepared_new call header l K Kp kept o keeps none t row is new h
prepared_over call header l K Kp kept o keeps none t row is false old h = prepared_old call header l K Kp kept o keeps t row is old h

runs_on_leave : (call : CallData) (header : Header) (l : Ledger) (K : Ledger → Type 0) (Kp : Position → Ledger → Type 0) → IsKept call header K Kp → IsInOrder l → K l → application_at l l.next_id ≡ None → (t : Target) → IsTarget l call (creates call) t
    → (row : Option Application) → t.row ≡ row → Along (at l) (IsThere l) (λ r. Leaves l K r.1) (runs_on call header t row)
runs_on_leave call header l K Kp kept o keeps none t h None is = state_left l call t.id K o (kept.opted_out l t.id keeps)
runs_on_leave call header l K Kp kept o keeps none t h (Some row) is =
    runs_leave call header t.id row l K Kp kept o keeps (prepared_over call header l K Kp kept o keeps none t row is (creates call) refl h)

goes_on_leaves : (call : CallData) (header : Header) (l : Ledger) (K : Ledger → Type 0) (Kp : Position → Ledger → Type 0) → IsKept call header K Kp → IsInOrder l → K l → application_at l l.next_id ≡ None
    → (r : Result Target Why) → OnTarget (IsTarget l call (creates call)) r → Along (at l) (IsThere l) (λ r. Leaves l K r.1) (goes_on call header r)
goes_on_leaves call header l K Kp kept o keeps none (Ok t) h = runs_on_leave call header l K Kp kept o keeps none t h t.row refl
goes_on_leaves call header l K Kp kept o keeps none (Err w) h = nothing_left l K o keeps

-- A call asks for no key and no count of an application that is gone, and leaves a ledger that has what it wrote.
pub call_leaves : (call : CallData) (header : Header) (l : Ledger) (K : Ledger → Type 0) (Kp : Position → Ledger → Type 0) → IsKept call header K Kp → IsInOrder l → K l → application_at l l.next_id ≡ None
    → Along (at l) (IsThere l) (λ r. Leaves l K r.1) (call_result call header)
call_leaves call header l K Kp kept o keeps none =
    along-then (at l) (IsThere l) (OnTarget (IsTarget l call (creates call))) (λ r. Leaves l K r.1) (admitted call) (goes_on call header) (admitted_is l call) (goes_on_leaves call header l K Kp kept o keeps none)
