-- An account's local state, in a ledger into which items are put, and the local states that can have changed.
use Rattle.std.proofs.Common.{◌≡◌, ◌⊎◌, inl, inr, ℕ, ◌==◌, Bool, true, false, List, [], ◌∷◌, ◌++◌, Option, None, Some, refl, sym, ap, subst, ◌∙◌, cond}
use Rattle.std.specs.Ordering.{is_eq, ordering_reverse}
use Rattle.std.specs.declared.cmp.Ordering.{Ordering}
use Rattle.std.specs.declared.cmp.Ordering.TheVariants.{Less, Equal, Greater}
use Rattle.std.specs.Cmp.{alike_right, tied_itself}
use Rattle.std.specs.Map.{lookup, keys_of}
use Rattle.std.specs.BTreeMap.{is_at}
use Rattle.std.specs.List.{AllByRecursion}
use Rattle.std.specs.List.Sorted.{IsStrictlySortedBy}
use Rattle.std.proofs.lemmas.Bool.{eqb-true}
use Rattle.teal_value.specs.declared.address.Address.{Address}
use Rattle.teal_value.specs.SameValueLaws.{is_same_equiv}
use Rattle.avm_states.specs.Entries.{Entries, value_of_key}
use Rattle.avm_states.proofs.Maps.{above_tied, all_below, below_none, is_Equal}
use Rattle.avm_ledger.specs.Ledgers.{Ledger, IsInOrder, account_cmp, empty_ledger, local_state_at}
use Rattle.avm_ledger.proofs.Changes.{account_same, account_total}
use Rattle.avm_items.specs.declared.item.Item.{Item}
use Rattle.avm_items.specs.declared.item.Item.TheVariants as item
use Rattle.avm_items.specs.declared.item_value.ItemValue.{ItemValue}
use Rattle.avm_items.specs.declared.item_value.ItemValue.TheVariants as value
use Rattle.avm_items.specs.Items.{ItemMap, IsInItemOrder, item_cmp, value_in}
use Rattle.avm_items.specs.LedgerItems.{put, put_one}
use Rattle.avm_items.specs.PutLaws.{changes_with}
use Rattle.avm_items.proofs.Puts.{has_what_was_put, item_same, item_total, keeps_others, local_values, stays_in_order}
use Rattle.avm_call.specs.Views.{state_changes}
use Rattle.avm_stepper.specs.Changes.{account_changes, changes_along, gathered, is_same_option, local_changes_along, of_account}
use Rattle.avm_stepper.specs.WrittenStates.{local_state_over}
use Rattle.avm_stepper.proofs.WrittenGlobal.{puts_in_order}

-- ---- one local state

-- no item changes with a local state but its own
own_alone : (x : Item) (who : Address) (id : ℕ) → changes_with x (item.Local who id) ≡ false
own_alone item.NextApp who id = refl
own_alone (item.App other) who id = refl
own_alone (item.Counts other) who id = refl
own_alone (item.Key other key) who id = refl
own_alone (item.Local other app) who id = refl

other_kept : (l : Ledger) (x : Item) (v : ItemValue) (who : Address) (id : ℕ) → is_eq (item_cmp (item.Local who id) x) ≡ false → local_state_at (put_one l x v) who id ≡ local_state_at l who id
other_kept l x v who id apart =
    local_values (local_state_at (put_one l x v) who id) (local_state_at l who id) (keeps_others l x (item.Local who id) v apart (own_alone x who id))

own_set : (l : Ledger) (who : Address) (id : ℕ) (v : ItemValue) → IsInOrder l → local_state_at (put_one l (item.Local who id) v) who id ≡ local_state_over (Some v) (local_state_at l who id)
own_set l who id (value.Local state) o = local_values _ (Some state) (has_what_was_put l (item.Local who id) (value.Local state) o tt)
own_set l who id value.Absent o = local_values _ None (has_what_was_put l (item.Local who id) value.Absent o tt)
own_set l who id v o = refl

local_put_by : (l : Ledger) (who : Address) (id : ℕ) (x : Item) (v : ItemValue) (es : ItemMap) → IsInOrder l → AllByRecursion (λ y. item_cmp x y ≡ Less) (keys_of es) → (b : Bool) → is_eq (item_cmp (item.Local who id) x) ≡ b
    → local_state_over (value_in es (item.Local who id)) (local_state_at (put_one l x v) who id) ≡ local_state_over (cond b (Some v) (value_in es (item.Local who id))) (local_state_at l who id)
local_put_by l who id x v es o above true tied =
    let t = is_Equal (item_cmp (item.Local who id) x) tied in
    let none : value_in es (item.Local who id) ≡ None = below_none item_total (item.Local who id) es (above_tied item_total (item.Local who id) x (keys_of es) t above) in
    ap (λ f. local_state_over f (local_state_at (put_one l x v) who id)) none
    ∙ ap (λ y. local_state_at (put_one l y v) who id) (sym (item_same (item.Local who id) x t))
    ∙ own_set l who id v o
local_put_by l who id x v es o above false apart = ap (local_state_over (value_in es (item.Local who id))) (other_kept l x v who id apart)

-- after puts, an account's local state is the one that its item sets, else that of before
pub local_put : (l : Ledger) (who : Address) (id : ℕ) (items : ItemMap) → IsInOrder l → IsInItemOrder items
    → local_state_at (put l items) who id ≡ local_state_over (value_in items (item.Local who id)) (local_state_at l who id)
unfolding IsStrictlySortedBy
local_put l who id [] o s = refl
local_put l who id (e ∷ es) o s =
    local_put (put_one l e.0 e.1) who id es (stays_in_order l e.0 e.1 o) s.1
    ∙ local_put_by l who id e.0 e.1 es o s.0 (is_eq (item_cmp (item.Local who id) e.0)) refl

-- ---- a state that is as before has no changes

same_there : (state : Entries) (key : List ℕ) → is_same_option state state key ≡ true
same_there state key = by (value_of_key state key) refl
  where
    by : (o : Option _) → value_of_key state key ≡ o → is_same_option state state key ≡ true
    by None e = rw e refl
    by (Some v) e = rw e (is_same_equiv.refl v)

unchanged_along : (state : Entries) (keys : List (List ℕ × Unit {0})) → changes_along state state keys ≡ []
unchanged_along state [] = refl
unchanged_along state (k ∷ keys) = rw (same_there state k.0) (unchanged_along state keys)

unchanged : (state : Entries) → state_changes state state ≡ []
unchanged state = unchanged_along state (gathered state (gathered state []))

-- a local state that is as before contributes nothing
quiet : (before : Ledger) (id : ℕ) (p : Address × ℕ) (state : Entries) → local_state_at before p.0 p.1 ≡ Some state → account_changes before id (p, state) ≡ []
quiet before id p state there = by (p.1 == id) refl
  where
    by : (b : Bool) → (p.1 == id) ≡ b → account_changes before id (p, state) ≡ []
    by false e = rw e refl
    by true e =
        let is : p.1 ≡ id = eqb-true p.1 id e in
        let now : local_state_at before p.0 id ≡ Some state = ap (local_state_at before p.0) (sym is) ∙ there in
        rw (e, now) (ap (of_account p.0) (unchanged state))

-- ---- the local states that items set, and those of a ledger into which they are put

abbrev States : Type 0
States = List ((Address × ℕ) × Entries)

abbrev found_in : States → Address × ℕ → Option Entries
found_in states p = lookup (is_at (account_cmp p)) states

-- the second has what the first has, and besides only what contributes no change
abbrev CoversAt : Ledger → ℕ → States → States → Address × ℕ → Type 0
CoversAt before id few all p = (found_in few p ≡ found_in all p) ⊎ ((found_in few p ≡ None) × ((state : Entries) → found_in all p ≡ Some state → account_changes before id (p, state) ≡ []))

abbrev Covers : Ledger → ℕ → States → States → Type 0
Covers before id few all = (p : Address × ℕ) → CoversAt before id few all p

some_state : {a b : Entries} → Some a ≡ Some b → a ≡ b
some_state e = cc

first_found : (e : (Address × ℕ) × Entries) (es : States) → found_in (e ∷ es) e.0 ≡ Some e.1
first_found e es = ap (λ r. cond (is_eq r) (Some e.1) (found_in es e.0)) (tied_itself account_total e.0)

-- what stands below the first is not found
below_first : (p : Address × ℕ) (e : (Address × ℕ) × Entries) (es : States) → account_cmp p e.0 ≡ Less → AllByRecursion (λ y. account_cmp e.0 y ≡ Less) (keys_of es) → found_in (e ∷ es) p ≡ None
below_first p e es less below = below_none account_total p (e ∷ es) (less, all_below account_total p e.0 (keys_of es) less below)

-- the first is not found behind it
not_behind : (p : Address × ℕ) (e : (Address × ℕ) × Entries) (es : States) → account_cmp p e.0 ≡ Equal → AllByRecursion (λ y. account_cmp e.0 y ≡ Less) (keys_of es) → found_in es p ≡ None
not_behind p e es tied below = below_none account_total p es (above_tied account_total p e.0 (keys_of es) tied below)

behind : (p : Address × ℕ) (e : (Address × ℕ) × Entries) (es : States) → is_eq (account_cmp p e.0) ≡ false → found_in (e ∷ es) p ≡ found_in es p
behind p e es apart = ap (λ b. cond b (Some e.1) (found_in es p)) apart

turned : (x y : Address × ℕ) → account_cmp x y ≡ Greater → account_cmp y x ≡ Less
turned x y more = by (account_cmp y x) (sym more ∙ account_total.antisymm x y)
  where
    by : (r : Ordering) → Greater ≡ ordering_reverse r → r ≡ Less
    by Less e = refl
    by Equal e = absurd cc
    by Greater e = absurd cc

module _ (before : Ledger) (id : ℕ) where
  same_found : (few all some most : States) (p : Address × ℕ) → found_in few p ≡ found_in some p → found_in all p ≡ found_in most p
      → CoversAt before id some most p
      → CoversAt before id few all p
  same_found few all some most p d e (inl same) = inl (d ∙ same ∙ sym e)
  same_found few all some most p d e (inr (none, unseen)) = inr (d ∙ none, λ state there. unseen state (sym e ∙ there))

  -- one that only the second has first
  extra_quiet : (few : States) (e : (Address × ℕ) × Entries) (es : States) → found_in few e.0 ≡ None → Covers before id few (e ∷ es) → account_changes before id e ≡ []
  extra_quiet few e es none covers = by (covers e.0)
    where
      by : CoversAt before id few (e ∷ es) e.0 → account_changes before id e ≡ []
      by (inl same) = let some : None ≡ Some e.1 = sym none ∙ same ∙ first_found e es in absurd cc
      by (inr (_, unseen)) = unseen e.1 (first_found e es)

  without_extra : (few : States) (e : (Address × ℕ) × Entries) (es : States) → AllByRecursion (λ y. account_cmp e.0 y ≡ Less) (keys_of es) → found_in few e.0 ≡ None
      → Covers before id few (e ∷ es) → Covers before id few es
  without_extra few e es below none covers p = by (is_eq (account_cmp p e.0)) refl
    where
      by : (b : Bool) → is_eq (account_cmp p e.0) ≡ b → CoversAt before id few es p
      by true tied =
          let t = is_Equal (account_cmp p e.0) tied in
          inl (ap (found_in few) (account_same p e.0 t) ∙ none ∙ sym (not_behind p e es t below))
      by false apart = same_found few es few (e ∷ es) p refl (sym (behind p e es apart)) (covers p)

  without_both : (d e : (Address × ℕ) × Entries) (ds es : States) → account_cmp d.0 e.0 ≡ Equal → AllByRecursion (λ y. account_cmp d.0 y ≡ Less) (keys_of ds) → AllByRecursion (λ y. account_cmp e.0 y ≡ Less) (keys_of es)
      → Covers before id (d ∷ ds) (e ∷ es) → Covers before id ds es
  without_both d e ds es same below above covers p = by (is_eq (account_cmp p d.0)) refl
    where
      by : (b : Bool) → is_eq (account_cmp p d.0) ≡ b → CoversAt before id ds es p
      by true tied =
          let t = is_Equal (account_cmp p d.0) tied in
          inl (not_behind p d ds t below ∙ sym (not_behind p e es (sym (alike_right account_total d.0 e.0 p same) ∙ t) above))
      by false apart =
          let other : is_eq (account_cmp p e.0) ≡ false = ap is_eq (sym (alike_right account_total d.0 e.0 p same)) ∙ apart in
          same_found ds es (d ∷ ds) (e ∷ es) p (sym (behind p d ds apart)) (sym (behind p e es other)) (covers p)

  -- one that only the first has first
  never_alone : {P : Type 0} (d : (Address × ℕ) × Entries) (ds all : States) → found_in all d.0 ≡ None → Covers before id (d ∷ ds) all → P
  never_alone {P} d ds all none covers = by (covers d.0)
    where
      by : CoversAt before id (d ∷ ds) all d.0 → P
      by (inl same) = let some : Some d.1 ≡ None = sym (first_found d ds) ∙ same ∙ none in absurd cc
      by (inr (absent, _)) = let some : Some d.1 ≡ None = sym (first_found d ds) ∙ absent in absurd cc

  firsts_same : (d e : (Address × ℕ) × Entries) (ds es : States) → account_cmp d.0 e.0 ≡ Equal → Covers before id (d ∷ ds) (e ∷ es) → d ≡ e
  firsts_same d e ds es same covers = by (covers d.0)
    where
      by : CoversAt before id (d ∷ ds) (e ∷ es) d.0 → d ≡ e
      by (inl alike) =
          let place = account_same d.0 e.0 same in
          let state = some_state (sym (first_found d ds) ∙ alike ∙ ap (λ r. cond (is_eq r) (Some e.1) (found_in es d.0)) same) in
          λ i. (place i, state i)
      by (inr (absent, _)) = let some : Some d.1 ≡ None = sym (first_found d ds) ∙ absent in absurd cc

  along_by : (d e : (Address × ℕ) × Entries) (ds es : States) → AllByRecursion (λ y. account_cmp d.0 y ≡ Less) (keys_of ds) → AllByRecursion (λ y. account_cmp e.0 y ≡ Less) (keys_of es)
      → Covers before id (d ∷ ds) (e ∷ es)
      → (Covers before id ds es → local_changes_along before id ds ≡ local_changes_along before id es)
      → (Covers before id (d ∷ ds) es → local_changes_along before id (d ∷ ds) ≡ local_changes_along before id es)
      → (r : Ordering) → account_cmp d.0 e.0 ≡ r → local_changes_along before id (d ∷ ds) ≡ local_changes_along before id (e ∷ es)
  along_by d e ds es below above covers both one Less less = never_alone d ds (e ∷ es) (below_first d.0 e es less above) covers
  along_by d e ds es below above covers both one Equal same =
      let first = firsts_same d e ds es same covers in
      let rest = both (without_both d e ds es same below above covers) in
      λ i. account_changes before id (first i) ++ rest i
  along_by d e ds es below above covers both one Greater more =
      let none : found_in (d ∷ ds) e.0 ≡ None = below_first e.0 d ds (turned d.0 e.0 more) below in
      one (without_extra (d ∷ ds) e es above none covers)
      ∙ sym (ap (λ changes. changes ++ local_changes_along before id es) (extra_quiet (d ∷ ds) e es none covers))

  -- where the second covers the first, both have the same changes
  pub covered_along : (few all : States) → IsStrictlySortedBy account_cmp (keys_of few) → IsStrictlySortedBy account_cmp (keys_of all) → Covers before id few all
      → local_changes_along before id few ≡ local_changes_along before id all
  unfolding IsStrictlySortedBy
  covered_along [] [] s t covers = refl
  covered_along [] (e ∷ es) s t covers =
      covered_along [] es s t.1 (without_extra [] e es t.0 refl covers)
      ∙ sym (ap (λ changes. changes ++ local_changes_along before id es) (extra_quiet [] e es refl covers))
  covered_along (d ∷ ds) [] s t covers = never_alone d ds [] refl covers
  covered_along (d ∷ ds) (e ∷ es) s t covers =
      along_by d e ds es s.0 t.0 covers (covered_along ds es s.1 t.1) (covered_along (d ∷ ds) es s t.1) (account_cmp d.0 e.0) refl

  -- ---- as items are put

  -- the second ledger has the local states of the first, and besides only those of before
  abbrev KeepsAt : Ledger → Ledger → Address → ℕ → Type 0
  KeepsAt few all who app = (local_state_at few who app ≡ local_state_at all who app) ⊎ ((local_state_at few who app ≡ None) × (local_state_at all who app ≡ local_state_at before who app))

  kept_by : (few all : Ledger) (x : Item) (v : ItemValue) → IsInOrder few → IsInOrder all → (who : Address) (app : ℕ)
      → KeepsAt few all who app
      → (b : Bool) → is_eq (item_cmp (item.Local who app) x) ≡ b
      → KeepsAt (put_one few x v) (put_one all x v) who app
  kept_by few all x v o p who app (inl same) false apart = inl (other_kept few x v who app apart ∙ same ∙ sym (other_kept all x v who app apart))
  kept_by few all x v o p who app (inr (none, old)) false apart = inr (other_kept few x v who app apart ∙ none, other_kept all x v who app apart ∙ old)
  kept_by few all x v o p who app keeps true tied =
      let is = item_same (item.Local who app) x (is_Equal (item_cmp (item.Local who app) x) tied) in
      subst (λ y. KeepsAt (put_one few y v) (put_one all y v) who app) is (own v)
    where
      own : (v : ItemValue) → KeepsAt (put_one few (item.Local who app) v) (put_one all (item.Local who app) v) who app
      own (value.Local state) = inl (own_set few who app (value.Local state) o ∙ sym (own_set all who app (value.Local state) p))
      own value.Absent = inl (own_set few who app value.Absent o ∙ sym (own_set all who app value.Absent p))
      own v = keeps

  keeps_put : (few all : Ledger) (items : ItemMap) → IsInOrder few → IsInOrder all → ((who : Address) (app : ℕ) → KeepsAt few all who app) → (who : Address) (app : ℕ) → KeepsAt (put few items) (put all items) who app
  keeps_put few all [] o p keeps = keeps
  keeps_put few all (e ∷ es) o p keeps =
      keeps_put (put_one few e.0 e.1) (put_one all e.0 e.1) es (stays_in_order few e.0 e.1 o) (stays_in_order all e.0 e.1 p)
      (λ who app. kept_by few all e.0 e.1 o p who app (keeps who app) (is_eq (item_cmp (item.Local who app) e.0)) refl)

  covers_by : (few all : Ledger) (p : Address × ℕ)
      → KeepsAt few all p.0 p.1
      → CoversAt before id few.local_states all.local_states p
  covers_by few all p (inl same) = inl same
  covers_by few all p (inr (none, old)) = inr (none, λ state there. quiet before id p state (sym old ∙ there))

  empty_in_order : IsInOrder empty_ledger
  unfolding IsStrictlySortedBy
  empty_in_order = record { applications = tt; global_states = λ other app found. absurd cc; local_states = tt }

  -- the changes of all local states, since items were put into a ledger, are those of the local states that they set
  pub changes_written : (items : ItemMap) → IsInOrder before → local_changes_along before id (put empty_ledger items).local_states ≡ local_changes_along before id (put before items).local_states
  changes_written items o =
      let few = put empty_ledger items in
      let all = put before items in
      let keeps = keeps_put empty_ledger before items empty_in_order o (λ who app. inr (refl, refl)) in
      covered_along few.local_states all.local_states (puts_in_order empty_ledger items empty_in_order).local_states (puts_in_order before items o).local_states
      (λ p. covers_by few all p (keeps p.0 p.1))
