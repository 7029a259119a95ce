-- Each item of a ledger that keeps the rules has a value that has bytes.
use Rattle.std.proofs.Common.{◌≡◌, ℕ, Bool, true, false, cond, List, [], ◌∷◌, Option, None, Some, All, refl, subst, arith}
use Rattle.std.specs.Map.{lookup}
use Rattle.std.proofs.lemmas.List.Elements.{All-head, All-tail}
use Rattle.teal_value.specs.declared.value.Value.{Value}
use Rattle.teal_value.specs.declared.address.Address.{Address}
use Rattle.avm_states.specs.Entries.{Entries, value_of_key}
use Rattle.avm_ledger.specs.declared.application.StoredApplication.{StoredApplication}
use Rattle.avm_ledger.specs.Ledgers.{Ledger, application_at, local_state_at}
use Rattle.avm_ledger.specs.LedgerReader.{local_room}
use Rattle.avm_ledger.specs.LedgerRules.{IsStateEntry, IsStateIn, IsLocalStateBelow, KeepsRules}
use Rattle.avm_ledger.proofs.KeptOrder.{application_rules}
use Rattle.avm_items.specs.declared.item.Item.{Item}
use Rattle.avm_items.specs.declared.item.Item.TheVariants as item
use Rattle.avm_items.specs.Items.{key_value}
use Rattle.avm_items.specs.LedgerItems.{at, row_value, counts_value, entry_value, local_value}
use Rattle.avm_item_codec.specs.ItemRules.{IsItem, IsValueFor}

first : {K V : Type 0} (P : K × V → Type 0) (e : K × V) (v : V) (b : Bool) (later : Option V) → P e → (later ≡ Some v → (k : K) × P (k, v)) → cond b (Some e.1) later ≡ Some v → (k : K) × P (k, v)
first P e v true later here more is = let same : e.1 ≡ v = cc in (e.0, subst (λ w. P (e.0, w)) same here)
first P e v false later here more is = more is

-- what is found is one of those that were looked through
found : {K V : Type 0} (P : K × V → Type 0) (test : K → Bool) (es : List (K × V)) (v : V) → All P es → lookup test es ≡ Some v → (k : K) × P (k, v)
found P test [] v all e = absurd cc
found P test (e ∷ es) v all is = first P e v (test e.0) (lookup test es) (All-head P e es all) (found P test es v (All-tail P e es all)) is

module _ (l : Ledger) (keeps : KeepsRules l) where
  row_has : (id : ℕ) (app : Option StoredApplication) → application_at l id ≡ app → IsValueFor (item.App id) (row_value app)
  row_has id None is = tt
  row_has id (Some app) is = (application_rules l id app keeps is).row

  counts_have : (id : ℕ) (app : Option StoredApplication) → application_at l id ≡ app → IsValueFor (item.Counts id) (counts_value app)
  counts_have id None is = tt
  counts_have id (Some app) is =
      let rules = application_rules l id app keeps is in
      omega (arith, rules.row.global_schema, rules.state.uints, rules.state.strings)

  entry_has : (id : ℕ) (key : List ℕ) (state : Entries) (v : Option Value) → All IsStateEntry state → value_of_key state key ≡ v → IsValueFor (item.Key id key) (key_value v)
  entry_has id key state None all is = tt
  entry_has id key state (Some v) all is = (found IsStateEntry _ state v all is).1.1

  key_has : (id : ℕ) (key : List ℕ) (app : Option StoredApplication) → application_at l id ≡ app → IsValueFor (item.Key id key) (entry_value app key)
  key_has id key None is = tt
  key_has id key (Some app) is = entry_has id key app.state (value_of_key app.state key) (application_rules l id app keeps is).state.entries refl

  -- a room for local states is within the one of an application that is gone
  in_room : (id : ℕ) (app : Option StoredApplication) (state : Entries) → application_at l id ≡ app → IsStateIn (local_room app) state → IsStateIn (local_room None) state
  in_room id None state is within = within
  in_room id (Some app) state is within =
      let small = (application_rules l id app keeps is).row.local_schema in
      record {
        rising = within.rising;
        entries = within.entries;
        few = omega (arith, within.few, small);
        uints = omega (arith, within.uints, small);
        strings = omega (arith, within.strings, small);
      }

  local_has : (who : Address) (id : ℕ) (state : Option Entries) → local_state_at l who id ≡ state → IsValueFor (item.Local who id) (local_value state)
  local_has who id None is = tt
  local_has who id (Some state) is =
      let one = found (IsLocalStateBelow l.next_id l.applications) _ l.local_states state keeps.local_states is in
      in_room one.0.1 (application_at l one.0.1) state refl one.1.state

  pub has_values : (x : Item) → IsItem x → IsValueFor x (at l x)
  has_values item.NextApp is = (keeps.next_id, keeps.small)
  has_values (item.App id) is = row_has id (application_at l id) refl
  has_values (item.Counts id) is = counts_have id (application_at l id) refl
  has_values (item.Key id key) is = key_has id key (application_at l id) refl
  has_values (item.Local who id) is = local_has who id (local_state_at l who id) refl
