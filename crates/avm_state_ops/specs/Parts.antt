-- What a part of an instruction answers: a value, a fault, or an item that isn't known.
use Rattle.std.specs.Prelude.{◌≡◌, ◌||◌, ℕ, List, Option, Some, None, Result, Ok, Err}
use Rattle.teal_value.specs.declared.value.Value.{Value}
use Rattle.teal_value.specs.declared.value.Value.TheVariants.{Uint}
use Rattle.teal_value.specs.declared.fault.Fault.{Fault}
use Rattle.teal_value.specs.declared.fault.Fault.TheVariants as fault
use Rattle.avm_items.specs.Asks.{Answer, answer_from}
use Rattle.avm_items.specs.declared.item.Item.{Item}
use Rattle.avm_items.specs.declared.item_value.ItemValue.{ItemValue}
use Rattle.avm_items.specs.Acts.{Act}
use Rattle.avm_items.specs.Environments.{Environment, known_to}
use Rattle.avm_cpu.specs.Machine.{Machine}
use Rattle.avm_ops.specs.declared.op.Stop.{Stop}
use Rattle.avm_ops.specs.declared.op.Stop.TheVariants as stop
use Rattle.avm_states.specs.declared.schema.Schema.{Schema}
use Rattle.avm_states.specs.Entries.{Entries, value_of_key, with_entry}
use Rattle.avm_states.specs.Schemas.{counts_in, is_within, keeps_kind}
use Rattle.avm_ops.specs.Frame.{Context, After, Stepped, must}
use Rattle.avm_ops.specs.Objects.{context_of}
use Rattle.avm_ops.specs.States.{leaves, key_written, counts_written}

-- a row over what the call knows, or the first item that it asks for and the call doesn't know
abbrev pub known_row : (Context → Act Fault After) → Machine → Environment → Answer Stepped
known_row row m e = answer_from (known_to e) (row (context_of m e))

-- the part's answer is this one, where the value is seen so
abbrev pub Answers : {A B : Type 0} → (A → B) → Result A Stop → Answer (Result B Fault) → Type 0
Answers view (Ok a) answer = answer ≡ Ok (Ok (view a))
Answers view (Err (stop.Fault f)) answer = answer ≡ Ok (Err f)
Answers view (Err (stop.Need x)) answer = answer ≡ Err x.value
Answers view (Err stop.Memory) answer = Unit {0}

-- It stops for this item, which isn't known, or because memory ran out.
abbrev pub StopsFor : Option ItemValue → Item → Stop → Type 0
StopsFor value x (stop.Need y) = (value ≡ None) × (y.value ≡ x)
StopsFor value x (stop.Fault f) = ⊥
StopsFor value x stop.Memory = Unit {0}

-- What a put into this application's global state leaves: the key's value, and the counts where they change.
abbrev pub after_put : Context → List ℕ → Value → Option Schema → After
after_put c key v None = leaves c 2 (key_written c key (Some v) c.writes)
after_put c key v (Some counts) = leaves c 2 (counts_written c counts (key_written c key (Some v) c.writes))

-- What a delete leaves: nothing else where the key was absent.
abbrev pub after_delete : Context → List ℕ → Option Schema → After
after_delete c key None = leaves c 1 c.writes
after_delete c key (Some counts) = leaves c 1 (counts_written c counts (key_written c key None c.writes))

-- the last test of a put into a local state
abbrev pub schema_test : Entries → List ℕ → Value → Schema → Result (Unit {0}) Fault
schema_test state key v limit = must (keeps_kind (value_of_key state key) (Some v) || is_within (counts_in (with_entry state key v)) limit) fault.Schema

-- the number that is given, if it is one
abbrev pub number_in : Result Value Fault → Option ℕ
number_in (Ok (Uint n)) = Some n
number_in _ = None
