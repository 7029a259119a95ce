-- What a run knows is what the ledger has, from where the run stands.
use Rattle.std.proofs.Common.{◌≡◌, refl, sym, ap, ◌∙◌}
use Rattle.std.specs.Prelude.{Option, Some, None, Ok}
use Rattle.std.specs.Option.{IfSome}
use Rattle.avm_items.specs.declared.item.Item.{Item}
use Rattle.avm_items.specs.declared.item_value.ItemValue.{ItemValue}
use Rattle.avm_items.specs.Items.{value_in}
use Rattle.avm_items.specs.Asks.{answer_from}
use Rattle.avm_items.specs.Environments.{known_to}
use Rattle.avm_call.specs.Runs.{path}
use Rattle.avm_call.specs.Calls.{prepared}
use Rattle.avm_laws.specs.KnownValues.{IsOfRun, KnowsTheLedger}
use Rattle.avm_run.specs.declared.running.Running.{Running}
use Rattle.avm_run.specs.Knowing.{IsValueOnLedgers, KnowsAt}
use Rattle.avm_run.specs.Standing.{StandsIn, position_of}
use Rattle.avm_run.proofs.Beginnings.{call_path_is}

is_of_run : (r : Running) → StandsIn r → IsOfRun r.env
is_of_run r s = record {
  row = r.row;
  steps = r.steps;
  reached = (position_of r s.place s.passed, None);
  admits = s.admits;
  comes = ap (λ b. answer_from (value_in r.env.reads) (path (record { program = b; call = r.env.call; header = r.env.header; current = r.env.current }) (prepared r.env.call r.env.current) r.steps)) (sym s.bytes) ∙ s.comes;
  writes = refl;
}

on_ledgers : KnowsTheLedger → (r : Running) (x : Item) → StandsIn r → (known : Option ItemValue) → known_to r.env x ≡ known → IfSome known (IsValueOnLedgers r.env x)
on_ledgers law r x s None e = tt
on_ledgers law r x s (Some v) e = λ l order agrees may. law l r.env x v order agrees (is_of_run r s) e may

-- given KnowsTheLedger, a run knows of an item what KnowsAt says at the step it has come to
pub knows : KnowsTheLedger → (r : Running) (x : Item) → StandsIn r → KnowsAt r.env.call r.env.header r.env.reads r.steps x (known_to r.env x)
knows law r x s = record {
  id = r.env.current;
  row = r.row;
  admits = s.admits;
  position = position_of r s.place s.passed;
  comes = call_path_is (value_in r.env.reads) r.env.call r.env.header r.env.current r.row r.program.bytes r.steps (Ok (position_of r s.place s.passed, None)) s.admits s.bytes s.comes;
  value = refl;
  on_ledgers = on_ledgers law r x s (known_to r.env x) refl;
}
