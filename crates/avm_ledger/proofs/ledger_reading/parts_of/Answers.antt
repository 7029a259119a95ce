use Rattle.std.proofs.Common.{None}
use Rattle.std.proofs.lemmas.Map.Lookups.{exact_unsigned}
use Rattle.avm_ledger.proofs.Changes.{account_same}
use Rattle.avm_ledger.proofs.LedgerKept.{applications_rise, local_states_rise}
use Rattle.avm_ledger.proofs.ledger_reading.parts_of.Goals as goal

pub map_of-requires : goal.map_of-requires
map_of-requires c = record {
  order = (applications_rise c.in_ok-count.count 0 c.in_ok-next_id.next_id _ _ c.in_ok-applications.ensures).rising;
  exact = exact_unsigned;
}

pub map_of-requires-2 : goal.map_of-requires-2
map_of-requires-2 c = record {
  order = (local_states_rise c.in_ok-count-2.count None c.in_ok-next_id.next_id _ _ _ c.in_ok-local_states.ensures).rising;
  exact = account_same;
}
