use Rattle.mv_history.proofs.Worlds.{every_consistent_world_is_serial_lem, every_reachable_world_is_consistent_lem, no_mark_is_above_the_clock_lem}
use Rattle.mv_history.proofs.every_consistent_world_is_serial.Goals as goal

pub returns-clause-serial : goal.returns-clause-serial
returns-clause-serial g c = every_consistent_world_is_serial_lem g.row.Item.Denot g.row.Value.Denot g.row.Outcome.Denot g.P.ProperLookups.is_proper

pub returns-clause-consistent : goal.returns-clause-consistent
returns-clause-consistent g c = every_reachable_world_is_consistent_lem g.row.Item.Denot g.row.Value.Denot g.row.Outcome.Denot g.P.ProperLookups.is_proper

pub returns-clause-marks : goal.returns-clause-marks
returns-clause-marks g c = no_mark_is_above_the_clock_lem g.row.Item.Denot g.row.Value.Denot g.row.Outcome.Denot g.P.ProperLookups.is_proper
