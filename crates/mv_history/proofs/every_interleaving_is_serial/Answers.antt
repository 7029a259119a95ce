use Rattle.mv_history.proofs.Worlds.{every_interleaving_is_serial_lem}
use Rattle.mv_history.proofs.every_interleaving_is_serial.Goals as goal

pub returns : goal.returns
returns g c = every_interleaving_is_serial_lem g.row.Item.Denot g.row.Value.Denot g.row.Outcome.Denot g.P.ProperLookups.is_proper
