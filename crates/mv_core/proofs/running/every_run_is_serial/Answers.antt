use Rattle.mv_core.proofs.Runs.{every_run_is_serial_lem, every_run_leads_on, every_worker_is_live}
use Rattle.mv_core.proofs.running.every_run_is_serial.Goals as goal

pub returns-clause-leads : goal.returns-clause-leads
returns-clause-leads c = every_run_leads_on

pub returns-clause-serial : goal.returns-clause-serial
returns-clause-serial c = every_run_is_serial_lem c.every_interleaving_of_calls_is_serial.ensures.serial

pub returns-clause-workers : goal.returns-clause-workers
returns-clause-workers c = every_worker_is_live
