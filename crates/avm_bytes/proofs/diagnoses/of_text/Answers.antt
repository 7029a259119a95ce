use Rattle.std.proofs.Common.{Some, ap}
use Rattle.avm_bytes.proofs.Texts.{of_text-not_utf8, of_text-utf8}
use Rattle.avm_bytes.proofs.diagnoses.of_text.Goals as goal

pub returns-in-Ok : goal.returns-in-Ok
returns-in-Ok c = rw (of_text-utf8 c.args.bytes.now c.in-Ok.text.now c.in-Ok.ensures.cases.1 c.in-Ok.ensures.cases.0) c.of_source.ensures

pub returns-in-Err : goal.returns-in-Err
returns-in-Err c = rw (of_text-not_utf8 c.args.bytes.now c.in-Err.ensures.cases.0) (ap Some c.refused_for.ensures)
