use Rattle.std.proofs.Common.{Err, refl, ap, ◌∙◌}
use Rattle.std.proofs.lemmas.Result.{IfOk-weaker}
use Rattle.teal_value.specs.declared.failure.Failure.TheVariants.{Fault}
use Rattle.mv_core.proofs.Calls.{only_unknown}
use Rattle.mv_core.proofs.WorkerSteps.{reads_on}
use Rattle.mv_core.proofs.steps.read.Goals as goal

pub unreachable-requires-in-Err-Fault : goal.unreachable-requires-in-Err-Fault
unreachable-requires-in-Err-Fault g c =
    c.in-Err-Fault.ensures.unknown.0 (ap (λ f. Err f) (c.in-Err-Fault.field-0-is ∙ ap Fault (only_unknown c.in-Err-Fault._unknown))) (record { attempt = _; live = c.requires.live; number = refl })

pub returns-in-Ok-supply-clause-read : goal.returns-in-Ok-supply-clause-read
returns-in-Ok-supply-clause-read g c =
    IfOk-weaker c.advance.result _ _
    (λ after h. (reads_on c.args.store.now c.read.new.self c.args.ticket c.args.run c.args.asks c.copied.result c.in-Ok.value c.supply.new.self c.requires.asks c.requires.live c.copied.ensures c.in-Ok.ensures.ok c.in-Ok-supply.ensures after h).read) c.advance.ensures

pub returns-in-Ok-supply-clause-sound : goal.returns-in-Ok-supply-clause-sound
returns-in-Ok-supply-clause-sound g c =
    IfOk-weaker c.advance.result _ _
    (λ after h. (reads_on c.args.store.now c.read.new.self c.args.ticket c.args.run c.args.asks c.copied.result c.in-Ok.value c.supply.new.self c.requires.asks c.requires.live c.copied.ensures c.in-Ok.ensures.ok c.in-Ok-supply.ensures after h).sound) c.advance.ensures
