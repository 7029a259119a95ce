use Rattle.std.proofs.Common.{Some, sym, ap, ◌∙◌}
use Rattle.std.specs.Option.{option_copied}
use Rattle.avm_states.specs.Schemas.{counts_after, is_within}
use Rattle.avm_state_ops.proofs.Rows.{put_over_schema}
use Rattle.avm_state_ops.proofs.writes.counts_of_put.Goals as goal

pub returns-in-None : goal.returns-in-None
returns-in-None c = λ m key. put_over_schema m c.args.env.now key c.args.new.now (option_copied c.args.old) c.in_ok-counts.counts (option_copied c.in_ok-application.field-0) c.current.result
    (sym c.keeps_kind.ensures ∙ c.if-keeps_kind.false) c.in_ok-counts.ensures c.current.ensures c.in_ok-application.ensures
    (ap (is_within (counts_after (option_copied c.args.old) (Some c.args.new.now) c.in_ok-counts.counts)) (sym c.global_limit-limit.ensures) ∙ c.in-None.ensures)
