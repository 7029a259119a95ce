use Rattle.std.proofs.Common.{◌≤◌, ap, subst, length, List}
use mathlib.Core.List.{IsPrefix}
use Rattle.mv_parts.specs.CallHistory.{CallEntry}
use Rattle.avm_pool.proofs.Prefixes.{prefix_shorter}
use Rattle.avm_pool.proofs.log_prefix.LogPrefix.begins.Goals as goal

pub returns : goal.returns
returns g c less =
    let both = c.learn.new.self.log in
    let this : IsPrefix c.self.inside.seen.log both = subst (λ (l : List CallEntry). IsPrefix l both) (ap (λ s. s.log) c.again-both.ensures) c.learn.ensures.2 in
    let shorter : length c.self.inside.seen.log ≤ length c.other.inside.seen.log = rw (c.self.view_is, c.other.view_is) less in
    rw (← c.self.view_is, ← c.other.view_is) (prefix_shorter c.self.inside.seen.log c.other.inside.seen.log both this c.learn.ensures.3 shorter)
