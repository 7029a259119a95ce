use Rattle.std.proofs.Common.{◌∙◌}
use Rattle.mv_parts.specs.Journals.{first_journal}
use Rattle.avm_pool.proofs.Noted.{agree_without, first_agrees}
use Rattle.avm_pool.proofs.opening.take.Goals as goal

pub new-requires : goal.new-requires
new-requires g c =
    let J = g.J.Naming in
    let s = c.in-Some.shard in
    first_agrees J.base J.header J.calls c.prefix.result s (c.prefix.ensures ∙ c.requires.empty) (c.requires.agree s.index s c.in-Some.ensures.last.held)

pub returns-in-Some : goal.returns-in-Some
returns-in-Some g c =
    let J = g.J.Naming in
    agree_without (first_journal J.base J.header J.calls) c.args.held.now c.take.new.self c.in-Some.shard.index c.in-Some.ensures.last.others c.requires.agree
