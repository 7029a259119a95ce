use Rattle.std.proofs.Common.{◌≤◌, arith}
use Rattle.std.proofs.lemmas.Result.{MatchResult-weaker}
use Rattle.crossbeam_queue.specs.Passes.{view, ruled_capacity}
use Rattle.avm_pool.proofs.NumberSteps.{puts, allows, room_taken}
use Rattle.avm_pool.proofs.call_numbers.Numbers.put.Goals as goal

pub push_as-requires-clause-rule : goal.push_as-requires-clause-rule
push_as-requires-clause-rule g c = (puts _ _ _ _ c.requires.next.0 c.requires.next.1, allows _ _)

pub returns-clause-room : goal.returns-clause-room
returns-clause-room g c =
    let cap = ruled_capacity c.args.self.now.queue in
    let put = (view c.args.pass.now).put in
    let room = c.args.self.now.room in
    MatchResult-weaker c.push_as.result c.push_as.ensures.rule (λ x _. tt)
    (λ x h. let taken : cap ≤ put = room_taken cap _ c.requires.next.0 h.2 in omega (arith, taken, room))
