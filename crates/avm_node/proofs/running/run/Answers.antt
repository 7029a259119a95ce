use Rattle.std.proofs.Common.{◌∙◌, arith, subst, sym, Some}
use Rattle.std.specs.List.{AllByRecursion}
use Rattle.avm_ops.specs.OpSets.{IsFull}
use Rattle.avm_pool.specs.Refusals.{AreFull}
use Rattle.avm_input.specs.CommandLine.{AreOneToEight}
use Rattle.avm_node.specs.ProposeShown.{reply_shown}
use Rattle.avm_node.proofs.NodeAnswers.{other_answers, other_fails, propose_answers}
use Rattle.avm_node.proofs.FullSets.{fewer_are_full, last_is_own, own_is_full}
use Rattle.avm_node.proofs.running.run.Goals as goal

pub proposed-requires-clause-sets : goal.proposed-requires-clause-sets
proposed-requires-clause-sets g c κs within =
    let opcode = g.O.Op.opcode in
    let own = c.in-Some.own in
    let n = c.in-Some-workers_of.workers in
    let some : AreOneToEight (Some n) = subst AreOneToEight (sym c.in-Some-workers_of.ensures) c.in-Ok.ensures.workers in
    let full = last_is_own opcode c.pop.new.self.items own (subst (AllByRecursion (IsFull opcode)) c.in-Some.ensures.items c.requires.sets.full) in
    record {
      some = omega (arith, some.0, c.from.ensures, c.truncate.ensures.len, c.in-Some.ensures.len, c.requires.sets.count);
      few = omega (arith, some.1, c.from.ensures, c.truncate.ensures.len, c.in-Some.ensures.len, c.requires.sets.count);
      full = subst (λ sets. AreFull opcode sets own) (sym c.truncate.ensures.items) (fewer_are_full opcode _ c.pop.new.self.items own full);
    }

pub from_full-requires-after_bounds : goal.from_full-requires-after_bounds
from_full-requires-after_bounds g c κs within =
    let opcode = g.O.Op.opcode in
    own_is_full opcode c.pop.new.self.items c.in-Some.own
    (last_is_own opcode c.pop.new.self.items c.in-Some.own (subst (AllByRecursion (IsFull opcode)) c.in-Some.ensures.items c.requires.sets.full))

pub returns-in-Ok-proposed-clause-answers : goal.returns-in-Ok-proposed-clause-answers
returns-in-Ok-proposed-clause-answers g c =
    rw (← c.in-Ok.ensures.command)
    (propose_answers c.in-Ok.command c.in-Some-workers_of.workers (g.R.Read.remaining c.args.reader.now) (g.W.Write.contents c.args.writer.now) (g.W.Write.contents c.write.new.writer) (reply_shown c.in-Ok-proposed.reply) c.write.result
    (sym c.workers_of.ensures ∙ c.in-Some-workers_of.is) c.in-Ok-proposed.ensures c.write.ensures.written)

pub returns-in-None : goal.returns-in-None
returns-in-None g c =
    let command = c.in-Ok.command in
    let had = g.R.Read.remaining c.args.reader.now in
    let held = g.W.Write.contents c.args.writer.now in
    let holds = g.W.Write.contents c.answer_to-in-None.new.writer in
    let other = sym c.workers_of.ensures ∙ c.in-None.is in
    let done = c.answer_to-in-None.ensures in
    rw (← c.in-Ok.ensures.command) (record {
      answers = other_answers command had held holds c.answer_to-in-None.result other done.answers;
      fails = λ failed. other_fails command had held holds c.args.writer.now c.answer_to-in-None.new.writer other (done.fails failed);
      reads_nothing = done.reads_nothing;
    })
