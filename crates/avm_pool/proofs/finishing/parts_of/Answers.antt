use Rattle.std.proofs.Common.{IfOk, subst}
use Rattle.mv_parts.specs.MadeEntries.{IsDigestAfter}
use Rattle.avm_pool.specs.Finishing.{AreBegun}
use Rattle.avm_pool.proofs.finishing.parts_of.Goals as goal

pub returns : goal.returns
returns g c =
    let j = c.args.journal.now in
    let begun = subst (λ r. IfOk r (λ begun. AreBegun j c.args.base.now c.args.header.now (begun.0.items, begun.1))) c.in_ok-entries.was c.join-after.ensures.second in
    record {
      entries_are = begun.entries_are;
      front_is = begun.front_is;
      after_is = subst (λ r. IfOk r (IsDigestAfter j.base j.world.entries)) c.in_ok-after.was c.join-after.ensures.first;
    }
