use Rattle.std.proofs.Common.{◌∙◌, sym}
use Rattle.avm_pool.proofs.Proposed.{parts_of_own}
use Rattle.avm_pool.proofs.finishing.made_of.Goals as goal

pub proposal_with-requires : goal.proposal_with-requires
proposal_with-requires g c =
    let draft = c.args.draft.now in
    parts_of_own c.args.journal.now c.deref.result.now draft.header c.in_ok-parts.parts (c.requires.base_is ∙ sym c.deref.ensures) c.requires.header_is c.in_ok-parts.ensures

pub returns : goal.returns
returns g c = rw (← c.requires.base_is, ← c.requires.header_is, ← c.requires.calls_are) c.proposal_with.ensures
