use Rattle.std.proofs.Common.{◌∙◌, None, get_or, ap, sym}
use Rattle.std.specs.Arc.{arc_value}
use Rattle.avm_pool.proofs.draft.SharedDraft.open.Goals as goal

pub locked-requires-clause-agree : goal.locked-requires-clause-agree
locked-requires-clause-agree g c = λ i s is.
    let draft = c.args.self.now in
    let first = c.every_call_keeps_agreement.ensures.«open» (arc_value draft.base.now) draft.header (arc_value draft.calls).items i s (ap (λ xs. get_or xs i None) (sym c.in_ok-journal.ensures.shards) ∙ is) in
    rw (c.requires.draft.0, c.requires.draft.1, c.requires.draft.2) at first
