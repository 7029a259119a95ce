use Rattle.std.proofs.Common.{sym, ◌∙◌, ap}
use Rattle.avm_pool.proofs.LogSteps.{cell_moves}
use Rattle.avm_pool.proofs.commit_log.CommitLog.make_room.Goals as goal

pub compare_exchange-found-requires : goal.compare_exchange-found-requires
compare_exchange-found-requires g c =
    let own = c.self.invariant in
    let h = own.head_is in
    let offer = c.plain-offer.ensures in
    let pen = c.no_pen-pen.ensures in
    let seen = ap (λ s. s.book) c.again-seen.ensures ∙ (own.book_is ∙ sym (ap (λ w. w.book) h)) in (
      ap (λ w. w.tracked) h,
      seen,
      pen.0 ∙ seen,
      offer.0,
      rw (ap (λ w. w.key) h, pen.1, offer.3) (cell_moves c.again-seen.result.log c.plain-offer.result.ask c.len.result),
    )
