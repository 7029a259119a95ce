use Rattle.std.proofs.Common.{◌≡◌, ◌+◌, ◌-◌, ◌<◌, ℕ, length, sym, ◌∙◌, ap, arith}
use Rattle.logbook.specs.Pages.{may_write, nib}
use Rattle.logbook.specs.declared.tokens.Pen.{Pen}
use Rattle.avm_pool.specs.LogRules.{CommitLog}
use Rattle.avm_pool.proofs.LogSteps.{entry_moves}
use Rattle.avm_pool.proofs.commit_log.CommitLog.add.Goals as goal

pub compare_exchange-found-requires : goal.compare_exchange-found-requires
compare_exchange-found-requires g c =
    let own = c.self.invariant in
    let h = own.head_is in
    let book = own.book_is ∙ sym (ap (λ w. w.book) h) in
    let room : length c.self.inside.pens.items - length c.self.inside.seen.log ≡ c.args.self.now.room = ap (λ (l : CommitLog). l.room) c.self.view_is in
    let within : c.self.inside.len < length c.self.inside.pens.items = omega (arith, room, c.requires, own.len_is) in
    let rights = own.rights c.self.inside.len c.index_mut-pen.result.now (omega (arith, own.len_is)) within in
    let right : c.index_mut-pen.result.now.nib ≡ nib may_write (length c.self.inside.seen.log + 2) 0 =
    ap (λ (p : Pen). p.nib) c.index_mut-pen.ensures.value ∙ (rights.1 ∙ ap (λ (n : ℕ). nib may_write (n + 2) 0) own.len_is) in (
      ap (λ w. w.tracked) h,
      book,
      ap (λ (p : Pen). p.book) c.index_mut-pen.ensures.value ∙ (rights.0 ∙ sym (ap (λ w. w.book) h)),
      c.entry.invariant.0 ∙ sym own.nothing_kept,
      rw (ap (λ w. w.key) h, right, c.entry.invariant.1) (entry_moves c.self.inside.seen.log c.entry.inside.offer.ask),
    )
