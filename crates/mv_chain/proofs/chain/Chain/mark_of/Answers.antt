use Rattle.std.proofs.Common.{◌≡◌, ◌∙◌, subst, sym}
use Rattle.mv_chain.specs.Versions.{IsRow, count_not_above}
use Rattle.mv_chain.proofs.Newest.{all_with, count_front, mark_front, mark_last, row_front}
use Rattle.mv_chain.proofs.Marks.{mark_in-none}
use Rattle.mv_chain.proofs.chain.Chain.mark_of.Goals as goal

pub returns-then-self-timestamp : goal.returns-then-self-timestamp
returns-then-self-timestamp g c = rw (← c.self.view_is) (c.mark_at.ensures ∙ mark_last c.self.inside.newest c.args.timestamp c.self.inside.older.items c.self.invariant c.if-self-timestamp.true)

pub count_to-count-requires : goal.count_to-count-requires
count_to-count-requires g c = subst IsRow (sym c.deref.ensures.value) (row_front c.self.inside.newest c.self.inside.older.items c.self.invariant)

pub returns-then-count-eq0 : goal.returns-then-count-eq0
returns-then-count-eq0 g c =
    let count : c.count_to-count.result ≡ count_not_above c.args.timestamp c.self.inside.older.items = rw c.deref.ensures.value at c.count_to-count.ensures.count in
    rw (← c.self.view_is)
    (sym (mark_in-none c.args.timestamp (all_with c.self.inside.newest c.self.inside.older.items) c.self.invariant (count_front c.self.inside.newest c.args.timestamp c.self.inside.older.items c.if-self-timestamp.false ∙ sym count ∙ c.if-count-eq0.true)))

pub returns : goal.returns
returns g c =
    let count : c.count_to-count.result ≡ count_not_above c.args.timestamp c.self.inside.older.items = rw c.deref.ensures.value at c.count_to-count.ensures.count in
    rw (← c.self.view_is)
    (c.mark_at-2.ensures
    ∙ mark_front c.self.inside.newest c.args.timestamp c.count_to-count.result c.self.inside.older.items c.index.result.now c.self.invariant c.if-self-timestamp.false count c.if-count-eq0.false c.index.ensures)
