use Rattle.std.proofs.Common.{◌≡◌, ◌-◌, ◌≤◌, ap, subst, sym, arith}
use Rattle.mv_chain.specs.Versions.{IsRow, count_not_above, oldest_timestamp}
use Rattle.mv_chain.proofs.Newest.{all_with, found_front, newest_in_front, newest_is_last, row_front}
use Rattle.mv_chain.proofs.chain.Chain.newest_to.Goals as goal

pub returns-then-self-timestamp : goal.returns-then-self-timestamp
returns-then-self-timestamp g c = rw (← c.self.view_is) (λ d. newest_is_last c.self.inside.newest c.args.timestamp c.self.inside.older.items d c.self.invariant c.if-self-timestamp.true)

pub count_to-count-requires : goal.count_to-count-requires
count_to-count-requires g c = subst IsRow (sym c.deref.ensures.value) (row_front c.self.inside.newest c.self.inside.older.items c.self.invariant)

pub overflow_sub-count : goal.overflow_sub-count
overflow_sub-count g c =
    let old : oldest_timestamp (all_with c.self.inside.newest c.self.inside.older.items) ≤ c.args.timestamp = subst (λ v. oldest_timestamp v.list ≤ c.args.timestamp) (sym c.self.view_is) c.requires in
    let some = found_front c.self.inside.newest c.args.timestamp c.self.inside.older.items c.self.invariant old c.if-self-timestamp.false in
    let count : c.count_to-count.result ≡ count_not_above c.args.timestamp c.self.inside.older.items = rw c.deref.ensures.value at c.count_to-count.ensures.count in
    omega (arith, some, count)

pub returns : goal.returns
returns g c =
    let old : oldest_timestamp (all_with c.self.inside.newest c.self.inside.older.items) ≤ c.args.timestamp = subst (λ v. oldest_timestamp v.list ≤ c.args.timestamp) (sym c.self.view_is) c.requires in
    let count : c.count_to-count.result ≡ count_not_above c.args.timestamp c.self.inside.older.items = rw c.deref.ensures.value at c.count_to-count.ensures.count in
    rw (← c.self.view_is)
    (λ d. newest_in_front c.self.inside.newest c.args.timestamp (c.count_to-count.result - 1) c.self.inside.older.items d c.index.result.now c.self.invariant old c.if-self-timestamp.false
    (ap (λ k. k - 1) count) c.index.ensures)
