use Rattle.std.proofs.Common.{◌≡◌, ◌∙◌, ◌<◌, ◌≤◌, ◌≢◌, [], ◌∷◌, ◌++◌, ap, subst, sym, arith}
use Rattle.std.proofs.lemmas.Result.{on_ok_weaker}
use Rattle.std.specs.List.{AllByRecursion}
use Rattle.mv_chain.specs.Versions.{IsChain, IsRow, count_not_above, oldest_timestamp, versions_with}
use Rattle.mv_chain.proofs.Indexes.{versions_with-chain}
use Rattle.mv_chain.proofs.Newest.{all_with, left_is, newest_absent, row_front, with_front, with_last}
use Rattle.mv_chain.proofs.chain.Chain.install.Goals as goal
use Rattle.mv_chain.proofs.chain.Chain.install.Goals.{After-follow, In_ok-insert}

-- ---- behind the newest

chain_with : (g : _) (c : After-follow g) → IsChain (versions_with c.args.timestamp c.args.value (all_with c.self.inside.newest c.self.inside.older.items))
chain_with g c =
    versions_with-chain c.args.timestamp c.args.value (all_with c.self.inside.newest c.self.inside.older.items) (subst (λ v. oldest_timestamp v.list ≤ c.args.timestamp) (sym c.self.view_is) c.requires.old_enough)
    (subst (λ v. AllByRecursion (λ w. w.timestamp ≢ c.args.timestamp) v.list) (sym c.self.view_is) c.requires.absent) c.self.invariant

behind : (g : _) (c : After-follow g) → all_with c.self.inside.newest c.self.inside.older.items ++ record { timestamp = c.args.timestamp; mark = 0; value = c.args.value } ∷ [] ≡ versions_with c.args.timestamp c.args.value (all_with c.self.inside.newest c.self.inside.older.items)
behind g c = let later : c.self.inside.newest.timestamp < c.args.timestamp = c.if-self-timestamp.true in with_last c.self.inside.newest c.args.timestamp c.args.value c.self.inside.older.items c.self.invariant (omega (arith, later))

still_chain : (g : _) (c : After-follow g) → IsChain (c.follow.new.older.items ++ c.follow.new.newest ∷ [])
still_chain g c = left_is IsChain c.follow.result _ _ _ c.follow.ensures.ok c.follow.ensures.err (subst IsChain (sym (behind g c)) (chain_with g c)) c.self.invariant

pub invariant_of-self : goal.invariant_of-self
invariant_of-self g c = still_chain g c

pub returns-then-self-timestamp-clause-ok : goal.returns-then-self-timestamp-clause-ok
returns-then-self-timestamp-clause-ok g c = rw (← c.self.view_is) (on_ok_weaker c.follow.result (λ e. e ∙ behind g c) c.follow.ensures.ok)

pub returns-then-self-timestamp-clause-chain : goal.returns-then-self-timestamp-clause-chain
returns-then-self-timestamp-clause-chain g c = still_chain g c

-- ---- before the newest

pub count_to-index-requires : goal.count_to-index-requires
count_to-index-requires g c = subst IsRow (sym c.deref.ensures.value) (row_front c.self.inside.newest c.self.inside.older.items c.self.invariant)

before : (g : _) (c : In_ok-insert g) → c.insert.new.self.items ++ c.self.inside.newest ∷ [] ≡ versions_with c.args.timestamp c.args.value (all_with c.self.inside.newest c.self.inside.older.items)
before g c =
    let absent = subst (λ v. AllByRecursion (λ w. w.timestamp ≢ c.args.timestamp) v.list) (sym c.self.view_is) c.requires.absent in
    let other : c.self.inside.newest.timestamp ≢ c.args.timestamp = newest_absent c.self.inside.newest c.args.timestamp c.self.inside.older.items absent in
    let later : c.args.timestamp ≤ c.self.inside.newest.timestamp = c.if-self-timestamp.false in
    let count : c.count_to-index.result ≡ count_not_above c.args.timestamp c.self.inside.older.items = rw c.deref.ensures.value at c.count_to-index.ensures.count in
    ap (λ o. o ++ c.self.inside.newest ∷ []) c.in_ok-insert.ensures.items
    ∙ with_front c.self.inside.newest c.args.timestamp c.count_to-index.result c.args.value c.self.inside.older.items (omega (arith, later, other)) count

chain_before : (g : _) (c : In_ok-insert g) → IsChain (c.insert.new.self.items ++ c.self.inside.newest ∷ [])
chain_before g c =
    subst IsChain (sym (before g c))
    (versions_with-chain c.args.timestamp c.args.value (all_with c.self.inside.newest c.self.inside.older.items) (subst (λ v. oldest_timestamp v.list ≤ c.args.timestamp) (sym c.self.view_is) c.requires.old_enough)
    (subst (λ v. AllByRecursion (λ w. w.timestamp ≢ c.args.timestamp) v.list) (sym c.self.view_is) c.requires.absent) c.self.invariant)

pub invariant_of-self-else-self-timestamp : goal.invariant_of-self-else-self-timestamp
invariant_of-self-else-self-timestamp g c = chain_before g c

pub returns-in_ok-insert-clause-ok : goal.returns-in_ok-insert-clause-ok
returns-in_ok-insert-clause-ok g c = rw (← c.self.view_is) (before g c)

pub returns-in_ok-insert-clause-chain : goal.returns-in_ok-insert-clause-chain
returns-in_ok-insert-clause-chain g c = chain_before g c
