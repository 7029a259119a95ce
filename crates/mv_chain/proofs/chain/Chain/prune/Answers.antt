use Rattle.std.proofs.Common.{◌≡◌, ◌∙◌, ◌-◌, ◌≤◌, [], ◌∷◌, ◌++◌, ap, subst, sym, arith}
use Rattle.mv_chain.specs.Versions.{IsChain, IsRow, count_not_above, versions_from}
use Rattle.mv_chain.proofs.Indexes.{count_not_above-within, drop-chain}
use Rattle.mv_chain.proofs.Newest.{all_with, from_front, from_last, len_with, none_before, row_front}
use Rattle.mv_chain.proofs.chain.Chain.prune.Goals as goal
use Rattle.mv_chain.proofs.chain.Chain.prune.Goals.{After-drop_front}

pub returns-then-self-timestamp-clause-list : goal.returns-then-self-timestamp-clause-list
returns-then-self-timestamp-clause-list g c =
    rw (← c.self.view_is) (ap (λ o. o ++ c.self.inside.newest ∷ []) c.clear.ensures.items ∙ from_last c.self.inside.newest c.args.timestamp c.self.inside.older.items c.self.invariant c.if-self-timestamp.true)

pub count_to-count-requires : goal.count_to-count-requires
count_to-count-requires g c = subst IsRow (sym c.deref.ensures.value) (row_front c.self.inside.newest c.self.inside.older.items c.self.invariant)

from : (g : _) (c : After-drop_front g) → c.drop_front.new.versions.items ++ c.self.inside.newest ∷ [] ≡ versions_from c.args.timestamp (all_with c.self.inside.newest c.self.inside.older.items)
from g c =
    let count : c.count_to-count.result ≡ count_not_above c.args.timestamp c.self.inside.older.items = rw c.deref.ensures.value at c.count_to-count.ensures.count in
    ap (λ o. o ++ c.self.inside.newest ∷ []) c.drop_front.ensures.items
    ∙ from_front c.self.inside.newest c.args.timestamp (c.count_to-count.result - 1) c.self.inside.older.items c.if-self-timestamp.false (ap (λ k. k - 1) count)

chain_from : (g : _) (c : After-drop_front g) → IsChain (c.drop_front.new.versions.items ++ c.self.inside.newest ∷ [])
chain_from g c =
    let whole = all_with c.self.inside.newest c.self.inside.older.items in
    let len = len_with c.self.inside.newest c.self.inside.older.items in
    let few = count_not_above-within c.args.timestamp whole in
    subst IsChain (sym (from g c)) (drop-chain (count_not_above c.args.timestamp whole - 1) whole (omega (arith, len, few)) c.self.invariant)

pub invariant_of-self-then-count-gt1 : goal.invariant_of-self-then-count-gt1
invariant_of-self-then-count-gt1 g c = chain_from g c

pub returns-then-count-gt1-clause-list : goal.returns-then-count-gt1-clause-list
returns-then-count-gt1-clause-list g c = rw (← c.self.view_is) (from g c)

pub returns-then-count-gt1-clause-chain : goal.returns-then-count-gt1-clause-chain
returns-then-count-gt1-clause-chain g c = chain_from g c

pub returns-else-count-gt1-clause-list : goal.returns-else-count-gt1-clause-list
returns-else-count-gt1-clause-list g c =
    let count : c.count_to-count.result ≡ count_not_above c.args.timestamp c.self.inside.older.items = rw c.deref.ensures.value at c.count_to-count.ensures.count in
    let few : c.count_to-count.result ≤ 1 = c.if-count-gt1.false in
    rw (← c.self.view_is) (none_before c.self.inside.newest c.args.timestamp c.self.inside.older.items c.if-self-timestamp.false (omega (arith, count, few)))
