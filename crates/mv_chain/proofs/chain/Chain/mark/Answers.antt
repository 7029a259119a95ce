use Rattle.std.proofs.Common.{◌≡◌, ◌≤◌, ◌∙◌, ◌-◌, ◌++◌, ◌∷◌, [], ap, refl, subst, sym}
use Rattle.mv_chain.specs.Versions.{IsChain, count_not_above, oldest_timestamp, versions_read_at}
use Rattle.mv_chain.proofs.Indexes.{versions_read_at-chain}
use Rattle.mv_chain.proofs.Newest.{all_with, found_front, read_front, read_last, row_front}
use Rattle.mv_chain.proofs.chain.Chain.mark.Goals as goal
use Rattle.mv_chain.proofs.chain.Chain.mark.Goals.{After-mark_older, After-raise}

read : (g : _) (c : After-raise g) → c.self.inside.older.items ++ record c.self.inside.newest { mark = c.raise.new.mark } ∷ [] ≡ versions_read_at c.args.timestamp (all_with c.self.inside.newest c.self.inside.older.items)
read g c =
    ap (λ m. c.self.inside.older.items ++ record c.self.inside.newest { mark = m } ∷ []) c.raise.ensures
    ∙ read_last c.self.inside.newest c.args.timestamp c.self.inside.older.items c.self.invariant c.if-self-timestamp.true

read_chain : (g : _) (c : After-raise g) → IsChain (c.self.inside.older.items ++ record c.self.inside.newest { mark = c.raise.new.mark } ∷ [])
read_chain g c = subst IsChain (sym (read g c)) (versions_read_at-chain c.args.timestamp (all_with c.self.inside.newest c.self.inside.older.items) c.self.invariant)

pub invariant_of-self : goal.invariant_of-self
invariant_of-self g c = read_chain g c

pub returns-then-self-timestamp-clause-list : goal.returns-then-self-timestamp-clause-list
returns-then-self-timestamp-clause-list g c = rw (← c.self.view_is) (read g c)

pub returns-then-self-timestamp-clause-chain : goal.returns-then-self-timestamp-clause-chain
returns-then-self-timestamp-clause-chain g c = read_chain g c

pub mark_older-requires-clause-row : goal.mark_older-requires-clause-row
mark_older-requires-clause-row g c = row_front c.self.inside.newest c.self.inside.older.items c.self.invariant

pub mark_older-requires-clause-some : goal.mark_older-requires-clause-some
mark_older-requires-clause-some g c =
    found_front c.self.inside.newest c.args.timestamp c.self.inside.older.items c.self.invariant (subst (λ v. oldest_timestamp v.list ≤ c.args.timestamp) (sym c.self.view_is) c.requires) c.if-self-timestamp.false

read_older : (g : _) (c : After-mark_older g) → c.mark_older.new.older.items ++ c.self.inside.newest ∷ [] ≡ versions_read_at c.args.timestamp (all_with c.self.inside.newest c.self.inside.older.items)
read_older g c =
    ap (λ o. o ++ c.self.inside.newest ∷ []) c.mark_older.ensures.items
    ∙ read_front c.self.inside.newest (count_not_above c.args.timestamp c.self.inside.older.items - 1) c.args.timestamp c.self.inside.older.items c.self.invariant (subst (λ v. oldest_timestamp v.list ≤ c.args.timestamp) (sym c.self.view_is) c.requires) c.if-self-timestamp.false refl

read_older_chain : (g : _) (c : After-mark_older g) → IsChain (c.mark_older.new.older.items ++ c.self.inside.newest ∷ [])
read_older_chain g c = subst IsChain (sym (read_older g c)) (versions_read_at-chain c.args.timestamp (all_with c.self.inside.newest c.self.inside.older.items) c.self.invariant)

pub invariant_of-self-else-self-timestamp : goal.invariant_of-self-else-self-timestamp
invariant_of-self-else-self-timestamp g c = read_older_chain g c

pub returns-else-self-timestamp-clause-list : goal.returns-else-self-timestamp-clause-list
returns-else-self-timestamp-clause-list g c = rw (← c.self.view_is) (read_older g c)

pub returns-else-self-timestamp-clause-chain : goal.returns-else-self-timestamp-clause-chain
returns-else-self-timestamp-clause-chain g c = read_older_chain g c
