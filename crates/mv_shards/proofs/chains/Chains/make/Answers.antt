use Rattle.std.proofs.Common.{◌≡◌, ◌∙◌, ◌≤◌, ◌+◌, None, Some, [], ◌∷◌, ◌++◌, length, sym, ap, subst, arith}
use Rattle.avm_items.specs.declared.item.Item.{Item}
use Rattle.avm_items.specs.LedgerItems.{at}
use Rattle.mv_shards.specs.KeptChains.{AreNumbered, chain_in, number_in}
use Rattle.mv_shards.specs.NumberMaps.{with_number}
use Rattle.mv_shards.specs.Several.{AreListed, numbers_in, room_in, version_counts}
use Rattle.mv_shards.proofs.Numbers.{none_numbered}
use Rattle.mv_shards.proofs.NotedNumbers.{numbered_more}
use Rattle.mv_shards.proofs.OneChain.{made_grown, made_number, made_roomier}
use Rattle.mv_shards.proofs.Several.{counts_length, counts_more, listed_few, listed_more}
use Rattle.mv_shards.proofs.chains.Chains.make.Goals as goal
use Rattle.mv_shards.proofs.chains.Chains.make.Goals.{After-note}

none : (c : After-note) → chain_in c.self.inside.list.items c.args.item.now ≡ None
none c = none_numbered c.self.inside.list.items c.args.item.now (ap (λ m. number_in m c.args.item.now) c.self.view_is ∙ c.requires)

count : (c : After-note) → c.len-number.result ≡ length c.self.inside.list.items
count c = omega (arith, c.len-number.ensures, c.reserve.ensures.len)

pushed : (c : After-note) → c.push_reserved.new.self.items ≡ c.self.inside.list.items ++ (c.args.item.now, c.new-chain.result) ∷ []
pushed c =
    c.push_reserved.ensures.items ∙ ap (λ m. m ++ (c.copied.result, c.new-chain.result) ∷ []) c.reserve.ensures.items
    ∙ ap (λ (y : Item). c.self.inside.list.items ++ (y, c.new-chain.result) ∷ []) c.copied.ensures

noted : (c : After-note) → c.add.new.self ≡ with_number c.self.inside.numbers c.args.item.now (length c.self.inside.list.items)
noted c = c.in_ok-add.ensures.ok ∙ ap (with_number c.self.inside.numbers c.args.item.now) (count c)

numbered : (c : After-note) → AreNumbered c.add.new.self c.push_reserved.new.self.items
numbered c =
    subst (AreNumbered c.add.new.self) (sym (pushed c))
    (subst (λ ns. AreNumbered ns (c.self.inside.list.items ++ (c.args.item.now, c.new-chain.result) ∷ [])) (sym (noted c))
    (numbered_more c.self.inside.numbers c.self.inside.list.items c.args.item.now c.new-chain.result (none c) c.self.invariant.0))

listed : (c : After-note) → AreListed (numbers_in c.note.new.notes) (room_in c.note.new.notes) (version_counts c.push_reserved.new.self.items)
listed c =
    let size = counts_length c.self.inside.list.items in
    let counts : version_counts c.push_reserved.new.self.items ≡ version_counts c.self.inside.list.items ++ 1 ∷ [] = ap version_counts (pushed c) ∙ counts_more c.self.inside.list.items c.args.item.now c.new-chain.result ∙ ap (λ k. version_counts c.self.inside.list.items ++ k ∷ []) (ap length c.new-chain.ensures) in
    let same : room_in c.note.new.notes ≡ room_in c.make_room_for.new.notes = c.note.ensures.room in
    let roomy : c.len-number.result + 1 ≤ room_in c.make_room_for.new.notes = c.in_ok-make_room_for.ensures.ok in
    let long : c.len-number.result ≡ length c.self.inside.list.items = count c in
    subst (λ numbers. AreListed numbers (room_in c.note.new.notes) (version_counts c.push_reserved.new.self.items)) (sym (c.note.ensures.numbers ∙ c.make_room_for.ensures.numbers))
    (subst (AreListed (numbers_in c.self.inside.notes) (room_in c.note.new.notes)) (sym counts)
    (listed_more (numbers_in c.self.inside.notes) (room_in c.self.inside.notes) (room_in c.note.new.notes) (version_counts c.self.inside.list.items) (omega (arith, size, same, roomy, long)) c.self.invariant.1))

pub make_room_for-requires : goal.make_room_for-requires
make_room_for-requires c =
    let few = listed_few (numbers_in c.self.inside.notes) (room_in c.self.inside.notes) (version_counts c.self.inside.list.items) c.self.invariant.1 in
    let size = counts_length c.self.inside.list.items in
    omega (arith, few, size, c.len-number.ensures, c.reserve.ensures.len)

pub invariant_of-self-2 : goal.invariant_of-self-2
invariant_of-self-2 c = (numbered c, listed c)

pub returns-clause-grown : goal.returns-clause-grown
returns-clause-grown c =
    rw (← c.self.view_is)
    (made_grown (at c.args.base.now) c.self.inside.list.items _ c.args.item.now c.new-chain.result (numbered c).once (none c) (c.new-chain.ensures ∙ ap (λ v. record { timestamp = 0; mark = 0; value = v } ∷ []) c.in_ok-item_of.ensures) (pushed c))

pub returns-clause-roomier : goal.returns-clause-roomier
returns-clause-roomier c = rw (← c.self.view_is) (made_roomier c.self.inside.list.items _ c.args.item.now c.new-chain.result (none c) (pushed c))

pub returns-clause-number : goal.returns-clause-number
returns-clause-number c = made_number c.self.inside.list.items _ c.args.item.now c.new-chain.result (none c) (pushed c) ∙ ap Some (sym (count c))
