use Rattle.std.proofs.Common.{◌≡◌, [], ◌∷◌, ◌++◌, ap, get_or, length, sym, subst, arith}
use Rattle.avm_items.specs.declared.item.Item.{Item}
use Rattle.avm_items.specs.declared.item_value.ItemValue.{ItemValue}
use Rattle.mv_chain.specs.Versions.{Versions}
use Rattle.std.specs.Prelude.{set}
use Rattle.mv_shards.specs.Several.{AreListed, numbers_in, room_in, version_counts}
use Rattle.mv_shards.proofs.Several.{count_here, counts_length, listed_joined, listed_longer, room_for_number, some_version}
use Rattle.mv_shards.proofs.chains.add_if_single.Goals as goal

pub add_number-requires : goal.add_number-requires
add_number-requires c =
    let is = count_here c.args.list.now c.args.number c.index-list-number.result c.requires.within c.index-list-number.is in
    let size = counts_length c.args.list.now in
    let lent : length c.index-list-number.result.1.list ≡ length (get_or c.args.list.now c.args.number c.index-list-number.result).1.list = ap (λ (e : Item × Versions ItemValue). length e.1.list) c.index-list-number.is in
    room_for_number (numbers_in c.args.notes.now) (room_in c.args.notes.now) (version_counts c.args.list.now) c.args.number (omega (arith, size, c.requires.within)) (omega (arith, is, lent, c.count.ensures.count, c.if-count-eq1.true)) c.requires.listed

pub returns-then-count-eq1-clause-listed : goal.returns-then-count-eq1-clause-listed
returns-then-count-eq1-clause-listed c count many =
    let is = count_here c.args.list.now c.args.number c.index-list-number.result c.requires.within c.index-list-number.is in
    let size = counts_length c.args.list.now in
    let lent : length c.index-list-number.result.1.list ≡ length (get_or c.args.list.now c.args.number c.index-list-number.result).1.list = ap (λ (e : Item × Versions ItemValue). length e.1.list) c.index-list-number.is in
    subst (λ numbers. AreListed numbers (room_in c.add_number.new.notes) (set (version_counts c.args.list.now) c.args.number count)) (sym c.add_number.ensures.numbers)
    (subst (λ room. AreListed (numbers_in c.args.notes.now ++ c.args.number ∷ []) room (set (version_counts c.args.list.now) c.args.number count)) (sym c.add_number.ensures.room)
    (listed_joined (numbers_in c.args.notes.now) (room_in c.args.notes.now) (version_counts c.args.list.now) c.args.number count (omega (arith, size, c.requires.within)) (omega (arith, is, lent, c.count.ensures.count, c.if-count-eq1.true)) many c.requires.listed))

pub returns-else-count-eq1-clause-listed : goal.returns-else-count-eq1-clause-listed
returns-else-count-eq1-clause-listed c count many =
    let is = count_here c.args.list.now c.args.number c.index-list-number.result c.requires.within c.index-list-number.is in
    let size = counts_length c.args.list.now in
    let lent : length c.index-list-number.result.1.list ≡ length (get_or c.args.list.now c.args.number c.index-list-number.result).1.list = ap (λ (e : Item × Versions ItemValue). length e.1.list) c.index-list-number.is in
    let some = some_version _ c.count.ensures.chain in
    listed_longer (numbers_in c.args.notes.now) (room_in c.args.notes.now) (version_counts c.args.list.now) c.args.number count (omega (arith, size, c.requires.within)) (omega (arith, is, lent, some, c.count.ensures.count, c.if-count-eq1.false)) many c.requires.listed

pub returns-then-count-eq1-clause-some : goal.returns-then-count-eq1-clause-some
returns-then-count-eq1-clause-some c =
    let is = count_here c.args.list.now c.args.number c.index-list-number.result c.requires.within c.index-list-number.is in
    let lent : length c.index-list-number.result.1.list ≡ length (get_or c.args.list.now c.args.number c.index-list-number.result).1.list = ap (λ (e : Item × Versions ItemValue). length e.1.list) c.index-list-number.is in
    let some = some_version _ c.count.ensures.chain in
    omega (arith, is, lent, some)

pub returns-else-count-eq1-clause-some : goal.returns-else-count-eq1-clause-some
returns-else-count-eq1-clause-some c =
    let is = count_here c.args.list.now c.args.number c.index-list-number.result c.requires.within c.index-list-number.is in
    let lent : length c.index-list-number.result.1.list ≡ length (get_or c.args.list.now c.args.number c.index-list-number.result).1.list = ap (λ (e : Item × Versions ItemValue). length e.1.list) c.index-list-number.is in
    let some = some_version _ c.count.ensures.chain in
    omega (arith, is, lent, some)
