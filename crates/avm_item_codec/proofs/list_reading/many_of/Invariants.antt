use Rattle.std.proofs.Common.{◌≡◌, ◌-◌, []}
use Rattle.avm_item_codec.specs.ItemReader.{more_items_at}
use Rattle.avm_item_codec.proofs.list_reading.many_of.Given as goal

-- the items so far, and those that are left, are all of them
abbrev pub invariant-loop : goal.invariant-loop
invariant-loop l = more_items_at l.items (l.count - l.counter) l.rest ≡ more_items_at [] l.count l.fn.fields
