use Rattle.std.proofs.Common.{◌≡◌, ◌<◌, take, map, All}
use Rattle.teal_value.specs.Base32.{group_of}
use Rattle.teal_value.proofs.base32.groups_of_symbols.Given as goal

abbrev pub invariant-loop-symbol : goal.invariant-loop-symbol
invariant-loop-symbol l = record {
  same : l.groups.items ≡ map group_of (take l.symbol-index l.symbols);
  small : All (λ g. g < 32) l.groups.items;
}
