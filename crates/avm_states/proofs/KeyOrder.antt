-- Keys are in a total order, in which those that tie are the same.
use Rattle.std.proofs.Common.{◌≡◌, ℕ, List}
use Rattle.std.specs.declared.cmp.Ordering.TheVariants.{Equal}
use Rattle.std.specs.Cmp.{IsTotalOrder}
use Rattle.std.proofs.lemmas.Cmp.{nat_list_cmp_total}
use Rattle.std.specs.FinMap.{nat_cmp-IsAntisymmetric, slice_cmp-IsAntisymmetric}
use Rattle.avm_states.specs.Entries.{byte_cmp}

pub byte_total : IsTotalOrder byte_cmp
byte_total = nat_list_cmp_total

-- byte strings that tie are the same
pub byte_same : (x y : List ℕ) → byte_cmp x y ≡ Equal → x ≡ y
byte_same = slice_cmp-IsAntisymmetric nat_cmp-IsAntisymmetric
