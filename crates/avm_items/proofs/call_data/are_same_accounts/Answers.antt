use Rattle.std.proofs.lemmas.Slice.Eq.{slice_eq-Decides}
use Rattle.avm_items.proofs.SameItems.{address-Decides}
use Rattle.avm_items.proofs.call_data.are_same_accounts.Goals as goal

pub returns : goal.returns
returns c = slice_eq-Decides address-Decides _ _ _ c.eq.ensures
