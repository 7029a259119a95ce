use Rattle.std.proofs.Common.{◌≡◌, ℕ, ◌<◌, List, get_or}
use Rattle.avm_items.proofs.call_data.are_same_strings.Given as goal

-- the strings before the index are the same
abbrev pub invariant-loop-index : goal.invariant-loop-index
invariant-loop-index l = (i : ℕ) → i < l.index → (d : List ℕ) → get_or l.strings i d ≡ get_or l.others i d
