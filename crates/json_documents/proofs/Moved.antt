-- Entries that are moved from a map to a state, the lowest first.
use Rattle.std.proofs.Common.{◌≡◌, List, ℕ, ◌∷◌, ◌++◌, sym, ap, ◌∙◌}
use Rattle.teal_value.specs.declared.value.Value.{Value}
use Rattle.avm_ledger.proofs.RisingReading.{moved_next}
use Rattle.avm_states.specs.Entries.{Entries, IsInKeyOrder, with_entry}
use Rattle.avm_states.proofs.KeyOrder.{byte_total}

-- the state and what is left of the map are all entries, as before
pub moved : (state now map rest all : Entries) (e : List ℕ × Value) → IsInKeyOrder all → state ++ map ≡ all → map ≡ e ∷ rest → now ≡ with_entry state e.0 e.1 → now ++ rest ≡ all
moved state now map rest all e s same popped put =
    ap (λ es. es ++ rest) put ∙ moved_next byte_total state rest all e s (ap (λ es. state ++ es) (sym popped) ∙ same)
