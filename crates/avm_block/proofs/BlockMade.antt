-- That entries which keep the rules make a block.
use Rattle.std.proofs.Common.{◌≡◌, ℕ, ◌^◌, ◌<◌, true, Bool, List, [], ◌∷◌, All}
use Rattle.std.proofs.lemmas.List.Elements.{All-head, All-tail}
use Rattle.avm_items.specs.declared.call_data.CallData.{CallData}
use Rattle.avm_call_codec.specs.CallRoundTrip.{HasFields}
use Rattle.avm_block.specs.declared.entry.Entry.{Entry}
use Rattle.avm_block.specs.Blocks.{RisesAbove}
use Rattle.avm_call.specs.Places.{HasPlace}
use Rattle.avm_block.specs.BlockRoundTrip.{AreEntries}

abbrev IsSmall : Entry → Type 0
IsSmall e = e.timestamp < 2 ^ 64

abbrev HasCall : Entry → Type 0
HasCall e = HasFields e.call

abbrev IsAllowed : (CallData → Bool) → Entry → Type 0
IsAllowed accepted e = accepted e.call ≡ true

abbrev Ends : Entry → Type 0
Ends e = HasPlace e.outcome

-- entries by rising timestamps, with accepted calls and fields within limits, may stand in a block
pub are_entries : (accepted : CallData → Bool) (before : ℕ) (es : List Entry) → RisesAbove before es → All IsSmall es → All HasCall es → All (IsAllowed accepted) es → All Ends es → AreEntries accepted before es
are_entries accepted before [] rising small calls allowed places = tt
are_entries accepted before (e ∷ es) rising small calls allowed places = (
  record {
    rises = rising.0;
    timestamp = All-head IsSmall e es small;
    call = All-head HasCall e es calls;
    allowed = All-head (IsAllowed accepted) e es allowed;
    outcome = All-head Ends e es places;
  },
  are_entries accepted e.timestamp es rising.1 (All-tail IsSmall e es small) (All-tail HasCall e es calls) (All-tail (IsAllowed accepted) e es allowed) (All-tail Ends e es places),
)
