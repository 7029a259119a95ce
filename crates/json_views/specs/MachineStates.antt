-- What the machine holds before each step of a call's program, as JSON.
use Rattle.std.specs.Prelude.{ℕ, ◌+◌, ◌-◌, List, [], ◌∷◌, ◌++◌, length, replicate, reverse, Option, Some, None, codes}
use Rattle.json.specs.Json.{Json}
use Rattle.teal_value.specs.declared.value.Value.{Value}
use Rattle.teal_value.specs.declared.value.Value.TheVariants.{Uint}
use Rattle.teal_value.specs.FaultNames.{fault_name}
use Rattle.teal_check.specs.declared.program.PlacedInstr.{PlacedInstr}
use Rattle.teal_check.specs.WellFormed.{WellFormed, first_index, places}
use Rattle.teal_dis.specs.Listing.{line_number}
use Rattle.avm_call.specs.Views.{NextStep, Runs, Faults, AtEnd}
use Rattle.avm_stepper.specs.Shown.{MachineState}
use Rattle.json_views.specs.Documents.{Member, array_of, object_of, text, uint}
use Rattle.json_views.specs.States.{shown_value}

-- ---- the line of the listing

abbrev pub number_or : ℕ → Option ℕ → ℕ
number_or end None = end
number_or end (Some n) = n

-- the number of the instruction at a place; at the end, how many there are
abbrev pub number_at : List PlacedInstr → ℕ → ℕ
number_at placed place = number_or (length placed) (first_index place (places placed))

-- the line of the listing on which the instruction at a place stands, counted from 0; at the end, how many lines there are
abbrev pub line_at : List PlacedInstr → ℕ → ℕ
line_at placed place = line_number placed (number_at placed place)

-- ---- the scratch space

-- The values from a place on up to the last that is not the uint 0, by the places that are not.
abbrev pub filled : ℕ → List (ℕ × Value) → List Value
filled from [] = []
filled from (e ∷ es) = replicate (e.0 - from) (Uint 0) ++ (e.1 ∷ filled (e.0 + 1) es)

-- ---- one state

-- the instruction that stands there has faulted
abbrev pub error_members : NextStep → List Member
error_members (Faults f) = (codes "error", text (fault_name f)) ∷ []
error_members (Runs i) = []
error_members AtEnd = []

-- the stack from the bottom
abbrev pub state_members : WellFormed → MachineState → List Member
state_members p m =
    (codes "line", uint (line_at p.placed m.place))
    ∷ (codes "pc", uint m.place)
    ∷ (codes "scratch", array_of shown_value (filled 0 m.scratch))
    ∷ (codes "stack", array_of shown_value (reverse m.stack))
    ∷ []

abbrev pub shown_state : WellFormed → MachineState → Json
shown_state p m = object_of (error_members m.next ++ state_members p m)
