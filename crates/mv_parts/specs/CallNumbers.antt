-- The number of a call, from 1.
use Rattle.std.specs.Prelude.{ℕ, ◌-◌, List, Option, None, slice_get, if◌then◌else◌, ◌==◌}
use Rattle.avm_items.specs.declared.call_data.CallData.{CallData}

-- the call of a number, from 1
abbrev pub call_of : List CallData → ℕ → Option CallData
call_of calls number = if number == 0 then None else slice_get calls (number - 1)
