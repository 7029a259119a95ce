-- Ids of applications.
use Rattle.std.specs.Prelude.{ℕ, ◌-◌, ◌^◌, ◌&&◌, nat_le, nat_lt, if◌then◌else◌, Option, Some, None, Result, Ok, Err}
use Rattle.teal_value.specs.Answer.{◌>>=◌}
use Rattle.json.specs.Json.{Json}
use Rattle.json_documents.specs.declared.document_fault.DocumentFault.TheVariants.{IdRange}
use Rattle.json_documents.specs.Faults.{Fault, here}
use Rattle.json_documents.specs.Plain.{uint}

abbrev pub in_range : ℕ → ℕ → Result ℕ Fault
in_range end n = if nat_le 1 n && nat_lt n end then Ok n else Err (here IdRange)

-- an id below this end
abbrev pub id_below : ℕ → Json → Result ℕ Fault
id_below end j = uint j >>= in_range end

abbrev pub some_positive : ℕ → Result (Option ℕ) Fault
some_positive n = if nat_le 1 n then Ok (Some n) else Err (here IdRange)

abbrev pub next_id : Json → Result (Option ℕ) Fault
next_id j = uint j >>= some_positive

-- all ids are below the next one, where it is given; the last number is no id
abbrev pub end_of_ids : Option ℕ → ℕ
end_of_ids None = 2 ^ 64 - 1
end_of_ids (Some next) = next

-- the next id before any application is read
abbrev pub first_next_id : Option ℕ → ℕ
first_next_id None = 1
first_next_id (Some next) = next
