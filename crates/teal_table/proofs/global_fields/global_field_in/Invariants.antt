use Rattle.std.proofs.Common.{◌≡◌, drop}
use Rattle.std.specs.Prelude.{find}
use Rattle.std.specs.Str.{bytes_eq}
use Rattle.teal_table.specs.Fields.{global_name}
use Rattle.teal_table.proofs.global_fields.global_field_in.Given as goal

-- the field is that of the fields that are left
abbrev pub invariant-loop-field : goal.invariant-loop-field
invariant-loop-field l = find (λ f. bytes_eq (global_name f) l.name) (drop l.field-index l.fields) ≡ find (λ f. bytes_eq (global_name f) l.name) l.fields
