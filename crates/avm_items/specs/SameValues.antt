-- Whether two values of items are the same.
use Rattle.std.specs.Prelude.{◌==◌, ◌&&◌, Bool, true, false}
use Rattle.std.specs.Cmp.Lexicographic.{pointwise}
use Rattle.teal_value.specs.SameValues.{are_same_bytes, is_same}
use Rattle.avm_ledger.specs.declared.application.Application.{Application}
use Rattle.avm_states.specs.declared.schema.Schema.{Schema}
use Rattle.avm_states.specs.Entries.{is_same_entry}
use Rattle.avm_items.specs.declared.item_value.ItemValue.{ItemValue}
use Rattle.avm_items.specs.declared.item_value.ItemValue.TheVariants as value

abbrev pub is_same_schema : Schema → Schema → Bool
is_same_schema s t = (s.uints == t.uints) && (s.bytes == t.bytes)

abbrev pub is_same_application : Application → Application → Bool
is_same_application a b =
    are_same_bytes a.creator.0 b.creator.0 && are_same_bytes a.approval b.approval && are_same_bytes a.clear b.clear
    && is_same_schema a.global_schema b.global_schema && is_same_schema a.local_schema b.local_schema

abbrev pub is_same_value : ItemValue → ItemValue → Bool
is_same_value value.Absent value.Absent = true
is_same_value (value.NextApp n) (value.NextApp m) = n == m
is_same_value (value.App a) (value.App b) = is_same_application a b
is_same_value (value.Counts s) (value.Counts t) = is_same_schema s t
is_same_value (value.Key v) (value.Key w) = is_same v w
is_same_value (value.Local s) (value.Local t) = pointwise is_same_entry s t
is_same_value _ _ = false
