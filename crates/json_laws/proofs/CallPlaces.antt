-- The members of a call that is shown, each with its name.
use Rattle.std.proofs.Common.{◌≡◌, ◌+◌, eqb, List, [], ◌∷◌, ◌++◌, length, codes, Some, sym, ap, ◌∙◌, append_assoc, append-nil}
use Rattle.avm_states.specs.declared.schema.Schema.{Schema}
use Rattle.avm_items.specs.declared.call_data.CallData.{CallData}
use Rattle.avm_items.specs.CallFields.{completion_number}
use Rattle.json_views.specs.Documents.{address, array_of, base64, object_of, text, uint}
use Rattle.json_views.specs.ShownCalls.{are_zeros, schema_members, shown_call, uint_if_any}
use Rattle.json_laws.proofs.MembersBack.{Place, in_front, present, unless}

-- the members of a schema that is shown, of which each may be left out
abbrev pub schema_places : Schema → List Place
schema_places s = (codes "nbs", unless (eqb s.bytes 0) (uint s.bytes)) ∷ (codes "nui", unless (eqb s.uints 0) (uint s.uints)) ∷ []

-- a schema is shown as those of its members that are there
pub schema_is : (s : Schema) → object_of (schema_members s) ≡ object_of (present (schema_places s))
schema_is s =
    let last = uint_if_any (codes "nui") s.uints in
    ap object_of (ap (λ ms. uint_if_any (codes "nbs") s.bytes ++ ms) (sym (append-nil last)) ∙ simp in_front)

-- the members of a call that is shown
abbrev pub call_places : CallData → List Place
call_places c =
    (codes "apaa", unless (eqb (length c.arguments) 0) (array_of base64 c.arguments))
    ∷ (codes "apan", unless (eqb (completion_number c.completion) 0) (uint (completion_number c.completion)))
    ∷ (codes "apap", unless (eqb (length c.approval) 0) (base64 c.approval))
    ∷ (codes "apat", unless (eqb (length c.accounts) 0) (array_of address c.accounts))
    ∷ (codes "apfa", unless (eqb (length c.foreign_applications) 0) (array_of uint c.foreign_applications))
    ∷ (codes "apgs", unless (eqb (c.global_schema.bytes + c.global_schema.uints) 0) (object_of (schema_members c.global_schema)))
    ∷ (codes "apid", unless (eqb c.application 0) (uint c.application))
    ∷ (codes "apls", unless (eqb (c.local_schema.bytes + c.local_schema.uints) 0) (object_of (schema_members c.local_schema)))
    ∷ (codes "apsu", unless (eqb (length c.clear) 0) (base64 c.clear))
    ∷ (codes "fee", unless (eqb c.fee 0) (uint c.fee))
    ∷ (codes "fv", unless (eqb c.first_valid 0) (uint c.first_valid))
    ∷ (codes "lv", unless (eqb c.last_valid 0) (uint c.last_valid))
    ∷ (codes "lx", unless (are_zeros c.lease) (base64 c.lease))
    ∷ (codes "note", unless (eqb (length c.note) 0) (base64 c.note))
    ∷ (codes "rekey", unless (are_zeros c.rekey_to.0) (address c.rekey_to))
    ∷ (codes "snd", Some (address c.sender))
    ∷ (codes "type", Some (text (codes "appl")))
    ∷ []

-- a call is shown as those of its members that are there
pub call_is : (c : CallData) → shown_call c ≡ object_of (present (call_places c))
call_is c = ap object_of (simp append_assoc (simp in_front))
