-- Members, group after group, and the object of all of them.
use Rattle.std.proofs.Common.{◌≡◌, ◌∙◌, List, [], ◌∷◌, ◌++◌, refl, sym, ap, append_assoc}
use Rattle.std.proofs.lemmas.Grind.{flat_map-append}
use Rattle.json.specs.Token.{Token, begin_object, end_object, key}
use Rattle.json.specs.Tree.{json_tokens, members_tokens}
use Rattle.json_views.specs.Documents.{Member, member_tokens, members_of, object_of}
use Rattle.json_views.specs.Writing.{Adds, AddsMembers}
use Rattle.json_views.proofs.Steps.{◌then◌}

-- what is written first, and all members that are written after it
infixr 6 ◌and◌
-- what two groups of members in a row add is what each of them adds
pub ◌and◌ : {old now new : List Token} {first more : List Member} → AddsMembers old now first → AddsMembers now new more → AddsMembers old new (first ++ more)
◌and◌ {old = old} {first = first} {more = more} wrote writes = record {
  is = writes.is ∙ ap (λ ts. ts ++ member_tokens more) wrote.is ∙ append_assoc old (member_tokens first) (member_tokens more)
      ∙ ap (λ ts. old ++ ts) (sym (flat_map-append (λ m. key m.0 ∷ json_tokens m.1) first more));
}

closed : (ms : List Member) → member_tokens ms ++ end_object ∷ [] ≡ members_tokens (members_of ms)
closed [] = refl
closed (m ∷ ms) =
    ap (λ ts. key m.0 ∷ ts) (append_assoc (json_tokens m.1) (member_tokens ms) (end_object ∷ []) ∙ ap (λ ts. json_tokens m.1 ++ ts) (closed ms))

-- an opening bracket, members, and the closing one
pub in_object : {old opened filled new : List Token} {ms : List Member} → Adds old opened (begin_object ∷ []) → AddsMembers opened filled ms → Adds filled new (end_object ∷ [])
    → Adds old new (json_tokens (object_of ms))
in_object {old = old} {opened = opened} {filled = filled} {ms = ms} opens fills closes =
    let members : Adds opened filled (member_tokens ms) = record { is = fills.is } in
    let all = opens then members then closes in
    record { is = all.is ∙ ap (λ ts. old ++ begin_object ∷ ts) (closed ms) }
