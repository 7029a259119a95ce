-- The tokens of one state, a member after another.
use Rattle.std.proofs.Common.{◌∙◌, List, [], ◌∷◌, ◌++◌, sym, ap}
use Rattle.json.specs.Token.{Token, begin_object}
use Rattle.json.specs.Tree.{json_tokens, members_tokens}
use Rattle.json_views.specs.Documents.{Member, member_tokens, members_of, object_of}
use Rattle.json_views.specs.Writing.{Adds}
use Rattle.json_views.proofs.Steps.{◌then◌}
use Rattle.json_views.proofs.TokenRuns.{members_behind}

-- the opening bracket, some members, and all others with the closing one
pub in_object : {old opened first new : List Token} (front more : List Member) → Adds old opened (begin_object ∷ []) → Adds opened first (member_tokens front) → Adds first new (members_tokens (members_of more))
    → Adds old new (json_tokens (object_of (front ++ more)))
in_object {old = old} front more opens fills ends =
    let all = opens then fills then ends in
    record { is = all.is ∙ ap (λ ts. old ++ begin_object ∷ ts) (sym (members_behind front more)) }
