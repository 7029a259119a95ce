-- Writing a document.
use Rattle.std.specs.Prelude.{◌≡◌, List, ◌++◌}
use Rattle.json.specs.Token.{Token}
use Rattle.json_views.specs.Documents.{Member, member_tokens}

-- these tokens are written behind those that were written before
pub record Adds (old new added : List Token) : Type 0 where
  pub is : new ≡ old ++ added

-- these members of an object are
pub record AddsMembers (old new : List Token) (added : List Member) : Type 0 where
  pub is : new ≡ old ++ member_tokens added
