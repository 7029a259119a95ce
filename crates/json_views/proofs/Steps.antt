-- Writes one after another.
use Rattle.std.proofs.Common.{◌∙◌, List, ◌++◌, ap, append_assoc, Result}
use Rattle.std.specs.Result.{OnOk}
use Rattle.std.proofs.lemmas.Result.{on_ok_weaker}
use Rattle.json.specs.Token.{Token}
use Rattle.json_views.specs.Writing.{Adds}

-- what is written first, and all that is written after it
infixr 6 ◌then◌
-- what two writes in a row add is what each of them adds
pub ◌then◌ : {old now new first more : List Token} → Adds old now first → Adds now new more → Adds old new (first ++ more)
◌then◌ {old = old} {first = first} {more = more} wrote writes = record { is = writes.is ∙ ap (λ ts. ts ++ more) wrote.is ∙ append_assoc old first more }

-- the last write, where it succeeds, completes what was written before it
pub last : {T E P Q : Type 0} (r : Result T E) → OnOk r P → (P → Q) → OnOk r Q
last r made goes_on = on_ok_weaker r goes_on made
