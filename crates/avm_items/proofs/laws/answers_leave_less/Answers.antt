use Rattle.std.specs.Prelude.{IsTrue}
use Rattle.avm_items.specs.Counting.{Any}
use Rattle.avm_items.proofs.Counting.{one_less}
use Rattle.avm_items.proofs.laws.answers_leave_less.Goals as goal

pub returns : goal.returns
returns g c = λ comes n known more t x v w all is asks few. one_less (λ u. IsTrue (comes u)) n Any known more w all x v is t few asks
