use Rattle.avm_pool.proofs.Refused.{may_for, may_on_ok, own_is_full, refused_for, wants_on_err}
use Rattle.avm_pool.proofs.proposing.propose.Goals as goal

pub from_full-own-requires-after_bounds : goal.from_full-own-requires-after_bounds
from_full-own-requires-after_bounds g c κs within = own_is_full _ _ _ _ _ c.in-None.ensures.none

pub returns-in-Some-clause-refused : goal.returns-in-Some-clause-refused
returns-in-Some-clause-refused g c = refused_for _ _ _ _ _ _ _ c.deref.ensures.value c.deref-2.ensures.value c.in-Some.fault c.in-Some.ensures.some

pub returns-in-None-clause-may : goal.returns-in-None-clause-may
returns-in-None-clause-may g c = may_on_ok _ _ _ _ _ c.proposed_over.result (may_for _ _ _ _ _ _ _ c.deref.ensures.value c.deref-2.ensures.value c.in-None.ensures.none)

pub returns-in-None-clause-refused : goal.returns-in-None-clause-refused
returns-in-None-clause-refused g c =
    wants_on_err _ _ _ _ _ c.proposed_over.result (may_for _ _ _ _ _ _ _ c.deref.ensures.value c.deref-2.ensures.value c.in-None.ensures.none) c.proposed_over.ensures.want
