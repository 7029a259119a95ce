use Rattle.std.proofs.Common.{ap}
use Rattle.avm_items.specs.Items.{key_value}
use Rattle.avm_items.specs.LedgerItems.{local_value}
use Rattle.avm_items.proofs.PutBack.{application_value, application_put_back, key_put_back, local_put_back}
use Rattle.avm_items.proofs.writing.set.Goals as goal

pub returns-in-Some-clause-back : goal.returns-in-Some-clause-back
returns-in-Some-clause-back c =
    rw c.in-App-App.is-0 (application_put_back _ _ c.in-App-App.id c.in-App-App.row _ _ c.next_id-next_id.ensures.order c.in_ok-old-in-App-App.ensures.old c.in_ok-old-in-App-App.ensures.set (ap application_value c.in-Some.is))

pub returns-in-None-clause-back : goal.returns-in-None-clause-back
returns-in-None-clause-back c =
    rw c.in-App-App.is-0 (application_put_back _ _ c.in-App-App.id c.in-App-App.row _ _ c.next_id-next_id.ensures.order c.in_ok-old-in-App-App.ensures.old c.in_ok-old-in-App-App.ensures.set (ap application_value c.in-None.is))

pub returns-in-Some-2-clause-back : goal.returns-in-Some-2-clause-back
returns-in-Some-2-clause-back c =
    rw (c.in-Key-Key.is-0, ← c.copied.ensures) (key_put_back _ _ c.in-Key-Key.id c.copied.result c.in-Key-Key.value _ _ c.next_id-next_id.ensures.order c.in_ok-old-in-Key-Key.ensures.old c.in_ok-old-in-Key-Key.ensures.set (ap key_value c.in-Some-2.is))

pub returns-in-None-2-clause-back : goal.returns-in-None-2-clause-back
returns-in-None-2-clause-back c =
    rw (c.in-Key-Key.is-0, ← c.copied.ensures) (key_put_back _ _ c.in-Key-Key.id c.copied.result c.in-Key-Key.value _ _ c.next_id-next_id.ensures.order c.in_ok-old-in-Key-Key.ensures.old c.in_ok-old-in-Key-Key.ensures.set (ap key_value c.in-None-2.is))

pub returns-in-Some-3-clause-back : goal.returns-in-Some-3-clause-back
returns-in-Some-3-clause-back c =
    rw c.in-Local-Local.is-0 (local_put_back _ _ c.in-Local-Local.who c.in-Local-Local.id c.in-Local-Local.state _ _ c.next_id-next_id.ensures.order c.in_ok-old-in-Local-Local.ensures.old c.in_ok-old-in-Local-Local.ensures.set (ap local_value c.in-Some-3.is))

pub returns-in-None-3-clause-back : goal.returns-in-None-3-clause-back
returns-in-None-3-clause-back c =
    rw c.in-Local-Local.is-0 (local_put_back _ _ c.in-Local-Local.who c.in-Local-Local.id c.in-Local-Local.state _ _ c.next_id-next_id.ensures.order c.in_ok-old-in-Local-Local.ensures.old c.in_ok-old-in-Local-Local.ensures.set (ap local_value c.in-None-3.is))
