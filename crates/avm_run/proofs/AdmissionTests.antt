-- One test after another: where the first passes the second decides, and where one stops all stop.
use Rattle.std.proofs.Common.{◌≡◌, Ok, sym, ap, ◌∙◌, subst}
use Rattle.avm_items.specs.Items.{Known}
use Rattle.avm_items.specs.Asks.{answer_from}
use Rattle.avm_items.specs.Acts.{Act, on_ok, ◌>>=◌}
use Rattle.avm_items.specs.Locality.{then}
use Rattle.avm_items.proofs.Questions.{answer_from-and_then}
use Rattle.avm_call.specs.declared.outcome.Why.{Why}
use Rattle.avm_run.specs.declared.admission.AdmissionStop.{AdmissionStop}
use Rattle.avm_run.specs.declared.admission.AdmissionStop.TheVariants as admission_stop
use Rattle.avm_run.specs.Tests.{Halts}

-- where a test passes, what follows it decides
pub passes : {A B : Type 0} (known : Known) (t : Act Why A) (f : A → Act Why B) (a : A) → answer_from known t ≡ Ok (Ok a) → answer_from known (t >>= f) ≡ answer_from known (f a)
passes known t f a e = answer_from-and_then known t (on_ok f) ∙ ap (then (λ r. answer_from known (on_ok f r))) e

-- where a test stops, so does the test with what follows it
pub halts : {A B : Type 0} (h : AdmissionStop) (known : Known) (t : Act Why A) (f : A → Act Why B) → Halts h (answer_from known t) → Halts h (answer_from known (t >>= f))
halts (admission_stop.Refused w) known t f e = answer_from-and_then known t (on_ok f) ∙ ap (then (λ r. answer_from known (on_ok f r))) e
halts (admission_stop.Need x) known t f e = answer_from-and_then known t (on_ok f) ∙ ap (then (λ r. answer_from known (on_ok f r))) e
halts admission_stop.Memory known t f e = tt

-- where a test passes and what follows it stops, both together stop
pub halts_behind : {A B : Type 0} (h : AdmissionStop) (known : Known) (t : Act Why A) (f : A → Act Why B) (a : A) → answer_from known t ≡ Ok (Ok a) → Halts h (answer_from known (f a)) → Halts h (answer_from known (t >>= f))
halts_behind h known t f a e then_halts = subst (Halts h) (sym (passes known t f a e)) then_halts
