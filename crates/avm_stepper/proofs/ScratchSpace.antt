-- The scratch space has as many places after each step.
use Rattle.std.proofs.Common.{◌≡◌, ℕ, zero, suc, Bool, true, false, eqb, if◌then◌else◌, length, Option, Result, Ok, Err, refl, sym, ap, subst, ◌∙◌}
use Rattle.teal_table.specs.declared.opcode.Opcode.{Opcode}
use Rattle.teal_code.specs.declared.decode.CodeFault.{CodeFault}
use Rattle.teal_code.specs.declared.instr.Instr.{Instr}
use Rattle.teal_code.specs.declared.instr.Immediates.{Immediates}
use Rattle.avm_items.specs.Items.{Look}
use Rattle.avm_items.specs.Asks.{Gives, remaining_questions, result_over}
use Rattle.avm_items.proofs.Questions.{result_over-and_then}
use Rattle.avm_ops.specs.Frame.{After, Context, Stepped}
use Rattle.avm_ops.specs.Effect.{effect}
use Rattle.avm_call.specs.declared.outcome.Ended.{Ended}
use Rattle.avm_call.specs.Runs.{Execution, Position, context_at, executed, instruction_at, known_itself, result_at_end, run_from, step, stepped}
use Rattle.avm_ops.proofs.RowFacts.{OnOk, FactsOf, questions, row_facts}
use Rattle.avm_stepper.proofs.KnownItself.{remaining_result}
use Rattle.avm_stepper.proofs.PathSteps.{run_parts}

abbrev SameSpace : Context → After → Type 0
SameSpace c after = length after.machine.scratch ≡ length c.machine.scratch

facts_space : (c : Context) (o : Opcode) (i : Immediates) (r : Stepped) → OnOk (FactsOf c o i) r → OnOk (SameSpace c) r
facts_space c o i (Ok after) h = h.space
facts_space c o i (Err f) h = tt

-- ---- along the path

abbrev NextSpace : Position → Result Position Ended → Type 0
NextSpace p (Ok q) = length q.scratch ≡ length p.scratch
NextSpace p (Err end) = Unit {0}

stepped_space : (e : Execution) (p : Position) (next : ℕ) (s : Stepped) → OnOk (SameSpace (context_at e p)) s → NextSpace p (stepped e p next s)
stepped_space e p next (Ok after) h = h
stepped_space e p next (Err f) h = tt

executed_space : (e : Execution) (p : Position) (look : Look) (r : Result (Instr × ℕ) CodeFault) → NextSpace p (result_over look (executed e p r))
executed_space e p look (Ok (i, next)) =
    let own = known_itself e p.writes in
    let c = context_at e p in
    let t = effect c i.opcode i.immediates in
    subst (NextSpace p) (sym (result_over-and_then look (remaining_questions own t) (λ s. Gives (stepped e p next s))))
    (stepped_space e p next (result_over look (remaining_questions own t))
    (facts_space c i.opcode i.immediates _ (remaining_result (questions i.opcode) look own (OnOk (FactsOf c i.opcode i.immediates)) t (row_facts c i.opcode i.immediates).leaves)))
executed_space e p look (Err f) = tt

step_by : (e : Execution) (p : Position) (look : Look) (b : Bool) → NextSpace p (result_over look (if b then Gives (Err (result_at_end (length e.program) p.stack)) else executed e p (instruction_at e.program p.place)))
step_by e p look true = tt
step_by e p look false = executed_space e p look (instruction_at e.program p.place)

rest_space : (e : Execution) (n : ℕ) (p : Position) (look : Look) → ((q : Position) → length (result_over look (run_from e n q)).0.scratch ≡ length q.scratch)
    → (r : Result Position Ended) → result_over look (step e p) ≡ r → NextSpace p r → length (result_over look (run_from e (suc n) p)).0.scratch ≡ length p.scratch
rest_space e n p look next (Ok q) is h = ap (λ (r : Position × Option Ended). length r.0.scratch) (run_parts look e n p (Ok q) is) ∙ next q ∙ h
rest_space e n p look next (Err end) is h = ap (λ (r : Position × Option Ended). length r.0.scratch) (run_parts look e n p (Err end) is)

-- the steps of a run keep the size of the scratch space
pub run_space : (e : Execution) (n : ℕ) (p : Position) (look : Look) → length (result_over look (run_from e n p)).0.scratch ≡ length p.scratch
run_space e zero p look = refl
run_space e (suc n) p look = rest_space e n p look (λ q. run_space e n q look) (result_over look (step e p)) refl (step_by e p look (eqb p.place (length e.program)))
