-- The path of a program over the ledger that is prepared for it is the path over the ledger before.
use Rattle.std.proofs.Common.{◌≡◌, ℕ, zero, suc, Bool, true, false, eqb, length, if◌then◌else◌, Option, None, Some, Result, Ok, Err, refl, sym, ap, subst, ◌∙◌}
use Rattle.teal_value.specs.Choice.{or_else}
use Rattle.teal_code.specs.declared.decode.CodeFault.{CodeFault}
use Rattle.teal_code.specs.declared.instr.Instr.{Instr}
use Rattle.avm_items.specs.declared.item.Item.{Item}
use Rattle.avm_items.specs.declared.item_value.ItemValue.{ItemValue}
use Rattle.avm_items.specs.CallFields.{new_keys}
use Rattle.avm_items.specs.Items.{ItemMap, Known, Look, value_in}
use Rattle.avm_items.specs.Asks.{Gives, remaining_questions, result_over}
use Rattle.avm_items.proofs.Questions.{result_over-and_then}
use Rattle.avm_ops.specs.Frame.{Stepped}
use Rattle.avm_ops.specs.Effect.{effect}
use Rattle.avm_call.specs.declared.outcome.Ended.{Ended}
use Rattle.avm_call.specs.Runs.{Execution, Position, context_at, executed, instruction_at, known_itself, result_at_end, run_from, step, stepped}
use Rattle.avm_ops.proofs.RowFacts.{OnOk}
use Rattle.avm_stepper.proofs.KnownItself.{StaysKnown, effect_stays_known, remaining_alike}
use Rattle.avm_stepper.proofs.PathSteps.{run_parts}

-- alike on what the call doesn't know by itself
abbrev pub AlikeAt : Execution → ItemMap → Look → Look → Type 0
AlikeAt e writes look other = (x : Item) → known_itself e writes x ≡ None → look x ≡ other x

-- ---- one step

abbrev NextKnows : Position → Result Position Ended → Type 0
NextKnows p (Ok q) = StaysKnown p.writes q.writes
NextKnows p (Err end) = Unit {0}

stepped_knows : (e : Execution) (p : Position) (next : ℕ) (s : Stepped) → OnOk (λ after. StaysKnown p.writes after.writes) s → NextKnows p (stepped e p next s)
stepped_knows e p next (Ok after) h = h
stepped_knows e p next (Err f) h = tt

record StepAlike (e : Execution) (p : Position) (look other : Look) (a b : Result Position Ended) : Type 0 where
  alike : a ≡ b
  knows : NextKnows p a

executed_alike : (e : Execution) (p : Position) (look other : Look) → AlikeAt e p.writes look other → (r : Result (Instr × ℕ) CodeFault) → StepAlike e p look other (result_over look (executed e p r)) (result_over other (executed e p r))
executed_alike e p look other alike (Ok (i, next)) =
    let own = known_itself e p.writes in
    let t = effect (context_at e p) i.opcode i.immediates in
    let one = result_over-and_then look (remaining_questions own t) (λ s. Gives (stepped e p next s)) in
    let two = result_over-and_then other (remaining_questions own t) (λ s. Gives (stepped e p next s)) in
    record {
      alike = one ∙ ap (stepped e p next) (remaining_alike look other own alike t) ∙ sym two;
      knows = subst (NextKnows p) (sym one) (stepped_knows e p next (result_over look (remaining_questions own t)) (effect_stays_known look own (context_at e p) i.opcode i.immediates));
    }
executed_alike e p look other alike (Err f) = record { alike = refl; knows = tt }

step_by : (e : Execution) (p : Position) (look other : Look) → AlikeAt e p.writes look other → (b : Bool)
    → StepAlike e p look other (result_over look (if b then Gives (Err (result_at_end (length e.program) p.stack)) else executed e p (instruction_at e.program p.place)))
    (result_over other (if b then Gives (Err (result_at_end (length e.program) p.stack)) else executed e p (instruction_at e.program p.place)))
step_by e p look other alike true = record { alike = refl; knows = tt }
step_by e p look other alike false = executed_alike e p look other alike (instruction_at e.program p.place)

step_alike : (e : Execution) (p : Position) (look other : Look) → AlikeAt e p.writes look other → StepAlike e p look other (result_over look (step e p)) (result_over other (step e p))
step_alike e p look other alike = step_by e p look other alike (eqb p.place (length e.program))

-- ---- the path

still_unknown : (new : Known) (before after : ItemMap) → StaysKnown before after → (x : Item) → or_else (value_in after x) (new x) ≡ None → or_else (value_in before x) (new x) ≡ None
still_unknown new before after knows x = by (value_in after x) (value_in before x) (new x) (knows x)
  where
    by : (a b n : Option ItemValue) → (a ≡ None → b ≡ None) → or_else a n ≡ None → or_else b n ≡ None
    by (Some v) b n h e = absurd cc
    by None b n h e = ap (λ o. or_else o n) (h refl) ∙ e

rest_alike : (e : Execution) (n : ℕ) (p : Position) (look other : Look) → AlikeAt e p.writes look other → ((q : Position) → AlikeAt e q.writes look other → result_over look (run_from e n q) ≡ result_over other (run_from e n q))
    → (r : Result Position Ended) → result_over look (step e p) ≡ r → StepAlike e p look other (result_over look (step e p)) (result_over other (step e p)) → result_over look (run_from e (suc n) p) ≡ result_over other (run_from e (suc n) p)
rest_alike e n p look other alike next (Ok q) is s =
    run_parts look e n p (Ok q) is
    ∙ next q (λ x none. alike x (still_unknown (new_keys e.call e.current) p.writes q.writes (subst (NextKnows p) is s.knows) x none))
    ∙ sym (run_parts other e n p (Ok q) (sym s.alike ∙ is))
rest_alike e n p look other alike next (Err end) is s = run_parts look e n p (Err end) is ∙ sym (run_parts other e n p (Err end) (sym s.alike ∙ is))

-- look-ups alike on what a call doesn't know by itself lead to the same position
pub run_alike : (e : Execution) (n : ℕ) (p : Position) (look other : Look) → AlikeAt e p.writes look other → result_over look (run_from e n p) ≡ result_over other (run_from e n p)
run_alike e zero p look other alike = refl
run_alike e (suc n) p look other alike = rest_alike e n p look other alike (λ q. run_alike e n q look other) (result_over look (step e p)) refl (step_alike e p look other alike)
