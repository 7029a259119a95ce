-- A path goes from instruction to instruction, ever further, so it has at most as many steps as there are instructions.
use Rattle.std.proofs.Common.{◌≡◌, ◌<◌, ◌≤◌, ◌+◌, ◌-◌, ◌*◌, ℕ, zero, suc, Bool, true, false, nat_le, if◌then◌else◌, List, [], ◌∷◌, length, Result, Ok, Err, refl, sym, ap, subst, arith, eq-eqb, leb→le}
use Rattle.std.specs.Prelude.{T, ◌==◌, ◌||◌}
use Rattle.std.proofs.lemmas.Bool.{leb-false, eqb-true}
use Rattle.teal_code.specs.declared.decode.CodeFault.{CodeFault}
use Rattle.teal_code.specs.declared.instr.Instr.{Instr}
use Rattle.avm_items.specs.Items.{ItemMap}
use Rattle.avm_items.specs.Asks.{Gives, and_then, remaining_questions}
use Rattle.avm_items.specs.Counting.{AsksAtMost, Any}
use Rattle.avm_items.proofs.Counting.{at_most-more, at_most-then}
use Rattle.avm_cpu.specs.declared.flow.Flow.{Flow}
use Rattle.avm_cpu.specs.declared.flow.Flow.TheVariants as flow
use Rattle.avm_ops.specs.Frame.{Stepped}
use Rattle.avm_ops.specs.Effect.{effect}
use Rattle.avm_ops.specs.Steps.{branch_target, IsFlowTo}
use Rattle.avm_call.specs.declared.outcome.Ended.{Ended}
use Rattle.avm_call.specs.declared.outcome.Ended.TheVariants as ended
use Rattle.avm_call.specs.Runs.{Execution, Position, version_in_front, instruction_at, context_at, place_after, known_itself, result_at_end, stepped, executed, start, run_from, path, whole_path}
use Rattle.avm_call.specs.Ends.{HasEnded, is_start, is_start_or_end, IsLaidOut}
use Rattle.avm_call.proofs.Paths.{Goes, read_on, behind_by, executed_asks, goes_on}

-- ---- how many instructions stand at a place or behind it

left_from : ℕ → List ℕ → ℕ
left_from place [] = 0
left_from place (s ∷ ss) = if nat_le place s then suc (left_from place ss) else left_from place ss

at_most : (a b : ℕ) → nat_le a b ≡ true → a ≤ b
at_most a b e = leb→le a b (subst T (sym e) tt)

less_or_same_by : (place next s l m : ℕ) → place ≤ next → m ≤ l → (a b : Bool) → nat_le place s ≡ a → nat_le next s ≡ b → (if b then suc m else m) ≤ (if a then suc l else l)
less_or_same_by place next s l m on h true true p q = omega arith
less_or_same_by place next s l m on h true false p q = omega arith
less_or_same_by place next s l m on h false false p q = h
less_or_same_by place next s l m on h false true p q =
    let x = leb-false place s p in
    let y = at_most next s q in
    absurd (omega arith)

fewer_or_same : (place next : ℕ) (starts : List ℕ) → place ≤ next → left_from next starts ≤ left_from place starts
unfolding left_from
fewer_or_same place next [] on = omega arith
fewer_or_same place next (s ∷ ss) on =
    less_or_same_by place next s (left_from place ss) (left_from next ss) on (fewer_or_same place next ss on) (nat_le place s) (nat_le next s) refl refl

fewer_by : (place next s l m : ℕ) (there : Bool) → place < next → m ≤ l → (there ≡ true → m < l) → (c a b : Bool) → (place == s) ≡ c → nat_le place s ≡ a → nat_le next s ≡ b
    → (c || there) ≡ true → (if b then suc m else m) < (if a then suc l else l)
fewer_by place next s l m there on same less true true true e p q h =
    let y = at_most next s q in
    let x : place ≡ s = eqb-true place s e in
    absurd (omega arith)
fewer_by place next s l m there on same less true true false e p q h = omega arith
fewer_by place next s l m there on same less true false b e p q h =
    let y = leb-false place s p in
    let x : place ≡ s = eqb-true place s e in
    absurd (omega arith)
fewer_by place next s l m there on same less false true true e p q h = let x = less h in omega arith
fewer_by place next s l m there on same less false true false e p q h = let x = less h in omega arith
fewer_by place next s l m there on same less false false false e p q h = less h
fewer_by place next s l m there on same less false false true e p q h =
    let x = leb-false place s p in
    let y = at_most next s q in
    absurd (omega arith)

fewer : (place next : ℕ) (starts : List ℕ) → place < next → is_start starts place ≡ true → left_from next starts < left_from place starts
unfolding left_from
fewer place next [] on h = absurd cc
fewer place next (s ∷ ss) on h =
    fewer_by place next s (left_from place ss) (left_from next ss) (is_start ss place) on (fewer_or_same place next ss (omega arith)) (fewer place next ss on) (place == s) (nat_le place s) (nat_le next s) refl refl refl h

count_by_test : (l n : ℕ) (b : Bool) → l ≤ n → (if b then suc l else l) ≤ suc n
count_by_test l n true h = omega arith
count_by_test l n false h = omega arith

left_in_all : (place : ℕ) (starts : List ℕ) → left_from place starts ≤ length starts
unfolding left_from
left_in_all place [] = omega arith
left_in_all place (s ∷ ss) = count_by_test (left_from place ss) (length ss) (nat_le place s) (left_in_all place ss)

-- ---- a step goes to an instruction behind it, or to the end, or faults where it is

-- a program that ends with a fault has it at this place
abbrev pub FaultsAt : ℕ → Ended → Type 0
FaultsAt place (ended.Faulted f at) = at ≡ place
FaultsAt place _ = Unit {0}

-- a step leads to a later instruction or to the end, or ends the program, with a fault only here
abbrev pub LaidOn : List ℕ → Execution → Position → Result Position Ended → Type 0
LaidOn starts e p (Ok q) = (p.place < q.place) × (is_start_or_end starts (length e.program) q.place ≡ true)
LaidOn starts e p (Err end) = FaultsAt p.place end

the_end : (starts : List ℕ) (end : ℕ) → is_start_or_end starts end end ≡ true
the_end starts end = ap (λ b. b || is_start starts end) (eq-eqb end end refl)

flow_laid : (e : Execution) (starts : List ℕ) → IsLaidOut e.program starts → (p : Position) (i : Instr) (next : ℕ) → is_start starts p.place ≡ true → instruction_at e.program p.place ≡ Ok (i, next)
    → p.place < length e.program → p.place < next → (f : Flow) → IsFlowTo (branch_target p.place i.opcode i.immediates) f
    → (p.place < place_after e.program next f) × (is_start_or_end starts (length e.program) (place_after e.program next f) ≡ true)
flow_laid e starts laid p i next here is inside on flow.Next h = (on, laid.next p.place i next here is)
flow_laid e starts laid p i next here is inside on (flow.Jump target) h = (behind_by p.place i.opcode i.immediates target h, laid.target p.place i next target here is h)
flow_laid e starts laid p i next here is inside on flow.End h = (inside, the_end starts (length e.program))

stepped_laid : (e : Execution) (starts : List ℕ) → IsLaidOut e.program starts → (p : Position) (i : Instr) (next : ℕ) → is_start starts p.place ≡ true → instruction_at e.program p.place ≡ Ok (i, next)
    → (r : Stepped) → Goes e p i r → LaidOn starts e p (stepped e p next r)
stepped_laid e starts laid p i next here is (Ok after) h =
    let on = read_on (version_in_front e.program).0 e.program p.place i next is in
    flow_laid e starts laid p i next here is on.0 on.1 after.flow h.0
stepped_laid e starts laid p i next here is (Err f) h = refl

-- where a program is laid out, an instruction leads to a later one or the end, or ends it
pub executed_laid : (e : Execution) (starts : List ℕ) → IsLaidOut e.program starts → (p : Position) → is_start starts p.place ≡ true
    → (r : Result (Instr × ℕ) CodeFault) → instruction_at e.program p.place ≡ r → AsksAtMost Any 3 (LaidOn starts e p) (executed e p r)
executed_laid e starts laid p here (Err f) is = refl
executed_laid e starts laid p here (Ok (i, next)) is =
    at_most-then Any 3 0 (Goes e p i) (LaidOn starts e p) (remaining_questions (known_itself e p.writes) (effect (context_at e p) i.opcode i.immediates)) (λ r. Gives (stepped e p next r))
    (executed_asks e p i) (λ r h. stepped_laid e starts laid p i next here is r h)

-- ---- the path

rest_laid : (e : Execution) (starts : List ℕ) (n : ℕ) (p : Position) → is_start starts p.place ≡ true → left_from p.place starts < suc n
    → ((q : Position) → is_start_or_end starts (length e.program) q.place ≡ true → left_from q.place starts < n → AsksAtMost Any (3 * left_from q.place starts) HasEnded (run_from e n q))
    → (r : Result Position Ended) → LaidOn starts e p r → AsksAtMost Any (3 * (left_from p.place starts - 1)) HasEnded (goes_on e n p r)
rest_laid e starts n p here room next (Ok q) h =
    let less = fewer p.place q.place starts h.0 here in
    at_most-more Any (3 * left_from q.place starts) (3 * (left_from p.place starts - 1)) HasEnded (run_from e n q) (omega arith) (next q h.1 (omega arith))
rest_laid e starts n p here room next (Err end) h = tt

run_by : (e : Execution) (starts : List ℕ) → IsLaidOut e.program starts → (n : ℕ) (p : Position) → left_from p.place starts < suc n
    → ((q : Position) → is_start_or_end starts (length e.program) q.place ≡ true → left_from q.place starts < n → AsksAtMost Any (3 * left_from q.place starts) HasEnded (run_from e n q))
    → (b : Bool) → (b || is_start starts p.place) ≡ true
    → AsksAtMost Any (3 * left_from p.place starts) HasEnded (and_then (if b then Gives (Err (result_at_end (length e.program) p.stack)) else executed e p (instruction_at e.program p.place)) (goes_on e n p))
run_by e starts laid n p room next true h = tt
run_by e starts laid n p room next false here =
    let some = fewer p.place (p.place + 1) starts (omega arith) here in
    at_most-more Any (3 + 3 * (left_from p.place starts - 1)) (3 * left_from p.place starts) HasEnded (and_then (executed e p (instruction_at e.program p.place)) (goes_on e n p)) (omega arith)
    (at_most-then Any 3 (3 * (left_from p.place starts - 1)) (LaidOn starts e p) HasEnded (executed e p (instruction_at e.program p.place)) (goes_on e n p)
    (executed_laid e starts laid p here (instruction_at e.program p.place) refl) (rest_laid e starts n p here room next))

run_laid : (e : Execution) (starts : List ℕ) → IsLaidOut e.program starts → (n : ℕ) (p : Position) → is_start_or_end starts (length e.program) p.place ≡ true → left_from p.place starts < n
    → AsksAtMost Any (3 * left_from p.place starts) HasEnded (run_from e n p)
run_laid e starts laid zero p here room = absurd (omega arith)
run_laid e starts laid (suc n) p here room = run_by e starts laid n p room (run_laid e starts laid n) (p.place == length e.program) here

-- where a program is laid out, its path ends within one step more than it has instructions
pub steps_are_instructions : (e : Execution) (writes : ItemMap) (starts : List ℕ) → IsLaidOut e.program starts → AsksAtMost Any (3 * length starts) HasEnded (path e writes (length starts + 1))
steps_are_instructions e writes starts laid =
    let p = start e.program writes in
    let few = left_in_all p.place starts in
    at_most-more Any (3 * left_from p.place starts) (3 * length starts) HasEnded (path e writes (length starts + 1)) (omega arith)
    (run_laid e starts laid (length starts + 1) p laid.first (omega arith))

-- where a program is laid out, its whole path asks for at most three items an instruction
pub whole_path_steps : (e : Execution) (writes : ItemMap) (starts : List ℕ) → IsLaidOut e.program starts → length starts ≤ length e.program → AsksAtMost Any (3 * length starts) HasEnded (whole_path e writes)
whole_path_steps e writes starts laid short =
    let p = start e.program writes in
    let few = left_in_all p.place starts in
    at_most-more Any (3 * left_from p.place starts) (3 * length starts) HasEnded (whole_path e writes) (omega arith)
    (run_laid e starts laid (length e.program + 1) p laid.first (omega arith))
