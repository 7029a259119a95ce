-- The first branch that has a fault is found by labels alone.
use Rattle.std.proofs.Common.{◌≡◌, ℕ, ◌+◌, ◌<◌, ◌≤◌, ◌⊎◌, inl, inr, Bool, true, false, cond, List, [], ◌∷◌, ◌++◌, length, Option, Some, None, Result, Ok, Err, refl, sym, ap, subst, ◌∙◌, append_assoc, length-append, arith}
use Rattle.std.specs.Prelude.{is_some, nat_le}
use Rattle.std.specs.List.{list_any}
use Rattle.std.specs.Map.{lookup}
use Rattle.std.specs.Str.{bytes_eq}
use Rattle.std.proofs.lemmas.Bool.Decides.{nat_tests}
use Rattle.std.proofs.lemmas.List.{append-nil}
use Rattle.teal_value.specs.declared.failure.Failure.{Failure}
use Rattle.teal_value.specs.declared.failure.Failure.TheVariants as failure
use Rattle.teal_value.specs.Answer.{◌>>=◌, Fails}
use Rattle.teal_value.specs.Choice.{or_else}
use Rattle.teal_table.specs.declared.opcode.Opcode.{Opcode}
use Rattle.teal_source.specs.declared.statement.Statement.{Statement}
use Rattle.teal_source.specs.declared.command.Command.{Command}
use Rattle.teal_source.specs.declared.command.Command.TheVariants.{Int, Byte, Jump, Plain}
use Rattle.teal_source.specs.declared.fault.AsmFaultKind.TheVariants as kind
use Rattle.teal_source.specs.declared.fault.AsmFault.{AsmFault}
use Rattle.teal_source.specs.Operands.{Word}
use Rattle.teal_source.specs.Statements.{has_label}
use Rattle.teal_asm.specs.Meaning.{Meant, Straight, Branch, branch, commands_in, label_entry, labels_from, gathered_blocks, optional_instruction, instructions, all_instructions}
use Rattle.teal_asm.specs.Program.{size, total_size}
use Rattle.teal_asm.specs.Thinned.{AreSameOrLong, Thins, command_count, branch_fault, branch_label, own_fault}
use Rattle.teal_asm.proofs.Bodies.{command_count-push, label_there, labels-push}

-- ---- where labels stand

labels-append : (n : ℕ) (xs ys : List Statement) → labels_from n (xs ++ ys) ≡ labels_from n xs ++ labels_from (n + command_count xs) ys
unfolding labels_from
labels-append n [] ys = ap (λ k. labels_from k ys) (sum_zero n)
  where
    sum_zero : (n : ℕ) → n ≡ n + 0
    sum_zero n = omega arith
labels-append n (x ∷ xs) ys =
    ap (λ r. label_entry x.label n ++ r) (labels-append (n + commands_in x.command) xs ys ∙ ap (λ k. labels_from (n + commands_in x.command) xs ++ labels_from k ys) (regroup n (commands_in x.command) (command_count xs)))
    ∙ sym (append_assoc (label_entry x.label n) _ _)
  where
    regroup : (a b c : ℕ) → a + b + c ≡ a + (b + c)
    regroup a b c = omega arith

lookup_or : (p : Word → Bool) (xs ys : List (Word × ℕ)) → lookup p (xs ++ ys) ≡ or_else (lookup p xs) (lookup p ys)
lookup_or p [] ys = refl
lookup_or p (x ∷ xs) ys = at_test (p x.0) (lookup_or p xs ys)
  where
    at_test : (b : Bool) {o : Option ℕ} → o ≡ or_else (lookup p xs) (lookup p ys) → cond b (Some x.1) o ≡ or_else (cond b (Some x.1) (lookup p xs)) (lookup p ys)
    at_test true e = refl
    at_test false e = e

-- the numbers of labels lie between that of the first instruction and that behind the last
in_entry : (p : Word → Bool) (label : Option Word) (n k : ℕ) → lookup p (label_entry label n) ≡ Some k → n ≡ k
in_entry p None n k e = absurd cc
in_entry p (Some l) n k e = at_test (p l) e
  where
    at_test : (b : Bool) → cond b (Some n) None ≡ Some k → n ≡ k
    at_test true e = cc
    at_test false e = absurd cc

either : {o q : Option ℕ} {k : ℕ} → or_else o q ≡ Some k → (o ≡ Some k) ⊎ (q ≡ Some k)
either {o = Some x} e = inl e
either {o = None} e = inr e

not_above : (p : Word → Bool) (n : ℕ) (ss : List Statement) (k : ℕ) → lookup p (labels_from n ss) ≡ Some k → k ≤ n + command_count ss
unfolding labels_from
not_above p n [] k e = absurd cc
not_above p n (s ∷ ss) k e = at_part (not_above p (n + commands_in s.command) ss k) (either {o = lookup p (label_entry s.label n)} (sym (lookup_or p (label_entry s.label n) _) ∙ e))
  where
    at_part : (lookup p (labels_from (n + commands_in s.command) ss) ≡ Some k → k ≤ n + commands_in s.command + command_count ss)
        → (lookup p (label_entry s.label n) ≡ Some k) ⊎ (lookup p (labels_from (n + commands_in s.command) ss) ≡ Some k) → k ≤ n + (commands_in s.command + command_count ss)
    at_part later (inl e) = omega (arith, in_entry p s.label n k e)
    at_part later (inr e) = omega (arith, later e)

not_below : (p : Word → Bool) (n : ℕ) (ss : List Statement) (k : ℕ) → lookup p (labels_from n ss) ≡ Some k → n ≤ k
unfolding labels_from
not_below p n [] k e = absurd cc
not_below p n (s ∷ ss) k e = at_part (not_below p (n + commands_in s.command) ss k) (either {o = lookup p (label_entry s.label n)} (sym (lookup_or p (label_entry s.label n) _) ∙ e))
  where
    at_part : (lookup p (labels_from (n + commands_in s.command) ss) ≡ Some k → n + commands_in s.command ≤ k)
        → (lookup p (label_entry s.label n) ≡ Some k) ⊎ (lookup p (labels_from (n + commands_in s.command) ss) ≡ Some k) → n ≤ k
    at_part later (inl e) = omega (arith, in_entry p s.label n k e)
    at_part later (inr e) = omega (arith, later e)

not_above_own : (p : Word → Bool) (n : ℕ) (ss : List Statement) (s : Statement) (k : ℕ) → lookup p (labels_from n (ss ++ s ∷ [])) ≡ Some k → k ≤ n + command_count ss
not_above_own p n ss s k e = at_part (either {o = lookup p (labels_from n ss)} (sym (lookup_or p (labels_from n ss) _) ∙ sym (ap (lookup p) (labels-push n ss s)) ∙ e))
  where
    at_part : (lookup p (labels_from n ss) ≡ Some k) ⊎ (lookup p (label_entry s.label (n + command_count ss)) ≡ Some k) → k ≤ n + command_count ss
    at_part (inl e) = not_above p n ss k e
    at_part (inr e) = omega (arith, in_entry p s.label (n + command_count ss) k e)

-- ---- what instructions give

-- a result has this fault, or it is a list of this length
abbrev pub Found : Option AsmFault → Result (List Meant) AsmFault → ℕ → Type 0
Found (Some f) r count = r ≡ Err f
Found None r count = (is : List Meant) × (r ≡ Ok is) × (length is ≡ count)

both_found : (o q : Option AsmFault) (r t : Result (List Meant) AsmFault) (m n : ℕ) → Found o r m → Found q t n → Found (or_else o q) (r >>= λ i. t >>= λ is. Ok (i ++ is)) (m + n)
both_found (Some f) q r t m n e d = rw e refl
both_found None (Some f) r t m n e d = rw (e.1, d) refl
both_found None None r t m n e d = (e.0 ++ d.0, rw (e.1, d.1) refl, length-append e.0 d.0 ∙ omega (arith, e.2, d.2))

-- a branch of a number, where its label is looked for in front and behind
branch_found : (line n : ℕ) (o : Opcode) (front behind : Option ℕ) (before later : Bool) → is_some front ≡ before → is_some behind ≡ later → ((k : ℕ) → front ≡ Some k → k ≤ n) → ((k : ℕ) → behind ≡ Some k → n < k)
    → Found (cond before (Some (record { line = line; kind = kind.LabelBehind })) (cond later None (Some (record { line = line; kind = kind.LabelMissing })))) (branch line o n (or_else front behind) >>= λ i. Ok (i ∷ [])) 1
branch_found line n o (Some k) behind before later e f low high =
    let test : nat_le k n ≡ true = let le : k ≤ n = low k refl in grind (arith, nat_tests) in
    subst (λ b. Found (cond b (Some (record { line = line; kind = kind.LabelBehind })) (cond later None (Some (record { line = line; kind = kind.LabelMissing })))) (branch line o n (Some k) >>= λ i. Ok (i ∷ [])) 1) e (rw test refl)
branch_found line n o None (Some k) before later e f low high =
    let test : nat_le k n ≡ false = let lt : n < k = high k refl in grind (arith, nat_tests) in
    subst (λ b. Found (cond b (Some (record { line = line; kind = kind.LabelBehind })) (cond later None (Some (record { line = line; kind = kind.LabelMissing })))) (branch line o n (Some k) >>= λ i. Ok (i ∷ [])) 1) e
    (subst (λ b. Found (cond b None (Some (record { line = line; kind = kind.LabelMissing }))) (branch line o n (Some k) >>= λ i. Ok (i ∷ [])) 1) f (Branch o k ∷ [], rw test refl, refl))
branch_found line n o None None before later e f low high =
    subst (λ b. Found (cond b (Some (record { line = line; kind = kind.LabelBehind })) (cond later None (Some (record { line = line; kind = kind.LabelMissing })))) (branch line o n None >>= λ i. Ok (i ∷ [])) 1) e
    (subst (λ b. Found (cond b None (Some (record { line = line; kind = kind.LabelMissing }))) (branch line o n None >>= λ i. Ok (i ∷ [])) 1) f refl)

-- the instruction of a statement, among those before it and behind it
one_found : (all before later : List Statement) (s : Statement) (n : ℕ) (c : Option Command) → c ≡ s.command → all ≡ (before ++ s ∷ []) ++ later → n ≡ length (gathered_blocks all) + command_count before
    → Found (own_fault s.line (branch_label c) (before ++ s ∷ []) later) (optional_instruction all n s.line c) (commands_in c)
one_found all before later s n None is e at = ([], refl, refl)
one_found all before later s n (Some (Int v)) is e at = (_, refl, refl)
one_found all before later s n (Some (Byte v)) is e at = (_, refl, refl)
one_found all before later s n (Some (Plain o i)) is e at = (_, refl, refl)
one_found all before later s n (Some (Jump o name)) is e at =
    let b = length (gathered_blocks all) in
    let p = bytes_eq name in
    let front = before ++ s ∷ [] in
    let labels : lookup p (labels_from b all) ≡ or_else (lookup p (labels_from b front)) (lookup p (labels_from (b + command_count front) later)) =
    ap (λ ss. lookup p (labels_from b ss)) e ∙ ap (lookup p) (labels-append b front later) ∙ lookup_or p (labels_from b front) (labels_from (b + command_count front) later) in
    let one : command_count front ≡ command_count before + 1 = command_count-push before s ∙ ap (λ d. command_count before + commands_in d) (sym is) in
    subst (λ t. Found (own_fault s.line (Some name) front later) (branch s.line o n t >>= λ i. Ok (i ∷ [])) 1) (sym labels)
    (branch_found s.line n o (lookup p (labels_from b front)) (lookup p (labels_from (b + command_count front) later)) (list_any (has_label name) front) (list_any (has_label name) later)
    (label_there b front name) (label_there (b + command_count front) later name) (λ k found. omega (arith, at, not_above_own p b before s k found)) (λ k found. omega (arith, at, one, not_below p (b + command_count front) later k found)))

found : (all before ss : List Statement) (n : ℕ) → all ≡ before ++ ss → n ≡ length (gathered_blocks all) + command_count before → Found (branch_fault before ss) (instructions all n ss) (command_count ss)
unfolding instructions
found all before [] n e at = ([], refl, refl)
found all before (s ∷ ss) n e at =
    let next : all ≡ (before ++ s ∷ []) ++ ss = e ∙ sym (append_assoc before (s ∷ []) ss) in
    both_found (own_fault s.line (branch_label s.command) (before ++ s ∷ []) ss) (branch_fault (before ++ s ∷ []) ss) (optional_instruction all n s.line s.command) (instructions all (n + commands_in s.command) ss) (commands_in s.command) (command_count ss)
    (one_found all before ss s n s.command refl next at) (found all (before ++ s ∷ []) ss (n + commands_in s.command) next (omega (arith, at, command_count-push before s)))

-- ---- the instructions of all statements

whole_found : (o : Option AsmFault) (blocks : List Meant) (r : Result (List Meant) AsmFault) (n : ℕ) → Found o r n → Found o (r >>= λ is. Ok (blocks ++ is)) (length blocks + n)
whole_found (Some f) blocks r n e = rw e refl
whole_found None blocks r n e = (blocks ++ e.0, rw e.1 refl, length-append blocks e.0 ∙ omega (arith, e.2))

pub all_found : (ss : List Statement) → Found (branch_fault [] ss) (all_instructions ss) (length (gathered_blocks ss) + command_count ss)
all_found ss = whole_found (branch_fault [] ss) (gathered_blocks ss) (instructions ss (length (gathered_blocks ss)) ss) (command_count ss) (found ss [] ss (length (gathered_blocks ss)) refl (omega arith))

kept_found : (kept all : List Statement) → Thins kept all → Found (branch_fault [] all) (all_instructions kept) (length (gathered_blocks kept) + command_count kept)
kept_found kept all t = subst (λ o. Found o (all_instructions kept) (length (gathered_blocks kept) + command_count kept)) (ap (branch_fault []) (sym (append-nil kept)) ∙ t.faults [] ∙ ap (branch_fault []) (append-nil all)) (all_found kept)

-- the fault of what is kept is that of all
pub same_refusal : (kept all : List Statement) (d : Failure AsmFault) → Thins kept all → Fails d (all_instructions kept) → Fails d (all_instructions all)
same_refusal kept all failure.Memory t e = tt
same_refusal kept all (failure.Fault f) t e = at_fault (branch_fault [] all) (kept_found kept all t) (all_found all)
  where
    at_fault : (o : Option AsmFault) → Found o (all_instructions kept) (length (gathered_blocks kept) + command_count kept) → Found o (all_instructions all) (length (gathered_blocks all) + command_count all) → all_instructions all ≡ Err f
    at_fault (Some g) x y = let same : g ≡ f = cc in y ∙ ap (λ h. Err h) same
    at_fault None x y = let no : Ok x.0 ≡ Err f = sym x.1 ∙ e in absurd cc

one_list : (is js : List Meant) (r : Result (List Meant) AsmFault) → r ≡ Ok is → r ≡ Ok js → is ≡ js
one_list is js r e f = cc

size_some : (i : Meant) → 1 ≤ size i
size_some (Straight o i) = omega arith
size_some (Branch o t) = omega arith

-- there are no more instructions than the bytes that they take
pub size-le : (is : List Meant) → length is ≤ total_size is
size-le [] = omega arith
size-le (i ∷ is) = omega (arith, size_some i, size-le is)

-- where what is kept has no fault, all have none, and their instructions are the same or too many
pub same_or_long : (kept all : List Statement) (is : List Meant) → Thins kept all → all_instructions kept ≡ Ok is → (js : List Meant) × (all_instructions all ≡ Ok js) × AreSameOrLong is js
same_or_long kept all is t e = at_fault (branch_fault [] all) (kept_found kept all t) (all_found all)
  where
    at_long : (js ks : List Meant) → all_instructions all ≡ Ok js → length js ≡ length (gathered_blocks all) + command_count all → ks ≡ is → length ks ≡ length (gathered_blocks kept) + command_count kept
        → ((kept ≡ all) ⊎ (1023 < command_count kept)) → AreSameOrLong is js
    at_long js ks f count same kept_count (inl g) = inl (one_list is js (all_instructions all) (sym (ap all_instructions g) ∙ e) f)
    at_long js ks f count same kept_count (inr lt) =
        inr (omega (arith, size-le is, lt, kept_count, ap length same), omega (arith, size-le js, lt, count, t.fewer))

    at_fault : (o : Option AsmFault) → Found o (all_instructions kept) (length (gathered_blocks kept) + command_count kept) → Found o (all_instructions all) (length (gathered_blocks all) + command_count all)
        → (js : List Meant) × (all_instructions all ≡ Ok js) × AreSameOrLong is js
    at_fault (Some g) x y = let no : Ok is ≡ Err g = sym e ∙ x in absurd cc
    at_fault None x y =
        (y.0, y.1, at_long y.0 x.0 y.1 y.2 (one_list x.0 is (all_instructions kept) x.1 e) x.2 t.long)
