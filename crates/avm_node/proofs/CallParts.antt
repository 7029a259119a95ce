-- Lines in two parts.
use Rattle.std.proofs.Common.{◌≡◌, ℕ, suc, ◌+◌, List, [], ◌∷◌, ◌++◌, length, Bor, subst, Result, Ok, Err, refl, sym, ap, ◌∙◌, arith}
use Rattle.std.proofs.lemmas.List.{length-map, map-append}
use Rattle.teal_value.specs.Answer.{◌>>=◌, Gives}
use Rattle.teal_value.specs.declared.failure.Failure.{Failure}
use Rattle.avm_items.specs.declared.call_data.CallData.{CallData}
use Rattle.avm_input.specs.declared.refusals.Refusal.{Refusal}
use Rattle.avm_input.specs.DigitLines.{DigitLine}
use Rattle.avm_input.specs.Lines.{line_shown, lines_shown}
use Rattle.avm_input.specs.ProposeInputs.{call_on_line, calls_on_lines}
use Rattle.avm_node.specs.CallParts.{GiveTogether}

-- the calls of two parts are those of the first, and then of the second, numbered on
lines_in_parts : (n : ℕ) (xs ys : List DigitLine) → calls_on_lines n (xs ++ ys) ≡ (calls_on_lines n xs >>= λ a. calls_on_lines (n + length xs) ys >>= λ b. Ok (a ++ b))
lines_in_parts n [] ys = start (n + 0) (omega arith) ∙ refl
  where
    alone : (r : Result (List CallData) Refusal) → r ≡ (r >>= λ b. Ok ([] ++ b))
    alone (Ok b) = refl
    alone (Err e) = refl

    start : (m : ℕ) → n ≡ m → calls_on_lines n ys ≡ (calls_on_lines m ys >>= λ b. Ok ([] ++ b))
    start m e = ap (λ k. calls_on_lines k ys) e ∙ alone (calls_on_lines m ys)
lines_in_parts n (x ∷ xs) ys =
    ap (λ r. call_on_line n x >>= λ c. r >>= λ cs. Ok (c ∷ cs)) (lines_in_parts (n + 1) xs ys) ∙ regroup (call_on_line n x) (calls_on_lines (n + 1) xs)
  where
    behind : (c : CallData) (a : List CallData) (r : Result (List CallData) Refusal) → ((r >>= λ b. Ok (a ++ b)) >>= λ cs. Ok (c ∷ cs)) ≡ (r >>= λ b. Ok (c ∷ a ++ b))
    behind c a (Ok b) = refl
    behind c a (Err e) = refl

    count : n + 1 + length xs ≡ n + suc (length xs)
    count = omega arith

    regroup : (first : Result CallData Refusal) (more : Result (List CallData) Refusal)
        → (first >>= λ c. (more >>= λ a. calls_on_lines (n + 1 + length xs) ys >>= λ b. Ok (a ++ b)) >>= λ cs. Ok (c ∷ cs))
        ≡ ((first >>= λ c. more >>= λ cs. Ok (c ∷ cs)) >>= λ a. calls_on_lines (n + suc (length xs)) ys >>= λ b. Ok (a ++ b))
    regroup (Err e) more = refl
    regroup (Ok c) (Err e) = refl
    regroup (Ok c) (Ok a) = behind c a (calls_on_lines (n + 1 + length xs) ys) ∙ ap (λ k. calls_on_lines k ys >>= λ b. Ok (c ∷ a ++ b)) count

-- what two parts give together is what all lines give
pub in_two_parts : {X : Type 0} (view : X → List CallData) (n : ℕ) (lines front back : List (ℕ × Bor (List ℕ))) (first second both : Result X (Failure Refusal)) → lines ≡ front ++ back
    → Gives view first (calls_on_lines n (lines_shown front)) → Gives view second (calls_on_lines (n + length front) (lines_shown back)) → GiveTogether view first second both
    → Gives view both (calls_on_lines n (lines_shown lines))
in_two_parts view n lines front back first second both whole a b join =
    let shown : lines_shown lines ≡ lines_shown front ++ lines_shown back = ap lines_shown whole ∙ map-append line_shown front back in
    let parts : calls_on_lines n (lines_shown lines) ≡ (calls_on_lines n (lines_shown front) >>= λ xs. calls_on_lines (n + length front) (lines_shown back) >>= λ ys. Ok (xs ++ ys)) =
    ap (calls_on_lines n) shown ∙ lines_in_parts n (lines_shown front) (lines_shown back)
    ∙ ap (λ k. calls_on_lines n (lines_shown front) >>= λ xs. calls_on_lines (n + k) (lines_shown back) >>= λ ys. Ok (xs ++ ys)) (length-map front line_shown) in
    subst (Gives view both) (sym parts) (join _ _ a b)
