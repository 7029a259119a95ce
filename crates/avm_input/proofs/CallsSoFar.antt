-- Calls that are read from lines, one after another.
use Rattle.std.proofs.Common.{◌≡◌, ℕ, suc, ◌+◌, ◌<◌, drop, get_or, List, [], ◌∷◌, ◌++◌, length, Bor, Result, Ok, Err, refl, sym, ap, ◌∙◌, append_assoc, arith}
use Rattle.std.proofs.Math.Seq.{drop-cons}
use Rattle.teal_value.specs.Answer.{◌>>=◌}
use Rattle.avm_items.specs.declared.call_data.CallData.{CallData}
use Rattle.avm_input.specs.declared.refusals.Refusal.{Refusal}
use Rattle.avm_input.specs.DigitLines.{DigitLine}
use Rattle.avm_input.specs.Lines.{line_shown, lines_shown}
use Rattle.avm_input.specs.ProposeInputs.{call_on_line, calls_on_lines}

-- the calls so far and those of the lines that are left are those of all
abbrev pub GoesOn : ℕ → List CallData → List DigitLine → Result (List CallData) Refusal → Type 0
GoesOn n calls rest all = (calls_on_lines n rest >>= λ more. Ok (calls ++ more)) ≡ all

-- a line more
pub one_line_more : (n i : ℕ) (calls now : List CallData) (lines : List (ℕ × Bor (List ℕ))) (d : ℕ × Bor (List ℕ)) (c : CallData) (all : Result (List CallData) Refusal) → i < length lines → call_on_line (n + i) (line_shown (get_or lines i d)) ≡ Ok c
    → now ≡ calls ++ c ∷ [] → GoesOn (n + i) calls (lines_shown (drop i lines)) all → GoesOn (n + (i + 1)) now (lines_shown (drop (i + 1) lines)) all
one_line_more n i calls now lines d c all lt read pushed was =
    let one : suc i ≡ i + 1 = omega arith in
    let rest : drop i lines ≡ get_or lines i d ∷ drop (i + 1) lines = drop-cons lines i d lt ∙ ap (λ k. get_or lines i d ∷ drop k lines) one in
    let next : n + (i + 1) ≡ n + i + 1 = omega arith in
    let more : calls_on_lines (n + i) (lines_shown (drop i lines)) ≡ (calls_on_lines (n + i + 1) (lines_shown (drop (i + 1) lines)) >>= λ cs. Ok (c ∷ cs)) =
    ap (λ ls. calls_on_lines (n + i) (lines_shown ls)) rest ∙ ap (λ r. r >>= λ call. calls_on_lines (n + i + 1) (lines_shown (drop (i + 1) lines)) >>= λ cs. Ok (call ∷ cs)) read in
    ap (λ k. calls_on_lines k (lines_shown (drop (i + 1) lines)) >>= λ cs. Ok (now ++ cs)) next ∙ ap (λ xs. calls_on_lines (n + i + 1) (lines_shown (drop (i + 1) lines)) >>= λ cs. Ok (xs ++ cs)) pushed
    ∙ behind (calls_on_lines (n + i + 1) (lines_shown (drop (i + 1) lines))) ∙ ap (λ r. r >>= λ cs. Ok (calls ++ cs)) (sym more) ∙ was
  where
    behind : (r : Result (List CallData) Refusal) → (r >>= λ cs. Ok ((calls ++ c ∷ []) ++ cs)) ≡ ((r >>= λ cs. Ok (c ∷ cs)) >>= λ cs. Ok (calls ++ cs))
    behind (Ok cs) = ap (λ xs. Ok xs) (append_assoc calls (c ∷ []) cs)
    behind (Err e) = refl
