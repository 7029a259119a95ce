-- The lines of a text, each cut off where its line feed stands.
use Rattle.std.specs.Prelude.{◌==◌}
use Rattle.std.proofs.Common.{◌≡◌, ◌∙◌, ℕ, suc, ◌+◌, ◌<◌, true, false, List, [], ◌∷◌, ◌++◌, take, drop, map, length, one-add, refl, sym, ap, ap₂, append_assoc, append-nil, arith}
use Rattle.std.specs.List.{after_first, before_first, position_or_len}
use Rattle.json.specs.Token.{Token, end_array}
use Rattle.json.specs.Tree.{items_tokens, json_tokens}
use Rattle.json_views.specs.Documents.{items_of, text}
use Rattle.json_views.specs.Writing.{Adds}
use Rattle.json_views.specs.Disassembly.{lines_behind, lines_of}

-- a byte that is no line feed goes to the line
pub line_first : (s begun : List ℕ) → position_or_len (λ b. b == 10) s < length s
    → lines_behind begun s ≡ (begun ++ before_first (λ b. b == 10) s) ∷ lines_behind [] (after_first (λ b. b == 10) s)
line_first [] begun lt = absurd (omega arith)
line_first (b ∷ bs) begun lt = elim (b == 10) as (λ t. (b == 10) ≡ t → lines_behind begun (b ∷ bs) ≡ (begun ++ before_first (λ c. c == 10) (b ∷ bs)) ∷ lines_behind [] (after_first (λ c. c == 10) (b ∷ bs))) [
  | true ↦ λ h. rw h (ap (λ line. line ∷ lines_behind [] bs) (sym (append-nil begun)))
  | false ↦ λ h.
      let inside : position_or_len (λ c. c == 10) bs < length bs = omega (arith, rw h at lt) in
      let at = position_or_len (λ c. c == 10) bs in
      let front : take (1 + at) (b ∷ bs) ≡ b ∷ take at bs = ap (λ n. take n (b ∷ bs)) (one-add at) in
      let one_more : (1 + at) + 1 ≡ suc (at + 1) = omega arith in
      let back : drop ((1 + at) + 1) (b ∷ bs) ≡ drop (at + 1) bs = ap (λ n. drop n (b ∷ bs)) one_more in
      rw h (line_first bs (begun ++ (b ∷ [])) inside
      ∙ ap (λ line. line ∷ lines_behind [] (after_first (λ c. c == 10) bs)) (append_assoc begun (b ∷ []) (before_first (λ c. c == 10) bs))
      ∙ sym (ap₂ (λ line rest. (begun ++ line) ∷ lines_behind [] rest) front back))
] refl

-- where no line feed stands, all of it is the last part
pub last_line : (s begun : List ℕ) → position_or_len (λ b. b == 10) s ≡ length s → lines_behind begun s ≡ (begun ++ s) ∷ []
last_line [] begun e = ap (λ line. line ∷ []) (sym (append-nil begun))
last_line (b ∷ bs) begun e = elim (b == 10) as (λ t. (b == 10) ≡ t → lines_behind begun (b ∷ bs) ≡ (begun ++ (b ∷ bs)) ∷ []) [
  | true ↦ λ h. absurd (omega (arith, rw h at e))
  | false ↦ λ h. rw h (last_line bs (begun ++ (b ∷ [])) (omega (arith, rw h at e)) ∙ ap (λ line. line ∷ []) (append_assoc begun (b ∷ []) bs))
] refl

-- ---- written

-- the tokens of the lines of a text, and the closing bracket of their array
abbrev pub line_items : List ℕ → List Token
line_items rest = items_tokens (items_of (map text (lines_of rest)))

-- the next line is written
pub line_written : (all old new : List Token) (rest line behind : List ℕ) → old ++ line_items rest ≡ all → Adds old new (json_tokens (text line)) → line ≡ before_first (λ b. b == 10) rest
    → behind ≡ after_first (λ b. b == 10) rest → position_or_len (λ b. b == 10) rest < length rest → new ++ line_items behind ≡ all
line_written all old new rest line behind left wrote is more lt =
    let lines : lines_of rest ≡ line ∷ lines_of behind = line_first rest [] lt ∙ (λ i. sym is i ∷ lines_of (sym more i)) in
    ap (λ ts. ts ++ line_items behind) wrote.is ∙ append_assoc old (json_tokens (text line)) (line_items behind)
    ∙ ap (λ ls. old ++ items_tokens (items_of (map text ls))) (sym lines) ∙ left

-- the last part is written, and the array is closed
pub lines_written : (all old new closed : List Token) (rest : List ℕ) → old ++ line_items rest ≡ all → position_or_len (λ b. b == 10) rest ≡ length rest → Adds old new (json_tokens (text rest)) → Adds new closed (end_array ∷ []) → closed ≡ all
lines_written all old new closed rest left none wrote ends =
    ends.is ∙ ap (λ ts. ts ++ end_array ∷ []) wrote.is ∙ append_assoc old (json_tokens (text rest)) (end_array ∷ [])
    ∙ ap (λ ls. old ++ items_tokens (items_of (map text ls))) (sym (last_line rest [] none)) ∙ left
