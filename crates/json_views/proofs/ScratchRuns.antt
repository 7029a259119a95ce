-- The values of a scratch space, written one after another.
use Rattle.std.proofs.Common.{◌≡◌, ◌∙◌, ℕ, zero, suc, ◌+◌, ◌-◌, List, ◌∷◌, ◌++◌, map, sym, ap, append_assoc, append-nil, arith}
use Rattle.std.specs.Prelude.{replicate}
use Rattle.json.specs.Token.{Token}
use Rattle.json.specs.Tree.{items_tokens, json_tokens}
use Rattle.teal_value.specs.declared.value.Value.{Value}
use Rattle.teal_value.specs.declared.value.Value.TheVariants.{Uint}
use Rattle.json_views.specs.Documents.{items_of}
use Rattle.json_views.specs.States.{shown_value}
use Rattle.json_views.specs.Writing.{Adds}
use Rattle.json_views.specs.MachineStates.{filled}
use Rattle.json_views.specs.ValueTokens.{value_tokens}
use Rattle.json_views.proofs.TokenRuns.{items_behind}

-- the tokens of values, and the closing bracket of their array
abbrev pub value_items : List Value → List Token
value_items values = items_tokens (items_of (map shown_value values))

-- the zeros up to a place are written, and its value
pub place_written : (all old zeros new : List Token) (next : ℕ) (e : ℕ × Value) (es left : List (ℕ × Value)) → left ≡ e ∷ es → old ++ value_items (filled next left) ≡ all
    → Adds old zeros (value_tokens (replicate (e.0 - next) (Uint 0))) → Adds zeros new (json_tokens (shown_value e.1)) → new ++ value_items (filled (e.0 + 1) es) ≡ all
place_written all old zeros new next e es left is so_far first then =
    let gap = replicate (e.0 - next) (Uint 0) in
    let rest = value_items (filled (e.0 + 1) es) in
    ap (λ ts. ts ++ rest) (then.is ∙ ap (λ ts. ts ++ json_tokens (shown_value e.1)) first.is)
    ∙ append_assoc (old ++ value_tokens gap) (json_tokens (shown_value e.1)) rest
    ∙ append_assoc old (value_tokens gap) (json_tokens (shown_value e.1) ++ rest)
    ∙ ap (λ ts. old ++ ts) (sym (items_behind shown_value gap (e.1 ∷ filled (e.0 + 1) es)))
    ∙ ap (λ ps. old ++ value_items (filled next ps)) (sym is) ∙ so_far

-- ---- zeros

abbrev zeros : ℕ → List Token
zeros n = value_tokens (replicate n (Uint 0))

zeros_more : (n : ℕ) → zeros (suc n) ≡ zeros n ++ json_tokens (shown_value (Uint 0))
zeros_more zero = append-nil (json_tokens (shown_value (Uint 0)))
zeros_more (suc n) = ap (λ ts. json_tokens (shown_value (Uint 0)) ++ ts) (zeros_more n) ∙ sym (append_assoc (json_tokens (shown_value (Uint 0))) (zeros n) (json_tokens (shown_value (Uint 0))))

-- one more is written
pub zero_written : (start old new : List Token) (n : ℕ) → old ≡ start ++ zeros n → Adds old new (json_tokens (shown_value (Uint 0))) → new ≡ start ++ zeros (n + 1)
zero_written start old new n so_far adds =
    let more : suc n ≡ n + 1 = omega arith in
    adds.is ∙ ap (λ ts. ts ++ json_tokens (shown_value (Uint 0))) so_far ∙ append_assoc start (zeros n) (json_tokens (shown_value (Uint 0)))
    ∙ ap (λ ts. start ++ ts) (sym (zeros_more n)) ∙ ap (λ m. start ++ zeros m) more
