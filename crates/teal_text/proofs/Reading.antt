-- Reading a line from left to right.
use Rattle.std.proofs.Common.{◌≡◌, ℕ, zero, suc, ◌+◌, ◌<◌, Bool, false, List, [], ◌∷◌, ◌++◌, length, take, drop, Option, Some, None, Result, Ok, Err, refl, sym, ap, ◌∙◌, append_assoc, arith}
use Rattle.std.proofs.lemmas.List.{append-nil}
use Rattle.teal_text.specs.declared.fault.TextFaultKind.{TextFaultKind}
use Rattle.teal_text.specs.declared.scan.FirstToken.{FirstToken}
use Rattle.teal_text.specs.declared.token.Token.{Token}
use Rattle.teal_value.specs.Answer.{◌>>=◌}
use Rattle.teal_text.specs.Tokens.{blank_len, first_token, announces_base64, with_token, tokens_from, tokens_of}

-- a length, after n bytes
abbrev pub more : ℕ → Result ℕ TextFaultKind → Result ℕ TextFaultKind
more n (Ok m) = Ok (n + m)
more n (Err e) = Err e

-- tokens, after those so far
abbrev pub with_tokens : List Token → Result (List Token) TextFaultKind → Result (List Token) TextFaultKind
with_tokens so_far r = r >>= λ tokens. Ok (so_far ++ tokens)

-- the tokens so far and those of the rest are those that are meant, for some bound that is large enough
pub record Reads (so_far : List Token) (base64 : Bool) (place : ℕ) (rest : List ℕ) (meant : Result (List Token) TextFaultKind) : Type 0 where
  pub bound : ℕ
  pub enough : length rest < bound
  pub same : with_tokens so_far (tokens_from bound base64 place rest) ≡ meant

nothing_after : (so_far : List Token) (r : Result (List Token) TextFaultKind) → with_tokens [] r ≡ r
nothing_after so_far (Ok ts) = refl
nothing_after so_far (Err e) = refl

pub starts : (place : ℕ) (bs : List ℕ) (meant : Result (List Token) TextFaultKind) → tokens_of place bs ≡ meant → Reads [] false place bs meant
unfolding tokens_of
starts place bs meant e = record { bound = suc (length bs); enough = omega arith; same = nothing_after [] _ ∙ e }

regroup : (so_far : List Token) (t : Token) (r : Result (List Token) TextFaultKind) → with_tokens so_far (r >>= λ ts. Ok (t ∷ ts)) ≡ with_tokens (so_far ++ t ∷ []) r
regroup so_far t (Ok ts) = ap (λ (x : List Token). Ok x) (simp append_assoc)
regroup so_far t (Err e) = refl

-- one step of the definition
pub step : (n : ℕ) (base64 : Bool) (place : ℕ) (bs : List ℕ) (f : Result (Option FirstToken) TextFaultKind) → first_token base64 (drop (blank_len bs) bs) ≡ f
    → tokens_from (suc n) base64 place bs ≡ (f >>= λ o. with_token (place + blank_len bs) o (λ t. tokens_from n (announces_base64 (take t.len (drop (blank_len bs) bs)) (drop t.len (drop (blank_len bs) bs))) (place + blank_len bs + t.len) (drop t.len (drop (blank_len bs) bs))))
unfolding tokens_from
step n base64 place bs f e = rw e refl

-- where no token follows, the tokens so far are those that are meant
pub is_done : (so_far : List Token) (base64 : Bool) (place : ℕ) (rest : List ℕ) (meant : Result (List Token) TextFaultKind) → Reads so_far base64 place rest meant
    → first_token base64 (drop (blank_len rest) rest) ≡ Ok None → meant ≡ Ok so_far
is_done so_far base64 place rest meant r e =
    elim r.bound as (λ n. length rest < n → with_tokens so_far (tokens_from n base64 place rest) ≡ meant → meant ≡ Ok so_far) [
      | zero ↦ λ lt _. absurd (omega arith)
      | suc n ↦ λ lt same. sym same ∙ ap (with_tokens so_far) (step n base64 place rest (Ok None) e) ∙ ap (λ (x : List Token). Ok x) (append-nil so_far)
    ] r.enough r.same

-- a fault of the next token is the fault of the line
pub is_refused : (so_far : List Token) (base64 : Bool) (place : ℕ) (rest : List ℕ) (meant : Result (List Token) TextFaultKind) (k : TextFaultKind) → Reads so_far base64 place rest meant
    → first_token base64 (drop (blank_len rest) rest) ≡ Err k → meant ≡ Err k
is_refused so_far base64 place rest meant k r e =
    elim r.bound as (λ n. length rest < n → with_tokens so_far (tokens_from n base64 place rest) ≡ meant → meant ≡ Err k) [
      | zero ↦ λ lt _. absurd (omega arith)
      | suc n ↦ λ lt same. sym same ∙ ap (with_tokens so_far) (step n base64 place rest (Err k) e)
    ] r.enough r.same

-- the next token goes from the rest to those that are read
pub goes_on : (so_far : List Token) (base64 : Bool) (place : ℕ) (rest : List ℕ) (meant : Result (List Token) TextFaultKind) (t : FirstToken) (token : Token) (next : Bool) (at : ℕ) (after : List ℕ) → Reads so_far base64 place rest meant
    → first_token base64 (drop (blank_len rest) rest) ≡ Ok (Some t) → token ≡ record { start = place + blank_len rest; end = place + blank_len rest + t.len; string = t.string }
    → next ≡ announces_base64 (take t.len (drop (blank_len rest) rest)) (drop t.len (drop (blank_len rest) rest)) → at ≡ place + blank_len rest + t.len → after ≡ drop t.len (drop (blank_len rest) rest) → length after < length rest
    → Reads (so_far ++ token ∷ []) next at after meant
goes_on so_far base64 place rest meant t token next at after r e token-is next-is at-is after-is shorter =
    elim r.bound as (λ n. length rest < n → with_tokens so_far (tokens_from n base64 place rest) ≡ meant → Reads (so_far ++ token ∷ []) next at after meant) [
      | zero ↦ λ lt _. absurd (omega arith)
      | suc n ↦ λ lt same. record {
        bound = n;
        enough = omega arith;
        same =
            let one : tokens_from (suc n) base64 place rest ≡ (tokens_from n next at after >>= λ ts. Ok (token ∷ ts)) = step n base64 place rest (Ok (Some t)) e ∙ rw (token-is, next-is, at-is, after-is) refl in
            sym (regroup so_far token (tokens_from n next at after)) ∙ ap (with_tokens so_far) (sym one) ∙ same;
      }
    ] r.enough r.same
