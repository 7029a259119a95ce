-- Numbers in base 128, written from the lowest digits on.
use Rattle.std.proofs.Common.{◌≡◌, ℕ, zero, suc, ◌+◌, ◌/◌, ◌%◌, ◌^◌, ◌<◌, ◌≤◌, ltb, cond, true, false, List, [], ◌∷◌, ◌++◌, length, length-append, refl, sym, ap, ◌∙◌, append_assoc, arith}
use Rattle.std.proofs.Math.Nat.{pow-suc}
use Rattle.std.proofs.lemmas.Bool.{le-ltb, lt-ltb}
use Rattle.teal_code.specs.Varuint.{varuint, varuint_in}

-- what is written, and the rest in digits enough, are the number
pub record Writes (written : List ℕ) (rest : ℕ) (all : List ℕ) : Type 0 where
  pub digits : ℕ
  pub room : length written + digits ≤ 9
  pub enough : rest < 128 ^ suc digits
  pub same : written ++ varuint_in (suc digits) rest ≡ all

-- the low seven bits of the rest are written, in a byte that says that more follows
pub goes_on : (written now : List ℕ) (rest : ℕ) (all : List ℕ) → 128 ≤ rest → Writes written rest all → now ≡ written ++ (rest % 128 + 128) ∷ [] → Writes now (rest / 128) all
unfolding varuint_in
goes_on written now rest all big w e =
    elim w.digits as (λ d. length written + d ≤ 9 → rest < 128 ^ suc d → written ++ varuint_in (suc d) rest ≡ all → Writes now (rest / 128) all) [
      | zero ↦ λ _ lt _. absurd (omega arith)
      | suc d ↦ λ room lt same. record {
        digits = d;
        room = omega (arith, ap length e, length-append written ((rest % 128 + 128) ∷ []));
        enough = omega (arith, pow-suc 128 (suc d));
        same =
            let test : ltb rest 128 ≡ false = le-ltb rest 128 big in
            let one : varuint_in (suc (suc d)) rest ≡ (rest % 128 + 128) ∷ varuint_in (suc d) (rest / 128) = ap (λ b. cond b (rest ∷ []) ((rest % 128 + 128) ∷ varuint_in (suc d) (rest / 128))) test in
            rw e (append_assoc written _ _ ∙ ap (λ (x : List ℕ). written ++ x) (sym one) ∙ same);
      }
    ] w.room w.enough w.same

-- at first nothing is written
pub begins : (written : List ℕ) (n : ℕ) → n < 2 ^ 64 → written ≡ [] → Writes written n (varuint n)
unfolding varuint
begins written n small none = rw none (record { digits = 9; room = omega arith; enough = omega arith; same = refl })

-- before the last byte, at most nine are written
pub has_room : (written : List ℕ) (rest : ℕ) (all : List ℕ) → Writes written rest all → length written ≤ 9
has_room written rest all w = omega (arith, w.room)

-- a rest below 128 is the last byte
pub is_done : (written now : List ℕ) (rest : ℕ) (all : List ℕ) → rest < 128 → Writes written rest all → now ≡ written ++ rest ∷ [] → now ≡ all
unfolding varuint_in
is_done written now rest all small w e =
    let test : ltb rest 128 ≡ true = lt-ltb rest 128 small in
    let one : varuint_in (suc w.digits) rest ≡ rest ∷ [] = ap (λ b. cond b (rest ∷ []) ((rest % 128 + 128) ∷ varuint_in w.digits (rest / 128))) test in
    e ∙ ap (λ (x : List ℕ). written ++ x) (sym one) ∙ w.same
