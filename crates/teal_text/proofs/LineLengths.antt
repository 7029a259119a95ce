-- How long the first line is: by its front, and by a search for the line feed.
use Rattle.std.proofs.Common.{◌≡◌, ◌∙◌, ap, sym, ℕ, ◌+◌, ◌<◌, Bool, true, false, cond, not, eqb, List, length, take, drop, Some, None, arith, refl}
use Rattle.std.proofs.lemmas.List.{take-append-drop}
use Rattle.std.proofs.lemmas.List.Folds.{prefix_len-append}
use Rattle.std.proofs.lemmas.List.Sums.{position_or_len_is}
use Rattle.std.proofs.lemmas.Bool.Decides.{nat_tests}
use Rattle.memchr.specs.Find.{IsFirstByte, is_byte}
use Rattle.teal_text.specs.Lines.{is_line_feed, line_len}

cut : (n : ℕ) (bytes : List ℕ) → line_len bytes ≡ cond (eqb (line_len (take n bytes)) (length (take n bytes))) (length (take n bytes) + line_len (drop n bytes)) (line_len (take n bytes))
cut n bytes = ap line_len (sym (take-append-drop n bytes)) ∙ prefix_len-append (λ x. not (is_line_feed x)) (take n bytes) (drop n bytes)

-- the line ends in the front
pub ends_in_front : (n : ℕ) (bytes front : List ℕ) → front ≡ take n bytes → line_len front < length front → line_len front ≡ line_len bytes
ends_in_front n bytes front e lt =
    let test : eqb (line_len (take n bytes)) (length (take n bytes)) ≡ false = rw (← e) (grind (arith, nat_tests)) in
    rw e (sym (cut n bytes ∙ rw test refl))

-- it does not
pub ends_behind : (n : ℕ) (bytes front behind : List ℕ) → front ≡ take n bytes → behind ≡ drop n bytes → line_len front ≡ length front → length front + line_len behind ≡ line_len bytes
ends_behind n bytes front behind e f whole =
    let test : eqb (line_len (take n bytes)) (length (take n bytes)) ≡ true = rw (← e) (grind (arith, nat_tests)) in
    rw (e, f) (sym (cut n bytes ∙ rw test refl))

not_feed : (b : Bool) → ¬ (b ≡ true) → b ≡ false
not_feed true fails = absurd (fails refl)
not_feed false fails = refl

-- the line ends where a line feed is found first, or with the bytes
pub ends_at_feed : (bytes : List ℕ) (place : ℕ) → IsFirstByte (is_byte 10) bytes (Some place) → place ≡ line_len bytes
ends_at_feed bytes place first =
    sym (position_or_len_is is_line_feed bytes place 0 (omega (arith, first.0.high)) (λ k lt. not_feed _ (first.0.before k (omega arith) lt)) (λ lt. first.1))

pub ends_at_end : (bytes : List ℕ) → IsFirstByte (is_byte 10) bytes None → length bytes ≡ line_len bytes
ends_at_end bytes none =
    sym (position_or_len_is is_line_feed bytes (length bytes) 0 (omega arith) (λ k lt. not_feed _ (none k (omega arith) lt)) (λ lt. absurd (omega arith)))
