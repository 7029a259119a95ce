-- The tokens of a line lie in order, by induction on the bound on their number.
use Rattle.std.proofs.Common.{◌≡◌, ℕ, zero, suc, ◌+◌, ◌-◌, ◌<◌, ◌≤◌, Bool, true, false, not, ◌&&◌, ◌||◌, cond, eqb, List, [], ◌∷◌, length, take, drop, get_or, slice_index, codes, nat_eq, Option, Some, None, Result, Ok, Err, refl, sym, ap, ◌∙◌, inl, inr, ◌⊎◌, arith}
use Rattle.std.specs.List.{prefix_len, list_all, starts_with}
use Rattle.std.proofs.lemmas.List.{length-drop, drop-drop, get_or-drop}
use Rattle.std.proofs.lemmas.List.Sums.{prefix_len-le-length, prefix_len_stops}
use Rattle.std.proofs.Math.Nat.{add-sub_cancel_left}
use Rattle.std.proofs.lemmas.Bool.Decides.{nat_tests}
use Rattle.teal_value.specs.Answer.{◌>>=◌}
use Rattle.teal_text.specs.declared.fault.TextFaultKind.{TextFaultKind}
use Rattle.teal_text.specs.declared.fault.TextFaultKind.TheVariants.{Glued}
use Rattle.teal_text.specs.declared.string.StringState.{StringState}
use Rattle.teal_text.specs.declared.string.StringState.TheVariants.{Plain}
use Rattle.teal_text.specs.declared.scan.FirstToken.{FirstToken}
use Rattle.teal_text.specs.declared.token.Token.{Token}
use Rattle.teal_text.specs.Strings.{closes, next_state}
use Rattle.teal_text.specs.Tokens.{is_blank, blank_len, begins_comment, word_len, string_len, one_more, unless_bad, is_ended, may_follow_string, is_base64_word, first_token, with_token, tokens_from, tokens_of}
use Rattle.teal_text.specs.TokenOrder.{LieInOrder}

blanks_in_front : (bs : List ℕ) → list_all is_blank (take (prefix_len is_blank bs) bs) ≡ true
blanks_in_front [] = refl
blanks_in_front (b ∷ bs) =
    elim (is_blank b) as (λ x. x ≡ is_blank b → list_all is_blank (take (cond x (1 + prefix_len is_blank bs) 0) (b ∷ bs)) ≡ true) [
      | true ↦ λ e. let n : 1 + prefix_len is_blank bs ≡ suc (prefix_len is_blank bs) = omega arith in rw (n, ← e) (blanks_in_front bs)
      | false ↦ λ e. refl
    ] refl

no_blank_behind : (bs : List ℕ) → 0 < length (drop (prefix_len is_blank bs) bs) → is_blank (slice_index (drop (prefix_len is_blank bs) bs) 0) ≡ false
no_blank_behind bs some =
    let stops = prefix_len_stops is_blank bs 0 (omega (arith, length-drop (prefix_len is_blank bs) bs)) in
    let at : prefix_len is_blank bs + 0 ≡ prefix_len is_blank bs = omega arith in
    ap is_blank (get_or-drop (prefix_len is_blank bs) bs 0 0 ∙ ap (λ i. get_or bs i 0) at) ∙ stops

one_less : (r : Result ℕ TextFaultKind) (n len : ℕ) → ((m : ℕ) → r ≡ Ok m → m ≤ len) → one_more r ≡ Ok n → n ≤ suc len
one_less (Ok m) n len before e =
    let le = before m refl in
    let same : suc m ≡ n = cc in
    omega arith
one_less (Err k) n len before e = absurd cc

string_len_within : (state : StringState) (bs : List ℕ) (n : ℕ) → string_len state bs ≡ Ok n → n ≤ length bs
string_len_within state [] n e = absurd cc
string_len_within state (b ∷ bs) n e =
    elim (closes state b) as (λ x. cond x (Ok 1) (unless_bad (next_state state b) (λ next. string_len next bs)) ≡ Ok n → n ≤ suc (length bs)) [
      | true ↦ λ h. let same : 1 ≡ n = cc in omega arith
      | false ↦ λ h. elim (next_state state b) as (λ o. unless_bad o (λ next. string_len next bs) ≡ Ok n → n ≤ suc (length bs)) [
        | None ↦ λ g. absurd cc
        | Some next ↦ λ g. one_less (string_len next bs) n (length bs) (λ m same. string_len_within next bs m same) g
      ] h
    ] e

word_len_within : (base64 : Bool) (bs : List ℕ) → word_len base64 bs ≤ length bs
word_len_within base64 [] = omega arith
word_len_within base64 (b ∷ bs) =
    let more = word_len_within base64 bs in
    elim (is_blank b || (not base64 && begins_comment (b ∷ bs))) as (λ x. cond x 0 (suc (word_len base64 bs)) ≤ suc (length bs)) [
      | true ↦ omega arith
      | false ↦ omega arith
    ]

neither : (p q : Bool) → p || q ≡ false → (p ≡ false) × (q ≡ false)
neither true q e = absurd cc
neither false q e = (refl, e)

positive : (p q : Bool) (n : ℕ) → p ≡ false → q ≡ false → 0 < cond (p || q) 0 (suc n)
positive true q n e f = absurd cc
positive false true n e f = absurd cc
positive false false n e f = omega arith

no_comment : (base64 other comment : Bool) → not base64 && comment ≡ false → not (base64 || other) && comment ≡ false
no_comment true other comment e = refl
no_comment false true comment e = refl
no_comment false false comment e = e

word_len_some : (base64 : Bool) (bs : List ℕ) → 0 < length bs → is_blank (slice_index bs 0) ≡ false → not base64 && begins_comment bs ≡ false → 0 < word_len base64 bs
word_len_some base64 [] some blank comment = absurd (omega arith)
word_len_some base64 (b ∷ bs) some blank comment = positive (is_blank b) (not base64 && begins_comment (b ∷ bs)) (word_len base64 bs) blank comment

abbrev found : ℕ → Result ℕ TextFaultKind
found n = Ok n

abbrev string_token : Bool → ℕ → Result (Option FirstToken) TextFaultKind
string_token follows n = cond follows (Ok (Some (record { len = n + 1; string = true }))) (Err Glued)

-- what `first_token` gives, by its tests
abbrev shape : Bool → Bool → Result ℕ TextFaultKind → (ℕ → Bool) → ℕ → Result (Option FirstToken) TextFaultKind
shape ended mark s f w = cond ended (Ok None) (cond mark (s >>= λ n. string_token (f n) n) (Ok (Some (record { len = w; string = false }))))

first_token-shape : (base64 : Bool) (bs : List ℕ) → first_token base64 bs ≡ shape (is_ended base64 bs) (eqb (slice_index bs 0) 34) (string_len Plain (drop 1 bs)) (λ n. may_follow_string (drop (n + 1) bs)) (word_len (is_base64_word base64 bs) bs)
unfolding first_token
first_token-shape base64 bs = refl

shape_none : (ended mark : Bool) (s : Result ℕ TextFaultKind) (f : ℕ → Bool) (w : ℕ) → shape ended mark s f w ≡ Ok None → ended ≡ true
shape_none true mark s f w e = refl
shape_none false true (Err k) f w e = absurd cc
shape_none false true (Ok n) f w e =
    elim (f n) as (λ b. string_token b n ≡ Ok None → false ≡ true) [
      | true ↦ λ h. absurd cc
      | false ↦ λ h. absurd cc
    ] e
shape_none false false s f w e = absurd cc

shape_some : (ended mark : Bool) (s : Result ℕ TextFaultKind) (f : ℕ → Bool) (w : ℕ) (t : FirstToken) → shape ended mark s f w ≡ Ok (Some t) → (ended ≡ false) × (((n : ℕ) × (s ≡ Ok n) × (n + 1 ≡ t.len)) ⊎ (w ≡ t.len))
shape_some true mark s f w t e = absurd cc
shape_some false true (Err k) f w t e = absurd cc
shape_some false true (Ok n) f w t e =
    elim (f n) as (λ b. string_token b n ≡ Ok (Some t) → (false ≡ false) × (((m : ℕ) × (found n ≡ Ok m) × (m + 1 ≡ t.len)) ⊎ (w ≡ t.len))) [
      | true ↦ λ h. (refl, inl (n, refl, cc))
      | false ↦ λ h. absurd cc
    ] e
shape_some false false s f w t e = (refl, inr cc)

ended_plainly : (base64 none comment : Bool) → none || (not base64 && comment) ≡ true → none || (not false && comment) ≡ true
ended_plainly base64 true comment e = refl
ended_plainly true false comment e = absurd cc
ended_plainly false false comment e = e

first_token_len : (base64 : Bool) (bs : List ℕ) (t : FirstToken) → (0 < length bs → is_blank (slice_index bs 0) ≡ false) → first_token base64 bs ≡ Ok (Some t) → (0 < t.len) × (t.len ≤ length bs)
first_token_len base64 bs t blank e =
    let s = shape_some (is_ended base64 bs) (eqb (slice_index bs 0) 34) (string_len Plain (drop 1 bs)) (λ n. may_follow_string (drop (n + 1) bs)) (word_len (is_base64_word base64 bs) bs) t (sym (first_token-shape base64 bs) ∙ e) in
    let tests = neither (eqb (length bs) 0) (not base64 && begins_comment bs) s.0 in
    let some : 0 < length bs = grind (arith, nat_tests) in
    elim s.1 [
      | inl string ↦ let len = string_len_within Plain (drop 1 bs) string.0 string.1 in (omega (arith, string.2), omega (arith, string.2, length-drop 1 bs))
      | inr word ↦
          let long = starts_with nat_eq bs (codes "base64(") in
          let short = starts_with nat_eq bs (codes "b64(") in
          let comment = no_comment (base64 || long) short (begins_comment bs) (no_comment base64 long (begins_comment bs) tests.1) in
          let more = word_len_some (is_base64_word base64 bs) bs some (blank some) comment in
          (rw (← word) more, rw (← word) (word_len_within (is_base64_word base64 bs) bs))
    ]

tail : (m : Result (List Token) TextFaultKind) (token : Token) (ts : List Token) → (m >>= λ tokens. Ok (token ∷ tokens)) ≡ Ok ts → (rest : List Token) × (m ≡ Ok rest) × (token ∷ rest ≡ ts)
tail (Ok rest) token ts e = (rest, refl, cc)
tail (Err k) token ts e = absurd cc

-- how the tokens begin
step : (r : Result (Option FirstToken) TextFaultKind) (more : FirstToken → Result (List Token) TextFaultKind) (at : ℕ) (ts : List Token) → (r >>= λ found. with_token at found more) ≡ Ok ts
    → ((r ≡ Ok None) × ([] ≡ ts)) ⊎ ((t : FirstToken) × (rest : List Token) × (r ≡ Ok (Some t)) × (more t ≡ Ok rest) × (record { start = at; end = at + t.len; string = t.string } ∷ rest ≡ ts))
step (Err k) more at ts e = absurd cc
step (Ok None) more at ts e = inl (refl, cc)
step (Ok (Some t)) more at ts e =
    let s = tail (more t) (record { start = at; end = at + t.len; string = t.string }) ts e in
    inr (t, s.0, refl, s.1, s.2)

tokens_in_order : (n : ℕ) (base64 : Bool) (place : ℕ) (bs : List ℕ) (ts : List Token) → length bs < n → tokens_from n base64 place bs ≡ Ok ts → LieInOrder place bs ts
unfolding tokens_from blank_len
tokens_in_order zero base64 place bs ts lt e = absurd (omega arith)
tokens_in_order (suc n) base64 place bs ts lt e =
    let gap = prefix_len is_blank bs in
    let rest = drop gap bs in
    elim (step (first_token base64 rest) _ (place + gap) ts e) [
      | inl none ↦
          let ended = shape_none (is_ended base64 rest) (eqb (slice_index rest 0) 34) (string_len Plain (drop 1 rest)) (λ n. may_follow_string (drop (n + 1) rest)) (word_len (is_base64_word base64 rest) rest) (sym (first_token-shape base64 rest) ∙ none.0) in
          rw (← none.1) (ended_plainly base64 (eqb (length rest) 0) (begins_comment rest) ended)
      | inr some ↦
          let t = some.0 in
          let len = first_token_len base64 rest t (no_blank_behind bs) some.2 in
          let gap_len = prefix_len-le-length is_blank bs in
          let rest_len = length-drop gap bs in
          let after_len = length-drop t.len rest in
          let end : place + gap + t.len - place ≡ gap + t.len = omega arith in
          let more = tokens_in_order n _ (place + gap + t.len) (drop t.len rest) some.1 (omega arith) some.3 in
          rw (← some.4) (omega arith, omega arith, omega arith, rw (add-sub_cancel_left place gap) (blanks_in_front bs), rw (end, ← drop-drop t.len gap bs) more)
    ]

-- the tokens of a line lie from left to right, with only blanks between them
pub in_order : (place : ℕ) (line : List ℕ) (tokens : List Token) → tokens_of place line ≡ Ok tokens → LieInOrder place line tokens
unfolding tokens_of
in_order place line tokens e = tokens_in_order (suc (length line)) false place line tokens (omega arith) e
