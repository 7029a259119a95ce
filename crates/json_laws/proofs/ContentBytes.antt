-- The content of a string in a text of bytes is of bytes.
use Rattle.std.proofs.Common.{◌≡◌, ℕ, ◌+◌, ◌*◌, ◌/◌, ◌%◌, ◌<◌, Bool, true, false, cond, eqb, ltb, leb, ◌&&◌, List, [], ◌∷◌, ◌++◌, Option, Some, None, refl, subst, arith, inl, inr}
use Rattle.std.specs.Prelude.{◌||◌, option_and_then}
use Rattle.std.specs.Char.{digit_value, encode_utf8, is_digit}
use Rattle.std.proofs.lemmas.Bool.{and_parts, ltb-true}
use Rattle.std.proofs.lemmas.List.Elements.{All-nil, All-cons, All-append, All-head, All-tail}
use Rattle.teal_value.proofs.Binding.{chosen}
use Rattle.avm_rule_laws.specs.Rules.{AreBytes}
use Rattle.json.specs.Text.{Within, plain, after_backslash, after_u, after_high, code_unit, content, is_high_surrogate, is_low_surrogate, prepend, short_escape, surrogate_pair}

next_small : (c : ℕ) → 128 + c % 64 < 256
next_small c = omega arith

utf8_are : (c : ℕ) → c < 4194304 → AreBytes (encode_utf8 c)
unfolding encode_utf8
utf8_are c h = by (ltb c 128) (ltb c 2048) (ltb c 65536) refl refl refl
  where
    by : (p q r : Bool) → ltb c 128 ≡ p → ltb c 2048 ≡ q → ltb c 65536 ≡ r
        → AreBytes (cond p (c ∷ []) (cond q ((192 + c / 64) ∷ (128 + c % 64) ∷ []) (cond r ((224 + c / 4096) ∷ (128 + c / 64 % 64) ∷ (128 + c % 64) ∷ []) ((240 + c / 262144) ∷ (128 + c / 4096 % 64) ∷ (128 + c / 64 % 64) ∷ (128 + c % 64) ∷ []))))
    by true q r is1 is2 is3 = All-cons (λ x. x < 256) c [] (omega (arith, ltb-true c 128 is1)) (All-nil (λ x. x < 256))
    by false true r is1 is2 is3 = All-cons (λ x. x < 256) (192 + c / 64) ((128 + c % 64) ∷ []) (omega (arith, ltb-true c 2048 is2)) (All-cons (λ x. x < 256) (128 + c % 64) [] (next_small c) (All-nil (λ x. x < 256)))
    by false false true is1 is2 is3 =
        All-cons (λ x. x < 256) (224 + c / 4096) ((128 + c / 64 % 64) ∷ (128 + c % 64) ∷ []) (omega (arith, ltb-true c 65536 is3))
        (All-cons (λ x. x < 256) (128 + c / 64 % 64) ((128 + c % 64) ∷ []) (next_small (c / 64)) (All-cons (λ x. x < 256) (128 + c % 64) [] (next_small c) (All-nil (λ x. x < 256))))
    by false false false is1 is2 is3 =
        All-cons (λ x. x < 256) (240 + c / 262144) ((128 + c / 4096 % 64) ∷ (128 + c / 64 % 64) ∷ (128 + c % 64) ∷ []) (omega arith)
        (All-cons (λ x. x < 256) (128 + c / 4096 % 64) ((128 + c / 64 % 64) ∷ (128 + c % 64) ∷ []) (next_small (c / 4096))
        (All-cons (λ x. x < 256) (128 + c / 64 % 64) ((128 + c % 64) ∷ []) (next_small (c / 64)) (All-cons (λ x. x < 256) (128 + c % 64) [] (next_small c) (All-nil (λ x. x < 256)))))

unit_small : (a b c d u : ℕ) → code_unit a b c d ≡ Some u → u < 65536
unfolding code_unit
unit_small a b c d u e =
    elim (chosen (is_digit a 16 && is_digit b 16 && is_digit c 16 && is_digit d 16) _ _ _ e) [
      | inl (digits, one) ↦
          let three = and_parts (is_digit a 16 && is_digit b 16 && is_digit c 16) (is_digit d 16) digits in
          let two = and_parts (is_digit a 16 && is_digit b 16) (is_digit c 16) three.0 in
          let first = and_parts (is_digit a 16) (is_digit b 16) two.0 in
          let same : digit_value a * 4096 + digit_value b * 256 + digit_value c * 16 + digit_value d ≡ u = cc in
          omega (arith, same, ltb-true (digit_value a) 16 first.0, ltb-true (digit_value b) 16 first.1, ltb-true (digit_value c) 16 two.1, ltb-true (digit_value d) 16 three.1)
      | inr (other, none) ↦ absurd cc
    ]

escape_small : (x c : ℕ) → x < 256 → short_escape x ≡ Some c → c < 256
unfolding short_escape
escape_small x c h e =
    elim (chosen ((eqb x 34 || eqb x 92) || eqb x 47) _ _ _ e) [
      | inl (a, one) ↦ let same : x ≡ c = cc in omega (arith, h, same)
      | inr (n, e1) ↦ elim (chosen (eqb x 98) _ _ _ e1) [
        | inl (a, one) ↦ let same : 8 ≡ c = cc in omega (arith, same)
        | inr (n, e2) ↦ elim (chosen (eqb x 102) _ _ _ e2) [
          | inl (a, one) ↦ let same : 12 ≡ c = cc in omega (arith, same)
          | inr (n, e3) ↦ elim (chosen (eqb x 110) _ _ _ e3) [
            | inl (a, one) ↦ let same : 10 ≡ c = cc in omega (arith, same)
            | inr (n, e4) ↦ elim (chosen (eqb x 114) _ _ _ e4) [
              | inl (a, one) ↦ let same : 13 ≡ c = cc in omega (arith, same)
              | inr (n, e5) ↦ elim (chosen (eqb x 116) _ _ _ e5) [
                | inl (a, one) ↦ let same : 9 ≡ c = cc in omega (arith, same)
                | inr (n, none) ↦ absurd cc
              ]
            ]
          ]
        ]
      ]
    ]

prepended : (front : List ℕ) (r : Option (List ℕ)) (s : List ℕ) → AreBytes front → ((t : List ℕ) → r ≡ Some t → AreBytes t) → prepend front r ≡ Some s → AreBytes s
prepended front None s all more e = absurd cc
prepended front (Some t) s all more e = let same : front ++ t ≡ s = cc in subst AreBytes same (All-append (λ x. x < 256) front t all (more t refl))

one : (x : ℕ) → x < 256 → AreBytes (x ∷ [])
one x h = All-cons (λ y. y < 256) x [] h (All-nil (λ y. y < 256))

-- what a reader of content gives
abbrev pub GivesBytes : Option (List ℕ) → Type 0
GivesBytes r = (s : List ℕ) → r ≡ Some s → AreBytes s

plain_step : (x : ℕ) (escaped more : Option (List ℕ)) → x < 256 → GivesBytes escaped → GivesBytes more → GivesBytes (cond (eqb x 34) (Some []) (cond (eqb x 92) escaped (cond (ltb x 32) None (prepend (x ∷ []) more))))
plain_step x escaped more small h k s e =
    elim (chosen (eqb x 34) _ _ _ e) [
      | inl (a, end) ↦ let same : [] ≡ s = cc in subst AreBytes same (All-nil (λ y. y < 256))
      | inr (n, e1) ↦ elim (chosen (eqb x 92) _ _ _ e1) [
        | inl (b, e2) ↦ h s e2
        | inr (m, e2) ↦ elim (chosen (ltb x 32) _ _ _ e2) [
          | inl (c, none) ↦ absurd cc
          | inr (l, e3) ↦ prepended (x ∷ []) more s (one x small) k e3
        ]
      ]
    ]

escape_made : (x : ℕ) (o : Option ℕ) (more : Option (List ℕ)) → ((c : ℕ) → o ≡ Some c → c < 256) → GivesBytes more → GivesBytes (option_and_then (λ c. prepend (c ∷ []) more) o)
escape_made x None more small k s e = absurd cc
escape_made x (Some c) more small k s e = prepended (c ∷ []) more s (one c (small c refl)) k e

escape_step : (x : ℕ) (unicode more : Option (List ℕ)) → x < 256 → GivesBytes unicode → GivesBytes more → GivesBytes (cond (eqb x 117) unicode (option_and_then (λ c. prepend (c ∷ []) more) (short_escape x)))
escape_step x unicode more small h k s e =
    elim (chosen (eqb x 117) _ _ _ e) [
      | inl (a, e1) ↦ h s e1
      | inr (n, e1) ↦ escape_made x (short_escape x) more (λ c is. escape_small x c small is) k s e1
    ]

unit_made : (o : Option ℕ) (pair : ℕ → Option (List ℕ)) (more : Option (List ℕ)) → ((u : ℕ) → o ≡ Some u → u < 65536) → ((u : ℕ) → u < 56320 → GivesBytes (pair u)) → GivesBytes more
    → GivesBytes (option_and_then (λ u. cond (is_high_surrogate u) (pair u) (cond (is_low_surrogate u) None (prepend (encode_utf8 u) more))) o)
unit_made None pair more small h k s e = absurd cc
unit_made (Some u) pair more small h k s e =
    elim (chosen (is_high_surrogate u) _ _ _ e) [
      | inl (a, e1) ↦ h u (ltb-true u 56320 (and_parts (leb 55296 u) (ltb u 56320) a).1) s e1
      | inr (n, e1) ↦ elim (chosen (is_low_surrogate u) _ _ _ e1) [
        | inl (b, none) ↦ absurd cc
        | inr (m, e2) ↦ prepended (encode_utf8 u) more s (utf8_are u (omega (arith, small u refl))) k e2
      ]
    ]

pair_made : (high : ℕ) (o : Option ℕ) (more : Option (List ℕ)) → high < 56320 → ((u : ℕ) → o ≡ Some u → u < 65536) → GivesBytes more
    → GivesBytes (option_and_then (λ l. cond (is_low_surrogate l) (prepend (encode_utf8 (surrogate_pair high l)) more) None) o)
pair_made high None more low small k s e = absurd cc
pair_made high (Some l) more low small k s e =
    elim (chosen (is_low_surrogate l) _ _ _ e) [
      | inl (a, e1) ↦ prepended (encode_utf8 (surrogate_pair high l)) more s (utf8_are (surrogate_pair high l) (omega (arith, small l refl))) k e1
      | inr (n, none) ↦ absurd cc
    ]

pair_step : (high s0 u0 : ℕ) (o : Option ℕ) (more : Option (List ℕ)) → high < 56320 → ((u : ℕ) → o ≡ Some u → u < 65536) → GivesBytes more
    → GivesBytes (cond (eqb s0 92 && eqb u0 117) (option_and_then (λ l. cond (is_low_surrogate l) (prepend (encode_utf8 (surrogate_pair high l)) more) None) o) None)
pair_step high s0 u0 o more low small k s e =
    elim (chosen (eqb s0 92 && eqb u0 117) _ _ _ e) [
      | inl (a, e1) ↦ pair_made high o more low small k s e1
      | inr (n, none) ↦ absurd cc
    ]

-- where a reader of strings is: behind the first half of a surrogate pair, if any, which is below 0xDC00
abbrev pub IsBehindUnit : Within → Type 0
IsBehindUnit plain = Unit {0}
IsBehindUnit after_backslash = Unit {0}
IsBehindUnit after_u = Unit {0}
IsBehindUnit (after_high h) = h < 56320

behind : (x : ℕ) (xs : List ℕ) → AreBytes (x ∷ xs) → AreBytes xs
behind x xs all = All-tail (λ y. y < 256) x xs all

-- the content of a string in a text of bytes is of bytes
pub content_are : (w : Within) (xs : List ℕ) → IsBehindUnit w → AreBytes xs → GivesBytes (content w xs)
unfolding content
content_are plain [] h all s e = absurd cc
content_are plain (x ∷ xs) h all s e =
    plain_step x (content after_backslash xs) (content plain xs) (All-head (λ y. y < 256) x xs all) (content_are after_backslash xs tt (behind x xs all)) (content_are plain xs tt (behind x xs all)) s e
content_are after_backslash [] h all s e = absurd cc
content_are after_backslash (x ∷ xs) h all s e =
    escape_step x (content after_u xs) (content plain xs) (All-head (λ y. y < 256) x xs all) (content_are after_u xs tt (behind x xs all)) (content_are plain xs tt (behind x xs all)) s e
content_are after_u [] h all s e = absurd cc
content_are after_u (a ∷ []) h all s e = absurd cc
content_are after_u (a ∷ b ∷ []) h all s e = absurd cc
content_are after_u (a ∷ b ∷ c ∷ []) h all s e = absurd cc
content_are after_u (a ∷ b ∷ c ∷ d ∷ xs) h all s e =
    let rest = behind d xs (behind c (d ∷ xs) (behind b (c ∷ d ∷ xs) (behind a (b ∷ c ∷ d ∷ xs) all))) in
    unit_made (code_unit a b c d) (λ u. content (after_high u) xs) (content plain xs) (λ u is. unit_small a b c d u is) (λ u lt t et. content_are (after_high u) xs lt rest t et) (content_are plain xs tt rest) s e
content_are (after_high h) [] low all s e = absurd cc
content_are (after_high h) (s0 ∷ []) low all s e = absurd cc
content_are (after_high h) (s0 ∷ u ∷ []) low all s e = absurd cc
content_are (after_high h) (s0 ∷ u ∷ a ∷ []) low all s e = absurd cc
content_are (after_high h) (s0 ∷ u ∷ a ∷ b ∷ []) low all s e = absurd cc
content_are (after_high h) (s0 ∷ u ∷ a ∷ b ∷ c ∷ []) low all s e = absurd cc
content_are (after_high h) (s0 ∷ u ∷ a ∷ b ∷ c ∷ d ∷ xs) low all s e =
    let rest = behind d xs (behind c (d ∷ xs) (behind b (c ∷ d ∷ xs) (behind a (b ∷ c ∷ d ∷ xs) (behind u (a ∷ b ∷ c ∷ d ∷ xs) (behind s0 (u ∷ a ∷ b ∷ c ∷ d ∷ xs) all))))) in
    pair_step h s0 u (code_unit a b c d) (content plain xs) low (λ l is. unit_small a b c d l is) (content_are plain xs tt rest) s e
