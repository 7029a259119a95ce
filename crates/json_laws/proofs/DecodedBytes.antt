-- What base64 decodes to are bytes.
use Rattle.std.proofs.Common.{◌≡◌, ℕ, zero, suc, ◌+◌, ◌*◌, ◌/◌, ◌%◌, ◌<◌, Bool, true, false, cond, eqb, ltb, List, [], ◌∷◌, length, drop, slice_index, slice_set, Option, Some, None, Result, Ok, Err, refl, subst, arith, inl, inr, ◌⊎◌}
use Rattle.std.proofs.Math.ListN.{get_or-eq_default}
use Rattle.std.proofs.lemmas.Bool.{cases_eq, cases_lt, eq-eqb}
use Rattle.std.proofs.lemmas.List.{get_or-set_same, get_or-set_other, set_past}
use Rattle.std.proofs.lemmas.List.Elements.{All-nil, All-cons, All-append, All-take}
use Rattle.base64.specs.declared.decode.DecodeError.{DecodeError}
use Rattle.base64.specs.declared.decode.DecodeError.TheVariants.{InvalidByte}
use Rattle.base64.specs.Decode.{decode_error, decode_group, decode_outcome, decoded_bytes, group_bytes, group_error, groups_before_last, groups_bytes, groups_error, lone_error, no_leftover, or_else, push_leftover, scan, scan_bytes, scan_steps, suffix_bytes, symbol_error}
use Rattle.base64.specs.declared.engine.DecodePaddingMode.{DecodePaddingMode}
use Rattle.base64.specs.Engines.{standard, standard_no_pad}
use Rattle.base64.specs.GeneralPurpose.{decode_of}
use Rattle.base64.proofs.Tables.{IsDecodeTable_from, are_tables_inverse}
use Rattle.avm_rule_laws.specs.Rules.{AreBytes}

-- a table that has, of each number, the value of a symbol or 255
abbrev IsTable : List ℕ → Type 0
IsTable dec = (x : ℕ) → (slice_index dec x ≡ 255) ⊎ (slice_index dec x < 64)

standard_table : IsTable standard.decode_table
standard_table x =
    elim (cases_lt x 256) [
      | inl lt ↦ IsDecodeTable_from standard.encode_table standard.decode_table (are_tables_inverse standard.encode_table standard.decode_table 61 standard.tables) x lt
      | inr le ↦ let none : slice_index standard.decode_table x ≡ 0 = get_or-eq_default standard.decode_table 0 le in inr (omega (arith, none))
    ]

-- ---- groups of four

no_first : (x y : Option DecodeError) → or_else x y ≡ None → (x ≡ None) × (y ≡ None)
no_first None y e = (refl, e)
no_first (Some d) y e = absurd cc

known_symbol : (dec s : List ℕ) (i : ℕ) → IsTable dec → symbol_error dec s i ≡ None → slice_index dec (slice_index s i) < 64
known_symbol dec s i table e =
    elim (table (slice_index s i)) [
      | inl bad ↦ let error : symbol_error dec s i ≡ Some (InvalidByte i (slice_index s i)) = rw (eq-eqb (slice_index dec (slice_index s i)) 255 bad) refl in absurd cc
      | inr small ↦ small
    ]

group_are_bytes : (a b c d : ℕ) → a < 64 → b < 64 → c < 64 → d < 64 → AreBytes (decode_group a b c d)
group_are_bytes a b c d ha hb hc hd =
    All-cons (λ x. x < 256) (a * 4 + b / 16) ((b % 16 * 16 + c / 4) ∷ (c % 4 * 64 + d) ∷ []) (omega arith) (All-cons (λ x. x < 256) (b % 16 * 16 + c / 4) ((c % 4 * 64 + d) ∷ []) (omega arith) (All-cons (λ x. x < 256) (c % 4 * 64 + d) [] (omega arith) (All-nil (λ x. x < 256))))

one_group : (dec s : List ℕ) (i : ℕ) → IsTable dec → group_error dec s i ≡ None → AreBytes (group_bytes dec s i)
one_group dec s i table e =
    let a = no_first (symbol_error dec s i) _ e in
    let b = no_first (symbol_error dec s (i + 1)) _ a.1 in
    let c = no_first (symbol_error dec s (i + 2)) _ b.1 in
    group_are_bytes _ _ _ _ (known_symbol dec s i table a.0) (known_symbol dec s (i + 1) table b.0) (known_symbol dec s (i + 2) table c.0) (known_symbol dec s (i + 3) table c.1)

groups_are_bytes : (dec s : List ℕ) (q : ℕ) → IsTable dec → groups_error dec s q ≡ None → AreBytes (groups_bytes dec s q)
unfolding groups_error groups_bytes
groups_are_bytes dec s zero table e = All-nil (λ x. x < 256)
groups_are_bytes dec s (suc q) table e =
    let parts = no_first (groups_error dec s q) (group_error dec s (4 * q)) e in
    All-append (λ x. x < 256) (groups_bytes dec s q) (group_bytes dec s (4 * q)) (groups_are_bytes dec s q table parts.0) (one_group dec s (4 * q) table parts.1)

-- ---- the last symbols

-- The type of a value: a name for a type that its crate does not export by name.
abbrev TypeOf : {A : Type 0} → A → Type 0
TypeOf {A = A} x = A

-- what is left of the symbols of a last group
abbrev Leftover : Type 0
Leftover = TypeOf no_leftover

-- each of them has six bits
abbrev AreSmall : Leftover → Type 0
AreSmall st = (k : ℕ) → slice_index st.morsels k < 64

set_small : (xs : List ℕ) (i v : ℕ) → ((j : ℕ) → slice_index xs j < 64) → v < 64 → (k : ℕ) → slice_index (slice_set xs i v) k < 64
set_small xs i v all small k =
    elim (cases_eq k i) [
      | inl same ↦ elim (cases_lt i (length xs)) [
        | inl fits ↦ rw (same, get_or-set_same xs i v 0 fits) small
        | inr past ↦ rw (set_past xs i v past) (all k)
      ]
      | inr other ↦ rw (get_or-set_other xs i k v 0 other) (all k)
    ]

-- the same of what a step leads to
abbrev OnState : Result Leftover DecodeError → Type 0
OnState (Ok st) = AreSmall st
OnState (Err e) = Unit {0}

push_small : (dec : List ℕ) (pad at : ℕ) (st : Leftover) (i b : ℕ) → IsTable dec → AreSmall st → OnState (push_leftover dec pad at st i b)
push_small dec pad at st i b table small = at_pad (eqb b pad) (ltb i 2) (ltb 0 st.padding_count) (eqb (slice_index dec b) 255) refl
  where
    at_pad : (p q r v : Bool) → eqb (slice_index dec b) 255 ≡ v
        → OnState (cond p (cond q (Err (InvalidByte (at + i) b)) (Ok (record st { first_padding_offset = cond (eqb st.padding_count 0) i st.first_padding_offset; padding_count = st.padding_count + 1 })))
        (cond r (Err (InvalidByte (at + st.first_padding_offset) pad)) (cond v (Err (InvalidByte (at + i) b)) (Ok (record st { morsels = slice_set st.morsels st.morsels_count (slice_index dec b); morsels_count = st.morsels_count + 1; last_symbol = b; last_symbol_value = slice_index dec b })))))
    at_pad true true r v is = tt
    at_pad true false r v is = small
    at_pad false q true v is = tt
    at_pad false q false true is = tt
    at_pad false q false false is =
        elim (table b) [
          | inl bad ↦ let test : eqb (slice_index dec b) 255 ≡ true = eq-eqb (slice_index dec b) 255 bad in absurd cc
          | inr fits ↦ set_small st.morsels st.morsels_count (slice_index dec b) small fits
        ]

steps_small : (dec : List ℕ) (pad at : ℕ) (r : Result Leftover DecodeError) (i : ℕ) (bs : List ℕ) → IsTable dec → OnState r → OnState (scan_steps dec pad at r i bs)
unfolding scan_steps
steps_small dec pad at (Err e) i bs table small = tt
steps_small dec pad at (Ok st) i [] table small = small
steps_small dec pad at (Ok st) i (b ∷ bs) table small = steps_small dec pad at (push_leftover dec pad at st i b) (i + 1) bs table (push_small dec pad at st i b table small)

none_small : AreSmall no_leftover
none_small zero = omega arith
none_small (suc zero) = omega arith
none_small (suc (suc zero)) = omega arith
none_small (suc (suc (suc zero))) = omega arith
none_small (suc (suc (suc (suc k)))) = omega arith

state_bytes : (r : Result Leftover DecodeError) → OnState r → AreBytes (scan_bytes r)
state_bytes (Ok st) small =
    All-take (λ x. x < 256) (st.morsels_count * 6 / 8) (decode_group (slice_index st.morsels 0) (slice_index st.morsels 1) (slice_index st.morsels 2) (slice_index st.morsels 3))
    (group_are_bytes _ _ _ _ (small 0) (small 1) (small 2) (small 3))
state_bytes (Err e) small = All-nil (λ x. x < 256)

-- ---- all

outcome_ok : (error : Option DecodeError) (bytes b : List ℕ) → decode_outcome error bytes ≡ Ok b → (error ≡ None) × (bytes ≡ b)
outcome_ok None bytes b e = (refl, cc)
outcome_ok (Some x) bytes b e = absurd cc

decoded_bytes_are : (dec s : List ℕ) (pad : ℕ) (allow : Bool) (mode : DecodePaddingMode) (b : List ℕ) → IsTable dec → decode_outcome (decode_error dec pad allow mode s) (decoded_bytes dec pad s) ≡ Ok b → AreBytes b
decoded_bytes_are dec s pad allow mode b table e =
    let q = groups_before_last (length s) in
    let out = outcome_ok (decode_error dec pad allow mode s) (decoded_bytes dec pad s) b e in
    let behind_lone = no_first (lone_error dec pad s) _ out.0 in
    let groups = no_first (groups_error dec s q) _ behind_lone.1 in
    subst AreBytes out.1
    (All-append (λ x. x < 256) (groups_bytes dec s q) (suffix_bytes dec pad (4 * q) s) (groups_are_bytes dec s q table groups.0)
    (state_bytes (scan dec pad (4 * q) no_leftover 0 (drop (4 * q) s)) (steps_small dec pad (4 * q) (Ok no_leftover) 0 (drop (4 * q) s) table none_small)))

-- what base64 with padding decodes to is of bytes
pub decoded_are_bytes : (s b : List ℕ) → decode_of standard s ≡ Ok b → AreBytes b
decoded_are_bytes s b e = decoded_bytes_are standard.decode_table s 61 standard.config.decode_allow_trailing_bits standard.config.decode_padding_mode b standard_table e

-- the same without padding
pub unpadded_are_bytes : (s b : List ℕ) → decode_of standard_no_pad s ≡ Ok b → AreBytes b
unpadded_are_bytes s b e = decoded_bytes_are standard.decode_table s 61 standard_no_pad.config.decode_allow_trailing_bits standard_no_pad.config.decode_padding_mode b standard_table e
