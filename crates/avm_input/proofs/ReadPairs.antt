-- Pairs of digits, whose numbers are read one by one, and tested together by the greatest.
use Rattle.std.proofs.Common.{◌≡◌, ◌∙◌, ap, refl, sym, ℕ, zero, suc, ◌+◌, ◌-◌, ◌*◌, ◌<◌, ◌≤◌, Bool, true, false, List, [], ◌∷◌, length, slice_index, slice_set, Option, Some, None, Result, Ok, Err, arith, inl, inr}
use Rattle.std.specs.Prelude.{if◌then◌else◌, max, nat_lt}
use Rattle.std.specs.Option.{SomeIff}
use Rattle.std.specs.Result.{result_ok}
use Rattle.std.proofs.lemmas.Bool.{cases_lt}
use Rattle.std.proofs.lemmas.List.{get_or-set_other, get_or-set_same}
use Rattle.hex.specs.Hex.{decode_pairs, hex_digit_value, pair_value, ◌>>=◌}
use Rattle.hex.specs.declared.error.FromHexError.{FromHexError}
use Rattle.hex.specs.declared.error.FromHexError.TheVariants.{InvalidHexCharacter}
use Rattle.avm_input.specs.DigitPairs.{AreNumbers, AreRead, DigitsAreWritten, IsEncoded, byte_of}

-- a digit's value is below 16
small : (c v : ℕ) → hex_digit_value c ≡ Some v → v < 16
small c v h = grind (arith)

pair_read : (a b i high low : ℕ) → hex_digit_value a ≡ Some high → hex_digit_value b ≡ Some low → pair_value a b i ≡ Ok (high * 16 + low)
pair_read a b i high low first second = rw (first, second) refl

-- whatever a pair reads as, a refusal behind it is one of both
after_pair : (pair : Result ℕ FromHexError) {rest : Result (List ℕ) FromHexError} → ((e : FromHexError) × (rest ≡ Err e)) → (e : FromHexError) × ((pair >>= λ byte. rest >>= λ bytes. Ok (byte ∷ bytes)) ≡ Err e)
after_pair (Ok byte) (e, bad) = (e, rw bad refl)
after_pair (Err why) bad = (why, refl)

high_refused : (a b i : ℕ) → hex_digit_value a ≡ None → (e : FromHexError) × (pair_value a b i ≡ Err e)
high_refused a b i none = (InvalidHexCharacter a i, rw none refl)

low_refused : (a b i : ℕ) (o : Option ℕ) → hex_digit_value a ≡ o → hex_digit_value b ≡ None → (e : FromHexError) × (pair_value a b i ≡ Err e)
low_refused a b i (Some v) first none = (InvalidHexCharacter b (i + 1), rw (first, none) refl)
low_refused a b i None first none = high_refused a b i first

read_number : (o : Option ℕ) (number : ℕ) → SomeIff o (number < 16) number → number < 16 → o ≡ Some number
read_number (Some v) number (lt, e) few = ap Some e
read_number None number never few = absurd (never few)

read_none : (o : Option ℕ) (number : ℕ) → SomeIff o (number < 16) number → 16 ≤ number → o ≡ None
read_none (Some v) number (lt, e) many = absurd (omega (arith, lt, many))
read_none None number never many = refl

-- one number more
pub number_more : (digits numbers : List ℕ) (place i most number next : ℕ) → i < length numbers → SomeIff (hex_digit_value (slice_index digits (place + i))) (number < 16) number → next ≡ max most number
    → AreNumbers digits place i numbers most → AreNumbers digits place (i + 1) (slice_set numbers i number) next
number_more digits numbers place i most number next fits is greatest are = record {
  same = λ few k lt.
      elim (cases_lt k i) [
        | inl below ↦ are.same (omega (arith, few, greatest)) k below ∙ ap Some (sym (get_or-set_other numbers i k number 0 (λ e. absurd (omega (arith, e, below)))))
        | inr le ↦
            let e : k ≡ i = omega (arith, le, lt) in
            rw e (read_number _ number is (omega (arith, few, greatest)) ∙ ap Some (sym (get_or-set_same numbers i number 0 fits)))
      ];
  no_digit = λ many.
      elim (cases_lt number 16) [
        | inl below ↦ let (k, lt, none) = are.no_digit (omega (arith, many, greatest, below)) in (k, omega (arith, lt), none)
        | inr le ↦ (i, omega arith, read_none _ number is (omega (arith, le)))
      ];
}

-- one pair more
pub pair_more : (digits bytes : List ℕ) (i most high low next byte : ℕ) → i < length bytes → SomeIff (hex_digit_value (slice_index digits (2 * i))) (high < 16) high
    → SomeIff (hex_digit_value (slice_index digits (2 * i + 1))) (low < 16) low → next ≡ max (max most high) low → byte ≡ byte_of high low
    → AreRead digits bytes i most → AreRead digits (slice_set bytes i byte) (i + 1) next
pair_more digits bytes i most high low next byte room high-is low-is greatest byte-is are = record {
  read = λ few k lt.
      elim (cases_lt k i) [
        | inl below ↦ rw (get_or-set_other bytes i k byte 0 (λ e. absurd (omega (arith, e, below)))) (are.read (omega (arith, few, greatest)) k below)
        | inr le ↦
            let e : k ≡ i = omega (arith, le, lt) in
            let high-few : high < 16 = omega (arith, few, greatest) in
            let low-few : low < 16 = omega (arith, few, greatest) in
            rw e (high, low, read_number _ high high-is high-few, read_number _ low low-is low-few, get_or-set_same bytes i byte 0 room ∙ byte-is)
      ];
  no_digit = λ many.
      elim (cases_lt most 16) [
        | inl below ↦
            elim (cases_lt high 16) [
              | inl high-below ↦ (2 * i + 1, omega arith, read_none _ low low-is (omega (arith, many, greatest, below, high-below)))
              | inr le ↦ (2 * i, omega arith, read_none _ high high-is (omega (arith, le)))
            ]
        | inr le ↦ let (k, lt, none) = are.no_digit (omega (arith, le)) in (k, omega (arith, lt), none)
      ];
}

-- a byte of a block
read_there : (digits numbers bytes : List ℕ) (start most j : ℕ) → j < 32 → most < 16 → AreNumbers digits (2 * start) 64 numbers most
    → slice_index bytes (start + j) ≡ byte_of (slice_index numbers (2 * j)) (slice_index numbers (2 * j + 1)) → IsEncoded digits (start + j) (slice_index bytes (start + j))
read_there digits numbers bytes start most j lt few are e =
    let high : 2 * (start + j) ≡ 2 * start + 2 * j = omega arith in
    let low : 2 * (start + j) + 1 ≡ 2 * start + (2 * j + 1) = omega arith in (
      slice_index numbers (2 * j),
      slice_index numbers (2 * j + 1),
      ap (λ k. hex_digit_value (slice_index digits k)) high ∙ are.same few (2 * j) (omega (arith, lt)),
      ap (λ k. hex_digit_value (slice_index digits k)) low ∙ are.same few (2 * j + 1) (omega (arith, lt)),
      e,
    )

-- a block more, which may begin among the pairs that were read
pub block_more : (digits numbers old bytes : List ℕ) (start i before most next : ℕ) → start ≤ i → i ≤ start + 32 → AreNumbers digits (2 * start) 64 numbers most
    → DigitsAreWritten numbers old bytes start 32 → next ≡ max before most → AreRead digits old i before → AreRead digits bytes (start + 32) next
block_more digits numbers old bytes start i before most next begins ends are written greatest was = record {
  read = λ few k lt.
      elim (cases_lt k start) [
        | inl below ↦ rw (written.kept k below) (was.read (omega (arith, few, greatest)) k (omega (arith, below, begins)))
        | inr le ↦
            let j : ℕ = k - start in
            let there : start + j ≡ k = omega (arith, le) in
            let in_block : j < 32 = omega (arith, le, lt) in
            rw (← there) (read_there digits numbers bytes start most j in_block (omega (arith, few, greatest)) are (written.bytes_there j in_block))
      ];
  no_digit = λ many.
      elim (cases_lt most 16) [
        | inl below ↦ let (k, lt, none) = was.no_digit (omega (arith, many, greatest, below)) in (k, omega (arith, lt, ends), none)
        | inr le ↦ let (k, lt, none) = are.no_digit (omega (arith, le)) in (2 * start + k, omega (arith, lt), none)
      ];
}

-- at first no pair of digits is read
pub none_read : (digits bytes : List ℕ) → AreRead digits bytes 0 0
none_read digits bytes = record { read = λ few k lt. absurd (omega (arith, lt)); no_digit = λ many. absurd (omega (arith, many)) }

two_on : (a b : ℕ) (digits : List ℕ) (i k : ℕ) → i ≡ suc (suc k) → slice_index (a ∷ b ∷ digits) i ≡ slice_index digits k
two_on a b digits i k e = rw e refl

rest_encoded : (a b : ℕ) (digits : List ℕ) (k byte : ℕ) → IsEncoded (a ∷ b ∷ digits) (suc k) byte → IsEncoded digits k byte
rest_encoded a b digits k byte (high, low, first, second, e) = (
  high,
  low,
  ap hex_digit_value (sym (two_on a b digits (2 * suc k) (2 * k) (omega arith))) ∙ first,
  ap hex_digit_value (sym (two_on a b digits (2 * suc k + 1) (2 * k + 1) (omega arith))) ∙ second,
  e,
)

-- pairs of digits encode the bytes of their numbers
all_encoded : (place : ℕ) (digits bytes : List ℕ) → length digits ≡ 2 * length bytes → ((k : ℕ) → k < length bytes → IsEncoded digits k (slice_index bytes k)) → decode_pairs place digits ≡ Ok bytes
unfolding decode_pairs
all_encoded place [] [] len same = refl
all_encoded place [] (x ∷ bytes) len same = absurd (omega (arith, len))
all_encoded place (a ∷ []) bytes len same = absurd (omega (arith, len))
all_encoded place (a ∷ b ∷ digits) [] len same = absurd (omega (arith, len))
all_encoded place (a ∷ b ∷ digits) (x ∷ bytes) len same =
    let (high, low, first, second, e) = same 0 (omega arith) in
    let byte : high * 16 + low ≡ x = omega (arith, small a high first, small b low second, e) in
    let more = all_encoded (place + 2) digits bytes (omega (arith, len)) (λ k lt. rest_encoded a b digits k (slice_index bytes k) (same (suc k) (omega (arith, lt)))) in
    rw (pair_read a b place high low first second, more, byte) refl

-- a digit that is none is refused
bad_refused : (place n k : ℕ) (digits : List ℕ) → length digits ≡ 2 * n → k < 2 * n → hex_digit_value (slice_index digits k) ≡ None → (e : FromHexError) × (decode_pairs place digits ≡ Err e)
unfolding decode_pairs
bad_refused place zero k digits len lt none = absurd (omega (arith, lt))
bad_refused place (suc n) k [] len lt none = absurd (omega (arith, len))
bad_refused place (suc n) k (a ∷ []) len lt none = absurd (omega (arith, len))
bad_refused place (suc n) zero (a ∷ b ∷ digits) len lt none = let no = high_refused a b place none in (no.0, rw no.1 refl)
bad_refused place (suc n) (suc zero) (a ∷ b ∷ digits) len lt none = let no = low_refused a b place _ refl none in (no.0, rw no.1 refl)
bad_refused place (suc n) (suc (suc k)) (a ∷ b ∷ digits) len lt none =
    let more = bad_refused (place + 2) n k digits (omega (arith, len)) (omega (arith, lt)) none in
    after_pair (pair_value a b place) more

-- all pairs
pub all_read : (digits bytes : List ℕ) (i most : ℕ) (few : Bool) → length bytes ≡ i → length digits ≡ 2 * length bytes → few ≡ nat_lt most 16 → AreRead digits bytes i most
    → result_ok (decode_pairs 0 digits) ≡ (if few then Some bytes else None)
all_read digits bytes i most few end len few-is are =
    elim (cases_lt most 16) [
      | inl lt ↦
          let yes : nat_lt most 16 ≡ true = search (arith, lt) in
          rw (few-is, yes) (ap result_ok (all_encoded 0 digits bytes len (λ k below. are.read lt k (omega (arith, below, end)))))
      | inr le ↦
          let no : nat_lt most 16 ≡ false = search (arith, le) in
          let (k, lt, none) = are.no_digit (omega (arith, le)) in
          let bad = bad_refused 0 (length bytes) k digits len (omega (arith, lt, end)) none in
          rw (few-is, no) (ap result_ok bad.1)
    ]
