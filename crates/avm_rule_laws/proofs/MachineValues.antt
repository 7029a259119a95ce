-- Values that a machine may have, and what rows compute of them.
use Rattle.std.proofs.Common.{◌≡◌, ℕ, zero, suc, ◌+◌, ◌-◌, ◌*◌, ◌/◌, ◌%◌, ◌^◌, ◌<◌, ◌≤◌, Bool, true, false, nat_lt, nat_le, if◌then◌else◌, List, [], ◌∷◌, ◌++◌, length, Ok, Err, refl, arith, get_or, take, drop, length-append, length-drop}
use Rattle.std.specs.Prelude.{◌==◌, ◌&&◌, replicate, slice_range, slice_set}
use Rattle.std.specs.List.{fold}
use Rattle.std.specs.Int.{byte_at, bytes_high_first}
use Rattle.std.specs.Int.Bits.{and_lt}
use Rattle.std.proofs.lemmas.Bool.{leb-true, ltb-true, eqb-false}
use Rattle.std.proofs.lemmas.List.{length-replicate, length-set, length-take}
use Rattle.std.proofs.lemmas.List.Elements.{All-nil, All-cons, All-head, All-tail, All-append, All-drop, All-replicate, All-set, All-take}
use Rattle.std.proofs.lemmas.Nat.{or_lt, pow_pos, xor_lt}
use Rattle.std.proofs.Math.Nat.{div-le_self, div-lt_iff_lt-mul, mod-lt, mul-le-mul}
use Rattle.teal_value.specs.declared.value.Value.{Value}
use Rattle.teal_value.specs.declared.value.Value.TheVariants.{Uint, Bytes}
use Rattle.teal_value.specs.declared.fault.Fault.{Fault}
use Rattle.teal_value.specs.declared.fault.Fault.TheVariants as fault
use Rattle.avm_cpu.specs.Machine.{most_bytes}
use Rattle.avm_ops.specs.Frame.{flag}
use Rattle.avm_ops.specs.Numbers.{sum_of, difference_of, product_of, quotient_of, remainder_of, bits_or, bits_and, bits_xor, inverted}
use Rattle.avm_ops.specs.ByteStrings.{big_endian, number_of_bytes, bytes_of_number, range_of, bit_of, with_bit, bit_count, bit_of_value, value_with_bit}
use Rattle.avm_ops.proofs.OperandValues.{OkOf}
use Rattle.avm_ops.proofs.WithBit.{with_bit_fits}
use Rattle.avm_rule_laws.specs.Rules.{AreBytes, IsMachineValue}

-- a number below 2^64
abbrev pub IsWord : ℕ → Type 0
IsWord n = n < 2 ^ 64

-- ---- numbers

below_by : (n : ℕ) (f : Fault) (b : Bool) → nat_lt n (2 ^ 64) ≡ b → OkOf IsWord (if b then Ok n else Err f)
below_by n f true e = ltb-true n (2 ^ 64) e
below_by n f false e = tt

-- the sum of two numbers below 2^64 is below 2^64, where it doesn't fault
pub sum_fits : (a b : ℕ) → IsWord a → IsWord b → OkOf IsWord (sum_of a b)
sum_fits a b p q = below_by (a + b) fault.Overflow (nat_lt (a + b) (2 ^ 64)) refl

pub product_fits : (a b : ℕ) → IsWord a → IsWord b → OkOf IsWord (product_of a b)
product_fits a b p q = below_by (a * b) fault.Overflow (nat_lt (a * b) (2 ^ 64)) refl

ok_if : (n : ℕ) (f : Fault) (b : Bool) → IsWord n → OkOf IsWord (if b then Ok n else Err f)
ok_if n f true h = h
ok_if n f false h = tt

err_if : (n : ℕ) (f : Fault) (b : Bool) → IsWord n → OkOf IsWord (if b then Err f else Ok n)
err_if n f true h = tt
err_if n f false h = h

pub difference_fits : (a b : ℕ) → IsWord a → IsWord b → OkOf IsWord (difference_of a b)
difference_fits a b p q = ok_if (a - b) fault.Negative (nat_le b a) (omega (arith, p))

pub quotient_fits : (a b : ℕ) → IsWord a → IsWord b → OkOf IsWord (quotient_of a b)
quotient_fits a b p q = err_if (a / b) fault.DivZero (b == 0) (let less = div-le_self a b in omega (arith, p, less))

rest_by : (a b : ℕ) → IsWord b → (z : Bool) → (b == 0) ≡ z → OkOf IsWord (if z then Err fault.DivZero else Ok (a % b))
rest_by a b q true e = tt
rest_by a b q false e =
    let not : b ≡ 0 → ⊥ = eqb-false b 0 e in
    let some : 0 < b = omega (arith, not) in
    let less = mod-lt a some in
    omega (arith, q, less)

pub remainder_fits : (a b : ℕ) → IsWord a → IsWord b → OkOf IsWord (remainder_of a b)
remainder_fits a b p q = rest_by a b q (b == 0) refl

pub or_fits : (a b : ℕ) → IsWord a → IsWord b → OkOf IsWord (bits_or a b)
or_fits a b p q = or_lt 64 a b p q

pub and_fits : (a b : ℕ) → IsWord a → IsWord b → OkOf IsWord (bits_and a b)
and_fits a b p q = and_lt 64 a b p q

pub xor_fits : (a b : ℕ) → IsWord a → IsWord b → OkOf IsWord (bits_xor a b)
xor_fits a b p q = xor_lt 64 a b p q

-- the high half of a number below 2^128 is below 2^64
pub high_fits : (n : ℕ) → n < 2 ^ 64 * 2 ^ 64 → IsWord (n / 2 ^ 64)
high_fits n below = (div-lt_iff_lt-mul {k = 2 ^ 64} {x = n} {y = 2 ^ 64} (pow_pos 64)).1 below

pub low_fits : (n : ℕ) → IsWord (n % 2 ^ 64)
low_fits n = mod-lt n (pow_pos 64)

pub wide_product_fits : (a b : ℕ) → IsWord a → IsWord b → a * b < 2 ^ 64 * 2 ^ 64
wide_product_fits a b p q =
    let most : a * b ≤ (2 ^ 64 - 1) * (2 ^ 64 - 1) = mul-le-mul {n₁ = a} {m₁ = b} {n₂ = 2 ^ 64 - 1} {m₂ = 2 ^ 64 - 1} (omega (arith, p)) (omega (arith, q)) in
    omega (arith, most)

pub wide_sum_fits : (a b : ℕ) → IsWord a → IsWord b → a + b < 2 ^ 64 * 2 ^ 64
wide_sum_fits a b p q = omega (arith, p, q)

pub flag_fits : (b : Bool) → IsMachineValue (flag b)
flag_fits true = omega arith
flag_fits false = omega arith

pub inverted_fits : (a : ℕ) → IsWord a → IsMachineValue (inverted a)
inverted_fits a p = omega arith

-- ---- byte strings

byte_fits : (i n : ℕ) → byte_at i n < 256
byte_fits zero n = mod-lt n (omega arith)
byte_fits (suc i) n = mod-lt (n / 256 ^ suc i) (omega arith)

-- the bytes of a number, highest first, are below 256
pub high_first_fits : (k n : ℕ) → AreBytes (bytes_high_first k n)
high_first_fits zero n = All-nil (λ b. b < 256)
high_first_fits (suc k) n = All-cons (λ b. b < 256) (byte_at k n) (bytes_high_first k n) (byte_fits k n) (high_first_fits k n)

pub number_bytes_fit : (n : ℕ) → IsWord n → IsMachineValue (bytes_of_number n)
number_bytes_fit n p = (omega arith, high_first_fits 8 n)

-- so many digits more
scale : ℕ → ℕ → ℕ
scale m zero = m
scale m (suc k) = scale (256 * m) k

fold_below : (s : List ℕ) (n m : ℕ) → n < m → AreBytes s → fold (λ n b. 256 * n + b) n s < scale m (length s)
unfolding scale
fold_below [] n m below all = below
fold_below (b ∷ s) n m below all =
    let digit = All-head (λ b. b < 256) b s all in
    fold_below s (256 * n + b) (256 * m) (omega (arith, below, digit)) (All-tail (λ b. b < 256) b s all)

eight_digits : (k : ℕ) → k ≤ 8 → scale 1 k ≤ 2 ^ 64
unfolding scale
eight_digits zero few = omega arith
eight_digits (suc zero) few = omega arith
eight_digits (suc (suc zero)) few = omega arith
eight_digits (suc (suc (suc zero))) few = omega arith
eight_digits (suc (suc (suc (suc zero)))) few = omega arith
eight_digits (suc (suc (suc (suc (suc zero))))) few = omega arith
eight_digits (suc (suc (suc (suc (suc (suc zero)))))) few = omega arith
eight_digits (suc (suc (suc (suc (suc (suc (suc zero))))))) few = omega arith
eight_digits (suc (suc (suc (suc (suc (suc (suc (suc zero)))))))) few = omega arith
eight_digits (suc (suc (suc (suc (suc (suc (suc (suc (suc k))))))))) few = absurd (omega (arith, few))

number_by : (s : List ℕ) → AreBytes s → (b : Bool) → nat_le (length s) 8 ≡ b → OkOf IsMachineValue (if b then Ok (Uint (big_endian s)) else Err fault.BtoiLength)
number_by s all true e = omega (arith, fold_below s 0 1 (omega arith) all, eight_digits (length s) (leb-true (length s) 8 e))
number_by s all false e = tt

pub number_fits : (s : List ℕ) → IsMachineValue (Bytes s) → OkOf IsMachineValue (number_of_bytes s)
number_fits s h = number_by s h.1 (nat_le (length s) 8) refl

pub joined_fits : (s t : List ℕ) → nat_le (length s + length t) most_bytes ≡ true → IsMachineValue (Bytes s) → IsMachineValue (Bytes t) → IsMachineValue (Bytes (s ++ t))
joined_fits s t few h g =
    (omega (arith, length-append s t, leb-true (length s + length t) most_bytes few), All-append (λ b. b < 256) s t h.1 g.1)

part_shorter : (n m : ℕ) (s : List ℕ) → length (take n (drop m s)) ≤ length s
part_shorter n m s = omega (arith, length-take n (drop m s), length-drop m s)

pub part_fits : (s : List ℕ) (a b : ℕ) → IsMachineValue (Bytes s) → IsMachineValue (Bytes (slice_range s a b))
part_fits s a b h = (
  let short : length (take (b - a) (drop a s)) ≤ length s = part_shorter (b - a) a s in omega (arith, short, h.0),
  All-take (λ b. b < 256) (b - a) (drop a s) (All-drop (λ b. b < 256) a s h.1),
)

range_by : (s : List ℕ) (a b : ℕ) (t : Bool) → IsMachineValue (Bytes s) → OkOf IsMachineValue (if t then Ok (Bytes (slice_range s a b)) else Err fault.Range)
range_by s a b true h = part_fits s a b h
range_by s a b false h = tt

pub range_fits : (s : List ℕ) (a b : ℕ) → IsMachineValue (Bytes s) → OkOf IsMachineValue (range_of s a b)
range_fits s a b h = range_by s a b (nat_le a b && nat_le b (length s)) h

-- also behind the end, where it is 0
pub byte_at_fits : (s : List ℕ) (i : ℕ) → AreBytes s → get_or s i 0 < 256
byte_at_fits [] i all = omega arith
byte_at_fits (b ∷ s) zero all = All-head (λ b. b < 256) b s all
byte_at_fits (b ∷ s) (suc i) all = byte_at_fits s i (All-tail (λ b. b < 256) b s all)

pub with_byte_fits : (s : List ℕ) (i b : ℕ) → b < 256 → IsMachineValue (Bytes s) → IsMachineValue (Bytes (slice_set s i b))
with_byte_fits s i b small h = (omega (arith, length-set s i b, h.0), All-set (λ b. b < 256) s i b small h.1)

bit_fits : (n k : ℕ) → bit_of n k < 2
bit_fits n k = mod-lt (n / 2 ^ k) (omega arith)

pub bit_value_fits : (v : Value) (k : ℕ) → IsWord (bit_of_value v k)
bit_value_fits (Uint n) k = omega (arith, bit_fits n k)
bit_value_fits (Bytes s) k = omega (arith, bit_fits (get_or s (k / 8) 0) (7 - k % 8))

pub with_bit_value_fits : (v : Value) (k bit : ℕ) → k < bit_count v → bit < 2 → IsMachineValue v → IsMachineValue (value_with_bit v k bit)
with_bit_value_fits (Uint n) k bit inside small h = with_bit_fits 64 k n bit inside h small
with_bit_value_fits (Bytes s) k bit inside small h =
    with_byte_fits s (k / 8) (with_bit (get_or s (k / 8) 0) (7 - k % 8) bit) (with_bit_fits 8 (7 - k % 8) (get_or s (k / 8) 0) bit (omega arith) (byte_at_fits s (k / 8) h.1) small) h

-- a list of so many zeros
pub zeros_fit : (n : ℕ) → n < 2 ^ 64 → IsMachineValue (Bytes (replicate n 0))
zeros_fit n below = (omega (arith, length-replicate {A = ℕ} n 0, below), All-replicate (λ b. b < 256) n 0 (omega arith))
