-- A number with another bit has no more bits than before.
use Rattle.std.proofs.Common.{◌≡◌, ◌∙◌, ◌<◌, ◌≤◌, ◌+◌, ◌-◌, ◌*◌, ◌/◌, ◌%◌, ◌^◌, ℕ, sym, ap, arith}
use Rattle.std.proofs.Math.Nat.{div-add-mod, lt_of_mul-lt-mul_right, mod-lt, mul-le-mul, mul-add, mul_assoc, mul_comm}
use Rattle.std.proofs.lemmas.Nat.{pow-add, pow_pos}
use Rattle.avm_ops.specs.ByteStrings.{with_bit}

-- n is 2 s p + d p + r, with p the bit's unit, d the bit, and 2 h units in all
bound : (n p r w sp dp bp hp : ℕ) → n ≡ 2 * sp + dp + r → r < p → w ≡ 2 * hp → sp + p ≤ hp → bp ≤ p → n - dp + bp < w
bound n p r w sp dp bp hp whole small all room bit = omega arith

in_halves : (n p : ℕ) → n ≡ 2 * (n / p / 2 * p) + n / p % 2 * p + n % p
in_halves n p =
    let q = n / p in
    let halves : p * q ≡ p * (2 * (q / 2) + q % 2) = ap (λ x. p * x) (sym (div-add-mod q 2)) in
    let parts : p * (2 * (q / 2) + q % 2) ≡ p * (2 * (q / 2)) + p * (q % 2) = mul-add p (2 * (q / 2)) (q % 2) in
    let front : p * (2 * (q / 2)) ≡ 2 * (q / 2) * p = mul_comm p (2 * (q / 2)) in
    let inner : 2 * (q / 2) * p ≡ 2 * (q / 2 * p) = mul_assoc 2 (q / 2) p in
    let back : p * (q % 2) ≡ q % 2 * p = mul_comm p (q % 2) in
    omega (arith, div-add-mod n p, halves, parts, front, inner, back)

half_room : (n p h w : ℕ) → 0 < p → n < w → w ≡ 2 * (h * p) → n / p / 2 * p + p ≤ h * p
half_room n p h w positive below all =
    let s = n / p / 2 in
    let under : s * p < h * p = omega (arith, in_halves n p, below, all) in
    let less : s < h = lt_of_mul-lt-mul_right p under in
    let more : (s + 1) * p ≤ h * p = mul-le-mul {n₁ = s + 1} {m₁ = p} {n₂ = h} {m₂ = p} (omega (arith, less)) (omega arith) in
    let one : (s + 1) * p ≡ p * (s + 1) = mul_comm (s + 1) p in
    let split : p * (s + 1) ≡ p * s + p * 1 = mul-add p s 1 in
    let turned : p * s ≡ s * p = mul_comm p s in
    omega (arith, more, one, split, turned)

bit_room : (bit p : ℕ) → bit < 2 → bit * p ≤ p
bit_room bit p small = omega (arith, mul-le-mul {n₁ = bit} {m₁ = p} {n₂ = 1} {m₂ = p} (omega (arith, small)) (omega arith))

-- setting one of the w bits of a number leaves it below 2 ^ w
pub with_bit_fits : (w k n bit : ℕ) → k < w → n < 2 ^ w → bit < 2 → with_bit n k bit < 2 ^ w
with_bit_fits w k n bit place below small =
    let p = 2 ^ k in
    let h = 2 ^ (w - k - 1) in
    let exponent : w - k - 1 + 1 + k ≡ w = omega (arith, place) in
    let all : 2 ^ w ≡ 2 * (h * p) =
    ap (λ e. 2 ^ e) (sym exponent) ∙ pow-add 2 (w - k - 1 + 1) k ∙ ap (λ x. x * p) (pow-add 2 (w - k - 1) 1 ∙ mul_comm h 2) ∙ mul_assoc 2 h p in
    bound n p (n % p) (2 ^ w) (n / p / 2 * p) (n / p % 2 * p) (bit * p) (h * p) (in_halves n p) (mod-lt n (pow_pos k)) all
    (half_room n p h (2 ^ w) (pow_pos k) below all) (bit_room bit p small)
