-- Values read from bytes are in their range.
use Rattle.std.proofs.Common.{◌≡◌, subst, ℕ, zero, suc, ◌<◌, ◌≤◌, ◌^◌, ltb, List, [], ◌∷◌, length, take, drop, Ok, inl, inr, arith}
use Rattle.std.proofs.lemmas.Bool.{ltb-true}
use Rattle.base64.specs.GeneralPurpose.{IsBytes}
use Rattle.teal_value.proofs.Binding.{bind_ok, chosen}
use Rattle.teal_code.specs.Reader.{byte_at, digits_at, varuint_at, string_at, many_at, counted_at}
use Rattle.teal_code.proofs.Reading.{same_value}
use Rattle.teal_laws.specs.Listed.{AreUints, AreStrings}

-- every element is a byte
abbrev pub AreBytes : List ℕ → Type 0
AreBytes [] = Unit {0}
AreBytes (b ∷ bs) = (b < 256) × AreBytes bs

-- a list whose elements are bytes, one after another, has a byte at each index
pub each_is : (bs : List ℕ) → AreBytes bs → IsBytes bs
each_is [] h i = omega arith
each_is (b ∷ bs) h zero = h.0
each_is (b ∷ bs) h (suc i) = each_is bs h.1 i

pub are_each : (bs : List ℕ) → IsBytes bs → AreBytes bs
are_each [] h = tt
are_each (b ∷ bs) h = (h 0, are_each bs (λ i. h (suc i)))

pub bytes_behind : (n : ℕ) (bs : List ℕ) → AreBytes bs → AreBytes (drop n bs)
bytes_behind zero bs h = h
bytes_behind (suc n) [] h = tt
bytes_behind (suc n) (b ∷ bs) h = bytes_behind n bs h.1

bytes_before : (n : ℕ) (bs : List ℕ) → AreBytes bs → AreBytes (take n bs)
bytes_before zero bs h = tt
bytes_before (suc n) [] h = tt
bytes_before (suc n) (b ∷ bs) h = (h.0, bytes_before n bs h.1)

-- a value that is read from bytes is in its range, and what is left are bytes
pub byte_read : (bytes : List ℕ) (b : ℕ) (rest : List ℕ) → byte_at bytes ≡ Ok (b, rest) → AreBytes bytes → (b ≤ 255) × AreBytes rest
byte_read [] b rest e h = absurd cc
byte_read (c ∷ bytes) b rest e h =
    let same = same_value e in
    (omega (arith, same.0, h.0), subst AreBytes same.1 h.1)

digits_read : (room : ℕ) (bytes : List ℕ) (n : ℕ) (rest : List ℕ) → digits_at room bytes ≡ Ok (n, rest) → AreBytes bytes → AreBytes rest
digits_read zero bytes n rest e h = absurd cc
digits_read (suc room) [] n rest e h = absurd cc
digits_read (suc room) (b ∷ bs) n rest e h =
    elim (chosen (ltb b 128) _ _ _ e) [
      | inl (low, one) ↦ subst AreBytes (same_value one).1 h.1
      | inr (high, more) ↦
          let (x, first, last) = bind_ok (digits_at room bs) _ _ more in
          subst AreBytes (same_value last).1 (digits_read room bs x.0 x.1 first h.1)
    ]

pub varuint_read : (bytes : List ℕ) (n : ℕ) (rest : List ℕ) → varuint_at bytes ≡ Ok (n, rest) → AreBytes bytes → (n < 2 ^ 64) × AreBytes rest
varuint_read bytes n rest e h =
    let (x, first, last) = bind_ok (digits_at 10 bytes) _ _ e in
    elim (chosen (ltb x.0 (2 ^ 64)) _ _ _ last) [
      | inl (small, one) ↦
          let same = same_value one in
          (omega (arith, same.0, ltb-true x.0 (2 ^ 64) small), subst AreBytes same.1 (digits_read 10 bytes x.0 x.1 first h))
      | inr (large, bad) ↦ absurd cc
    ]

pub string_read : (bytes s rest : List ℕ) → string_at bytes ≡ Ok (s, rest) → AreBytes bytes → IsBytes s × AreBytes rest
string_read bytes s rest e h =
    let (n, first, last) = bind_ok (varuint_at bytes) _ _ e in
    let behind = (varuint_read bytes n.0 n.1 first h).1 in
    elim (chosen (ltb (length n.1) n.0) _ _ _ last) [
      | inl (short, bad) ↦ absurd cc
      | inr (long, one) ↦
          let same = same_value one in
          (subst IsBytes same.0 (each_is (take n.0 n.1) (bytes_before n.0 n.1 behind)), subst AreBytes same.1 (bytes_behind n.0 n.1 behind))
    ]

uints_read : (count : ℕ) (bytes ns rest : List ℕ) → many_at varuint_at count bytes ≡ Ok (ns, rest) → AreBytes bytes → AreUints ns
uints_read zero bytes ns rest e h = subst AreUints (same_value e).0 tt
uints_read (suc count) bytes ns rest e h =
    let (n, first, others) = bind_ok (varuint_at bytes) _ _ e in
    let (ms, more, last) = bind_ok (many_at varuint_at count n.1) _ _ others in
    let read = varuint_read bytes n.0 n.1 first h in
    subst AreUints (same_value last).0 (read.0, uints_read count n.1 ms.0 ms.1 more read.1)

strings_read : (count : ℕ) (bytes : List ℕ) (ss : List (List ℕ)) (rest : List ℕ) → many_at string_at count bytes ≡ Ok (ss, rest) → AreBytes bytes → AreStrings ss
strings_read zero bytes ss rest e h = subst AreStrings (same_value e).0 tt
strings_read (suc count) bytes ss rest e h =
    let (s, first, others) = bind_ok (string_at bytes) _ _ e in
    let (ts, more, last) = bind_ok (many_at string_at count s.1) _ _ others in
    let read = string_read bytes s.0 s.1 first h in
    subst AreStrings (same_value last).0 (read.0, strings_read count s.1 ts.0 ts.1 more read.1)

-- values that are read from bytes behind their count are in their range
pub counted_uints : (bytes ns rest : List ℕ) → counted_at varuint_at bytes ≡ Ok (ns, rest) → AreBytes bytes → AreUints ns
counted_uints bytes ns rest e h =
    let (n, first, last) = bind_ok (varuint_at bytes) _ _ e in
    uints_read n.0 n.1 ns rest last (varuint_read bytes n.0 n.1 first h).1

pub counted_strings : (bytes : List ℕ) (ss : List (List ℕ)) (rest : List ℕ) → counted_at string_at bytes ≡ Ok (ss, rest) → AreBytes bytes → AreStrings ss
counted_strings bytes ss rest e h =
    let (n, first, last) = bind_ok (varuint_at bytes) _ _ e in
    strings_read n.0 n.1 ss rest last (varuint_read bytes n.0 n.1 first h).1
