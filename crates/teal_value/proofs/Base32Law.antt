-- A text reads as bytes exactly where it is an encoding of them.
use Rattle.std.proofs.Common.{◌≡◌, ◌⊎◌, ℕ, zero, suc, ◌<◌, Bool, true, false, cond, eqb, List, [], ◌∷◌, ◌++◌, length, map, take, drop, codes, Ok, Err, refl, sym, ap, ◌∙◌, inl, inr, arith, rules}
use Rattle.std.specs.List.{AllByRecursion}
use Rattle.std.specs.Str.{bytes_eq}
use Rattle.std.proofs.Math.Bool.{or-true}
use Rattle.std.proofs.Math.Seq.{take-append_seam, drop-append_seam}
use Rattle.std.proofs.Math.ListN.{get_or-eq_default}
use Rattle.std.proofs.lemmas.List.{take-append-drop, append-nil, nil_from_length}
use Rattle.std.proofs.lemmas.List.Elements.{All-from_recursion, All-get_or}
use Rattle.std.proofs.lemmas.List.Folds.{length-prefix_len}
use Rattle.std.proofs.lemmas.Slice.Eq.{bytes_eq-Decides}
use Rattle.std.proofs.lemmas.Bool.{cases_lt, and_parts, or_cases}
use Rattle.std.proofs.lemmas.Bool.Decides.{nat_tests}
use Rattle.teal_value.specs.declared.base32.BadText.{BadText}
use Rattle.teal_value.specs.Base32.{symbol, groups, base32, padding, padding_len, IsBase32, IsBytes, is_symbol, group_of, bytes_of_digits, symbol_count, candidate, is_tail, base32_decoded}
use Rattle.teal_value.proofs.Base32Groups.{bytes_of-groups, groups_each}
use Rattle.teal_value.proofs.Base32Bytes.{bytes_each}

is_symbol-symbol : (v : ℕ) → v < 32 → is_symbol (symbol v) ≡ true
is_symbol-symbol v h = grind (arith, nat_tests)

group_of-symbol : (v : ℕ) → v < 32 → group_of (symbol v) ≡ v
group_of-symbol v h = grind (arith, nat_tests)

group_small : (c : ℕ) → group_of c < 32
group_small c = grind (arith, nat_tests)

count_symbols : (gs rest : List ℕ) → AllByRecursion (λ g. g < 32) gs → symbol_count rest ≡ 0 → symbol_count (map symbol gs ++ rest) ≡ length (map symbol gs)
count_symbols [] rest small none = none
count_symbols (g ∷ gs) rest small none =
    let more = count_symbols gs rest small.1 none in
    rw (is_symbol-symbol g small.0) (omega arith)

groups_back : (gs : List ℕ) → AllByRecursion (λ g. g < 32) gs → map group_of (map symbol gs) ≡ gs
groups_back [] small = refl
groups_back (g ∷ gs) small = rw (group_of-symbol g small.0, groups_back gs small.1) refl

groups_small : (cs : List ℕ) → AllByRecursion (λ g. g < 32) (map group_of cs)
groups_small [] = search rules
groups_small (c ∷ cs) = (group_small c, groups_small cs)

padding_count : (n : ℕ) → symbol_count (take n (codes "========")) ≡ 0
padding_count zero = refl
padding_count (suc n) = refl

equal : (xs : List ℕ) → bytes_eq xs xs ≡ true
equal xs = (bytes_eq-Decides xs xs).1 refl

read : (text front rest bytes : List ℕ) (n : ℕ) → symbol_count text ≡ n → take n text ≡ front → drop n text ≡ rest → bytes_of_digits (map group_of front) ≡ bytes → base32 bytes ≡ front → is_tail n rest ≡ true
    → base32_decoded text ≡ Ok bytes
unfolding base32_decoded
read text front rest bytes n count before behind back encoded tail = rw (count, before, behind, back, encoded, equal front, tail) refl

read_encoding : (bytes rest : List ℕ) → IsBytes bytes → symbol_count rest ≡ 0 → is_tail (length (base32 bytes)) rest ≡ true → base32_decoded (base32 bytes ++ rest) ≡ Ok bytes
unfolding base32
read_encoding bytes rest small none tail =
    let each = groups_each bytes small in
    let text = map symbol (groups bytes) in
    read (text ++ rest) text rest bytes (length text) (count_symbols (groups bytes) rest each none) (take-append_seam text rest) (drop-append_seam text rest) (ap bytes_of_digits (groups_back (groups bytes) each) ∙ bytes_of-groups bytes small) refl tail

-- a base32 text of bytes decodes to those bytes
pub reads : (text bytes : List ℕ) → IsBytes bytes × IsBase32 text bytes → base32_decoded text ≡ Ok bytes
reads text bytes (small, encoded) =
    elim encoded [
      | inl bare ↦ rw (bare, ← append-nil (base32 bytes)) (read_encoding bytes [] small refl refl)
      | inr padded ↦ rw padded (read_encoding bytes (padding (length (base32 bytes))) small (padding_count (padding_len (length (base32 bytes)))) (rw (equal (padding (length (base32 bytes)))) (or-true _)))
    ]

found : (b : Bool) (x bytes : List ℕ) (f : BadText) → cond b (Ok x) (Err f) ≡ Ok bytes → (b ≡ true) × (x ≡ bytes)
found true x bytes f e = (refl, cc)
found false x bytes f e = absurd cc

bytes_small : (gs : List ℕ) → AllByRecursion (λ g. g < 32) gs → IsBytes (bytes_of_digits gs)
bytes_small gs small i =
    let each = All-from_recursion (λ b. b < 256) (bytes_of_digits gs) (bytes_each gs small) in
    elim (cases_lt i (length (bytes_of_digits gs))) [
      | inl lt ↦ All-get_or (λ b. b < 256) (bytes_of_digits gs) i 0 lt each
      | inr le ↦ rw (get_or-eq_default (bytes_of_digits gs) 0 le) (omega arith)
    ]

tail_is : (n : ℕ) (text front rest : List ℕ) → text ≡ front ++ rest → n ≡ length front → is_tail n rest ≡ true → (text ≡ front) ⊎ (text ≡ front ++ padding (length front))
tail_is n text front rest split len tail =
    elim (or_cases (eqb (length rest) 0) (bytes_eq rest (padding n)) tail) [
      | inl none ↦ inl (split ∙ rw (nil_from_length rest (grind (arith, nat_tests))) (append-nil front))
      | inr padded ↦ inr (split ∙ ap (λ x. front ++ x) ((bytes_eq-Decides rest (padding n)).0 padded ∙ ap padding len))
    ]

-- a text that is decoded is a base32 text of the bytes
pub reads_back : (text bytes : List ℕ) → base32_decoded text ≡ Ok bytes → IsBytes bytes × IsBase32 text bytes
unfolding base32_decoded
reads_back text bytes e =
    let n = symbol_count text in
    let f = found _ (candidate text) bytes _ e in
    let tests = and_parts _ _ f.0 in
    let before : take n text ≡ base32 bytes = (bytes_eq-Decides (take n text) (base32 (candidate text))).0 tests.0 ∙ ap base32 f.1 in
    let split : text ≡ base32 bytes ++ drop n text = sym (take-append-drop n text) ∙ ap (λ x. x ++ drop n text) before in
    let len : n ≡ length (base32 bytes) = sym (length-prefix_len is_symbol text) ∙ ap length before in
    (rw (← f.1) (bytes_small (map group_of (take n text)) (groups_small (take n text))), tail_is n text (base32 bytes) (drop n text) split len tests.1)
