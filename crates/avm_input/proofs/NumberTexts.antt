-- Numbers below 2^64 as clap reads them.
use Rattle.std.proofs.Common.{◌≡◌, refl, ℕ, ◌<◌, ◌^◌, ◌&&◌, Bool, true, false, nat_lt, length, List, [], ◌∷◌, Option, Some, None, Result, Ok, Err, option_and_then, arith}
use Rattle.std.specs.List.{list_all}
use Rattle.std.specs.Str.Parse.{AllDigits, IsNumeral, ParsesUnsigned, digits_value, without_leading_plus}
use Rattle.std.proofs.lemmas.Bool.{and_from, and_parts}
use Rattle.clap.specs.Words.{ReadsOne, Text}
use Rattle.avm_input.specs.CommandLine.{is_digit, u64_of}

less : (a b : ℕ) → nat_lt a b ≡ true → a < b
less a b e = search (arith)

less_true : (a b : ℕ) → a < b → nat_lt a b ≡ true
less_true a b e = search (arith)

all_digits : (ds : List ℕ) → AllDigits 10 ds → list_all is_digit ds ≡ true
all_digits [] h = refl
all_digits (c ∷ cs) h = and_from _ _ (less_true _ _ h.0) (all_digits cs h.1)

digits_from : (ds : List ℕ) → list_all is_digit ds ≡ true → AllDigits 10 ds
digits_from [] h = tt
digits_from (c ∷ cs) h = let parts = and_parts _ _ h in (less _ _ parts.0, digits_from cs parts.1)

abbrev is_u64 : List ℕ → Bool
is_u64 digits = nat_lt 0 (length digits) && (list_all is_digit digits && nat_lt (digits_value 10 digits) (2 ^ 64))

abbrev IsU64 : List ℕ → Type 0
IsU64 digits = IsNumeral 10 digits × (digits_value 10 digits < 2 ^ 64)

u64_true : (ds : List ℕ) → IsU64 ds → is_u64 ds ≡ true
u64_true ds h = and_from _ _ (less_true _ _ h.0.0) (and_from _ _ (all_digits ds h.0.1) (less_true _ _ h.1))

u64_from : (ds : List ℕ) → is_u64 ds ≡ true → IsU64 ds
u64_from ds e =
    let outer = and_parts _ _ e in
    let inner = and_parts _ _ outer.1 in
    ((less _ _ outer.0, digits_from ds inner.0), less _ _ inner.1)

u64_none : (ds : List ℕ) (b : Bool) → is_u64 ds ≡ b → (IsU64 ds → ⊥) → b ≡ false
u64_none ds true e none = absurd (none (u64_from ds e))
u64_none ds false e none = refl

-- what a parser gives that gives what the standard library's does
read_text : {E : Type 0} (gives : Text → Result ℕ E → Type 0) (text : Text) (r : Option ℕ) → ((s : Result ℕ E) → gives text s → ParsesUnsigned 64 10 text s)
    → ReadsOne gives text r → r ≡ u64_of text
read_text gives text (Some n) parses h = let p = parses (Ok n) h in rw (u64_true (without_leading_plus text) p.0, p.1) refl
read_text gives text None parses h = let none = u64_none (without_leading_plus text) _ refl (parses (Err h.0) h.1) in rw none refl

-- the number read from a text, if there is one, is the text's 64-bit number
pub u64_read : {E : Type 0} (gives : Text → Result ℕ E → Type 0) (text : Option Text) (r : Option ℕ) → ((t : Text) (s : Result ℕ E) → gives t s → ParsesUnsigned 64 10 t s)
    → (text ≡ None → r ≡ None) → ((t : Text) → text ≡ Some t → ReadsOne gives t r) → r ≡ option_and_then u64_of text
u64_read gives None r parses none some = none refl
u64_read gives (Some t) r parses none some = read_text gives t r (parses t) (some t refl)
