-- What a loop over writes has written of a text: a beginning of it, and the rest is still to be written.
use Rattle.std.proofs.Common.{◌≡◌, ◌∙◌, ◌-◌, ap, sym, refl, subst, true, ℕ, List, [], ◌++◌, Option, append_assoc, eqb, length, take, drop, take-append-drop}
use Rattle.std.proofs.lemmas.List.{append-nil, nil_from_length, take_rest}
use Rattle.std.proofs.lemmas.Bool.{eqb-true}
use Rattle.std.proofs.KnownBytes.{Appends-kept, Appends-nil, Appends-trans}
use Rattle.std.specs.Io.KnownBytes.{Appends, Keeps}
use Rattle.hex.specs.Hex.{encode_lower, encode_with}
use Rattle.avm_input.specs.Answers.{HasBeginning}
use Rattle.avm_input.proofs.WrittenDigits.{digits_joined}

-- so many bytes more of the rest were written
pub more_written : (held now after : Option (List ℕ)) (text written rest : List ℕ) (more : ℕ) → text ≡ written ++ rest → Appends held now written → Appends now after (take more rest)
    → (w : List ℕ) × (text ≡ w ++ take (length rest - more) (drop more rest)) × Appends held after w
more_written held now after text written rest more parts first second = (
  written ++ take more rest,
  parts ∙ ap (λ l. written ++ l) (sym (take-append-drop more rest)) ∙ sym (append_assoc written (take more rest) (drop more rest))
      ∙ ap (λ l. (written ++ take more rest) ++ l) (sym (take_rest rest more)),
  Appends-trans held now after written (take more rest) first second,
)

-- where nothing has changed, no bytes were written
pub kept_appends : (now after : Option (List ℕ)) → Keeps now after → Appends now after []
kept_appends now after kept = Appends-kept now now after [] (Appends-nil now) kept

-- ---- digits, piece by piece

-- of the bytes, those before the rest are encoded and written
abbrev pub IsWrittenTo : Option (List ℕ) → Option (List ℕ) → List ℕ → List ℕ → Type 0
IsWrittenTo held now bytes rest = (done : List ℕ) × (bytes ≡ done ++ rest) × Appends held now (encode_lower done)

-- at first none are
pub none_written : (held : Option (List ℕ)) (bytes : List ℕ) → IsWrittenTo held held bytes bytes
unfolding encode_with
none_written held bytes = ([], refl, Appends-nil held)

-- a piece more
pub piece_written : (held now after : Option (List ℕ)) (bytes rest front back : List ℕ) → rest ≡ front ++ back → Appends now after (encode_lower front) → IsWrittenTo held now bytes rest → IsWrittenTo held after bytes back
piece_written held now after bytes rest front back parts piece (done, before, was) = (
  done ++ front,
  before ∙ ap (λ l. done ++ l) parts ∙ sym (append_assoc done front back),
  subst (Appends held after) (sym (digits_joined done front)) (Appends-trans held now after (encode_lower done) (encode_lower front) was piece),
)

-- a beginning of a piece more
pub piece_begun : (held now after : Option (List ℕ)) (bytes rest front back : List ℕ) → rest ≡ front ++ back → HasBeginning (encode_lower front) now after → IsWrittenTo held now bytes rest → HasBeginning (encode_lower bytes) held after
piece_begun held now after bytes rest front back parts (written, left, both, piece) (done, before, was) = (
  encode_lower done ++ written,
  left ++ encode_lower back,
  ap encode_lower (before ∙ ap (λ l. done ++ l) parts) ∙ digits_joined done (front ++ back) ∙ ap (λ l. encode_lower done ++ l) (digits_joined front back ∙ ap (λ l. l ++ encode_lower back) both ∙ append_assoc written left (encode_lower back))
      ∙ sym (append_assoc (encode_lower done) written (left ++ encode_lower back)),
  Appends-trans held now after (encode_lower done) written was piece,
)

-- nothing is a beginning
pub none_begun : (held : Option (List ℕ)) (text : List ℕ) → HasBeginning text held held
none_begun held text = ([], text, refl, Appends-nil held)

-- at the end all of them are
pub all_written : (held now : Option (List ℕ)) (bytes rest : List ℕ) → eqb (length rest) 0 ≡ true → IsWrittenTo held now bytes rest → Appends held now (encode_lower bytes)
all_written held now bytes rest e (done, before, was) =
    let none : rest ≡ [] = nil_from_length rest (eqb-true (length rest) 0 e) in
    subst (λ (l : List ℕ). Appends held now (encode_lower l)) (sym (before ∙ ap (λ (l : List ℕ). done ++ l) none ∙ append-nil done)) was

-- and what is written is a beginning
pub whole_begun : (held now : Option (List ℕ)) (bytes rest : List ℕ) → IsWrittenTo held now bytes rest → HasBeginning (encode_lower bytes) held now
whole_begun held now bytes rest (done, before, was) = (encode_lower done, encode_lower rest, ap encode_lower before ∙ digits_joined done rest, was)

-- ---- a text behind digits

pub second_begun : (held now after : Option (List ℕ)) (first text : List ℕ) → Appends held now first → HasBeginning text now after → HasBeginning (first ++ text) held after
second_begun held now after first text a (written, left, both, b) = (first ++ written, left, ap (λ l. first ++ l) both ∙ sym (append_assoc first written left), Appends-trans held now after first written a b)

pub first_begun : (held now : Option (List ℕ)) (first text : List ℕ) → HasBeginning first held now → HasBeginning (first ++ text) held now
first_begun held now first text (written, left, both, a) = (written, left ++ text, ap (λ l. l ++ text) both ∙ append_assoc written left text, a)
