-- Inputs that are no text.
use Rattle.std.proofs.Common.{◌≡◌, ℕ, List, refl, true, false}
use Rattle.std.specs.Str.{IsUtf8, is_utf8}
use Rattle.std.proofs.lemmas.Str.{IsUtf8-from_is_utf8}

-- bytes that are not UTF-8 fail its test
pub is_utf8-false : (bytes : List ℕ) → (IsUtf8 bytes → ⊥) → is_utf8 bytes ≡ false
is_utf8-false bytes fails =
    elim (is_utf8 bytes) as (λ b. is_utf8 bytes ≡ b → b ≡ false) [
      | true ↦ λ e. absurd (fails (IsUtf8-from_is_utf8 bytes e))
      | false ↦ λ e. refl
    ] refl
