-- Codes of the public table that this machine leaves out, with their names there.
use Rattle.std.specs.Prelude.{ℕ, nat_eq, List, [], ◌∷◌, Option, codes}
use Rattle.std.specs.Map.{lookup}

abbrev pub left_out_codes : List (ℕ × List ℕ)
left_out_codes =
    (0x02, codes "keccak256")
    ∷ (0x04, codes "ed25519verify")
    ∷ (0x2c, codes "arg")
    ∷ (0x2d, codes "arg_0")
    ∷ (0x2e, codes "arg_1")
    ∷ (0x2f, codes "arg_2")
    ∷ (0x30, codes "arg_3")
    ∷ (0x60, codes "balance")
    ∷ (0x70, codes "asset_holding_get")
    ∷ (0x71, codes "asset_params_get")
    ∷ (0x78, codes "min_balance")
    ∷ []

unfoldable pub left_out_at : ℕ → Option (List ℕ)
left_out_at code = lookup (λ c. nat_eq code c) left_out_codes
