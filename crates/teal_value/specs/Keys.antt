-- The limit of keys of states (AVM specification, "State").
use Rattle.std.specs.Prelude.{ℕ}

-- how many bytes a key has at most
abbrev pub most_key_bytes : ℕ
most_key_bytes = 64
