-- Attempts that read.
use Rattle.std.specs.Prelude.{◌≡◌}
use Rattle.mv_shards.specs.Attempts.{CallAttempt}

-- It may have read more.
pub record IsSameAttempt (old new : CallAttempt) : Type 0 where
  pub number : new.number ≡ old.number
  pub timestamp : new.timestamp ≡ old.timestamp
