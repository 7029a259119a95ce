-- The events of the two computed histories apply; all but the entries, which hold on every look-up that agrees with
-- their reads, computes.
use Rattle.std.proofs.Common.{◌≡◌, ◌+◌, ◌==◌, Bool, if◌then◌else◌, Some, None, unwrap_or, [], ◌∷◌, refl, ap, arith}
use Rattle.mv_history.specs.History.{IsFinished, lookup_after}
use Rattle.mv_history.specs.WriteSkew.{X, Y, second_entry, first_entry}
use Rattle.mv_history.specs.WriteSkew as write_skew
use Rattle.mv_history.specs.EarlyRead.{Next, Application, absence, creation_at}
use Rattle.mv_history.specs.EarlyRead as early_read
use Rattle.mv_history.proofs.Lists.{Equals, equal, unequal, equals}

-- write skew
pub second_is_finished : IsFinished write_skew.same write_skew.Proper write_skew.means second_entry
second_is_finished look proper agrees = (ap (λ value. (value + 1, (Y, value + 1) ∷ [])) agrees.0, tt)

pub first_is_finished : IsFinished write_skew.same write_skew.Proper write_skew.means first_entry
first_is_finished look proper agrees = (ap (λ value. (value + 1, (X, value + 1) ∷ [])) agrees.1.0, tt)

pub write_skew_late : write_skew.FirstCommitIsLate
write_skew_late = record { written = refl; follows = refl; marked = (2, omega arith, refl); greatest = refl; above = omega arith }

pub write_skew_apply : write_skew.EventsApply
write_skew_apply = (
  (refl, refl),
  (
    (_, refl, refl),
    (
      (_, refl, refl),
      (
        (refl, refl),
        (
          (_, refl, refl),
          (
            (_, refl, refl),
            (
              refl,
              (
                (_, refl, record { timestamp = refl; number = refl; reads = refl; finished = second_is_finished }, (omega arith, tt)),
                (
                  (refl, refl),
                  (
                    (_, refl, refl),
                    (
                      (_, refl, refl),
                      (
                        (_, refl, record { timestamp = refl; number = refl; reads = refl; finished = first_is_finished }, (omega arith, tt)),
                        tt,
                      ),
                    ),
                  ),
                ),
              ),
            ),
          ),
        ),
      ),
    ),
  ),
)

-- a creation read too early
absence_is_finished : IsFinished early_read.same early_read.Proper early_read.means absence
absence_is_finished look proper agrees = (ap (λ value. (value, [])) agrees.0, proper)

creation_is_finished : IsFinished early_read.same early_read.Proper early_read.means (creation_at 3)
creation_is_finished look proper agrees = (rw (agrees.0, absent) refl, still_proper)
  where
    absent : look (Application 2) ≡ 0
    absent = proper 2 (let next : look Next ≡ 2 = agrees.0 in omega arith)

    still_proper : early_read.Proper (lookup_after early_read.same (creation_at 3).writes look)
    still_proper i above = at_test (i == 2) (equals i 2)
      where
        at_test : (c : Bool) → Equals i 2 c → unwrap_or (if c then Some 1 else None) (look (Application i)) ≡ 0
        at_test c (equal e) = absurd (omega arith)
        at_test c (unequal e) = proper i (let next : look Next ≡ 2 = agrees.0 in omega arith)

pub early_read_apply : early_read.EventsApply
early_read_apply = (
  (refl, refl),
  (
    (refl, refl),
    (
      (_, refl, refl),
      (
        (_, refl, record { timestamp = refl; number = refl; reads = refl; finished = absence_is_finished }, tt),
        (
          (_, refl, refl),
          (
            refl,
            (
              (refl, refl),
              (
                (_, refl, refl),
                (
                  (_, refl, record { timestamp = refl; number = refl; reads = refl; finished = creation_is_finished }, (omega arith, (omega arith, tt))),
                  tt,
                ),
              ),
            ),
          ),
        ),
      ),
    ),
  ),
)
