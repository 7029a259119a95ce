-- That the test of states answers true exactly where they are equal.
use Rattle.std.proofs.Common.{◌≡◌, Bool, true, false, List, refl, ap, ℕ}
use Rattle.std.specs.Prelude.{◌&&◌}
use Rattle.std.specs.Bool.{Decides}
use Rattle.std.specs.Cmp.Lexicographic.{pointwise}
use Rattle.std.proofs.lemmas.Slice.Eq.{slice_eq-Decides, bytes_eq-Decides}
use Rattle.teal_value.specs.declared.value.Value.{Value}
use Rattle.teal_value.specs.SameValues.{are_same_bytes, is_same}
use Rattle.teal_value.specs.SameValueLaws.{is_same-Decides}
use Rattle.avm_states.specs.Entries.{Entries, is_same_entry}

first_true : (a b : Bool) → (a && b) ≡ true → (a ≡ true) × (b ≡ true)
first_true true b e = (refl, e)
first_true false b e = absurd cc

entry-Decides : (d e : List ℕ × Value) → Decides (is_same_entry d e) (d ≡ e)
entry-Decides d e =
    let keys = bytes_eq-Decides d.0 e.0 in
    let values = is_same-Decides d.1 e.1 in (
      (λ t. let both = first_true (are_same_bytes d.0 e.0) (is_same d.1 e.1) t in
          let k = keys.0 both.0 in
          let v = values.0 both.1 in
          λ i. (k i, v i)),
      λ p. λ i. keys.1 (ap (λ x. x.0) p) i && values.1 (ap (λ x. x.1) p) i,
    )

-- states are equal exactly where their entries are the same one by one
pub states-Decides : (s t : Entries) (r : Bool) → r ≡ pointwise is_same_entry s t → Decides r (s ≡ t)
states-Decides s t r e = slice_eq-Decides entry-Decides s t r e
