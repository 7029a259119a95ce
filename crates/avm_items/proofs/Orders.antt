-- Lists that are compared: with a number behind each, where they have one length, and lists that are the same.
use Rattle.std.proofs.Common.{ℕ, ◌≡◌, ◌==◌, ◌&&◌, ◌∙◌, Bool, true, false, List, [], ◌∷◌, ◌++◌, length, refl, ap, sym, arith}
use Rattle.std.specs.declared.cmp.Ordering.TheVariants.{Less, Equal, Greater}
use Rattle.std.specs.declared.cmp.Ordering.{Ordering}
use Rattle.std.specs.Cmp.{unsigned_ties}
use Rattle.std.specs.Cmp.Lexicographic.{slice_cmp, pointwise, lists_ties}
use Rattle.std.specs.Ordering.{is_eq, nat_cmp, ordering_then}
use Rattle.avm_states.proofs.Maps.{is_Equal}

then_end : (o : Ordering) → ordering_then o Equal ≡ o
then_end Less = refl
then_end Equal = refl
then_end Greater = refl

then_then : (o p q : Ordering) → ordering_then o (ordering_then p q) ≡ ordering_then (ordering_then o p) q
then_then Less p q = refl
then_then Equal p q = refl
then_then Greater p q = refl

and_true : (a : Bool) → (a && true) ≡ a
and_true true = refl
and_true false = refl

and_and : (a b c : Bool) → (a && (b && c)) ≡ ((a && b) && c)
and_and true b c = refl
and_and false b c = refl

-- lists of the same length with a number appended compare by the lists, then by the numbers
pub slice_cmp_end : (xs ys : List ℕ) (a b : ℕ) → length xs ≡ length ys
    → slice_cmp nat_cmp (xs ++ a ∷ []) (ys ++ b ∷ []) ≡ ordering_then (slice_cmp nat_cmp xs ys) (nat_cmp a b)
slice_cmp_end [] [] a b e = then_end (nat_cmp a b)
slice_cmp_end (x ∷ xs) (y ∷ ys) a b e =
    ap (ordering_then (nat_cmp x y)) (slice_cmp_end xs ys a b (omega (arith, e))) ∙ then_then (nat_cmp x y) (slice_cmp nat_cmp xs ys) (nat_cmp a b)
slice_cmp_end [] (y ∷ ys) a b e = absurd (omega (arith, e))
slice_cmp_end (x ∷ xs) [] a b e = absurd (omega (arith, e))

-- such lists are the same exactly where both the lists in front and the numbers are the same
pub pointwise_end : (xs ys : List ℕ) (a b : ℕ) → length xs ≡ length ys
    → pointwise ◌==◌ (xs ++ a ∷ []) (ys ++ b ∷ []) ≡ (pointwise ◌==◌ xs ys && (a == b))
pointwise_end [] [] a b e = and_true (a == b)
pointwise_end (x ∷ xs) (y ∷ ys) a b e =
    ap (λ t. (x == y) && t) (pointwise_end xs ys a b (omega (arith, e))) ∙ and_and (x == y) (pointwise ◌==◌ xs ys) (a == b)
pointwise_end [] (y ∷ ys) a b e = absurd (omega (arith, e))
pointwise_end (x ∷ xs) [] a b e = absurd (omega (arith, e))

-- lists that are the same tie
pub same_is_equal : (xs ys : List ℕ) → pointwise ◌==◌ xs ys ≡ true → slice_cmp nat_cmp xs ys ≡ Equal
same_is_equal xs ys same = is_Equal (slice_cmp nat_cmp xs ys) (sym (lists_ties nat_cmp unsigned_ties xs ys) ∙ same)

-- lists tie exactly where they are the same
pub same_or_ordered : (xs ys : List ℕ) → pointwise ◌==◌ xs ys ≡ is_eq (slice_cmp nat_cmp xs ys)
same_or_ordered xs ys = lists_ties nat_cmp unsigned_ties xs ys
