-- What holds of each version, and of the versions after a read and from one on.
use Rattle.std.proofs.Common.{ℕ, zero, suc, max, List, [], ◌∷◌, drop, length, get_or, Contains, subst, arith, ◌<◌}
use Rattle.std.specs.List.{AllByRecursion}
use Rattle.mv_chain.specs.declared.chain.Version.{Version}
use Rattle.mv_chain.specs.Versions.{marked_at_index}

pub all_drop : {X : Type 0} (P : X → Type 0) (i : ℕ) (xs : List X) → AllByRecursion P xs → AllByRecursion P (drop i xs)
all_drop P zero xs h = h
all_drop P (suc i) [] h = tt
all_drop P (suc i) (x ∷ xs) h = all_drop P i xs h.1

pub all_at : {X : Type 0} (P : X → Type 0) (xs : List X) (i : ℕ) (d : X) → AllByRecursion P xs → i < length xs → P (get_or xs i d)
all_at P [] i d h within = absurd (omega arith)
all_at P (x ∷ xs) zero d h within = h.0
all_at P (x ∷ xs) (suc i) d h within = all_at P xs i d h.1 (omega arith)

pub all_contained : {X : Type 0} (P : X → Type 0) (xs : List X) (x : X) → AllByRecursion P xs → Contains xs x → P x
all_contained P xs x h held = subst P held.2 (all_at P xs held.0 x h held.1)

-- what holds of a version and does not name its mark
pub all_marked : {V : Type 0} (P : Version V → Type 0) → ((v : Version V) (mark : ℕ) → P v → P (record v { mark = mark })) → (i t : ℕ) (vs : List (Version V)) → AllByRecursion P vs → AllByRecursion P (marked_at_index i t vs)
all_marked P f i t [] h = tt
all_marked P f zero t (v ∷ vs) h = (f v (max v.mark t) h.0, h.1)
all_marked P f (suc i) t (v ∷ vs) h = (h.0, all_marked P f i t vs h.1)
