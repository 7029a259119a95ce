-- The greatest mark in the list of the marks of versions is the version's.
use Rattle.std.proofs.Common.{◌≡◌, ℕ, ◌≤◌, ◌&&◌, ◌==◌, max, Bool, true, false, if◌then◌else◌, List, [], ◌∷◌, ◌++◌, refl, sym, ap, ◌∙◌, arith}
use Rattle.mv_chain.specs.declared.chain.Version.{Version}
use Rattle.mv_chain.specs.Versions.{IsChain, AreRising, mark_in}
use Rattle.mv_history.specs.World.{Mark, greatest_mark}
use Rattle.mv_history.proofs.Lists.{Equals, equal, unequal, equals}
use Rattle.mv_core.specs.Marks.{marks_among, marks_at}

mark_below : {V : Type 0} (n bound : ℕ) (vs : List (Version V)) → n ≤ bound → AreRising bound vs → mark_in n vs ≡ 0
mark_below n bound [] h r = refl
mark_below n bound (v ∷ vs) h r = by (v.timestamp == n) (equals v.timestamp n) (mark_below n v.timestamp vs (omega (arith, h, r.0)) r.1)
  where
    by : (b : Bool) → Equals v.timestamp n b → mark_in n vs ≡ 0 → (if b then v.mark else mark_in n vs) ≡ 0
    by b (equal e) rest = absurd (omega (arith, e, h, r.0))
    by b (unequal e) rest = rest

module _ {Item : Type 0} (same : Item → Item → Bool) where
  -- whether an item is in a list of items
  abbrev pub is_among : Item → List Item → Bool
  is_among x [] = false
  is_among x (y ∷ ys) = if same x y then true else is_among x ys

  both_lists : (ms ns : List (Mark Item)) (x : Item) (n : ℕ) → greatest_mark same (ms ++ ns) x n ≡ max (greatest_mark same ms x n) (greatest_mark same ns x n)
  both_lists [] ns x n = omega arith
  both_lists (m ∷ ms) ns x n = by (same x m.item && (m.version == n)) (both_lists ms ns x n)
    where
      by : (c : Bool) → greatest_mark same (ms ++ ns) x n ≡ max (greatest_mark same ms x n) (greatest_mark same ns x n)
          → (if c then max m.reader (greatest_mark same (ms ++ ns) x n) else greatest_mark same (ms ++ ns) x n) ≡ max (if c then max m.reader (greatest_mark same ms x n) else greatest_mark same ms x n) (greatest_mark same ns x n)
      by true rest = omega (arith, rest)
      by false rest = rest

  module _ {V : Type 0} where
    own_marks : (x y : Item) (n bound : ℕ) (vs : List (Version V)) → same x y ≡ true → AreRising bound vs → greatest_mark same (marks_at y vs) x n ≡ mark_in n vs
    own_marks x y n bound [] e r = refl
    own_marks x y n bound (v ∷ vs) e r = by (same x y) e (v.timestamp == n) (equals v.timestamp n) (own_marks x y n v.timestamp vs e r.1)
      where
        by : (a : Bool) → a ≡ true → (b : Bool) → Equals v.timestamp n b → greatest_mark same (marks_at y vs) x n ≡ mark_in n vs
            → (if a && b then max v.mark (greatest_mark same (marks_at y vs) x n) else greatest_mark same (marks_at y vs) x n) ≡ (if b then v.mark else mark_in n vs)
        by true is b (equal k) rest = omega (arith, rest, mark_below n v.timestamp vs (omega (arith, k)) r.1)
        by true is b (unequal k) rest = rest
        by false is b k rest = absurd cc

    other_marks : (x y : Item) (n : ℕ) (vs : List (Version V)) → same x y ≡ false → greatest_mark same (marks_at y vs) x n ≡ 0
    other_marks x y n [] e = refl
    other_marks x y n (v ∷ vs) e = ap (λ a. if a && (v.timestamp == n) then max v.mark (greatest_mark same (marks_at y vs) x n) else greatest_mark same (marks_at y vs) x n) e ∙ other_marks x y n vs e

    chain_marks : (x y : Item) (n : ℕ) (vs : List (Version V)) → same x y ≡ true → IsChain vs → greatest_mark same (marks_at y vs) x n ≡ mark_in n vs
    chain_marks x y n [] e chain = absurd chain
    chain_marks x y n (v ∷ vs) e chain = by (same x y) e (v.timestamp == n) (equals v.timestamp n) (own_marks x y n v.timestamp vs e chain)
      where
        by : (a : Bool) → a ≡ true → (b : Bool) → Equals v.timestamp n b → greatest_mark same (marks_at y vs) x n ≡ mark_in n vs
            → (if a && b then max v.mark (greatest_mark same (marks_at y vs) x n) else greatest_mark same (marks_at y vs) x n) ≡ (if b then v.mark else mark_in n vs)
        by true is b (equal k) rest = omega (arith, rest, mark_below n v.timestamp vs (omega (arith, k)) chain)
        by true is b (unequal k) rest = rest
        by false is b k rest = absurd cc

    marked_among : (all : Item → List (Version V)) → ((x y : Item) → same x y ≡ true → x ≡ y) → ((x : Item) → IsChain (all x)) → (x : Item) (n : ℕ) (xs : List Item)
        → greatest_mark same (marks_among all xs) x n ≡ (if is_among x xs then mark_in n (all x) else 0)
    marked_among all exact chains x n [] = refl
    marked_among all exact chains x n (y ∷ ys) = both_lists (marks_at y (all y)) (marks_among all ys) x n ∙ by (same x y) refl (is_among x ys) (marked_among all exact chains x n ys)
      where
        by : (a : Bool) → same x y ≡ a → (b : Bool) → greatest_mark same (marks_among all ys) x n ≡ (if b then mark_in n (all x) else 0)
            → max (greatest_mark same (marks_at y (all y)) x n) (greatest_mark same (marks_among all ys) x n) ≡ (if (if a then true else b) then mark_in n (all x) else 0)
        by true e true rest = let here : greatest_mark same (marks_at y (all y)) x n ≡ mark_in n (all x) = chain_marks x y n (all y) e (chains y) ∙ ap (λ z. mark_in n (all z)) (sym (exact x y e)) in omega (arith, here, rest)
        by true e false rest = let here : greatest_mark same (marks_at y (all y)) x n ≡ mark_in n (all x) = chain_marks x y n (all y) e (chains y) ∙ ap (λ z. mark_in n (all z)) (sym (exact x y e)) in omega (arith, here, rest)
        by false e b rest = ap (λ m. max m (greatest_mark same (marks_among all ys) x n)) (other_marks x y n (all y) e) ∙ zero_max (greatest_mark same (marks_among all ys) x n) ∙ rest
          where
            zero_max : (m : ℕ) → max 0 m ≡ m
            zero_max m = omega arith

    -- where the items that aren't listed have no marks
    pub marks_listed : (all : Item → List (Version V)) → ((x y : Item) → same x y ≡ true → x ≡ y) → ((x : Item) → IsChain (all x)) → (xs : List Item) → ((x : Item) (n : ℕ) → is_among x xs ≡ false → mark_in n (all x) ≡ 0)
        → (x : Item) (n : ℕ) → greatest_mark same (marks_among all xs) x n ≡ mark_in n (all x)
    marks_listed all exact chains xs unlisted x n = marked_among all exact chains x n xs ∙ by (is_among x xs) refl
      where
        by : (b : Bool) → is_among x xs ≡ b → (if b then mark_in n (all x) else 0) ≡ mark_in n (all x)
        by true e = refl
        by false e = sym (unlisted x n e)

  -- an item that is not among two lists joined is in neither
  pub among_both : (x : Item) (xs ys : List Item) → is_among x (xs ++ ys) ≡ false → (is_among x xs ≡ false) × (is_among x ys ≡ false)
  among_both x [] ys h = (refl, h)
  among_both x (z ∷ zs) ys h = by (same x z) h (among_both x zs ys)
    where
      by : (a : Bool) → (if a then true else is_among x (zs ++ ys)) ≡ false → (is_among x (zs ++ ys) ≡ false → (is_among x zs ≡ false) × (is_among x ys ≡ false))
          → ((if a then true else is_among x zs) ≡ false) × (is_among x ys ≡ false)
      by true never rest = absurd cc
      by false h rest = rest h
