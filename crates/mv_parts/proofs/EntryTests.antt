-- What is found on the way through the entries.
use Rattle.std.proofs.Common.{◌≡◌, ℕ, ◌+◌, ◌<◌, ◌≤◌, max, Bool, true, false, nat_lt, if◌then◌else◌, List, ◌∷◌, Option, None, Some, length, drop, refl, sym, ap, ◌∙◌, arith, slice_index_or}
use Rattle.std.specs.Map.{lookup}
use Rattle.std.proofs.lemmas.List.{drop_all, drop_more}
use Rattle.avm_items.specs.declared.item.Item.{Item}
use Rattle.avm_items.specs.declared.item_value.ItemValue.{ItemValue}
use Rattle.mv_history.specs.History.{newest_version, version_after}
use Rattle.mv_parts.specs.CallHistory.{CallEntry, same_item}
use Rattle.mv_parts.specs.Commits.{late_after}
use Rattle.mv_parts.specs.CommitTests.{written_below}
use Rattle.mv_parts.specs.Journals.{greatest_among}

-- the entries from an index on begin with the one there
pub next_entry : (es : List CallEntry) (i : ℕ) (e : CallEntry) → i < length es → e ≡ slice_index_or es i e → drop i es ≡ e ∷ drop (i + 1) es
next_entry es i e within is = drop_more es i e within ∙ ap (λ x. x ∷ drop (i + 1) es) (sym is)

-- ---- the newest version

-- a version once an entry was looked at that wrote this of the item
abbrev pub with_written : ℕ → Option ItemValue → ℕ × ItemValue → ℕ × ItemValue
with_written t None v = v
with_written t (Some value) v = (t, value)

after_written : (x : Item) (t : ℕ) (e : CallEntry) (v : ℕ × ItemValue) → version_after (nat_lt e.timestamp t) (lookup (same_item x) e.writes) e.timestamp v ≡ with_written e.timestamp (written_below x t e) v
after_written x t e v = by (nat_lt e.timestamp t) (lookup (same_item x) e.writes)
  where
    by : (b : Bool) (o : Option ItemValue) → version_after b o e.timestamp v ≡ with_written e.timestamp (if b then o else None) v
    by true None = refl
    by true (Some value) = refl
    by false o = refl

-- one entry more
pub version_further : (es : List CallEntry) (i t : ℕ) (x : Item) (v : ℕ × ItemValue) (e : CallEntry) (o : Option ItemValue) → i < length es → e ≡ slice_index_or es i e → o ≡ written_below x t e
    → newest_version same_item t (drop (i + 1) es) x (with_written e.timestamp o v) ≡ newest_version same_item t (drop i es) x v
version_further es i t x v e o within is wrote =
    ap (λ p. newest_version same_item t (drop (i + 1) es) x (with_written e.timestamp p v)) wrote ∙ ap (newest_version same_item t (drop (i + 1) es) x) (sym (after_written x t e v))
    ∙ sym (ap (λ xs. newest_version same_item t xs x v) (next_entry es i e within is))

-- none is left
pub version_found : (es : List CallEntry) (i t : ℕ) (x : Item) (v : ℕ × ItemValue) → length es ≤ i → v ≡ newest_version same_item t (drop i es) x v
version_found es i t x v end = sym (ap (λ xs. newest_version same_item t xs x v) (drop_all i es end))

-- ---- the greatest reader

pub greatest_further : (takes : CallEntry → Bool) (es : List CallEntry) (i greatest : ℕ) (e : CallEntry) (taken : Bool) → i < length es → e ≡ slice_index_or es i e → taken ≡ takes e
    → max (if taken then max greatest e.timestamp else greatest) (greatest_among takes (drop (i + 1) es)) ≡ max greatest (greatest_among takes (drop i es))
greatest_further takes es i greatest e taken within is told =
    ap (λ b. max (if b then max greatest e.timestamp else greatest) (greatest_among takes (drop (i + 1) es))) told ∙ by (takes e) ∙ sym (ap (λ xs. max greatest (greatest_among takes xs)) (next_entry es i e within is))
  where
    rest : ℕ
    rest = greatest_among takes (drop (i + 1) es)

    by : (b : Bool) → max (if b then max greatest e.timestamp else greatest) rest ≡ max greatest (if b then max e.timestamp rest else rest)
    by true = omega arith
    by false = refl

pub greatest_found : (takes : CallEntry → Bool) (es : List CallEntry) (i greatest : ℕ) → length es ≤ i → greatest ≡ max greatest (greatest_among takes (drop i es))
greatest_found takes es i greatest end = let none : greatest_among takes (drop i es) ≡ 0 = ap (greatest_among takes) (drop_all i es end) in omega (arith, none)

-- ---- a late write

pub told_late : (t version mark : ℕ) → t < mark → Some (record { version = version; mark = mark }) ≡ late_after t version mark
told_late t version mark above = let test : nat_lt t mark ≡ true = grind (arith, above) in rw test refl

pub told_in_time : (t version mark : ℕ) → mark ≤ t → None ≡ late_after t version mark
told_in_time t version mark below = let test : nat_lt t mark ≡ false = grind (arith, below) in rw test refl
