-- The list of the chains with more than one version, after a chain is made, given a version, or pruned.
use Rattle.std.proofs.Common.{◌≡◌, ◌≢◌, ℕ, zero, suc, ◌<◌, ◌≤◌, ◌+◌, ◌⊎◌, inl, inr, Bool, true, false, List, [], ◌∷◌, ◌++◌, get_or, length, map, refl, sym, ap, ◌∙◌, subst, arith}
use Rattle.std.specs.Prelude.{◌-◌, ◌==◌, nat_lt, set, take}
use Rattle.std.specs.List.{sum_by}
use Rattle.std.proofs.Math.Seq.{map-set_same}
use Rattle.std.proofs.lemmas.List.{get_or-map, get_or-set_other, get_or-set_same, get_or-take, get_or_append_left, get_or_push, length-map, length-set, length-take-le, length_push, map-append, map-set}
use Rattle.std.proofs.lemmas.List.Edits.{length-insert}
use Rattle.std.proofs.lemmas.List.Sums.{sum_by-cons, sum_by-set, sum_by_push}
use Rattle.mv_history.proofs.Lists.{Compared, Equals, compared, equal, equals, less, not_less, unequal}
use Rattle.avm_items.specs.declared.item.Item.{Item}
use Rattle.mv_chain.specs.declared.chain.Version.{Version}
use Rattle.mv_chain.specs.Versions.{IsChain, Versions, count_not_above, marked_at_index, versions_read_at, versions_with}
use Rattle.mv_chain.proofs.Indexes.{chain-length, count_not_above-within}
use Rattle.mv_shards.specs.KeptChains.{ChainMap}
use Rattle.mv_shards.specs.Several.{AreListed, IsIn, one_if, one_if_several, version_counts}

-- ---- counts of versions

one_at_most : (k : ℕ) → one_if_several k ≤ 1
one_at_most k = by (nat_lt 1 k)
  where
    by : (b : Bool) → one_if b ≤ 1
    by true = omega arith
    by false = omega arith

none_for_one : (k : ℕ) → k ≤ 1 → one_if_several k ≡ 0
none_for_one k few = by (nat_lt 1 k) (compared 1 k)
  where
    by : (b : Bool) → Compared 1 k b → one_if b ≡ 0
    by b (less h) = absurd (omega (arith, few, h))
    by b (not_less h) = refl

one_for_more : (k : ℕ) → 1 < k → one_if_several k ≡ 1
one_for_more k many = by (nat_lt 1 k) (compared 1 k)
  where
    by : (b : Bool) → Compared 1 k b → one_if b ≡ 1
    by b (less h) = refl
    by b (not_less h) = absurd (omega (arith, many, h))

several_all : (counts : List ℕ) → sum_by one_if_several counts ≤ length counts
several_all [] = omega arith
several_all (k ∷ ks) = omega (arith, sum_by-cons one_if_several k ks, one_at_most k, several_all ks)

-- where a chain has one version, there are more chains than have more
several_below : (counts : List ℕ) (n : ℕ) → n < length counts → get_or counts n 0 ≤ 1 → sum_by one_if_several counts < length counts
several_below [] n within few = absurd (omega (arith, within))
several_below (k ∷ ks) zero within few = omega (arith, sum_by-cons one_if_several k ks, none_for_one k few, several_all ks)
several_below (k ∷ ks) (suc n) within few = omega (arith, sum_by-cons one_if_several k ks, one_at_most k, several_below ks n (omega (arith, within)) few)

module _ {V : Type 0} where
  -- the count at a chain's number is that of its versions
  pub count_here : (map : ChainMap V) (n : ℕ) (e : Item × Versions V) → n < length map → e ≡ get_or map n e → get_or (version_counts map) n 0 ≡ length e.1.list
  count_here chains n e within is = get_or-map (λ (c : Item × Versions V). length c.1.list) chains n e 0 within ∙ ap (λ (c : Item × Versions V). length c.1.list) (sym is)

  pub counts_length : (map : ChainMap V) → length (version_counts map) ≡ length map
  counts_length chains = length-map chains (λ (c : Item × Versions V). length c.1.list)

  -- a chain that is changed has as many versions as before, or another count
  pub counts_still : (map : ChainMap V) (n : ℕ) (e : Item × Versions V) (w : Versions V) → e ≡ get_or map n e → length w.list ≡ length e.1.list → version_counts (set map n (e.0, w)) ≡ version_counts map
  counts_still chains n e w is same = map-set_same (λ (c : Item × Versions V). length c.1.list) chains n (e.0, w) e (same ∙ ap (λ (c : Item × Versions V). length c.1.list) is)

  pub counts_set : (map : ChainMap V) (n : ℕ) (e : Item × Versions V) (w : Versions V) → version_counts (set map n (e.0, w)) ≡ set (version_counts map) n (length w.list)
  counts_set chains n e w = map-set (λ (c : Item × Versions V). length c.1.list) chains n (e.0, w)

  pub counts_more : (map : ChainMap V) (x : Item) (c : Versions V) → version_counts (map ++ (x, c) ∷ []) ≡ version_counts map ++ length c.list ∷ []
  counts_more chains x c = map-append (λ (c : Item × Versions V). length c.1.list) chains ((x, c) ∷ [])

-- a mark changes no count
marked_length : {V : Type 0} (i t : ℕ) (vs : List (Version V)) → length (marked_at_index i t vs) ≡ length vs
marked_length i t [] = refl
marked_length zero t (v ∷ vs) = refl
marked_length (suc i) t (v ∷ vs) = ap suc (marked_length i t vs)

pub read_length : {V : Type 0} (t : ℕ) (vs : List (Version V)) → length (versions_read_at t vs) ≡ length vs
read_length t vs = marked_length (count_not_above t vs - 1) t vs

-- a chain has a version, and one more once it is given one
pub some_version : {V : Type 0} (vs : List (Version V)) → IsChain vs → 0 < length vs
some_version vs chain = chain-length vs chain

pub with_length : {V : Type 0} (t : ℕ) (v : V) (vs : List (Version V)) → length (versions_with t v vs) ≡ length vs + 1
with_length t v vs = length-insert vs (count_not_above t vs) (record { timestamp = t; mark = 0; value = v }) (count_not_above-within t vs)

-- ---- a chain that is changed, and one that is made

-- the list stays where a chain keeps its count
pub listed_still : {V : Type 0} (numbers : List ℕ) (room : ℕ) (map : ChainMap V) (n : ℕ) (e : Item × Versions V) (w : Versions V) → e ≡ get_or map n e → length w.list ≡ length e.1.list → AreListed numbers room (version_counts map) → AreListed numbers room (version_counts (set map n (e.0, w)))
listed_still numbers room map n e w is same l = subst (AreListed numbers room) (sym (counts_still map n e w is same)) l

-- no more are listed than there are chains
pub listed_few : (numbers : List ℕ) (room : ℕ) (counts : List ℕ) → AreListed numbers room counts → length numbers ≤ length counts
listed_few numbers room counts l = omega (arith, l.few, several_all counts)

-- the list stays where there is more room
pub listed_roomier : (numbers : List ℕ) (room more : ℕ) (counts : List ℕ) → room ≤ more → AreListed numbers room counts → AreListed numbers more counts
listed_roomier numbers room more counts le k = record { each = k.each; few = k.few; within = k.within; roomy = omega (arith, le, k.roomy) }

one_more_count : (counts : List ℕ) (n : ℕ) → 1 < get_or (counts ++ 1 ∷ []) n 0 → 1 < get_or counts n 0
one_more_count [] zero many = absurd (omega (arith, many))
one_more_count [] (suc n) many = absurd (omega (arith, many))
one_more_count (k ∷ ks) zero many = many
one_more_count (k ∷ ks) (suc n) many = one_more_count ks n many

-- a chain with one version joins, and there is room for its number
pub listed_more : (numbers : List ℕ) (room more : ℕ) (counts : List ℕ) → length counts + 1 ≤ more → AreListed numbers room counts → AreListed numbers more (counts ++ 1 ∷ [])
listed_more numbers room more counts le k = record {
  each = λ n many. k.each n (one_more_count counts n many);
  few = omega (arith, k.few, sum_by_push one_if_several counts 1);
  within = λ i lt. omega (arith, k.within i lt, length_push counts 1);
  roomy = omega (arith, le, length_push counts 1);
}

-- ---- a chain that is given a version

-- there is room for the number of a chain with one version
pub room_for_number : (numbers : List ℕ) (room : ℕ) (counts : List ℕ) (n : ℕ) → n < length counts → get_or counts n 0 ≤ 1 → AreListed numbers room counts → length numbers < room
room_for_number numbers room counts n within few k = omega (arith, k.few, k.roomy, several_below counts n within few)

in_longer : (m n : ℕ) (numbers : List ℕ) → IsIn m numbers → IsIn m (numbers ++ n ∷ [])
in_longer m n numbers i = record {
  index = i.index;
  within = omega (arith, i.within, length_push numbers n);
  here = get_or_append_left numbers (n ∷ []) 0 i.index i.within ∙ i.here;
}

in_last : (n : ℕ) (numbers : List ℕ) → IsIn n (numbers ++ n ∷ [])
in_last n numbers = record { index = length numbers; within = omega (arith, length_push numbers n); here = get_or_push numbers n 0 (length numbers) refl }

-- where a chain had one version and has more, its number joins the list
pub listed_joined : (numbers : List ℕ) (room : ℕ) (counts : List ℕ) (n k : ℕ) → n < length counts → get_or counts n 0 ≤ 1 → 1 < k → AreListed numbers room counts → AreListed (numbers ++ n ∷ []) room (set counts n k)
listed_joined numbers room counts n k within one many l = record {
  each = λ m. each m (m == n) (equals m n);
  few = omega (arith, l.few, length_push numbers n, sum_by-set one_if_several counts n k 0 within, none_for_one (get_or counts n 0) one, one_for_more k many);
  within = λ i lt. below i lt (nat_lt i (length numbers)) (compared i (length numbers));
  roomy = let e = length-set counts n k in omega (arith, e, l.roomy);
}
  where
    each : (m : ℕ) (b : Bool) → Equals m n b → 1 < get_or (set counts n k) m 0 → IsIn m (numbers ++ n ∷ [])
    each m b (equal same) h = subst (λ j. IsIn j (numbers ++ n ∷ [])) (sym same) (in_last n numbers)
    each m b (unequal other) h = in_longer m n numbers (l.each m (subst (λ j. 1 < j) (get_or-set_other counts n m k 0 other) h))

    below : (i : ℕ) → i < length (numbers ++ n ∷ []) → (b : Bool) → Compared i (length numbers) b → get_or (numbers ++ n ∷ []) i 0 < length (set counts n k)
    below i lt b (less h) =
        let e = length-set counts n k in
        let g = get_or_append_left numbers (n ∷ []) 0 i h in
        omega (arith, e, g, l.within i h)
    below i lt b (not_less h) =
        let e = length-set counts n k in
        let last : length numbers ≡ i = omega (arith, h, lt, length_push numbers n) in
        let g = get_or_push numbers n 0 i last in
        omega (arith, e, g, within)

-- where a chain had more than one version and has more than one, the list stays
pub listed_longer : (numbers : List ℕ) (room : ℕ) (counts : List ℕ) (n k : ℕ) → n < length counts → 1 < get_or counts n 0 → 1 < k → AreListed numbers room counts → AreListed numbers room (set counts n k)
listed_longer numbers room counts n k within some many l = record {
  each = λ m. each m (m == n) (equals m n);
  few = omega (arith, l.few, sum_by-set one_if_several counts n k 0 within, one_for_more (get_or counts n 0) some, one_for_more k many);
  within = λ i lt. let e = length-set counts n k in omega (arith, e, l.within i lt);
  roomy = let e = length-set counts n k in omega (arith, e, l.roomy);
}
  where
    each : (m : ℕ) (b : Bool) → Equals m n b → 1 < get_or (set counts n k) m 0 → IsIn m numbers
    each m b (equal same) h = subst (λ j. IsIn j numbers) (sym same) (l.each n some)
    each m b (unequal other) h = l.each m (subst (λ j. 1 < j) (get_or-set_other counts n m k 0 other) h)

-- ---- a prune

-- a number is in a list, before one index or from another on
pub record IsLeft (number : ℕ) (numbers : List ℕ) (kept next : ℕ) : Type 0 where
  pub index : ℕ
  pub within : index < length numbers
  pub here : get_or numbers index 0 ≡ number
  pub side : (index < kept) ⊎ (next ≤ index)

-- The list while it is gone through: its numbers before one index were looked at and stay, and those from another on are still to
-- be looked at.
pub record AreLeft (numbers : List ℕ) (room kept next : ℕ) (counts : List ℕ) : Type 0 where
  pub order : kept ≤ next
  pub end : next ≤ length numbers
  pub each : (number : ℕ) → 1 < get_or counts number 0 → IsLeft number numbers kept next
  pub few : kept + length numbers ≤ sum_by one_if_several counts + next
  pub within : (i : ℕ) → i < length numbers → get_or numbers i 0 < length counts
  pub roomy : length counts ≤ room

pub left_first : (numbers : List ℕ) (room : ℕ) (counts : List ℕ) → AreListed numbers room counts → AreLeft numbers room 0 0 counts
left_first numbers room counts l = record {
  order = omega arith;
  end = omega arith;
  each = λ m h. let i = l.each m h in record { index = i.index; within = i.within; here = i.here; side = inr (omega arith) };
  few = omega (arith, l.few);
  within = l.within;
  roomy = l.roomy;
}

-- how far a count falls or rises where a chain's count changes
several_set : (counts : List ℕ) (n k : ℕ) → n < length counts → (sum_by one_if_several counts ≤ sum_by one_if_several (set counts n k) + 1)
several_set counts n k within = omega (arith, sum_by-set one_if_several counts n k 0 within, one_at_most (get_or counts n 0))

several_kept : (counts : List ℕ) (n k : ℕ) → n < length counts → 1 < k → sum_by one_if_several counts ≤ sum_by one_if_several (set counts n k)
several_kept counts n k within many = omega (arith, sum_by-set one_if_several counts n k 0 within, one_at_most (get_or counts n 0), one_for_more k many)

module _ (numbers : List ℕ) (room kept next : ℕ) (counts : List ℕ) (l : AreLeft numbers room kept next counts) (here : next < length numbers) where
  abbrev number : ℕ
  number = get_or numbers next 0

  in_counts : number < length counts
  in_counts = l.within next here

  -- what is left of another number than the next is left further on
  further : (m : ℕ) → m ≢ number → IsLeft m numbers kept next → IsLeft m numbers kept (next + 1)
  further m other i = record { index = i.index; within = i.within; here = i.here; side = elim i.side [ inl h ↦ inl h | inr h ↦ inr (beyond h) ] }
    where
      beyond : next ≤ i.index → next + 1 ≤ i.index
      beyond h = by (i.index == next) (equals i.index next)
        where
          by : (b : Bool) → Equals i.index next b → next + 1 ≤ i.index
          by b (equal same) = absurd (other (sym i.here ∙ ap (λ j. get_or numbers j 0) same))
          by b (unequal apart) = omega (arith, h, apart)

  -- where the next chain has one version, its number goes
  pub left_gone : (k : ℕ) → k ≤ 1 → AreLeft numbers room kept (next + 1) (set counts number k)
  left_gone k few = record {
    order = omega (arith, l.order);
    end = omega (arith, here);
    each = λ m. each m (m == number) (equals m number);
    few = omega (arith, l.few, several_set counts number k in_counts);
    within = λ i lt. let e = length-set counts number k in omega (arith, e, l.within i lt);
    roomy = let e = length-set counts number k in omega (arith, e, l.roomy);
  }
    where
      each : (m : ℕ) (b : Bool) → Equals m number b → 1 < get_or (set counts number k) m 0 → IsLeft m numbers kept (next + 1)
      each m b (equal same) h =
          let one : get_or (set counts number k) m 0 ≡ k = ap (λ j. get_or (set counts number k) j 0) same ∙ get_or-set_same counts number k 0 in_counts in
          absurd (omega (arith, h, one, few))
      each m b (unequal other) h = further m other (l.each m (subst (λ j. 1 < j) (get_or-set_other counts number m k 0 other) h))

  moved : (m : ℕ) → IsLeft m numbers kept (next + 1) → IsLeft m (set numbers kept number) (kept + 1) (next + 1)
  moved m i =
      let apart : i.index ≢ kept = λ same. elim i.side [ inl h ↦ absurd (omega (arith, h, same)) | inr h ↦ absurd (omega (arith, h, same, l.order)) ] in
      record {
        index = i.index;
        within = omega (arith, i.within, length-set numbers kept number);
        here = get_or-set_other numbers kept i.index number 0 apart ∙ i.here;
        side = elim i.side [ inl h ↦ inl (omega (arith, h)) | inr h ↦ inr h ];
      }

  stays : IsLeft number (set numbers kept number) (kept + 1) (next + 1)
  stays = record {
    index = kept;
    within = omega (arith, l.order, here, length-set numbers kept number);
    here = get_or-set_same numbers kept number 0 (omega (arith, l.order, here));
    side = inl (omega arith);
  }

  -- where the next chain has more versions, its number stays
  pub left_stays : (k : ℕ) → 1 < k → AreLeft (set numbers kept number) room (kept + 1) (next + 1) (set counts number k)
  left_stays k many = record {
    order = omega (arith, l.order);
    end = omega (arith, here, length-set numbers kept number);
    each = λ m. each m (m == number) (equals m number);
    few = omega (arith, l.few, several_kept counts number k in_counts many, length-set numbers kept number);
    within = λ i lt. let e = length-set counts number k in omega (arith, e, below i (omega (arith, lt, length-set numbers kept number)) (i == kept) (equals i kept));
    roomy = let e = length-set counts number k in omega (arith, e, l.roomy);
  }
    where
      each : (m : ℕ) (b : Bool) → Equals m number b → 1 < get_or (set counts number k) m 0 → IsLeft m (set numbers kept number) (kept + 1) (next + 1)
      each m b (equal same) h = subst (λ j. IsLeft j (set numbers kept number) (kept + 1) (next + 1)) (sym same) stays
      each m b (unequal other) h = moved m (further m other (l.each m (subst (λ j. 1 < j) (get_or-set_other counts number m k 0 other) h)))

      below : (i : ℕ) → i < length numbers → (b : Bool) → Equals i kept b → get_or (set numbers kept number) i 0 < length counts
      below i lt b (equal same) =
          let g : get_or (set numbers kept number) i 0 ≡ number = ap (λ j. get_or (set numbers kept number) j 0) same ∙ get_or-set_same numbers kept number 0 (omega (arith, l.order, here)) in
          omega (arith, g, in_counts)
      below i lt b (unequal other) = let g = get_or-set_other numbers kept i number 0 other in omega (arith, g, l.within i lt)

-- at the end, those that stay are the list
pub left_all : (numbers : List ℕ) (room kept next : ℕ) (counts : List ℕ) → length numbers ≤ next → AreLeft numbers room kept next counts → AreListed (take kept numbers) room counts
left_all numbers room kept next counts all l = record {
  each = λ m h. at m (l.each m h);
  few = omega (arith, size, l.few, l.end);
  within = λ i lt. let g = get_or-take kept numbers i 0 (omega (arith, lt, size)) in omega (arith, g, l.within i (omega (arith, lt, size, short)));
  roomy = l.roomy;
}
  where
    short : kept ≤ length numbers
    short = omega (arith, l.order, l.end)

    size : length (take kept numbers) ≡ kept
    size = length-take-le kept numbers short

    at : (m : ℕ) → IsLeft m numbers kept next → IsIn m (take kept numbers)
    at m i = elim i.side [ inl h ↦ record { index = i.index; within = omega (arith, size, h); here = get_or-take kept numbers i.index 0 h ∙ i.here } | inr h ↦ absurd (omega (arith, h, all, i.within)) ]
