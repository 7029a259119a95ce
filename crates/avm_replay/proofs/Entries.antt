-- Calls of entries, one after another.
use Rattle.std.proofs.Common.{◌≡◌, ◌∙◌, ap, sym, subst, refl, ℕ, ◌+◌, ◌<◌, ◌≤◌, Bool, true, false, nat_le, List, [], ◌∷◌, ◌++◌, length, take, drop, None, slice_index_or, arith}
use Rattle.std.proofs.lemmas.List.{drop_more, length-take-le, map-append, take-append-drop, take_more}
use Rattle.std.proofs.Math.Seq.{take-length}
use Rattle.avm_ledger.specs.declared.header.Header.{Header}
use Rattle.avm_ledger.specs.Ledgers.{Ledger}
use Rattle.avm_items.specs.declared.call_data.CallData.{CallData}
use Rattle.avm_call.specs.declared.outcome.Outcome.{Outcome}
use Rattle.avm_call.specs.Replay.{ledger_after, outcome_on, outcomes, replayed}
use Rattle.avm_block.specs.declared.entry.Entry.{Entry}
use Rattle.avm_block.specs.Blocks.{RisesAbove, calls_in, outcomes_in}
use Rattle.avm_block.specs.BlockRoundTrip.{AreEntries}
use Rattle.avm_replay.specs.Past.{entries_until}
use Rattle.avm_replay.specs.Verdicts.{Compares, IsFirstWrong}

-- lists that are the same have the same first element, and the same others
pub heads : {A : Type 0} {x y : A} {xs ys : List A} → x ∷ xs ≡ y ∷ ys → x ≡ y
heads e = cc

pub tails : {A : Type 0} {x y : A} {xs ys : List A} → x ∷ xs ≡ y ∷ ys → xs ≡ ys
tails e = cc

-- a call added at the end has the outcome that it has on the ledger after the others
pub outcomes-append : (l : Ledger) (h : Header) (cs : List CallData) (c : CallData) → outcomes l h (cs ++ c ∷ []) ≡ outcomes l h cs ++ outcome_on (replayed l h cs) c h ∷ []
outcomes-append l h [] c = refl
outcomes-append l h (b ∷ bs) c = ap (λ os. outcome_on l b h ∷ os) (outcomes-append (ledger_after l b h) h bs c)

-- a call added at the end leads on from the ledger after the others
pub replayed-append : (l : Ledger) (h : Header) (cs : List CallData) (c : CallData) → replayed l h (cs ++ c ∷ []) ≡ ledger_after (replayed l h cs) c h
replayed-append l h [] c = refl
replayed-append l h (b ∷ bs) c = replayed-append (ledger_after l b h) h bs c

agrees_further : (old new : Ledger) (h : Header) (es : List Entry) (e : Entry) → Compares old new h es None → outcome_on new e.call h ≡ e.outcome
    → Compares old (ledger_after new e.call h) h (es ++ e ∷ []) None
agrees_further old new h es e (agree, made) same =
    let calls : calls_in (es ++ e ∷ []) ≡ calls_in es ++ e.call ∷ [] = map-append (λ (x : Entry). x.call) es (e ∷ []) in
    let ends : outcomes_in (es ++ e ∷ []) ≡ outcomes_in es ++ e.outcome ∷ [] = map-append (λ (x : Entry). x.outcome) es (e ∷ []) in
    let last : outcome_on (replayed old h (calls_in es)) e.call h ≡ e.outcome = ap (λ m. outcome_on m e.call h) (sym made) ∙ same in (
      ap (outcomes old h) calls ∙ outcomes-append old h (calls_in es) e.call ∙ (λ i. agree i ++ last i ∷ []) ∙ sym ends,
      ap (λ m. ledger_after m e.call h) made ∙ sym (replayed-append old h (calls_in es) e.call) ∙ ap (replayed old h) (sym calls),
    )

-- one entry more was made, and ended as it says
pub agrees_more : (old new : Ledger) (h : Header) (es : List Entry) (i : ℕ) (e : Entry) → i < length es → e ≡ slice_index_or es i e
    → Compares old new h (take i es) None → outcome_on new e.call h ≡ e.outcome → Compares old (ledger_after new e.call h) h (take (i + 1) es) None
agrees_more old new h es i e lt is agrees same =
    let more : take (i + 1) es ≡ take i es ++ e ∷ [] = take_more es i e lt ∙ ap (λ x. take i es ++ x ∷ []) (sym is) in
    rw more (agrees_further old new h (take i es) e agrees same)

-- the next entry ended otherwise
pub first_wrong_at : (old new : Ledger) (h : Header) (es : List Entry) (i : ℕ) (e : Entry) (found : Outcome) → i < length es → e ≡ slice_index_or es i e
    → Compares old new h (take i es) None → found ≡ outcome_on new e.call h → (found ≡ e.outcome → ⊥) → IsFirstWrong old h es (i + 1) found
first_wrong_at old new h es i e found lt is (agree, made) ends differs = record {
  before = take i es;
  entry = e;
  behind = drop (i + 1) es;
  parts = sym (take-append-drop i es) ∙ ap (λ xs. take i es ++ xs) (drop_more es i e lt ∙ ap (λ x. x ∷ drop (i + 1) es) (sym is));
  numbered = ap (λ k. k + 1) (sym (length-take-le i es (omega (arith, lt))));
  agree = agree;
  ends = ends ∙ ap (λ m. outcome_on m e.call h) made;
  differs = differs;
}

-- all were made
pub agrees_with_all : (old new : Ledger) (h : Header) (es : List Entry) (i : ℕ) → length es ≤ i → i ≤ length es → Compares old new h (take i es) None → Compares old new h es None
agrees_with_all old new h es i from to agrees =
    let all : take i es ≡ es = let e : i ≡ length es = omega (arith, from, to) in ap (λ n. take n es) e ∙ take-length es in
    subst (λ xs. Compares old new h xs None) all agrees

-- ---- entries up to a timestamp

none_until : (t before : ℕ) (es : List Entry) → RisesAbove before es → t ≤ before → entries_until t es ≡ []
none_until t before [] rises le = refl
none_until t before (e ∷ es) (above, rises) le =
    let no : nat_le e.timestamp t ≡ false = search (arith, above, le) in
    rw no (none_until t e.timestamp es rises (omega (arith, above, le)))

-- the first of these is behind the timestamp, and so are all
pub none_further : (t before : ℕ) (es : List Entry) (i : ℕ) (e : Entry) → i < length es → e ≡ slice_index_or es i e → RisesAbove before (drop i es) → t < e.timestamp
    → entries_until t (drop i es) ≡ []
none_further t before es i e lt is rises behind =
    let more : drop i es ≡ e ∷ drop (i + 1) es = drop_more es i e lt ∙ ap (λ x. x ∷ drop (i + 1) es) (sym is) in
    let above = rw more at rises in
    let no : nat_le e.timestamp t ≡ false = search (arith, behind) in
    ap (entries_until t) more ∙ rw no (none_until t e.timestamp (drop (i + 1) es) above.1 (omega (arith, behind)))

-- the first of these isn't
pub one_further : (t before : ℕ) (es : List Entry) (i : ℕ) (e : Entry) → i < length es → e ≡ slice_index_or es i e → RisesAbove before (drop i es) → e.timestamp ≤ t
    → (entries_until t (drop i es) ≡ e ∷ entries_until t (drop (i + 1) es)) × RisesAbove e.timestamp (drop (i + 1) es)
one_further t before es i e lt is rises le =
    let more : drop i es ≡ e ∷ drop (i + 1) es = drop_more es i e lt ∙ ap (λ x. x ∷ drop (i + 1) es) (sym is) in
    let above = rw more at rises in
    let yes : nat_le e.timestamp t ≡ true = search (arith, le) in
    (ap (entries_until t) more ∙ rw yes refl, above.1)

-- a block's entries rise
pub rising : (accepted : CallData → Bool) (before : ℕ) (es : List Entry) → AreEntries accepted before es → RisesAbove before es
rising accepted before [] are = tt
rising accepted before (e ∷ es) (is, are) = (is.rises, rising accepted e.timestamp es are)
