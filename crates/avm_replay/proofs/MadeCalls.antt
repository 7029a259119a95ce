-- Calls made one after another, as entries.
use Rattle.std.proofs.Common.{◌≡◌, ◌∙◌, ap, sym, subst, refl, ℕ, ◌+◌, ◌<◌, ◌≤◌, List, [], ◌∷◌, ◌++◌, length, map, take, All, slice_index_or, arith}
use Rattle.std.proofs.lemmas.List.{length-take-le, map-append, take_more}
use Rattle.std.proofs.lemmas.List.Elements.{All-cons, All-head, All-nil, All-push, All-tail}
use Rattle.std.proofs.Math.Seq.{take-length}
use Rattle.avm_ledger.specs.declared.header.Header.{Header}
use Rattle.avm_ledger.specs.Ledgers.{Ledger}
use Rattle.avm_items.specs.declared.call_data.CallData.{CallData}
use Rattle.avm_call.specs.Places.{HasPlace}
use Rattle.avm_call.specs.Replay.{ledger_after, outcome_on}
use Rattle.avm_block.specs.declared.entry.Entry.{Entry}
use Rattle.avm_block.specs.Blocks.{RisesAbove, calls_in}
use Rattle.avm_replay.specs.Plain.{AreMade, timestamps_from}
use Rattle.avm_replay.proofs.Entries.{heads, outcomes-append, replayed-append, tails}

timestamps-append : (first : ℕ) (cs : List CallData) (c : CallData) → timestamps_from first (cs ++ c ∷ []) ≡ timestamps_from first cs ++ (first + length cs) ∷ []
timestamps-append first [] c = let e : first ≡ first + 0 = omega arith in ap (λ n. n ∷ []) e
timestamps-append first (b ∷ bs) c =
    let e : first + 1 + length bs ≡ first + length (b ∷ bs) = omega arith in
    ap (λ ts. first ∷ ts) (timestamps-append (first + 1) bs c ∙ ap (λ n. timestamps_from (first + 1) bs ++ n ∷ []) e)

-- where there are no calls, there are no entries, and the ledger stays
pub nothing_made : (l : Ledger) (h : Header) → AreMade l h [] [] l
nothing_made l h = record { same_calls = refl; timestamps = refl; places = All-nil (λ (e : Entry). HasPlace e.outcome); ends = refl; after = refl }

made_further : (old new : Ledger) (h : Header) (cs : List CallData) (es : List Entry) (e : Entry) → AreMade old h cs es new → e.timestamp ≡ 1 + length cs → e.outcome ≡ outcome_on new e.call h
    → HasPlace e.outcome → AreMade old h (cs ++ e.call ∷ []) (es ++ e ∷ []) (ledger_after new e.call h)
made_further old new h cs es e made numbered ends place = record {
  same_calls = map-append (λ (x : Entry). x.call) es (e ∷ []) ∙ ap (λ xs. xs ++ e.call ∷ []) made.same_calls;
  timestamps = map-append (λ (x : Entry). x.timestamp) es (e ∷ []) ∙ (λ i. made.timestamps i ++ numbered i ∷ []) ∙ sym (timestamps-append 1 cs e.call);
  places = All-push (λ (x : Entry). HasPlace x.outcome) es e made.places place;
  ends = outcomes-append old h cs e.call ∙ (λ i. made.ends i ++ (ap (λ m. outcome_on m e.call h) (sym made.after) ∙ sym ends) i ∷ []) ∙ sym (map-append (λ (x : Entry). x.outcome) es (e ∷ []));
  after = ap (λ m. ledger_after m e.call h) made.after ∙ sym (replayed-append old h cs e.call);
}

-- one call more was made
pub made_more : (old new : Ledger) (h : Header) (cs : List CallData) (i : ℕ) (es : List Entry) (e : Entry) → i < length cs → e.call ≡ slice_index_or cs i e.call → AreMade old h (take i cs) es new
    → e.timestamp ≡ i + 1 → e.outcome ≡ outcome_on new e.call h → HasPlace e.outcome → AreMade old h (take (i + 1) cs) (es ++ e ∷ []) (ledger_after new e.call h)
made_more old new h cs i es e lt is made numbered ends place =
    let more : take (i + 1) cs ≡ take i cs ++ e.call ∷ [] = take_more cs i e.call lt ∙ ap (λ x. take i cs ++ x ∷ []) (sym is) in
    let count : e.timestamp ≡ 1 + length (take i cs) = omega (arith, numbered, length-take-le i cs (omega (arith, lt))) in
    rw more (made_further old new h (take i cs) es e made count ends place)

-- all were made
pub made_all : (old new : Ledger) (h : Header) (cs : List CallData) (i : ℕ) (es : List Entry) → length cs ≤ i → i ≤ length cs → AreMade old h (take i cs) es new → AreMade old h cs es new
made_all old new h cs i es from to made =
    let all : take i cs ≡ cs = let e : i ≡ length cs = omega (arith, from, to) in ap (λ n. take n cs) e ∙ take-length cs in
    subst (λ xs. AreMade old h xs es new) all made

-- timestamps one after another rise
pub rising : (cs : List CallData) (before : ℕ) (es : List Entry) → map (λ (e : Entry). e.timestamp) es ≡ timestamps_from (before + 1) cs → RisesAbove before es
rising cs before [] e = tt
rising [] before (x ∷ xs) e = absurd cc
rising (c ∷ cs) before (x ∷ xs) e =
    let here : x.timestamp ≡ before + 1 = heads e in
    let rest : map (λ (y : Entry). y.timestamp) xs ≡ timestamps_from (before + 1 + 1) cs = tails e in
    (omega (arith, here), rising cs x.timestamp xs (rest ∙ ap (λ n. timestamps_from (n + 1) cs) (sym here)))

-- what holds of the calls holds of their entries
pub of_calls : (P : CallData → Type 0) (es : List Entry) → All P (calls_in es) → All (λ (e : Entry). P e.call) es
of_calls P [] all = All-nil (λ (e : Entry). P e.call)
of_calls P (e ∷ es) all = All-cons (λ (x : Entry). P x.call) e es (All-head P e.call (calls_in es) all) (of_calls P es (All-tail P e.call (calls_in es) all))
