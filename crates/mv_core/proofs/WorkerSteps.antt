-- One event of one worker, against what it means.
use Rattle.std.proofs.Common.{◌≡◌, ℕ, zero, suc, ◌+◌, ◌-◌, ◌<◌, ◌≤◌, ◌==◌, ◌&&◌, not, Bool, true, false, nat_lt, nat_le, if◌then◌else◌, List, [], ◌∷◌, length, map, Option, None, Some, Ok, Err, get_or, set, slice_set, refl, sym, ap, ◌∙◌, subst, arith, inl, inr}
use Rattle.std.specs.Prelude.{◌⊎◌, ◌^◌, is_none, is_some, option_map}
use Rattle.std.proofs.lemmas.List.{map-set, length-map}
use Rattle.std.proofs.lemmas.Option.{same_Some}
use Rattle.avm_items.specs.declared.item.Item.{Item}
use Rattle.avm_items.specs.declared.item_value.ItemValue.{ItemValue}
use Rattle.avm_items.specs.Asks.{Answer, answer_from}
use Rattle.avm_items.specs.Items.{ItemMap, value_in, with_item}
use Rattle.avm_items.specs.LedgerItems.{at, pruned, value_before}
use Rattle.avm_items.specs.Locality.{then}
use Rattle.avm_call.specs.Calls.{CallResult, call_result}
use Rattle.avm_run.specs.Advances.{Supplies}
use Rattle.avm_run.specs.Results.{CallRecord, with_changes}
use Rattle.avm_run.specs.RunState.{Progress}
use Rattle.mv_history.specs.History.{commit_count, version_below}
use Rattle.mv_history.specs.SameWorlds.{HaveSameMarks, IsSameWorld}
use Rattle.mv_history.specs.World.{after_abandon, after_begin, after_commit, after_prune, after_read, fresh_attempt, greatest_mark, live_count}
use Rattle.mv_history.proofs.SameWorlds.{same_world-itself, same_world-sym}
use Rattle.mv_parts.specs.CallHistory.{CallAttempt, CallEntry, CallWorld, same_item}
use Rattle.mv_parts.specs.CallNumbers.{call_of}
use Rattle.mv_parts.specs.CallLaws.{entry_of}
use Rattle.mv_core.specs.declared.running.Event.{Event}
use Rattle.mv_core.specs.declared.running.Event.TheVariants as event
use Rattle.mv_core.specs.RunningLaws.{IsSameRunning}
use Rattle.mv_core.specs.Running.{RunInput, Running, answer_of, by_worker, commit_by, entry_by, may_begin, index_among, read_by, running_after, with_worker, worker_at, writes_in_time}
use Rattle.mv_core.specs.declared.faults.CommitFault.{CommitFault}
use Rattle.mv_core.specs.declared.faults.CommitFault.TheVariants as fault
use Rattle.mv_core.specs.declared.ticket.Ticket.{Ticket}
use Rattle.mv_core.specs.declared.world.Worker.{Worker}
use Rattle.mv_core.specs.declared.world.Worker.TheVariants as worker
use Rattle.mv_core.specs.Commits.{late_write}
use Rattle.mv_core.specs.AttemptSlots.{HasLiveNumber}
use Rattle.mv_core.specs.Stores.{IsFirstRead, IsPrune, IsReadAgain}
use Rattle.mv_core.specs.SeenStores.{Store}
use Rattle.mv_core.specs.Worlds.{AreSound, TicketAsksFor, TicketHasEnded, IsLiveWith, IsSoundWorker, IsStep, attempt_by, attempt_of, input_of, reads_or_none, running_of, ticket_of}
use Rattle.mv_core.specs.WorkerSteps.{IsAbandonBy, IsAdvanced, IsBegunBy, IsCommitBy, IsLiveIfAny, IsReadByStore, IsReadBy, IsWork, may_begin_call, worker_in}

-- ---- a worker reads

-- the worker's attempt has read the item, and what the worker then has is sound
pub record ReadsOn (old new : Store) (ticket : Ticket) (run : Option Progress) (x : Item) (after : Worker) : Type 0 where
  pub read : IsReadByStore old new (attempt_by ticket (reads_or_none run)) x (attempt_of after)
  pub sound : IsSoundWorker (input_of old) after

module _ (old new : Store) (ticket : Ticket) (x : Item) (v : ItemValue) (p : Progress) (asks : TicketAsksFor (input_of old) ticket (Some p) x) (live : IsLiveWith old (attempt_by ticket p.reads)) where
  supplied : Progress
  supplied = record { call = p.call; header = p.header; reads = with_item p.reads x v; asked = None; steps = p.steps }

  same_progress : p ≡ asks.progress
  same_progress = same_Some _ _ asks.goes_on

  own_call : call_of old.calls ticket.number ≡ Some p.call
  own_call = asks.call ∙ ap (λ (q : Progress). Some q.call) (sym same_progress)

  own_header : p.header ≡ old.header
  own_header = ap (λ (q : Progress). q.header) same_progress ∙ asks.header

  not_supplied : value_in p.reads x ≡ None
  not_supplied = ap (λ (q : Progress). value_in q.reads x) same_progress ∙ asks.not_supplied

  went_on : (after : Worker) (run : Option Progress) → run ≡ Some (record p { reads = with_item p.reads x v; asked = None }) → IsAdvanced ticket run after
      → v ≡ (version_below same_item (at old.base) old.world.entries (suc ticket.timestamp) x).1
      → (attempt_of after ≡ Some (record (attempt_by ticket p.reads) { reads = with_item p.reads x (version_below same_item (at old.base) old.world.entries (suc ticket.timestamp) x).1 })) × IsSoundWorker (input_of old) after
  went_on after None is h value = absurd cc
  went_on worker.Idle (Some q) is h value = absurd h
  went_on (worker.Running own run' y) (Some q) is (same, next) value =
      let q_is : q ≡ record p { reads = with_item p.reads x v; asked = None } = same_Some _ _ is in
      let reads : next.after.reads ≡ with_item p.reads x v = next.same_reads ∙ ap (λ (r : Progress). r.reads) q_is in (
        (λ i. Some (attempt_by (same i) (ap reads_or_none next.goes_on i))) ∙ ap (λ rs. Some (attempt_by ticket rs)) reads ∙ ap (λ u. Some (attempt_by ticket (with_item p.reads x u))) value,
        record {
          progress = next.after;
          goes_on = next.goes_on;
          call = ap (λ (t : Ticket). call_of old.calls t.number) same ∙ own_call ∙ ap Some (sym (next.same_call ∙ ap (λ (r : Progress). r.call) q_is));
          header = next.same_header ∙ ap (λ (r : Progress). r.header) q_is ∙ own_header;
          asked = next.asked;
          definition = (λ i. answer_from (value_in (next.same_reads i)) (call_result (next.same_call i) (next.same_header i))) ∙ next.definition;
          not_supplied = ap (λ rs. value_in rs y) next.same_reads ∙ next.not_supplied;
        },
      )
  went_on (worker.Finished own f) (Some q) is (same, ends) value =
      let q_is : q ≡ record p { reads = with_item p.reads x v; asked = None } = same_Some _ _ is in
      let reads : f.reads ≡ with_item p.reads x v = ends.same_reads ∙ ap (λ (r : Progress). r.reads) q_is in (
        (λ i. Some (attempt_by (same i) (reads i))) ∙ ap (λ u. Some (attempt_by ticket (with_item p.reads x u))) value,
        record {
          call = ap (λ (t : Ticket). call_of old.calls t.number) same ∙ own_call ∙ ap Some (sym (ends.same_call ∙ ap (λ (r : Progress). r.call) q_is));
          header = ends.same_header ∙ ap (λ (r : Progress). r.header) q_is ∙ own_header;
          finished = ends.finished;
        },
      )

  first_read : IsFirstRead old new ticket.number ticket.timestamp x v → (after : Worker) (run : Option Progress) → run ≡ Some (record p { reads = with_item p.reads x v; asked = None }) → IsAdvanced ticket run after → ReadsOn old new ticket (Some p) x after
  first_read read after run is h =
      let own : read.attempt ≡ attempt_by ticket p.reads = same_Some _ _ (sym read.live ∙ live) in
      let on = went_on after run is h read.value in
      record {
        read = record {
          input = ap input_of read.others;
          event = subst (λ (a : CallAttempt). IsSameWorld same_item (at old.base) new.world (after_read same_item (at old.base) old.world ticket.timestamp (index_among a.reads x) x)) own read.event;
          joins = on.0;
        };
        sound = on.1;
      }

  never_again : IsReadAgain old new ticket.number ticket.timestamp x v → ⊥
  never_again read =
      let own : read.attempt ≡ attempt_by ticket p.reads = same_Some _ _ (sym read.live ∙ live) in
      let known : value_in p.reads x ≡ Some v = ap (λ (a : CallAttempt). value_in a.reads x) (sym own) ∙ read.known in
      never (sym not_supplied ∙ known)
    where
      never : None ≡ Some v → ⊥
      never e = cc

pub reads_on : (old new : Store) (ticket : Ticket) (run : Option Progress) (x y : Item) (v : ItemValue) (supplied : Option Progress) → TicketAsksFor (input_of old) ticket run x → IsLiveWith old (attempt_by ticket (reads_or_none run)) → y ≡ x
    → (IsFirstRead old new ticket.number ticket.timestamp y v ⊎ IsReadAgain old new ticket.number ticket.timestamp y v) → Supplies run supplied x v None → (after : Worker) → IsAdvanced ticket supplied after → ReadsOn old new ticket run x after
reads_on old new ticket None x y v supplied asks live same read supplies after h = absurd (never asks.goes_on)
  where
    never : None ≡ Some asks.progress → ⊥
    never e = cc
reads_on old new ticket (Some p) x y v supplied asks live same (inl first) supplies after h =
    first_read old new ticket x v p asks live (subst (λ z. IsFirstRead old new ticket.number ticket.timestamp z v) same first) after supplied supplies.1 h
reads_on old new ticket (Some p) x y v supplied asks live same (inr again) supplies after h = absurd (never_again old new ticket x v p asks live (subst (λ z. IsReadAgain old new ticket.number ticket.timestamp z v) same again))

-- a live attempt is found by the number and the timestamp of its ticket
pub ticket_live : (s : Store) (o : Option CallAttempt) (t : Ticket) → option_map ticket_of o ≡ Some t → IsLiveIfAny s o → HasLiveNumber s.world.live t.number t.timestamp
ticket_live s None t is live = absurd cc
ticket_live s (Some a) t is live = subst (λ (u : Ticket). HasLiveNumber s.world.live u.number u.timestamp) (same_Some _ _ is) (record { attempt = a; live = live; number = refl })

-- ---- at a worker's index

at_map : (ws : List Worker) (i : ℕ) (d : Worker) → i < length ws → d ≡ get_or ws i d → get_or (map attempt_of ws) i None ≡ attempt_of d
at_map [] i d inside is = absurd (omega (arith, inside))
at_map (w ∷ ws) zero d inside is = ap attempt_of (sym is)
at_map (w ∷ ws) (suc i) d inside is = at_map ws i d (omega (arith, inside)) is

sound_at : (input : RunInput) (ws : List Worker) (i : ℕ) (d : Worker) → i < length ws → d ≡ get_or ws i d → AreSound input ws → IsSoundWorker input d
sound_at input [] i d inside is h = absurd (omega (arith, inside))
sound_at input (w ∷ ws) zero d inside is h = subst (IsSoundWorker input) (sym is) h.0
sound_at input (w ∷ ws) (suc i) d inside is h = sound_at input ws i d (omega (arith, inside)) is h.1

sound_set : (input : RunInput) (ws : List Worker) (i : ℕ) (w : Worker) → AreSound input ws → IsSoundWorker input w → AreSound input (set ws i w)
sound_set input [] i w h k = h
sound_set input (v ∷ vs) zero w h k = (k, h.1)
sound_set input (v ∷ vs) (suc i) w h k = (h.0, sound_set input vs i w h.1 k)

set_twice : (ws : List Worker) (i : ℕ) (v w : Worker) → set (set ws i v) i w ≡ set ws i w
set_twice [] i v w = refl
set_twice (x ∷ xs) zero v w = refl
set_twice (x ∷ xs) (suc i) v w = ap (λ ys. x ∷ ys) (set_twice xs i v w)

set_here : {A : Type 0} (xs : List (Option A)) (i : ℕ) (o : Option A) → get_or xs i None ≡ o → i < length xs → set xs i o ≡ xs
set_here [] i o is inside = refl
set_here (x ∷ xs) zero o is inside = ap (λ y. y ∷ xs) (sym is)
set_here (x ∷ xs) (suc i) o is inside = ap (λ ys. x ∷ ys) (set_here xs i o is (omega (arith, inside)))

live_at : (s : Store) (ws : List Worker) (i : ℕ) (d : Worker) → i < length ws → d ≡ get_or ws i d → ((w : ℕ) (a : CallAttempt) → get_or (map attempt_of ws) w None ≡ Some a → IsLiveWith s a) → IsLiveIfAny s (attempt_of d)
live_at s ws i d inside is live = by (attempt_of d) (at_map ws i d inside is)
  where
    by : (o : Option CallAttempt) → get_or (map attempt_of ws) i None ≡ o → IsLiveIfAny s o
    by None h = tt
    by (Some a) h = live i a h

-- taken from its index
pub live_here : (s : Store) (ws : List Worker) (i : ℕ) (w d : Worker) → i < length ws → w ≡ d → d ≡ get_or ws i d → ((v : ℕ) (a : CallAttempt) → get_or (map attempt_of ws) v None ≡ Some a → IsLiveWith s a) → IsLiveIfAny s (attempt_of w)
live_here s ws i w d inside taken there live = subst (λ (v : Worker). IsLiveIfAny s (attempt_of v)) (sym taken) (live_at s ws i d inside there live)

-- ---- whether a commit is in time

-- the writes are in time exactly where none of them is late
pub in_time_same : (s : Store) (ws : List Worker) (t : ℕ) (writes : ItemMap) → writes_in_time (input_of s) (running_of s ws) t writes ≡ not (is_some (late_write s t writes))
in_time_same s ws t [] = refl
in_time_same s ws t (e ∷ es) = by (nat_le mark t) (nat_lt t mark) refl refl (in_time_same s ws t es)
  where
    mark : ℕ
    mark = greatest_mark same_item s.world.marks e.0 (version_below same_item (at s.base) s.world.entries (suc t) e.0).0

    by : (a b : Bool) → nat_le mark t ≡ a → nat_lt t mark ≡ b → writes_in_time (input_of s) (running_of s ws) t es ≡ not (is_some (late_write s t es))
        → (a && writes_in_time (input_of s) (running_of s ws) t es) ≡ not (is_some (if b then Some (fault.Late e.0 (version_below same_item (at s.base) s.world.entries (suc t) e.0).0 mark) else late_write s t es))
    by true true p q rest = absurd (grind (arith, p, q))
    by true false p q rest = rest
    by false true p q rest = refl
    by false false p q rest = absurd (grind (arith, p, q))

-- ---- what a worker's call answers

asked : (s : Store) (ticket : Ticket) (run : Option Progress) (x : Item) → TicketAsksFor (input_of s) ticket run x → answer_of s.header (reads_or_none run) (call_of s.calls ticket.number) ≡ Some (Err x)
asked s ticket run x asks =
    ap (answer_of s.header (reads_or_none run)) asks.call
    ∙ (λ i. Some (answer_from (value_in (reads_or_none (asks.goes_on i))) (call_result asks.progress.call (sym asks.header i))))
    ∙ ap Some asks.definition

ok_is : {a b : CallResult} → ◌≡◌ {A = Answer CallResult} (Ok a) (Ok b) → a ≡ b
ok_is e = cc

-- a call that has ended gives its outcome, and writes of which its own change something
pub record GivesResult (s : Store) (ticket : Ticket) (f : CallRecord) : Type 0 where
  result : CallResult
  answer : answer_of s.header f.reads (call_of s.calls ticket.number) ≡ Some (Ok result)
  outcome : result.0 ≡ f.outcome
  writes : pruned (value_before (value_in f.reads)) result.1 ≡ f.writes

ended : (s : Store) (ticket : Ticket) (f : CallRecord) → TicketHasEnded (input_of s) ticket f → GivesResult s ticket f
ended s ticket f has = by (answer_from (value_in f.reads) (call_result f.call f.header)) refl has.finished.result
  where
    by : (a : Answer CallResult) → answer_from (value_in f.reads) (call_result f.call f.header) ≡ a → (then) (λ r. Ok (with_changes f.reads r)) a ≡ Ok (f.outcome, f.writes) → GivesResult s ticket f
    by (Ok result) is gives = record {
      result = result;
      answer = ap (answer_of s.header f.reads) has.call ∙ ap (λ h. Some (answer_from (value_in f.reads) (call_result f.call h))) (sym has.header) ∙ ap Some is;
      outcome = ap (λ (r : CallResult). r.0) (ok_is gives);
      writes = ap (λ (r : CallResult). r.1) (ok_is gives);
    }
    by (Err x) is gives = absurd cc

-- ---- a worker's event

module _ (old new : Store) (ws : List Worker) (i : ℕ) (w after : Worker) (inside : i < length ws) (is : w ≡ get_or ws i w) where
  abbrev r : Running
  r = running_of old ws

  abbrev new_ws : List Worker
  new_ws = set ws i after

  here : worker_at r i ≡ attempt_of w
  here = at_map ws i w inside is

  new_workers : map attempt_of new_ws ≡ set (map attempt_of ws) i (attempt_of after)
  new_workers = map-set attempt_of ws i after

  stays : (e : Event) → running_after (input_of old) r e ≡ r → new ≡ old → attempt_of after ≡ attempt_of w → IsSameRunning (input_of old) (running_after (input_of old) r e) (running_of new new_ws)
  stays e still same own = subst (λ (s : Running). IsSameRunning (input_of old) s (running_of new new_ws)) (sym still) (record {
    world = subst (λ (s : Store). IsSameWorld same_item (at old.base) old.world s.world) (sym same) (same_world-itself same_item (at old.base) old.world);
    workers = sym (new_workers ∙ ap (set (map attempt_of ws) i) own ∙ set_here (map attempt_of ws) i (attempt_of w) here (subst (λ n. i < n) (sym (length-map ws attempt_of)) inside));
  })

  moves : (e : Event) (v : CallWorld) (o : Option CallAttempt) → running_after (input_of old) r e ≡ with_worker r v i o → IsSameWorld same_item (at old.base) v new.world → attempt_of after ≡ o
      → IsSameRunning (input_of old) (running_after (input_of old) r e) (running_of new new_ws)
  moves e v o steps same own = subst (λ (s : Running). IsSameRunning (input_of old) s (running_of new new_ws)) (sym steps) (record {
    world = same;
    workers = sym (new_workers ∙ ap (set (map attempt_of ws) i) own);
  })

  Same : Event → Type 0
  Same e = IsSameRunning (input_of old) (running_after (input_of old) r e) (running_of new new_ws)

  record Worked (e : Event) : Type 0 where
    input : input_of new ≡ input_of old
    running : IsSameRunning (input_of old) (running_after (input_of old) r e) (running_of new new_ws)

  -- ---- begin

  there_is : nat_lt i (length (map attempt_of ws)) ≡ true
  there_is = let many : length (map attempt_of ws) ≡ length ws = length-map ws attempt_of in grind (arith, many, inside)

  may_is : (n : ℕ) → may_begin (input_of old) r i n ≡ (is_none (attempt_of w) && may_begin_call old n)
  may_is n =
      (λ j. there_is j && is_none (here j) && is_some (call_of old.calls n) && (commit_count n old.world.entries == 0) && (live_count n old.world.live == 0) && nat_lt old.world.clock (2 ^ 64 - 1))
      ∙ by (is_none (attempt_of w))
    where
      by : (b : Bool) → (true && b && is_some (call_of old.calls n) && (commit_count n old.world.entries == 0) && (live_count n old.world.live == 0) && nat_lt old.world.clock (2 ^ 64 - 1)) ≡ (b && may_begin_call old n)
      by true = refl
      by false = refl

  begun : (n : ℕ) (o : Option CallAttempt) → attempt_of w ≡ o → (p : Option CallAttempt) → attempt_of after ≡ p → IsBegunBy old new n o p → Worked (event.Begin i n)
  begun n (Some a) own p result (same, again) =
      record { input = ap input_of same; running = stays (event.Begin i n) (ap (λ b. if b then with_worker r (after_begin r.world n) i (Some (fresh_attempt n (r.world.clock + 1))) else r) (may_is n ∙ ap (λ o. is_none o && may_begin_call old n) own)) same (result ∙ again ∙ sym own) }
  begun n None own None result (same, may_not) =
      record {
        input = ap input_of same;
        running = stays (event.Begin i n) (ap (λ b. if b then with_worker r (after_begin r.world n) i (Some (fresh_attempt n (r.world.clock + 1))) else r) (may_is n ∙ (λ j. is_none (own j) && may_not j))) same (result ∙ sym own);
      }
  begun n None own (Some a) result (fresh, same, may) =
      record {
        input = ap input_of same;
        running = moves (event.Begin i n) (after_begin old.world n) (Some (fresh_attempt n (old.world.clock + 1)))
            (ap (λ b. if b then with_worker r (after_begin r.world n) i (Some (fresh_attempt n (r.world.clock + 1))) else r) (may_is n ∙ (λ j. is_none (own j) && may j)))
            (subst (λ (s : Store). IsSameWorld same_item (at old.base) (after_begin old.world n) s.world) (sym same) (same_world-itself same_item (at old.base) (after_begin old.world n)))
            (result ∙ ap Some fresh);
      }

  -- ---- abandon

  abandoned : (o : Option CallAttempt) → attempt_of w ≡ o → IsAbandonBy old new o (attempt_of after) → Worked (event.Abandon i)
  abandoned None own (same, none) =
      record { input = ap input_of same; running = stays (event.Abandon i) (ap (by_worker r (λ a. with_worker r (after_abandon r.world a.timestamp) i None)) (here ∙ own)) same (none ∙ sym own) }
  abandoned (Some a) own (same, none) =
      record {
        input = ap input_of same;
        running = moves (event.Abandon i) (after_abandon old.world a.timestamp) None (ap (by_worker r (λ a. with_worker r (after_abandon r.world a.timestamp) i None)) (here ∙ own))
            (subst (λ (s : Store). IsSameWorld same_item (at old.base) (after_abandon old.world a.timestamp) s.world) (sym same) (same_world-itself same_item (at old.base) (after_abandon old.world a.timestamp)))
            none;
      }

  -- ---- read

  idle_reads : attempt_of w ≡ None → running_after (input_of old) r (event.Read i) ≡ r
  idle_reads own = ap (by_worker r (λ a. read_by (input_of old) r i a (answer_of old.header a.reads (call_of old.calls a.number)))) (here ∙ own)

  -- what a worker's call answers over what it has read
  answers : (a : CallAttempt) (c : Option (Answer CallResult)) → attempt_of w ≡ Some a → answer_of old.header a.reads (call_of old.calls a.number) ≡ c
      → (running_after (input_of old) r (event.Read i) ≡ read_by (input_of old) r i a c) × (running_after (input_of old) r (event.Commit i) ≡ commit_by (input_of old) r i a c)
  answers a c own is = (
    ap (by_worker r (λ b. read_by (input_of old) r i b (answer_of old.header b.reads (call_of old.calls b.number)))) (here ∙ own) ∙ ap (read_by (input_of old) r i a) is,
    ap (by_worker r (λ b. commit_by (input_of old) r i b (answer_of old.header b.reads (call_of old.calls b.number)))) (here ∙ own) ∙ ap (commit_by (input_of old) r i a) is,
  )

  read_moves : (ticket : Ticket) (run : Option Progress) (x : Item) → attempt_of w ≡ Some (attempt_by ticket (reads_or_none run)) → TicketAsksFor (input_of old) ticket run x → IsReadByStore old new (attempt_by ticket (reads_or_none run)) x (attempt_of after)
      → Worked (event.Read i)
  read_moves ticket run x own asks read = record {
    input = read.input;
    running = moves (event.Read i) (after_read same_item (at old.base) old.world ticket.timestamp (index_among (reads_or_none run) x) x)
        (Some (record (attempt_by ticket (reads_or_none run)) { reads = with_item (reads_or_none run) x (version_below same_item (at old.base) old.world.entries (suc ticket.timestamp) x).1 }))
        (answers (attempt_by ticket (reads_or_none run)) (Some (Err x)) own (asked old ticket run x asks)).0 (same_world-sym same_item (at old.base) new.world (after_read same_item (at old.base) old.world ticket.timestamp (index_among (reads_or_none run) x) x) read.event) read.joins;
  }

  read_by_worker : (v : Worker) → w ≡ v → IsSoundWorker (input_of old) v → IsReadBy old new v (attempt_of after) → Worked (event.Read i)
  read_by_worker worker.Idle own sound (same, none) = record { input = ap input_of same; running = stays (event.Read i) (idle_reads (ap attempt_of own)) same (none ∙ sym (ap attempt_of own)) }
  read_by_worker (worker.Running ticket run x) own asks read = read_moves ticket run x (ap attempt_of own) asks read
  read_by_worker (worker.Finished ticket f) own has (same, again) =
      let g = ended old ticket f has in
      record { input = ap input_of same; running = stays (event.Read i) (answers (attempt_by ticket f.reads) (Some (Ok g.result)) (ap attempt_of own) g.answer).0 same (again ∙ sym (ap attempt_of own)) }

  -- ---- commit

  idle_commits : attempt_of w ≡ None → running_after (input_of old) r (event.Commit i) ≡ r
  idle_commits own = ap (by_worker r (λ a. commit_by (input_of old) r i a (answer_of old.header a.reads (call_of old.calls a.number)))) (here ∙ own)

  commits : (ticket : Ticket) (f : CallRecord) → w ≡ worker.Finished ticket f → TicketHasEnded (input_of old) ticket f → (o : Option CommitFault) → late_write old ticket.timestamp f.writes ≡ o
      → running_after (input_of old) r (event.Commit i) ≡ (if not (is_some o) then with_worker r (after_commit old.world (entry_of ticket.timestamp ticket.number f)) i None else r)
  commits ticket f own has o late =
      let g = ended old ticket f has in
      let entry : entry_by (attempt_by ticket f.reads) g.result ≡ entry_of ticket.timestamp ticket.number f = λ j. record { timestamp = ticket.timestamp; number = ticket.number; outcome = g.outcome j; reads = f.reads; writes = g.writes j } in
      (answers (attempt_by ticket f.reads) (Some (Ok g.result)) (ap attempt_of own) g.answer).1
      ∙ ap (λ (e : CallEntry). if writes_in_time (input_of old) r ticket.timestamp e.writes then with_worker r (after_commit old.world e) i None else r) entry
      ∙ ap (λ b. if b then with_worker r (after_commit old.world (entry_of ticket.timestamp ticket.number f)) i None else r) (in_time_same old ws ticket.timestamp f.writes ∙ ap (λ p. not (is_some p)) late)

  commit_by_worker : (v : Worker) → w ≡ v → IsSoundWorker (input_of old) v → (o : Option CallAttempt) → attempt_of after ≡ o → IsCommitBy old new v o → Worked (event.Commit i)
  commit_by_worker worker.Idle own sound o result (same, none) = record { input = ap input_of same; running = stays (event.Commit i) (idle_commits (ap attempt_of own)) same (result ∙ none ∙ sym (ap attempt_of own)) }
  commit_by_worker (worker.Running ticket run x) own asks o result (same, again) =
      record {
        input = ap input_of same;
        running = stays (event.Commit i) (answers (attempt_by ticket (reads_or_none run)) (Some (Err x)) (ap attempt_of own) (asked old ticket run x asks)).1 same (result ∙ again ∙ sym (ap attempt_of own));
      }
  commit_by_worker (worker.Finished ticket f) own has None result done =
      record {
        input = done.input;
        running = moves (event.Commit i) (after_commit old.world (entry_of ticket.timestamp ticket.number f)) None (commits ticket f own has None done.in_time)
            (same_world-sym same_item (at old.base) new.world (after_commit old.world (entry_of ticket.timestamp ticket.number f)) done.event) result;
      }
  commit_by_worker (worker.Finished ticket f) own has (Some a) result (late, same, again) =
      record {
        input = ap input_of same;
        running = stays (event.Commit i)
            (commits ticket f own has (late_write old ticket.timestamp f.writes) refl
            ∙ ap (λ b. if not b then with_worker r (after_commit old.world (entry_of ticket.timestamp ticket.number f)) i None else r) late)
            same (result ∙ ap Some again ∙ sym (ap attempt_of own));
      }

  -- ---- any event of the worker

  worked : (e : Event) → worker_in e ≡ Some i → IsSoundWorker (input_of old) w → IsWork e old new w (attempt_of after) → Worked e
  worked (event.Begin k n) own sound h = subst (λ j. Worked (event.Begin j n)) (sym (same_Some _ _ own)) (begun n (attempt_of w) refl (attempt_of after) refl h)
  worked (event.Read k) own sound h = subst (λ j. Worked (event.Read j)) (sym (same_Some _ _ own)) (read_by_worker w refl sound h)
  worked (event.Commit k) own sound h = subst (λ j. Worked (event.Commit j)) (sym (same_Some _ _ own)) (commit_by_worker w refl sound (attempt_of after) refl h)
  worked (event.Abandon k) own sound h = subst (λ j. Worked (event.Abandon j)) (sym (same_Some _ _ own)) (abandoned (attempt_of w) refl h)
  worked (event.Prune t) own sound h = absurd h

-- what was at its index comes back changed
pub stepped : (e : Event) (old new : Store) (ws : List Worker) (i : ℕ) (w d x after : Worker) → worker_in e ≡ Some i → i < length ws → w ≡ d → d ≡ get_or ws i d → AreSound (input_of old) ws → IsSoundWorker (input_of old) after
    → IsWork e old new w (attempt_of after) → IsStep e old new ws (slice_set (slice_set ws i x) i after)
stepped e old new ws i w d x after own inside taken there sound sound_after h =
    subst (IsStep e old new ws) (sym (set_twice ws i x after))
    (record { input = done.input; running = done.running; sound = sound_set (input_of old) ws i after sound sound_after })
  where
    is : w ≡ get_or ws i w
    is = subst (λ (v : Worker). v ≡ get_or ws i v) (sym taken) there

    done : Worked old new ws i w after inside is e
    done = worked old new ws i w after inside is e own (sound_at (input_of old) ws i w inside is sound) h

-- ---- events of no worker

none_beyond : (ws : List Worker) (i : ℕ) → length ws ≤ i → get_or (map attempt_of ws) i None ≡ None
none_beyond [] i h = refl
none_beyond (w ∷ ws) zero h = absurd (omega (arith, h))
none_beyond (w ∷ ws) (suc i) h = none_beyond ws i (omega (arith, h))

-- a worker beyond the last does nothing
beyond_last : (s : Store) (ws : List Worker) (i : ℕ) (e : Event) → worker_in e ≡ Some i → length ws ≤ i → running_after (input_of s) (running_of s ws) e ≡ running_of s ws
beyond_last s ws i (event.Begin k n) own past =
    let few : length (map attempt_of ws) ≡ length ws = length-map ws attempt_of in
    let k_is : k ≡ i = same_Some _ _ own in
    let never : nat_lt k (length (map attempt_of ws)) ≡ false = grind (arith, few, k_is, past) in
    ap (λ b. if b && is_none (worker_at (running_of s ws) k) && is_some (call_of s.calls n) && (commit_count n s.world.entries == 0) && (live_count n s.world.live == 0) && nat_lt s.world.clock (2 ^ 64 - 1) then with_worker (running_of s ws) (after_begin s.world n) k (Some (fresh_attempt n (s.world.clock + 1))) else running_of s ws) never
beyond_last s ws i (event.Read k) own past = ap (by_worker (running_of s ws) (λ a. read_by (input_of s) (running_of s ws) k a (answer_of s.header a.reads (call_of s.calls a.number)))) (ap (λ j. get_or (map attempt_of ws) j None) (same_Some _ _ own) ∙ none_beyond ws i past)
beyond_last s ws i (event.Commit k) own past = ap (by_worker (running_of s ws) (λ a. commit_by (input_of s) (running_of s ws) k a (answer_of s.header a.reads (call_of s.calls a.number)))) (ap (λ j. get_or (map attempt_of ws) j None) (same_Some _ _ own) ∙ none_beyond ws i past)
beyond_last s ws i (event.Abandon k) own past = ap (by_worker (running_of s ws) (λ a. with_worker (running_of s ws) (after_abandon s.world a.timestamp) k None)) (ap (λ j. get_or (map attempt_of ws) j None) (same_Some _ _ own) ∙ none_beyond ws i past)
beyond_last s ws i (event.Prune t) own past = absurd cc

-- an event of a worker that is not there is a step that changes nothing
pub nothing_done : (s : Store) (ws : List Worker) (i : ℕ) (e : Event) → worker_in e ≡ Some i → length ws ≤ i → AreSound (input_of s) ws → IsStep e s s ws ws
nothing_done s ws i e own past sound = record {
  input = refl;
  running = subst (λ (q : Running). IsSameRunning (input_of s) q (running_of s ws)) (sym (beyond_last s ws i e own past)) (record { world = same_world-itself same_item (at s.base) s.world; workers = refl });
  sound = sound;
}

-- ---- a prune

-- a prune of the store is a step that leaves the workers as they are
pub pruned_step : (old new : Store) (ws : List Worker) (t : ℕ) → IsPrune old new t → AreSound (input_of old) ws → IsStep (event.Prune t) old new ws ws
pruned_step old new ws t h sound = record {
  input = ap input_of h.others;
  running = record {
    world = subst (λ (v : CallWorld). IsSameWorld same_item (at old.base) (after_prune old.world t old.world.marks) v) (sym h.event)
        (record { clock = refl; low = refl; entries = refl; live = refl; marks = subst (λ l. HaveSameMarks same_item (at old.base) l old.world.entries old.world.marks new.world.marks) (ap (λ (v : CallWorld). v.low) h.event) h.same });
    workers = refl;
  };
  sound = sound;
}
