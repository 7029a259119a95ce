-- Events one after another, from a store in which nothing has begun.
use Rattle.std.proofs.Common.{◌≡◌, ℕ, zero, suc, ◌+◌, ◌<◌, ◌≤◌, List, [], ◌∷◌, ◌++◌, length, replicate, take, None, Some, get_or, refl, sym, ap, ◌∙◌, subst, arith}
use Rattle.std.proofs.Math.Seq.{take-suc}
use Rattle.std.proofs.lemmas.List.{take_all}
use Rattle.avm_ledger.specs.declared.header.Header.{Header}
use Rattle.avm_ledger.specs.Ledgers.{Ledger}
use Rattle.avm_items.specs.declared.call_data.CallData.{CallData}
use Rattle.avm_items.specs.LedgerItems.{at}
use Rattle.mv_history.specs.World.{attempt_at}
use Rattle.mv_history.proofs.SameWorlds.{same_world-itself, same_world-trans}
use Rattle.mv_parts.specs.CallHistory.{same_item}
use Rattle.mv_core.specs.declared.running.Event.{Event}
use Rattle.mv_core.specs.RunningLaws.{IsSameRunning}
use Rattle.mv_core.specs.Running.{RunInput, Running, first_running, running_after, running_from, worker_at}
use Rattle.mv_core.proofs.Runs.{every_run_leads_on, every_worker_is_live}
use Rattle.mv_core.proofs.SameRuns.{every_same_run_goes_on}
use Rattle.mv_core.specs.declared.world.Worker.{Worker}
use Rattle.mv_core.specs.declared.world.Worker.TheVariants as worker
use Rattle.mv_core.specs.Calls.{first_store}
use Rattle.mv_core.specs.SeenStores.{Store}
use Rattle.mv_core.specs.Worlds.{AreLiveIn, AreSound, IsRunTo, IsStep, input_of, running_of}

running_more : (input : RunInput) (r : Running) (es : List Event) (e : Event) → running_from input r (es ++ e ∷ []) ≡ running_after input (running_from input r es) e
running_more input r [] e = refl
running_more input r (f ∷ fs) e = running_more input (running_after input r f) fs e

-- each worker's attempt is live
pub live_all : (input : RunInput) (es : List Event) (s : Store) (ws : List Worker) → IsRunTo input es s ws → AreLiveIn s ws
live_all input es s ws k w a here =
    let there : worker_at (running_from input first_running es) w ≡ Some a = ap (λ xs. get_or xs w None) k.running.workers ∙ here in
    ap (attempt_at a.timestamp) (sym k.running.world.live) ∙ ((every_worker_is_live input es).each w a there).live

-- one event more
pub run_more : (input : RunInput) (es : List Event) (e : Event) (s new : Store) (ws new_ws : List Worker) → IsRunTo input es s ws → IsStep e s new ws new_ws → IsRunTo input (es ++ e ∷ []) new new_ws
run_more input es e s new ws new_ws k step = record {
  input_is = step.input ∙ k.input_is;
  running = subst (λ (q : Running). IsSameRunning input q (running_of new new_ws)) (sym (running_more input first_running es e)) (record {
    world = same_world-trans same_item (at input.base) (running_after input r e).world (running_after input (running_of s ws) e).world new.world goes_on.world own.world;
    workers = goes_on.workers ∙ own.workers;
  });
  sound = subst (λ (i : RunInput). AreSound i new_ws) k.input_is step.sound;
}
  where
    r : Running
    r = running_from input first_running es

    goes_on : IsSameRunning input (running_after input (running_from input first_running es) e) (running_after input (running_of s ws) e)
    goes_on = every_same_run_goes_on input (running_from input first_running es) (running_of s ws) (every_run_leads_on input es) (every_worker_is_live input es) k.running e

    own : IsSameRunning input (running_after input (running_of s ws) e) (running_of new new_ws)
    own = subst (λ (i : RunInput). IsSameRunning i (running_after i (running_of s ws) e) (running_of new new_ws)) k.input_is step.running

pub run_further : (input : RunInput) (events : List Event) (i : ℕ) (d : Event) (s new : Store) (ws new_ws : List Worker) → i < length events → IsRunTo input (take i events) s ws → IsStep (get_or events i d) s new ws new_ws
    → IsRunTo input (take (i + 1) events) new new_ws
run_further input events i d s new ws new_ws inside k step =
    subst (λ es. IsRunTo input es new new_ws) (sym (ap (λ n. take n events) next ∙ take-suc events i d inside)) (run_more input (take i events) (get_or events i d) s new ws new_ws k step)
  where
    next : i + 1 ≡ suc i
    next = omega arith

-- all of them
pub run_all : (input : RunInput) (events : List Event) (i : ℕ) (s : Store) (ws : List Worker) → length events ≤ i → IsRunTo input (take i events) s ws → IsRunTo input events s ws
run_all input events i s ws past k = subst (λ es. IsRunTo input es s ws) (take_all i events past) k

pub sound_all : (input : RunInput) (es : List Event) (s : Store) (ws : List Worker) → IsRunTo input es s ws → AreSound (input_of s) ws
sound_all input es s ws k = subst (λ (i : RunInput). AreSound i ws) (sym k.input_is) k.sound

-- ---- the first state

pub one_more_idle : (n : ℕ) (ws : List Worker) → ws ≡ replicate n worker.Idle → ws ++ worker.Idle ∷ [] ≡ replicate (n + 1) worker.Idle
one_more_idle n ws is = ap (λ xs. xs ++ worker.Idle ∷ []) is ∙ by n
  where
    by : (m : ℕ) → replicate m worker.Idle ++ worker.Idle ∷ [] ≡ replicate (m + 1) worker.Idle
    by zero = refl
    by (suc m) = ap (λ xs. worker.Idle ∷ xs) (by m) ∙ ap (λ k. replicate k worker.Idle) (let same : suc (m + 1) ≡ suc m + 1 = omega arith in same)

-- a first store with eight idle workers is a run of no events
pub first_run : (base : Ledger) (header : Header) (calls : List CallData) (s : Store) (ws : List Worker) → s ≡ first_store base header calls → ws ≡ replicate 8 worker.Idle → IsRunTo (input_of s) [] s ws
first_run base header calls s ws first idle =
    subst (λ (q : Store). IsRunTo (input_of q) [] q ws) (sym first)
    (subst (λ xs. IsRunTo (input_of (first_store base header calls)) [] (first_store base header calls) xs) (sym idle)
    (record {
      input_is = refl;
      running = record { world = same_world-itself same_item (at base) (first_store base header calls).world; workers = refl };
      sound = (tt, (tt, (tt, (tt, (tt, (tt, (tt, (tt, tt))))))));
    }))

-- a run over the input of a first store is one over its ledger, header and calls
pub run_of_input : (base : Ledger) (header : Header) (calls : List CallData) (events : List Event) (first s : Store) (ws : List Worker) → first ≡ first_store base header calls → IsRunTo (input_of first) events s ws
    → IsRunTo (record { base = base; header = header; calls = calls }) events s ws
run_of_input base header calls events first s ws is k = subst (λ (q : Store). IsRunTo (input_of q) events s ws) is k
