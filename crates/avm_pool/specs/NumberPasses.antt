-- Which passes go with a queue of numbers.
use Rattle.crossbeam_queue.specs.Passes.{Pass, IsPassOf}
pub use Rattle.crossbeam_queue.specs.Passes.{view}
use Rattle.std.specs.Prelude.{ℕ}
use Rattle.avm_pool.specs.declared.call_numbers.PassState.{PassState}
use Rattle.avm_pool.specs.declared.call_numbers.Numbers.{Numbers}

abbrev pub IsWith : Numbers → Pass ℕ PassState → Type 0
IsWith n p = IsPassOf n.queue p
