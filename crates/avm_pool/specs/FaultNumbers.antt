-- The numbers of faults, by which callers in other languages know them.
use Rattle.std.specs.Prelude.{ℕ}
use Rattle.avm_pool.specs.declared.pool_fault.PoolFault.{PoolFault}
use Rattle.avm_pool.specs.declared.pool_fault.PoolFault.TheVariants as fault

abbrev pub pool_fault_number : PoolFault → ℕ
pool_fault_number fault.Workers = 1
pool_fault_number (fault.OpMissing code) = 2
pool_fault_number fault.Spawn = 3
pool_fault_number fault.ClockEnd = 4
pool_fault_number (fault.Profile number) = 5
