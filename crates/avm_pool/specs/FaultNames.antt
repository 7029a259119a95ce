-- The names of faults, which commands print and errors show.
use Rattle.std.specs.Prelude.{ℕ, List, codes}
use Rattle.avm_pool.specs.declared.pool_fault.PoolFault.{PoolFault}
use Rattle.avm_pool.specs.declared.pool_fault.PoolFault.TheVariants as fault

abbrev pub pool_fault_name : PoolFault → List ℕ
pool_fault_name fault.Workers = codes "Workers"
pool_fault_name (fault.OpMissing code) = codes "OpMissing"
pool_fault_name (fault.Profile number) = codes "Profile"
pool_fault_name fault.Spawn = codes "Spawn"
pool_fault_name fault.ClockEnd = codes "ClockEnd"
