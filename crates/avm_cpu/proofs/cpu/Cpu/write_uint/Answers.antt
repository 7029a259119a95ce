use Rattle.std.proofs.Common.{◌≡◌, ℕ, ◌+◌, ◌-◌, ◌<◌, ◌≤◌, arith, drop, length, replicate, set, ap, sym, subst, ◌∙◌}
use Rattle.std.proofs.lemmas.List.{length-set}
use Rattle.teal_value.specs.declared.value.Value.TheVariants.{Uint}
use Rattle.avm_cpu.proofs.Zeros.{behind}
use Rattle.avm_cpu.proofs.cpu.Cpu.write_uint.Goals as goal
use Rattle.avm_cpu.proofs.cpu.Cpu.write_uint.Goals.{then-self-place, else-self-place}

pub invariant_of-self : goal.invariant_of-self
invariant_of-self c =
    let now = c.if-self-place.self-inside in
    let old = c.self.inside in
    let items = c.put_uint.new.values.items in
    let place = c.from-place.result in
    let value = Uint c.args.number in
    let written : items ≡ set now.scratch.value.items place value = c.put_uint.ensures ∙ (λ i. set (c.deref_mut.ensures.value i).items place value) in
    let there = λ (used : ℕ) (same : now ≡ record old { used = used }). written ∙ ap (λ s. set s.scratch.value.items place value) same in
    let stack = λ (used : ℕ) (same : now ≡ record old { used = used }). ap (λ s. length s.stack.value.items) same ∙ c.self.invariant.0 in
    let depth = λ (used : ℕ) (same : now ≡ record old { used = used }). subst (λ s. s.depth ≤ 1000) (sym same) c.self.invariant.1 in
    let long = λ (used : ℕ) (same : now ≡ record old { used = used }). ap length (there used same) ∙ length-set old.scratch.value.items place value ∙ c.self.invariant.2 in
    let few = λ (used : ℕ) (same : now ≡ record old { used = used }) (within : used ≤ 256). subst (λ s. s.used ≤ 256) (sym same) within in
    let rest = λ (used : ℕ) (same : now ≡ record old { used = used }) (before : old.used ≤ used) (here : place < used).
    subst (λ s. drop s.used items ≡ replicate (256 - s.used) (Uint 0)) (sym same) (ap (drop used) (there used same) ∙ behind old.scratch.value.items place old.used used 256 value (Uint 0) c.self.invariant.4 before here) in
    elim c.if-self-place.branch [
      | then-self-place w ↦ (stack (place + 1) w.self-inside-is, depth (place + 1) w.self-inside-is, long (place + 1) w.self-inside-is, few (place + 1) w.self-inside-is (omega arith), rest (place + 1) w.self-inside-is (omega arith) (omega arith))
      | else-self-place w ↦ (stack old.used w.self-inside-is, depth old.used w.self-inside-is, long old.used w.self-inside-is, few old.used w.self-inside-is c.self.invariant.3, rest old.used w.self-inside-is (omega arith) (omega arith))
    ]
