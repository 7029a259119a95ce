-- What is sealed is a proposal.
use Rattle.std.proofs.Common.{◌≡◌, ℕ, ◌<◌, ◌≤◌, ◌==◌, List, [], ◌∷◌, ◌++◌, length, Bool, true, false, cond, refl, sym, ap, ◌∙◌, subst, AllPairs, arith}
use Rattle.std.specs.List.{AllByRecursion}
use Rattle.std.proofs.lemmas.List.Sums.{sum_by-cons}
use Rattle.std.proofs.lemmas.Bool.{eqb-true}
use Rattle.sha2.specs.Sha256.{sha256}
use Rattle.avm_ledger.specs.declared.header.Header.{Header}
use Rattle.avm_ledger.specs.Ledgers.{Ledger}
use Rattle.avm_block.specs.declared.entry.Entry.{Entry}
use Rattle.avm_block.specs.Blocks.{Block}
use Rattle.avm_block.specs.BlockEncoding.{block_bytes, front_bytes}
use Rattle.mv_parts.specs.Journals.{Journal}
use Rattle.mv_parts.specs.Sealing.{IsSealed}
use Rattle.avm_pool.specs.declared.finishing.Parts.{Parts}
use Rattle.avm_pool.specs.declared.proposal.Proposal.{Proposal}
use Rattle.avm_pool.specs.Finishing.{AreParts}
use Rattle.avm_pool.specs.Proposals.{AreNumbersTo, IsProposal, left_to, times}
use Rattle.avm_pool.proofs.Remaining.{all_numbers, rising}

-- a number that stands in a list is one of those that the list may have
pub within_counted : (n m : ℕ) (xs : List ℕ) → AllByRecursion (λ k. (0 < k) × (k ≤ n)) xs → 0 < times m xs → (1 ≤ m) × (m ≤ n)
within_counted n m [] h some = absurd (omega arith)
within_counted n m (x ∷ xs) h some = by_test (x == m) refl (λ more. within_counted n m xs h.1 more) where
  by_test : (b : Bool) → (x == m) ≡ b → (0 < times m xs → (1 ≤ m) × (m ≤ n)) → (1 ≤ m) × (m ≤ n)
  by_test true is rest = let e : x ≡ m = eqb-true x m is in let low = h.0.0 in let high = h.0.1 in (omega (arith, e, low), omega (arith, e, high))
  by_test false is rest =
      let c = sum_by-cons (λ (y : ℕ). cond (y == m) 1 0) x xs in
      let none : cond (x == m) 1 0 ≡ 0 = ap {B = ℕ} (λ (b : Bool). cond b 1 0) is in
      rest (omega (arith, c, none, some))

-- a seal of a journal, with the numbers that are left, is a proposal
pub sealed_is_proposal : (j : Journal) (p : Proposal) → IsSealed j p.block p.numbers.items → p.left.items ≡ left_to p.numbers.items (length j.calls) → IsProposal j.base j.header j.calls p
sealed_is_proposal j p s left =
    let xs = p.numbers.items in
    let n = length j.calls in
    let P : List ℕ → Type 0 = λ ys. AreNumbersTo n (xs ++ ys) in
    let Q : List ℕ → Type 0 = λ ys. AllPairs ◌<◌ ys in
    record {
      header_is = s.header;
      replays = s.replays;
      calls_are = s.calls;
      all = subst P (sym left) (all_numbers xs n s.once (λ m some. within_counted n m xs s.within some));
      rising = subst Q (sym left) (rising xs n);
    }

-- parts over a journal's own ledger and header, whatever they are called
pub parts_of_own : (j : Journal) (base : Ledger) (header : Header) (p : Parts) → j.base ≡ base → j.header ≡ header → AreParts j base header p → AreParts j j.base j.header p
parts_of_own j base header p own_base own_header parts = subst (λ (b : Ledger). AreParts j b j.header p) (sym own_base) (subst (λ (h : Header). AreParts j base h p) (sym own_header) parts)

-- the bytes that a front comes to are those of the block of its parts
pub encoded_as_made : (b : Block) (base : List ℕ) (header : Header) (entries : List Entry) (after front bytes : List ℕ) → b ≡ record { base = base; header = header; entries = entries; after = after }
    → front ≡ front_bytes base header entries → bytes ≡ front ++ after ++ sha256 (front ++ after) → bytes ≡ block_bytes b
encoded_as_made b base header entries after front bytes made is encoded = encoded ∙ ap (λ xs. xs ++ after ++ sha256 (xs ++ after)) is ∙ ap block_bytes (sym made)
