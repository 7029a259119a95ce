-- Bytes that end with the digest of what stands before it.
use Rattle.std.proofs.Common.{◌≡◌, ◌∙◌, ℕ, ◌-◌, List, ◌++◌, length, drop, length-append, sym, ap, arith}
use Rattle.std.proofs.Math.Seq.{drop-append_seam}
use Rattle.sha2.specs.Sha256.{sha256}
use Rattle.sha2.proofs.Facts256.{length-sha256}

-- the last 32 bytes are the digest of those before them
pub digest_at_end : (body bytes : List ℕ) → body ++ sha256 body ≡ bytes → drop (length bytes - 32) bytes ≡ sha256 body
digest_at_end body bytes e =
    let seam : length bytes - 32 ≡ length body = omega (arith, ap length e, length-append body (sha256 body), length-sha256 body) in
    ap (λ n. drop n bytes) seam ∙ ap (λ bs. drop (length body) bs) (sym e) ∙ drop-append_seam body (sha256 body)
