-- Before the first byte of a value no byte is of it, and at its place one is.
use Rattle.std.proofs.Common.{◌≡◌, ◌≢◌, ℕ, ◌≤◌, ◌<◌, List, length, take, get_or, sym, subst, ◌∙◌, arith}
use Rattle.std.specs.List.{All}
use Rattle.std.proofs.lemmas.Bool.{eqb-true, eq-eqb}
use Rattle.std.proofs.lemmas.List.{length-take-le, get_or-take, take_all}
use Rattle.std.proofs.lemmas.List.Elements.{All-from_get_or}
use Rattle.memchr.specs.Find.{NoneBefore, Nowhere, Passes, is_byte}

none_before : (value : ℕ) (bytes : List ℕ) (n : ℕ) → n ≤ length bytes
    → Nowhere (Passes (is_byte value) bytes) 0 n → All (λ c. c ≢ value) (take n bytes)
none_before value bytes n le none = All-from_get_or (λ c. c ≢ value) (take n bytes) 0 (λ i lt e.
    let below : i < n = omega (arith, length-take-le n bytes le, lt) in
    none i (omega arith) below (eq-eqb _ _ (sym (get_or-take n bytes i 0 below) ∙ e)))

-- where a search finds no byte
pub none_found : (value : ℕ) (bytes : List ℕ)
    → Nowhere (Passes (is_byte value) bytes) 0 (length bytes) → All (λ c. c ≢ value) bytes
none_found value bytes h = subst (λ (x : List ℕ). All (λ c. c ≢ value) x)
    (take_all (length bytes) bytes (omega arith))
    (none_before value bytes (length bytes) (omega arith) h)

-- where it finds one
pub one_found : (value : ℕ) (bytes : List ℕ) (k : ℕ)
    → NoneBefore (Passes (is_byte value) bytes) 0 (length bytes) k × Passes (is_byte value) bytes k
    → (k < length bytes) × All (λ c. c ≢ value) (take k bytes) × (get_or bytes k 0 ≡ value)
one_found value bytes k h = (
  h.0.high,
  none_before value bytes k (omega (arith, h.0.high)) h.0.before,
  eqb-true _ _ h.1,
)
