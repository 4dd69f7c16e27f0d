-- A breach of the local law of tables shows that the values are those of no submodular function.
use Rattle.std.proofs.Common.{◌≡◌, ℕ, ◌<◌, Bool, true, false, List, [], ◌∷◌, get_or, set, ℤ, pos, refl, ap, ◌∙◌, arith, length-set}
use Prim.Native.Nat.{zero, suc}
use Rattle.std.proofs.lemmas.Bool.{true≢false}
use Rattle.std.proofs.lemmas.Int.{ints}
use Rattle.sfm_spec.specs.Sets.{empty_set, union, intersection}
use Rattle.sfm_spec.specs.Terms.{IsSubmodular}
use Rattle.sfm_spec.specs.Kinds.{binary, table_value}
use Rattle.sfm_simple.specs.Subsets.{members, length-members, binary-none}
use Rattle.sfm_simple.specs.Breaches.{listed_at, BreaksLaw}

union-self : (s : List Bool) → union s s ≡ s
union-self [] = refl
union-self (true ∷ s) = ap (λ t. true ∷ t) (union-self s)
union-self (false ∷ s) = ap (λ t. false ∷ t) (union-self s)

union-one : (s : List Bool) (b : ℕ) → union s (set s b true) ≡ set s b true
union-one [] b = refl
union-one (true ∷ s) zero = ap (λ t. true ∷ t) (union-self s)
union-one (false ∷ s) zero = ap (λ t. true ∷ t) (union-self s)
union-one (true ∷ s) (suc b) = ap (λ t. true ∷ t) (union-one s b)
union-one (false ∷ s) (suc b) = ap (λ t. false ∷ t) (union-one s b)

-- a set with a and with b have together both
union-two : (s : List Bool) (a b : ℕ) → a < b
    → union (set s a true) (set s b true) ≡ set (set s a true) b true
union-two [] a b lt = refl
union-two (x ∷ s) zero zero lt = absurd (omega arith)
union-two (x ∷ s) zero (suc b) lt = ap (λ t. true ∷ t) (union-one s b)
union-two (x ∷ s) (suc a) zero lt = absurd (omega arith)
union-two (true ∷ s) (suc a) (suc b) lt = ap (λ t. true ∷ t) (union-two s a b (omega arith))
union-two (false ∷ s) (suc a) (suc b) lt = ap (λ t. false ∷ t) (union-two s a b (omega arith))

both-self : (s : List Bool) → intersection s s ≡ s
both-self [] = refl
both-self (true ∷ s) = ap (λ t. true ∷ t) (both-self s)
both-self (false ∷ s) = ap (λ t. false ∷ t) (both-self s)

both-one : (s : List Bool) (b : ℕ) → get_or s b false ≡ false → intersection s (set s b true) ≡ s
both-one [] b out = refl
both-one (true ∷ s) zero out = absurd (true≢false out)
both-one (false ∷ s) zero out = ap (λ t. false ∷ t) (both-self s)
both-one (true ∷ s) (suc b) out = ap (λ t. true ∷ t) (both-one s b out)
both-one (false ∷ s) (suc b) out = ap (λ t. false ∷ t) (both-one s b out)

-- and in common the set
both-two : (s : List Bool) (a b : ℕ) → a < b → get_or s a false ≡ false → get_or s b false ≡ false
    → intersection (set s a true) (set s b true) ≡ s
both-two [] a b lt out out' = refl
both-two (x ∷ s) zero zero lt out out' = absurd (omega arith)
both-two (true ∷ s) zero (suc b) lt out out' = absurd (true≢false out)
both-two (false ∷ s) zero (suc b) lt out out' = ap (λ t. false ∷ t) (both-one s b out')
both-two (x ∷ s) (suc a) zero lt out out' = absurd (omega arith)
both-two (true ∷ s) (suc a) (suc b) lt out out' =
    ap (λ t. true ∷ t) (both-two s a b (omega arith) out out')
both-two (false ∷ s) (suc a) (suc b) lt out out' =
    ap (λ t. false ∷ t) (both-two s a b (omega arith) out out')

-- the first value of a submodular function is 0
pub first-zero : (k : ℕ) (values : List ℤ) → IsSubmodular k (table_value values)
    → get_or values 0 (pos 0) ≡ pos 0
first-zero k values h =
    let some = h.at_empty in
    let zero_there : get_or values (binary (empty_set k)) (pos 0) ≡ pos 0 = cc in
    rw (binary-none k) at zero_there

-- and its values have no breach
pub no-breach : (k : ℕ) (values : List ℤ) (n a b : ℕ) → BreaksLaw values k n a b
    → IsSubmodular k (table_value values) → ⊥
no-breach k values n a b breach h =
    let s = members k n in
    let len = length-members k n in
    let less = h.submodular (set s a true) (set s b true) (listed_at values (set s a true))
    (listed_at values (set s b true)) (listed_at values (union (set s a true) (set s b true)))
    (listed_at values (intersection (set s a true) (set s b true))) (length-set s a true ∙ len)
    (length-set s b true ∙ len) refl refl refl refl in
    let fine = rw (
      union-two s a b breach.ordered,
      both-two s a b breach.ordered breach.first_out breach.second_out,
    ) at less in
    omega (arith, ints, fine, breach.more)
