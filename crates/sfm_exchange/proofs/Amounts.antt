-- The greatest amount that some steps allow.
use Rattle.std.proofs.Common.{◌≡◌, ⊎_elim, ℕ, ◌+◌, ◌<◌, List, ℤ, pos, ◌≤ℤ◌, arith}
use Rattle.std.proofs.lemmas.Bool.{cases_lt}
use Rattle.std.proofs.lemmas.Int.{ints}
use Rattle.sfm_spec.specs.Terms.{times}
use Rattle.sfm_spec.specs.Families.{Meaning, AreBases}
use Rattle.sfm_spec.specs.Walks.{term_at, base_at}
use Rattle.sfm_spec.proofs.Walks.{bases-at}
use Rattle.sfm_spec.proofs.Exchange.{base_between}
use Rattle.sfm_law.specs.Room.{IsCapacityUpto}
use Rattle.sfm_exchange.specs.declared.path.Hop.{Hop}
use Rattle.sfm_exchange.specs.Hops.{IsMovable, Moves, hop_at}

-- the greatest amount up to the most that the first k steps allow
pub record IsAmount (terms : List Meaning) (q : ℤ) (rows : List (List ℤ)) (hops : List Hop) (k : ℕ)
    (most a : ℤ) : Type 0 where
  pub some : pos 1 ≤ℤ a
  pub within : a ≤ℤ most
  pub moves : (j : ℕ) → j < k → Moves terms q rows (hop_at hops j) a
  pub greatest : (b : ℤ) → b ≤ℤ most → ((j : ℕ) → j < k → Moves terms q rows (hop_at hops j) b)
      → b ≤ℤ a

pub amount_none : (terms : List Meaning) (q : ℤ) (rows : List (List ℤ)) (hops : List Hop) (most : ℤ)
    → pos 1 ≤ℤ most → IsAmount terms q rows hops 0 most most
amount_none terms q rows hops most one =
    record {
      some = one;
      within = omega (arith, ints);
      moves = λ j l. absurd (omega arith);
      greatest = λ b l m. l;
    }

module _ (terms : List Meaning) (q : ℤ) (rows : List (List ℤ)) (bases : AreBases q terms rows) where
  -- with an amount a step can move each lesser one
  pub moves_less : (hop : Hop) → IsMovable terms q rows hop → (a b : ℤ) → pos 0 ≤ℤ a → a ≤ℤ b
      → Moves terms q rows hop b → Moves terms q rows hop a
  moves_less hop m a b low le moves =
      let (sized, base) = bases-at q terms rows hop.term bases m.term_in in
      base_between base (rw sized m.u_in) (rw sized m.v_in) m.apart a b low le moves

  -- one step more
  pub amount_more : (hops : List Hop) (k : ℕ) (most a b : ℤ)
      → IsMovable terms q rows (hop_at hops k) → IsAmount terms q rows hops k most a
      → IsCapacityUpto (times q (term_at terms (hop_at hops k).term).value)
      (base_at rows (hop_at hops k).term) (hop_at hops k).u (hop_at hops k).v a b
      → ((j : ℕ) → j < k → IsMovable terms q rows (hop_at hops j))
      → IsAmount terms q rows hops (k + 1) most b
  amount_more hops k most a b m h upto movable = record {
    some = some;
    within = let w = h.within in let le = upto.high in omega (arith, ints, w, le);
    moves = λ j l. ⊎_elim
        (λ less. moves_less (hop_at hops j) (movable j less) b a upto.low upto.high
        (h.moves j less))
        (λ ge. let same : j ≡ k = omega (arith, ge, l) in rw same upto.reached)
        (cases_lt j k);
    greatest = λ c lc moves. upto.greatest c (h.greatest c lc (λ j l. moves j (omega (arith, l))))
        (moves k (omega arith));
  } where
    some : pos 1 ≤ℤ b
    some =
        let (c, one, base) = m.room in
        upto.greatest (pos 1) h.some
        (moves_less (hop_at hops k) m (pos 1) c (omega (arith, ints)) one base)
