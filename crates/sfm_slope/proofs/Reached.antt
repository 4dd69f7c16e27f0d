-- Bases that walks reach at each of some breakpoints, and what a stage over them adds.
use Rattle.std.proofs.Common.{◌≡◌, ⊎_elim, ℕ, ◌+◌, ◌*◌, ◌^◌, ◌<◌, ◌≤◌, List, [], ◌∷◌, length, map, get_or, ℤ, pos, ◌*ℤ◌, ◌≤ℤ◌, refl, sym, subst, ◌∙◌, arith}
use Rattle.std.specs.List.{All}
use Rattle.std.proofs.lemmas.Int.{ints}
use Rattle.std.proofs.lemmas.Bool.{cases_lt}
use Rattle.std.proofs.lemmas.List.{get_or-map, get_or_default, length-map}
use Rattle.sfm_law.specs.declared.term.Term.{Ghosts}
use Rattle.sfm_spec.specs.Families.{Meaning, meanings, sized_shift}
use Rattle.sfm_spec.specs.Walks.{IsWalkChain, few_walks}
use Rattle.sfm_spec.proofs.LeastWalks.{few_walks_small}
use Rattle.sfm_spec.proofs.Scaled.{times-assoc, times-cancel, times-comm, times-mono}
use Rattle.sfm_stage.specs.Served.{AreOrdered, AreServed, IsBetween}
use Rattle.sfm_stage.proofs.Chains.{walks_join}
use Rattle.sfm_slope.specs.declared.turn.Breakpoint.{Breakpoint}
use Rattle.sfm_slope.specs.declared.standing.Standing.{Standing}
use Rattle.sfm_slope.specs.Standings.{AreReached, IsStanding}
use Rattle.sfm_exchange.specs.Scaled.{rows_times}

-- a larger number is larger times a weight
weighed : (a b w : ℤ) → pos 0 ≤ℤ w → a ≤ℤ b → (a *ℤ w) ≤ℤ (b *ℤ w)
weighed a b w low le = rw (times-comm a w, times-comm b w) (times-mono w a b low le)

module _ (sizes : List ℤ) (positive : All (λ w. pos 1 ≤ℤ w) sizes) where
  shift_at : (p : ℤ) (e : ℕ) → e < length sizes
      → get_or (sized_shift sizes p) e (pos 0) ≡ (p *ℤ get_or sizes e (pos 0))
  shift_at p e l = get_or-map (λ w. p *ℤ w) sizes e (pos 0) (pos 0) l

  size_low : (e : ℕ) → e < length sizes → pos 0 ≤ℤ get_or sizes e (pos 0)
  size_low e l = let s = positive e (pos 0) l in omega (arith, ints, s)

  inside : (p : ℤ) (e : ℕ) → e < length (sized_shift sizes p) → e < length sizes
  inside p e l = subst (λ k. e < k) (length-map sizes (λ w. p *ℤ w)) l

  -- the shifts of a slope lie between those of whole numbers around it
  pub between : (lo hi p q : ℤ) → pos 1 ≤ℤ q → (q *ℤ lo) ≤ℤ p → p ≤ℤ (q *ℤ hi)
      → IsBetween q (sized_shift sizes lo) (sized_shift sizes hi) (sized_shift sizes p)
  between lo hi p q one below above = record {
    positive = one;
    above = λ e l.
        let l' = inside lo e l in
        let w = get_or sizes e (pos 0) in
        rw (shift_at lo e l', shift_at p e l')
        (rw (times-assoc q lo w) at (weighed (q *ℤ lo) p w (size_low e l') below));
    below = λ e l.
        let l' = inside lo e l in
        let w = get_or sizes e (pos 0) in
        rw (shift_at hi e l', shift_at p e l')
        (rw (times-assoc q hi w) at (weighed p (q *ℤ hi) w (size_low e l') above));
  }

  -- shifts of a smaller number are smaller
  pub ordered : (lo hi : ℤ) → lo ≤ℤ hi → AreOrdered (sized_shift sizes lo) (sized_shift sizes hi)
  ordered lo hi le = record {
    places = length-map sizes (λ w. hi *ℤ w) ∙ sym (length-map sizes (λ w. lo *ℤ w));
    order = λ e l. let l' = inside lo e l in rw (shift_at lo e l', shift_at hi e l')
        (weighed lo hi (get_or sizes e (pos 0)) (size_low e l') le);
  }

  -- a stage goes on at each breakpoint between
  pub reached_more : (terms : List Meaning) (t t' : ℕ) (firsts rows after : List (List ℤ))
      (found : List Breakpoint) (lo hi : ℤ)
      → AreReached terms sizes t firsts rows found
      → AreServed terms (sized_shift sizes lo) (sized_shift sizes hi) t' rows after
      → All (λ b. (b.slope.den *ℤ lo) ≤ℤ b.slope.num) found
      → All (λ b. b.slope.num ≤ℤ (b.slope.den *ℤ hi)) found
      → AreReached terms sizes (t + t') firsts after found
  reached_more terms t t' firsts rows after found lo hi reached served low high k d l =
      let s = (get_or found k d).slope in
      walks_join terms s.den (sized_shift sizes s.num) t t' (rows_times s.den firsts)
      (rows_times s.den rows) (rows_times s.den after) (reached k d l)
      (served s.den (sized_shift sizes s.num)
      (between lo hi s.num s.den s.factor.low (low k d l) (high k d l)))

-- no walk leads from the first bases to themselves
pub reached_none : (terms : List Meaning) (sizes : List ℤ) (firsts : List (List ℤ))
    (found : List Breakpoint) → AreReached terms sizes 0 firsts firsts found
reached_none terms sizes firsts found k d l = refl

-- what is below some breakpoint is not above what is above it
pub floor_below : (lo hi : ℤ) (found : List Breakpoint) → 0 < length found
    → All (λ b. (b.slope.den *ℤ lo) ≤ℤ b.slope.num) found
    → All (λ b. b.slope.num ≤ℤ (b.slope.den *ℤ hi)) found → lo ≤ℤ hi
floor_below lo hi [] some low high = absurd (omega (arith, some))
floor_below lo hi (b ∷ found) some low high =
    let l = low 0 b (omega arith) in
    let h = high 0 b (omega arith) in
    times-cancel b.slope.den lo hi b.slope.factor.low (omega (arith, ints, l, h))

-- one breakpoint more above a number, or below one
module _ (found : List Breakpoint) (i : ℕ) (before here m : ℤ) (point : Breakpoint)
    (inside : i < length found) (is : point ≡ get_or found i point) where
  here_is : (k : ℕ) (d : Breakpoint) → i ≤ k → k < i + 1 → get_or found k d ≡ point
  here_is k d ge lt = let same : k ≡ i = omega (arith, ge, lt) in rw same
      (get_or_default found i d point inside ∙ sym is)

  positive : (b : Breakpoint) → pos 0 ≤ℤ b.slope.den
  positive b = let l = b.slope.factor.low in omega (arith, ints, l)

  pub low_more : m ≤ℤ before → m ≤ℤ here → (point.slope.den *ℤ here) ≤ℤ point.slope.num
      → ((k : ℕ) (d : Breakpoint) → k < i
      → ((get_or found k d).slope.den *ℤ before) ≤ℤ (get_or found k d).slope.num)
      → (k : ℕ) (d : Breakpoint) → k < i + 1
      → ((get_or found k d).slope.den *ℤ m) ≤ℤ (get_or found k d).slope.num
  low_more one two low old k d l = ⊎_elim
      (λ lt.
      let b = get_or found k d in
      let o = old k d lt in
      let mono = times-mono b.slope.den m before (positive b) one in
      omega (arith, ints, mono, o))
      (λ ge. let mono = times-mono point.slope.den m here (positive point)
      two in rw (here_is k d ge l) (omega (arith, ints, mono, low)))
      (cases_lt k i)

  pub high_more : before ≤ℤ m → here ≤ℤ m → point.slope.num ≤ℤ (point.slope.den *ℤ here)
      → ((k : ℕ) (d : Breakpoint) → k < i
      → (get_or found k d).slope.num ≤ℤ ((get_or found k d).slope.den *ℤ before))
      → (k : ℕ) (d : Breakpoint) → k < i + 1
      → (get_or found k d).slope.num ≤ℤ ((get_or found k d).slope.den *ℤ m)
  high_more one two high old k d l = ⊎_elim
      (λ lt.
      let b = get_or found k d in
      let o = old k d lt in
      let mono = times-mono b.slope.den before m (positive b) one in
      omega (arith, ints, mono, o))
      (λ ge. let mono = times-mono point.slope.den here m (positive point)
      two in rw (here_is k d ge l) (omega (arith, ints, mono, high)))
      (cases_lt k i)

-- a stage over some breakpoints is one over others that are among them
module _ {X N : Type 0} {T : Ghosts X N} {terms : List X} {sizes : List ℤ}
    {found : List Breakpoint} {standing : Standing N}
    (h : IsStanding T terms sizes found standing) where
  pub standing_over : (others : List Breakpoint)
      → ((P : Breakpoint → Type 0) → All P found → All P others)
      → IsStanding T terms sizes others standing
  standing_over others among = record {
    claimed = h.claimed;
    small = h.small;
    few = h.few;
    reached = among (λ b. IsWalkChain (meanings T.places T.value_of terms) b.slope.den
        (sized_shift sizes b.slope.num) standing.walks
        (rows_times b.slope.den (map (λ x. T.start_of x (pos 1)) terms))
        (rows_times b.slope.den standing.graph.bases)) h.reached;
  }

-- the number of few walks
pub few_is : (n m : ℕ) → n + n * (n + 1) * (n * m + 1) ≡ few_walks n m
unfolding few_walks
few_is n m = refl

pub few_small : (n m : ℕ) → n ≤ 256 → m ≤ 16384 → few_walks n m ≤ 10 ^ 12
few_small n m hn hm = let s = few_walks_small n m hn hm in omega (arith, s)
