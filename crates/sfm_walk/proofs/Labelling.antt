-- Labels of places by levels: what a search finds, what becomes of them where one rises and where a
-- walk is moved along, and the walks that they tell.
use Rattle.std.proofs.Common.{◌≡◌, ◌≢◌, ◌⊎◌, ⊎_elim, ℕ, zero, suc, ◌+◌, ◌-◌, ◌<◌, ◌≤◌, List, [], ◌∷◌, length, get_or, set, ℤ, pos, Option, Some, None, MatchOption, ◌≤ℤ◌, ◌<ℤ◌, refl, sym, ap, ◌∙◌, arith, inl, inr, length-set, get_or-set_same, get_or-set_other}
use Rattle.std.proofs.lemmas.Bool.{cases_eq, cases_lt}
use Rattle.std.proofs.lemmas.List.{get_or_past}
use Rattle.sfm_spec.specs.Terms.{times}
use Rattle.sfm_spec.specs.Families.{Meaning, AreTerms, AreBases, rest_at}
use Rattle.sfm_spec.specs.Labels.{FallsAlong}
use Rattle.sfm_spec.specs.Walks.{Step, base_at, term_at, IsStep, last_of}
use Rattle.sfm_spec.proofs.Counts.{few_values}
use Rattle.sfm_spec.proofs.Walks.{first_below}
use Rattle.sfm_law.specs.Rest.{IsRest}
use Rattle.sfm_reach.specs.declared.bits.Bits.{Bits}
use Rattle.sfm_reach.specs.Bits.{bit_in, blank_bits, set_at}
use Rattle.sfm_reach.proofs.Words.{within_words}
use Rattle.sfm_exchange.specs.declared.path.Hop.{Hop}
use Rattle.sfm_exchange.specs.declared.path.Stuck.{Stuck}
use Rattle.sfm_exchange.specs.declared.signs.Signs.{Signs}
use Rattle.sfm_exchange.specs.Signs.{AreSigns}
use Rattle.sfm_exchange.specs.Claimed.{IsClaim}
use Rattle.sfm_exchange.specs.Reach.{table_at}
use Rattle.sfm_exchange.specs.Unions.{HaveLinks}
use Rattle.sfm_exchange.specs.Levels.{depth_of, IsFirst, IsStuck, LeadsInto}
use Rattle.sfm_exchange.specs.Hops.{AreHops, AreLeast, steps_of}
use Rattle.sfm_exchange.proofs.Telling.{hops_least}
use Rattle.sfm_exchange.proofs.Following.{depth_has, depth_le, depth_is, depth_bound}
use Rattle.sfm_walk.specs.Labels.{AreLabels, IsRaised}
use Rattle.sfm_walk.specs.Run.{IsSoughtWalk}
use Rattle.sfm_walk.proofs.Advancing.{depth_falls, over_depth}

-- ---- levels

-- a place that stands in the same levels has the same label
pub depth_same : (before after : List Bits) (e : ℕ) → length after ≡ length before
    → ((j : ℕ) → bit_in (set_at after j) e ≡ bit_in (set_at before j) e)
    → depth_of after e ≡ depth_of before e
depth_same [] [] e count same = refl
depth_same [] (t ∷ after) e count same = absurd (omega (arith, count))
depth_same (s ∷ before) [] e count same = absurd (omega (arith, count))
depth_same (s ∷ before) (t ∷ after) e count same =
    let here : bit_in t e ≡ bit_in s e = same 0 in
    let more = depth_same before after e (omega (arith, count)) (λ j. same (suc j)) in
    rw (here, more) refl

-- there are no more levels than places, where from the last one links lead down
module _ (n : ℕ) (unions levels : List Bits) (z : List ℤ) (first : ℕ)
    (begin : IsFirst n unions z levels first) where
  has_place : (i k : ℕ) → i + k + 1 ≡ length levels → (e : ℕ) × (bit_in (set_at levels k) e ≡ 1)
  has_place zero k is = (first, begin.last k (omega (arith, is)))
  has_place (suc i) k is =
      let (e, at) = has_place i (k + 1) (omega (arith, is)) in
      let (t, link, below) = begin.levelled.leads k e (omega (arith, is)) at in
      (t, below)

  pub few_levels : length levels ≤ n + 1
  few_levels = let k = few_values n (length levels) (depth_of levels) each in omega (arith, k) where
    each : (j : ℕ) → j < length levels → (e : ℕ) × (e < n) × (depth_of levels e ≡ j)
    each j lj =
        let (e, at) = has_place (length levels - (j + 1)) j (omega (arith, lj)) in
        (e, begin.levelled.below j e lj at, depth_is levels begin.levelled.apart j e lj at)

-- a place stands in levels that there are
in_level : (levels : List Bits) (j e : ℕ) → bit_in (set_at levels j) e ≡ 1 → j < length levels
in_level levels j e has = ⊎_elim (λ l. l)
    (λ past. let z = ap (λ s. bit_in s e) (get_or_past levels j blank_bits past)
    ∙ within_words blank_bits e (omega arith) in absurd (omega (arith, z, has)))
    (cases_lt j (length levels))

-- ---- a label that rises

-- a place is taken out of its level
module _ (links : Bits) (before : List Bits) (at k : ℕ) (level_in : k < length before)
    (once : (j : ℕ) → j < length before → bit_in (set_at before j) at ≡ 1 → j ≡ k) (s : Bits)
    (out : bit_in s at ≡ 0) (rest : (e : ℕ) → e ≢ at
    → bit_in s e ≡ bit_in (set_at before k) e) where
  abbrev removed : List Bits
  removed = set before k s

  here : (j : ℕ) → j ≡ k → set_at removed j ≡ s
  here j is = ap (λ i. set_at removed i) is ∙ get_or-set_same before k s blank_bits level_in

  there : (j : ℕ) → j ≢ k → set_at removed j ≡ set_at before j
  there j ne = get_or-set_other before k j s blank_bits ne

  gone : (j : ℕ) → bit_in (set_at removed j) at ≡ 1 → ⊥
  gone j has = ⊎_elim
      (λ is. let z = ap (λ b. bit_in b at) (here j is) ∙ out in omega (arith, z, has))
      (λ ne. let was = sym (ap (λ b. bit_in b at) (there j ne))
      ∙ has in ne (once j (in_level before j at was) was))
      (cases_eq j k)

  others : (j e : ℕ) → e ≢ at → bit_in (set_at removed j) e ≡ bit_in (set_at before j) e
  others j e ne = ⊎_elim (λ is. ap (λ b. bit_in b e) (here j is)
      ∙ (rest e ne ∙ ap (λ i. bit_in (set_at before i) e) (sym is)))
      (λ apart. ap (λ b. bit_in b e) (there j apart)) (cases_eq j k)

  -- no link leads into the levels from k on, below level m
  abbrev NoneBelow : ℕ → Type 0
  NoneBelow m = (i : ℕ) → k ≤ i → i < m → (t : ℕ) → bit_in links t ≡ 1
      → bit_in (set_at removed i) t ≡ 1 → ⊥

  -- so the label of a place to which one leads is no less than m, where it is no less than k
  far : (m : ℕ) → m < length before → NoneBelow m → (t : ℕ) → t ≢ at → bit_in links t ≡ 1
      → k ≤ depth_of before t → m ≤ depth_of before t
  far m lm none t ne link up = ⊎_elim
      (λ less. absurd (none (depth_of before t) up less t link
      (others (depth_of before t) t ne ∙ depth_has before t (omega (arith, less, lm)))))
      (λ ge. ge)
      (cases_lt (depth_of before t) m)

  -- it is in no level any more
  pub raised_out : (m : ℕ) → m + 1 ≡ length before → NoneBelow m
      → IsRaised links before removed at k
  raised_out m is none = record {
    count = length-set before k s;
    others = others;
    once = λ i j has. absurd (gone i has);
    above = ⊎_elim (λ l. absurd (gone (depth_of removed at) (depth_has removed at l)))
        (λ ge. let c = length-set before k s in omega (arith, c, ge, level_in))
        (cases_lt (depth_of removed at) (length removed));
    within = λ t ne link up.
        let f = far m (omega (arith, is)) none t ne link up in
        let b = depth_bound removed at in
        let c = length-set before k s in
        omega (arith, f, b, c, is);
  }

  -- or in a level above one into which a link leads
  pub raised_to : (j : ℕ) → k ≤ j → j + 1 < length before → NoneBelow j → (s' : Bits)
      → bit_in s' at ≡ 1 → ((e : ℕ) → e ≢ at → bit_in s' e ≡ bit_in (set_at removed (j + 1)) e)
      → IsRaised links before (set removed (j + 1) s') at k
  raised_to j kj lj none s' put rest' = record {
    count = length-set removed (j + 1) s' ∙ length-set before k s;
    others = λ i e ne. ⊎_elim (λ is. ap (λ b. bit_in b e) (now i is)
        ∙ (rest' e ne ∙ (ap (λ m. bit_in (set_at removed m) e) (sym is) ∙ others i e ne)))
        (λ apart. ap (λ b. bit_in b e) (still i apart) ∙ others i e ne) (cases_eq i (j + 1));
    once = λ a b x y. only a x ∙ sym (only b y);
    above = ⊎_elim
        (λ l. let o = only (depth_of after at) (depth_has after at l) in omega (arith, o, kj))
        (λ ge. let c = length-set removed (j + 1) s' in let d = length-set before k
        s in omega (arith, c, d, ge, level_in))
        (cases_lt (depth_of after at) (length after));
    within = λ t ne link up.
        let f = far j (omega (arith, lj)) none t ne link up in
        let d = depth_le after (j + 1) at
        (let c = length-set removed (j + 1) s' in let e = length-set before k
        s in omega (arith, c, e, lj)) (ap (λ b. bit_in b at) (now (j + 1) refl) ∙ put) in
        omega (arith, f, d);
  } where
    after : List Bits
    after = set removed (j + 1) s'

    now : (i : ℕ) → i ≡ j + 1 → set_at (set removed (j + 1) s') i ≡ s'
    now i is = ap (λ m. set_at (set removed (j + 1) s') m) is
        ∙ get_or-set_same removed (j + 1) s' blank_bits
        (let c = length-set before k s in omega (arith, c, lj))

    still : (i : ℕ) → i ≢ j + 1 → set_at (set removed (j + 1) s') i ≡ set_at removed i
    still i ne = get_or-set_other removed (j + 1) i s' blank_bits ne

    only : (i : ℕ) → bit_in (set_at (set removed (j + 1) s') i) at ≡ 1 → i ≡ j + 1
    only i has = ⊎_elim (λ is. is)
        (λ ne. absurd (gone i (sym (ap (λ b. bit_in b at) (still i ne)) ∙ has)))
        (cases_eq i (j + 1))

-- ---- labels

pub labels_none : (terms : List Meaning) (n : ℕ) (q : ℤ) (shift : List ℤ) (rows : List (List ℤ))
    → AreLabels terms n q shift rows []
labels_none terms n q shift rows = record {
  parted = record {
    below = λ k e l. absurd (omega (arith, l));
    apart = λ j k e l. absurd (omega (arith, l));
  };
  few = omega arith;
  no_faster = λ from step h. omega arith;
  ends = λ e le over. refl;
}

module _ (terms : List Meaning) (rows : List (List ℤ)) (n : ℕ) (q : ℤ) (shift z : List ℤ)
    (low : pos 0 ≤ℤ q) (fit : AreTerms n terms) (bases : AreBases q terms rows) (unions : List Bits)
    (links : HaveLinks terms n q rows unions) where
  -- what a search finds
  pub labels_found : (zn : length z ≡ n) → IsRest terms shift rows z
      → (levels : List Bits) (first : ℕ) → IsFirst n unions z levels first
      → AreLabels terms n q shift rows levels
  labels_found zn rest levels first begin = record {
    parted = record { below = begin.levelled.below; apart = begin.levelled.apart };
    few = few_levels n unions levels z first begin;
    no_faster = depth_falls terms rows n q shift z low fit bases zn rest unions links levels first
        begin;
    ends = over_depth terms rows n q shift z low fit bases zn rest unions links levels first begin;
  }

  -- where one rises
  module _ (levels after : List Bits) (at k : ℕ) (labels : AreLabels terms n q shift rows levels)
      (level_in : k < length levels) (has : bit_in (set_at levels k) at ≡ 1)
      (none : (j : ℕ) → j + 1 ≡ k → LeadsInto unions at (set_at levels j) → ⊥)
      (not_over : k ≡ 0 → pos 0 <ℤ rest_at terms rows shift at → ⊥)
      (raised : IsRaised (set_at unions at) levels after at k) where
    was : depth_of levels at ≡ k
    was = depth_is levels labels.parted.apart k at level_in has

    same : (e : ℕ) → e ≢ at → depth_of after e ≡ depth_of levels e
    same e ne = depth_same levels after e raised.count (λ j. raised.others j e ne)

    -- a link leads to no place with a lesser label
    not_below : (from : ℕ) (step : Step) → from ≡ at → IsStep terms q rows from step
        → (k ≤ depth_of levels step.to) × (bit_in (set_at unions at) step.to ≡ 1)
    not_below from step is h = (
      ⊎_elim (λ less. absurd (low_label less)) (λ ge. ge)
          (cases_lt (depth_of levels step.to) k),
      link,
    ) where
      lf : from < n
      lf = first_below terms rows n q low fit bases from (step ∷ [])
          (record { steps_exist = omega arith; steps_fit = (h, tt) })

      link : bit_in (set_at unions at) step.to ≡ 1
      link = rw (← is) (links from step.to lf (step.term, h))

      low_label : depth_of levels step.to < k → ⊥
      low_label less =
          let f = labels.no_faster from step h in
          let d : depth_of levels from ≡ k = ap (λ e. depth_of levels e) is ∙ was in
          none (depth_of levels step.to) (omega (arith, less, f, d))
          (step.to, link, depth_has levels step.to (omega (arith, less, level_in)))

    pub labels_raised : AreLabels terms n q shift rows after
    labels_raised = record {
      parted = record { below = below; apart = apart };
      few = (let c = raised.count in let f = labels.few in omega (arith, c, f));
      no_faster = λ from step h. falls from step h (cases_eq from at) (cases_eq step.to at);
      ends = λ e le over. end e le over (cases_eq e at);
    } where
      below : (j e : ℕ) → j < length after → bit_in (set_at after j) e ≡ 1 → e < n
      below j e lj b = ⊎_elim
          (λ is. rw is (labels.parted.below k at level_in has))
          (λ ne. labels.parted.below j e (let c = raised.count in omega (arith, c, lj))
          (sym (raised.others j e ne) ∙ b))
          (cases_eq e at)

      apart : (i j e : ℕ) → i < length after → j < length after → bit_in (set_at after i) e ≡ 1
          → bit_in (set_at after j) e ≡ 1 → i ≡ j
      apart i j e li lj a b = ⊎_elim
          (λ is. raised.once i j (rw is at a) (rw is at b))
          (λ ne. let c = raised.count in labels.parted.apart i j e (omega (arith, c, li))
          (omega (arith, c, lj)) (sym (raised.others i e ne) ∙ a)
          (sym (raised.others j e ne) ∙ b))
          (cases_eq e at)

      falls : (from : ℕ) (step : Step) → IsStep terms q rows from step → (from ≡ at) ⊎ (from ≢ at)
          → (step.to ≡ at) ⊎ (step.to ≢ at) → depth_of after from ≤ depth_of after step.to + 1
      falls from step h (inl f) (inl t) =
          let a = ap (λ e. depth_of after e) f in let b = ap (λ e. depth_of after e)
          t in omega (arith, a, b)
      falls from step h (inl f) (inr t) =
          let (up, link) = not_below from step f h in
          let w = raised.within step.to t link up in
          let a = ap (λ e. depth_of after e) f in
          let s = same step.to t in
          omega (arith, w, a, s)
      falls from step h (inr f) (inl t) =
          let b = labels.no_faster from step h in
          let d : depth_of levels step.to ≡ k = ap (λ e. depth_of levels e) t ∙ was in
          let s = same from f in
          let up = raised.above in
          let a = ap (λ e. depth_of after e) t in
          omega (arith, b, d, s, up, a)
      falls from step h (inr f) (inr t) = let b = labels.no_faster from step h in let s = same from
          f in let r = same step.to t in omega (arith, b, s, r)

      end : (e : ℕ) → e < n → pos 0 <ℤ rest_at terms rows shift e → (e ≡ at) ⊎ (e ≢ at)
          → depth_of after e ≡ 0
      end e le over (inl is) =
          let d = labels.ends e le over in
          let zero_k : k ≡ 0 = sym was ∙ (ap (λ x. depth_of levels x) (sym is) ∙ d) in
          absurd (not_over zero_k (rw is at over))
      end e le over (inr ne) = same e ne ∙ labels.ends e le over

-- ---- where a walk is stopped

-- a place from which no link leads on, or one of the first level that has not z > 0
pub record IsBlocked (terms : List Meaning) (shift : List ℤ) (rows : List (List ℤ))
    (unions levels : List Bits) (s : Stuck) : Type 0 where
  pub level_in : s.level < length levels
  pub has : bit_in (set_at levels s.level) s.place ≡ 1
  pub none : (j : ℕ) → j + 1 ≡ s.level → LeadsInto unions s.place (set_at levels j) → ⊥
  pub not_over : s.level ≡ 0 → pos 0 <ℤ rest_at terms rows shift s.place → ⊥

same_stuck : {a b : Stuck} → Some a ≡ Some b → a ≡ b
same_stuck h = cc

no_stuck : {a : Stuck} → None ≡ Some a → ⊥
no_stuck h = cc

module _ (terms : List Meaning) (shift : List ℤ) (rows : List (List ℤ)) (z : List ℤ)
    (rest : IsRest terms shift rows z) (signs : Signs) (are : AreSigns z signs)
    (unions levels : List Bits) (last : ℕ) (Q : Type 0) where
  abbrev Here : Type 0
  Here = bit_in (set_at levels 0) last ≡ 1

  abbrev Over : Option Stuck → Type 0
  Over told = MatchOption told (bit_in signs.over last ≡ 1)
      (λ s. (s.place ≡ last) × (s.level ≡ 0) × (bit_in signs.over last ≢ 1))

  pub blocked : (end told : Option Stuck) (s : Stuck) → told ≡ Some s
      → ((e : Stuck) → end ≡ Some e → told ≡ Some e) → (end ≡ None → Over told) → 0 < length levels
      → (Here → last < length z) → MatchOption end (Here × Q) (IsStuck unions levels)
      → IsBlocked terms shift rows unions levels s
  blocked (Some e) told s is stuck over exist in_z at =
      let same : e ≡ s = same_stuck (sym (stuck e refl) ∙ is) in
      let some = at.some in
      rw (← same) (record {
        level_in = at.level_in;
        has = at.has;
        none = at.none;
        not_over = λ first above. absurd (omega (arith, first, some));
      })
  blocked None told s is stuck over exist in_z (here, q) =
      let (place, level, out) = rw is at (over refl) in
      record {
        level_in = omega (arith, level, exist);
        has = rw (level, place) here;
        none = λ j up. absurd (omega (arith, up, level));
        not_over = λ first above. let r = rest.exact last (in_z here) in out
            ((are.above last).1 (in_z here, rw r (rw place at above)));
      }

  -- or none is told
  pub ended : (end told : Option Stuck) → told ≡ None → ((e : Stuck) → end ≡ Some e → told ≡ Some e)
      → (end ≡ None → Over told) → MatchOption end (Here × Q) (IsStuck unions levels)
      → (bit_in signs.over last ≡ 1) × Here × Q
  ended (Some e) told is stuck over at = absurd (no_stuck (sym is ∙ stuck e refl))
  ended None told is stuck over at = (rw is at (over refl), at.0, at.1)

-- ---- the walk that labels and rows tell

module _ (terms : List Meaning) (rows : List (List ℤ)) (n : ℕ) (q : ℤ) (shift z : List ℤ)
    (fit : AreTerms n terms) (tables : List (List Bits))
    (claims : (i : ℕ) → i < length terms → (u : ℕ) → u < length (term_at terms i).places
    → IsClaim (term_at terms i).places (times q (term_at terms i).value) (base_at rows i) u
    (set_at (table_at tables i) u)) where
  pub sought_by_labels : (levels : List Bits) (first : ℕ) (hops : List Hop)
      → AreLabels terms n q shift rows levels → 0 < length hops → AreHops terms tables first hops
      → FallsAlong (depth_of levels) first (steps_of hops)
      → AreLeast terms tables (depth_of levels) first hops
      → 0 < length levels → bit_in (set_at levels 0) (last_of first (steps_of hops)) ≡ 1
      → get_or z first (pos 0) <ℤ pos 0
      → pos 0 <ℤ get_or z (last_of first (steps_of hops)) (pos 0)
      → IsSoughtWalk terms n q shift rows tables z (depth_of levels) first hops
  sought_by_labels levels first hops labels some told falls least exist last under over = record {
    course = record {
      some = some;
      last_in = labels.parted.below 0 (last_of first (steps_of hops)) exist last;
      under = under;
      over = over;
      falls = falls;
      least = hops_least terms rows n q fit tables claims (depth_of levels) first hops falls least;
      no_faster = labels.no_faster;
      ends = labels.ends;
    };
    told = told;
  }
