-- Groups of which no two cross make a matroid: what grows place by place is as large as any part
-- within the caps. Textbook: Schrijver, Combinatorial Optimization, section 39 (laminar matroids).
use Rattle.std.proofs.Common.{◌≡◌, ◌⊎◌, ℕ, zero, suc, ◌+◌, ◌<◌, ◌≤◌, Bool, true, false, not, ◌&&◌, List, [], ◌∷◌, length, get_or, ℤ, pos, ◌*ℤ◌, ◌≤ℤ◌, if◌then◌else◌, refl, sym, ap, ◌∙◌, arith, inl, inr, ⊎_elim}
use Rattle.std.specs.List.{Contains}
use Rattle.std.proofs.lemmas.Bool.{false≢true, cases_Bool, and_parts, not-true}
use Rattle.std.proofs.lemmas.Int.{ints}
use Rattle.std.proofs.lemmas.List.{get_or_default}
use Rattle.sfm_spec.specs.Sets.{Has, IsWithin, intersection, size, sum_over}
use Rattle.sfm_spec.specs.Kinds.{Group, count_in, IsWithinCaps}
use Rattle.sfm_spec.proofs.Scaled.{times-mono}
use Rattle.sfm_spec.proofs.Where.{size-cons}
use Rattle.sfm_laminar.specs.Unions.{AreApart, IsNested, AreLaminar, within_or_not, amount-size, gap, gap-sum, filled}
use Rattle.sfm_rank.specs.Matroids.{AreRanks, IsMatroid}
use Rattle.sfm_rank.specs.Growth.{IsGrown, IsGrowth, IsStep}
use Rattle.sfm_rank.specs.Terms.{at_places}
use Rattle.sfm_rank.proofs.Members.{has_place, some_or_none}
use Rattle.sfm_rank.proofs.Terms.{at_places-at, at_places-length}
use Rattle.sfm_rank.proofs.Growing.{grown-rank, is_grown, next-out}
use Rattle.sfm_laminar.specs.Masks.{Lists, mask, length-mask, mask-lists, lists-mask, count-mask}
use Rattle.sfm_laminar.specs.Groups.{IsBelow, AreGroups}
use Rattle.sfm_laminar.specs.Crossing.{AreCrossing, no_group, group_at}
use Rattle.sfm_laminar.specs.Grown.{is_blocked, IsBlocked, blocked_from, takes, grown, count-none, count-within, capped-set, over-set}

-- ---- sets of the groups

abbrev pub sets_of : ℕ → List Group → List (List Bool)
sets_of k [] = []
sets_of k (g ∷ groups) = mask k g.members ∷ sets_of k groups

pub length-sets : (k : ℕ) (groups : List Group) → length (sets_of k groups) ≡ length groups
length-sets k [] = refl
length-sets k (g ∷ groups) = let r : length (sets_of k groups) ≡ length groups = length-sets k
    groups in omega (arith, r)

pub sets-at : (k : ℕ) (groups : List Group) (i : ℕ) → i < length groups
    → get_or (sets_of k groups) i [] ≡ mask k (group_at groups i).members
sets-at k [] i lt = absurd (omega arith)
sets-at k (g ∷ groups) zero lt = refl
sets-at k (g ∷ groups) (suc i) lt = sets-at k groups i (omega arith)

-- ---- sets that do not cross are nested or apart

apart_or_shared : (s t : List Bool) → AreApart s t ⊎ ((e : ℕ) × Has s e × Has t e)
apart_or_shared [] t = inl (λ e h k. false≢true h)
apart_or_shared (a ∷ s) [] = inl (λ e h k. false≢true k)
apart_or_shared (a ∷ s) (b ∷ t) = at a b (apart_or_shared s t) where
  both : (a b : Bool) → (a ≡ true → b ≡ true → ⊥) → AreApart s t → AreApart (a ∷ s) (b ∷ t)
  both a b first rest zero h k = first h k
  both a b first rest (suc e) h k = rest e h k

  at : (a b : Bool) → AreApart s t ⊎ ((e : ℕ) × Has s e × Has t e) → AreApart (a ∷ s) (b ∷ t)
      ⊎ ((e : ℕ) × Has (a ∷ s) e × Has (b ∷ t) e)
  at true true r = inr (0, refl, refl)
  at a b (inr (e, h, k)) = inr (suc e, h, k)
  at false b (inl apart) = inl (both false b (λ h k. false≢true h) apart)
  at true false (inl apart) = inl (both true false (λ h k. false≢true k) apart)

contains_lists : (es : List ℕ) (e : ℕ) → Contains es e → Lists es e
contains_lists es e (i, lt, is) = (i, lt, sym (get_or_default es i e 0 lt) ∙ is)

lists_contains : (es : List ℕ) (e : ℕ) → Lists es e → Contains es e
lists_contains es e (i, lt, is) = (i, lt, get_or_default es i e 0 lt ∙ is)

pub contains-mask : (k : ℕ) (g : Group) (e : ℕ) → IsBelow k g → Contains g.members e
    → Has (mask k g.members) e
contains-mask k g e below c = lists-mask k g.members e below (contains_lists g.members e c)

pub mask-contains : (k : ℕ) (g : Group) (e : ℕ) → Has (mask k g.members) e → Contains g.members e
mask-contains k g e h = lists_contains g.members e (mask-lists k g.members e h)

nested_group : (k : ℕ) (g h : Group) → IsBelow k g → IsBelow k h → (AreCrossing g h → ⊥)
    → IsNested (mask k g.members) (mask k h.members)
nested_group k g h bg bh never = at (apart_or_shared (mask k g.members) (mask k h.members))
    (within_or_not (mask k g.members) (mask k h.members)
    (length-mask k g.members ∙ sym (length-mask k h.members)))
    (within_or_not (mask k h.members) (mask k g.members)
    (length-mask k h.members ∙ sym (length-mask k g.members))) where
      at : AreApart (mask k g.members) (mask k h.members)
          ⊎ ((e : ℕ) × Has (mask k g.members) e × Has (mask k h.members) e)
          → IsWithin (mask k g.members) (mask k h.members)
          ⊎ (IsWithin (mask k g.members) (mask k h.members) → ⊥)
          → IsWithin (mask k h.members) (mask k g.members)
          ⊎ (IsWithin (mask k h.members) (mask k g.members) → ⊥)
          → IsNested (mask k g.members) (mask k h.members)
      at (inl apart) w v = inr (inr apart)
      at (inr shared) (inl w) v = inl w
      at (inr shared) (inr w) (inl v) = inr (inl v)
      at (inr (e, he, hg)) (inr w) (inr v) = absurd (never (record {
        shared = (e, mask-contains k g e he, mask-contains k h e hg);
        first_beyond = λ holds. w (λ p hp. contains-mask k h p bh
            (holds p (mask-contains k g p hp)));
        second_beyond = λ holds. v (λ p hp. contains-mask k g p bg
            (holds p (mask-contains k h p hp)));
      }))

pub laminar_sets : (k : ℕ) (groups : List Group) → AreGroups k groups
    → AreLaminar (sets_of k groups)
laminar_sets k groups ok i j lt in_range =
    let lj : j < length groups = omega (arith, length-sets k groups) in
    let li : i < length groups = omega (arith, lj) in
    rw (sets-at k groups i li, sets-at k groups j lj)
    (nested_group k (group_at groups i) (group_at groups j) (ok.below i no_group li)
    (ok.below j no_group lj) (λ c.
    ok.none i j (record { order = lt; in_range = lj; cross = c })))

-- ---- what a part that cannot grow gets

-- entries from 0 to n, of which no group gets more than n times its cap: s gets at most n for each
-- place of a part that blocks all others of s
pub held : (n : ℤ) (k : ℕ) (groups : List Group) (s i : List Bool) (x : List ℤ) → pos 0 ≤ℤ n
    → AreGroups k groups → length s ≡ k → length i ≡ k → length x ≡ k
    → ((p : ℕ) → p < length x → (pos 0 ≤ℤ get_or x p (pos 0)) × (get_or x p (pos 0) ≤ℤ n))
    → ((j : ℕ) → j < length groups
    → sum_over (mask k (group_at groups j).members) x ≤ℤ (n *ℤ (group_at groups j).cap))
    → ((p : ℕ) → Has s p → get_or i p false ≡ false → IsBlocked k groups i p)
    → sum_over s x ≤ℤ (n *ℤ pos (size i))
held n k groups s i x low ok ks ki kx small capped blocked =
    rw (← amount-size n i) (filled n k (sets_of k groups) s i x low (laminar_sets k groups ok)
    (λ j lt. let lj : j < length
    groups = omega (arith, length-sets k groups) in rw (sets-at k groups j lj)
    (length-mask k (group_at groups j).members)) ks ki kx small refused) where
      refused : (p : ℕ) → Has s p → get_or i p false ≡ false → (j : ℕ)
          × (j < length (sets_of k groups)) × Has (get_or (sets_of k groups) j []) p
          × (pos 0 ≤ℤ sum_over (get_or (sets_of k groups) j []) (gap n i x))
      refused p hp out =
          let (j, lj, m, full) = blocked p hp out in
          let g = group_at groups j in
          let c = capped j lj in
          let up = times-mono n g.cap (pos (count_in g i)) low full in
          let sum = gap-sum n (mask k g.members) i x (length-mask k g.members ∙ sym ki)
          (ki ∙ sym kx) in
          let a = amount-size n (intersection (mask k g.members) i)
          ∙ ap (λ z. n *ℤ pos z) (count-mask k g.members i ki (ok.each j no_group lj).ascending
          (ok.below j no_group lj)) in (
            j,
            omega (arith, length-sets k groups, lj),
            rw (sets-at k groups j lj) m,
            rw (sets-at k groups j lj) (omega (arith, ints, c, up, sum, a)),
          )

-- ---- the largest part

-- 1 at the places of a set
abbrev ones : List Bool → List ℤ
ones s = at_places (pos 1) s

ones-small : (s : List Bool) (p : ℕ) → (pos 0 ≤ℤ get_or (ones s) p (pos 0))
    × (get_or (ones s) p (pos 0) ≤ℤ pos 1)
ones-small s p = rw (at_places-at (pos 1) s p) (at (get_or s p false)) where
  at : (b : Bool) → (pos 0 ≤ℤ (if b then pos 1 else pos 0))
      × ((if b then pos 1 else pos 0) ≤ℤ pos 1)
  at true = (omega (arith, ints), omega (arith, ints))
  at false = (omega (arith, ints), omega (arith, ints))

pub sum-ones : (m s : List Bool) → length m ≡ length s
    → sum_over m (ones s) ≡ pos (size (intersection m s))
sum-ones [] s h = refl
sum-ones (a ∷ m) [] h = absurd (omega arith)
sum-ones (a ∷ m) (b ∷ s) h = at a b (size-cons (a && b) (intersection m s))
    (sum-ones m s (omega arith)) where
      at : (a b : Bool) → size ((a && b) ∷ intersection m s)
          ≡ ((if (a && b) then 1 else 0) + size (intersection m s))
          → sum_over m (ones s) ≡ pos (size (intersection m s))
          → sum_over (a ∷ m) (ones (b ∷ s)) ≡ pos (size (intersection (a ∷ m) (b ∷ s)))
      at true true c r = omega (arith, ints, c, r)
      at true false c r = omega (arith, ints, c, r)
      at false true c r = omega (arith, ints, c, r)
      at false false c r = omega (arith, ints, c, r)

pub sum-ones_within : (s j : List Bool) → length s ≡ length j → IsWithin j s
    → sum_over s (ones j) ≡ pos (size j)
sum-ones_within [] [] h w = refl
sum-ones_within [] (b ∷ j) h w = absurd (omega arith)
sum-ones_within (a ∷ s) [] h w = absurd (omega arith)
sum-ones_within (a ∷ s) (b ∷ j) h w =
    at a b (w 0) (size-cons b j) (sum-ones_within s j (omega arith) (λ e. w (suc e))) where
      at : (a b : Bool) → (b ≡ true → a ≡ true) → size (b ∷ j) ≡ ((if b then 1 else 0) + size j)
          → sum_over s (ones j) ≡ pos (size j)
          → sum_over (a ∷ s) (ones (b ∷ j)) ≡ pos (size (b ∷ j))
      at true true f c r = omega (arith, ints, c, r)
      at true false f c r = omega (arith, ints, c, r)
      at false true f c r = absurd (false≢true (f refl))
      at false false f c r = omega (arith, ints, c, r)

one-times : (a : ℤ) → (pos 1 *ℤ a) ≡ a
one-times a = omega (arith, ints)

-- a part within the caps is no larger than one that blocks what it has more
largest : (k : ℕ) (groups : List Group) (i j : List Bool) → AreGroups k groups → length i ≡ k
    → length j ≡ k
    → ((p : ℕ) → Has j p → get_or i p false ≡ false → IsBlocked k groups i p)
    → IsWithinCaps groups j → size j ≤ size i
largest k groups i j ok ki kj blocked capped =
    let kx = at_places-length (pos 1) j ∙ kj in
    let sum = sum-ones_within j j refl (λ p h. h) in
    let h = held (pos 1) k groups j i (ones j) (omega (arith, ints)) ok kj ki kx
    (λ p lt. ones-small j p) caps blocked in
    let one = one-times (pos (size i)) in
    omega (arith, ints, sum, h, one) where
      caps : (l : ℕ) → l < length groups
          → sum_over (mask k (group_at groups l).members)
          (ones j) ≤ℤ (pos 1 *ℤ (group_at groups l).cap)
      caps l lt =
          let g = group_at groups l in
          let a = sum-ones (mask k g.members) j (length-mask k g.members ∙ sym kj) in
          let c = count-mask k g.members j kj (ok.each l no_group lt).ascending
          (ok.below l no_group lt) in
          let h = capped l no_group lt in
          let one = one-times g.cap in
          omega (arith, ints, a, c, h, one)

-- ---- the matroid

module _ (k : ℕ) (groups : List Group) (ok : AreGroups k groups) where
  -- the parts within the caps: if no place of t can be taken to s, then s blocks all that t has
  -- more, and t is not larger
  pub caps-matroid : IsMatroid k (IsWithinCaps groups)
  caps-matroid = record {
    empty = λ i d li. let low = (ok.each i d li).low in let c = count-none k
        (get_or groups i d).members in omega (arith, ints, low, c);
    parts = λ s t ks kt within capped i d li. let c = count-within (get_or groups i d).members s t
        within in let old = capped i d li in omega (arith, ints, c, old);
    grows = λ s t ks kt fs ft less. ⊎_elim
        (λ (e, lt, is).
        let (has, free) = and_parts (get_or t e false)
        (not (get_or s e false) && not (is_blocked k groups s e)) is in
        let (out, room) = and_parts (not (get_or s e false)) (not (is_blocked k groups s e)) free in
        let o = not-true (get_or s e false) out in (
          e,
          has,
          o,
          capped-set k groups s e ok ks lt o (not-true (is_blocked k groups s e) room)
              fs,
        ))
        (λ none.
        let m = largest k groups s t ok ks kt
        (λ p hp out. let lt = has_place t p hp in blocked_from k groups s p
        (full (get_or t p false) (get_or s p false) (is_blocked k groups s p) hp out
        (none p (omega (arith, lt, kt))))) ft in
        absurd (omega (arith, m, less)))
        (some_or_none (λ e. get_or t e false &&
        (not (get_or s e false) && not (is_blocked k groups s e))) k);
  } where
    full : (a b c : Bool) → a ≡ true → b ≡ false → (a && (not b && not c)) ≡ false → c ≡ true
    full true false true h o e = refl
    full true false false h o e = absurd (false≢true (sym e))
    full true true c h o e = absurd (false≢true (sym o))
    full false b c h o e = absurd (false≢true h)

  pub caps-growth : (s : List Bool) → IsGrowth k (IsWithinCaps groups) s (grown k groups s)
  caps-growth s = record { begins = refl; steps = steps } where
    full : (a b : Bool) → a ≡ true → (a && not b) ≡ false → b ≡ true
    full true true h e = refl
    full true false h e = absurd (false≢true (sym e))
    full false b h e = absurd (false≢true h)

    steps : (j : ℕ) → j < k → IsGrown k (IsWithinCaps groups) s j (grown k groups s j)
        → IsStep (IsWithinCaps groups) s j (grown k groups s j) (grown k groups s (suc j))
    steps j lt state =
        let t = grown k groups s j in
        let out = next-out k (IsWithinCaps groups) s j t state in
        ⊎_elim
        (λ take.
        let (has, free) = and_parts (get_or s j false) (not (is_blocked k groups t j)) take in
        inl (
          has,
          rw take refl,
          capped-set k groups t j ok state.places lt out
              (not-true (is_blocked k groups t j) free) state.independent,
        ))
        (λ idle. inr (
          rw idle refl,
          λ has more. over-set k groups t j ok state.places lt out
              (full (get_or s j false) (is_blocked k groups t j) has idle) more,
        ))
        (cases_Bool (takes k groups s t j))

-- ---- the rank

abbrev pub rank : ℕ → List Group → List Bool → ℕ
rank k groups s = size (grown k groups s k)

module _ (k : ℕ) (groups : List Group) (ok : AreGroups k groups) where
  pub caps-grown : (s : List Bool) (n : ℕ) → n ≤ k
      → IsGrown k (IsWithinCaps groups) s n (grown k groups s n)
  caps-grown s n le = is_grown k (IsWithinCaps groups) (caps-matroid k groups ok) s
      (grown k groups s) (caps-growth k groups ok s) n le

  pub whole_grown : (s : List Bool) → IsGrown k (IsWithinCaps groups) s k (grown k groups s k)
  whole_grown s = caps-grown s k (omega arith)

  pub caps-ranks : AreRanks k (IsWithinCaps groups) (rank k groups)
  caps-ranks s ks = grown-rank k (IsWithinCaps groups) (caps-matroid k groups ok) s
      (grown k groups s) (caps-growth k groups ok s) ks

  -- what is not taken is blocked
  pub blocks : (s : List Bool) → length s ≡ k → (p : ℕ) → Has s p
      → get_or (grown k groups s k) p false ≡ false → IsBlocked k groups (grown k groups s k) p
  blocks s ks p hp out =
      let lt = has_place s p hp in
      let h = whole_grown s in
      ⊎_elim
      (λ b. blocked_from k groups (grown k groups s k) p b)
      (λ free. absurd (h.refused p (omega (arith, lt, ks)) hp out
      (capped-set k groups (grown k groups s k) p ok h.places (omega (arith, lt, ks)) out free
      h.independent)))
      (cases_Bool (is_blocked k groups (grown k groups s k) p))
