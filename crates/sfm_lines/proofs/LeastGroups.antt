-- Of groups with the same members one with the least cap: each of them is one of the groups, and
-- each group has one with the same members and no greater cap. So a part is within their caps
-- exactly where it is within those of the groups, and some of them cross exactly where some of the
-- groups do.
use Rattle.std.proofs.Common.{◌≡◌, ◌≢◌, ◌⊎◌, inl, inr, ◌↔◌, ℕ, zero, suc, ◌+◌, ◌<◌, ◌≤◌, Bool, true, false, List, [], ◌∷◌, ◌++◌, length, get_or, set, take, if◌then◌else◌, Contains, pos, ◌≤ℤ◌, ◌<ℤ◌, refl, sym, ap, ◌∙◌, ⊎_elim, arith}
use Rattle.std.specs.Prelude.{bytes_eq}
use Rattle.std.specs.List.{All, fold}
use Rattle.std.specs.Int.Signed.{le_z}
use Rattle.std.proofs.lemmas.Bool.{cases_lt}
use Rattle.std.proofs.lemmas.Int.{ints}
use Rattle.std.proofs.lemmas.List.{get_or_default, set-get_or, take_more, take_all}
use Rattle.std.proofs.lemmas.List.Elements.{All-push}
use Rattle.std.proofs.lemmas.Slice.Eq.{bytes_eq-Decides}
use Rattle.sfm_spec.specs.Kinds.{Group, count_in, IsWithinCaps}
use Rattle.sfm_laminar.specs.Crossing.{AreCrossing, IsCrossing, group_at, no_group}
use Rattle.sfm_lines.specs.CutParts.{IsFirstWith}
use Rattle.sfm_lines.specs.LeastGroups.{with_group, least_groups}

-- a group with the members of g and no greater cap
abbrev pub HasLeast : List Group → Group → Type 0
HasLeast groups g = (k : Group) × Contains groups k × (k.members ≡ g.members) × (k.cap ≤ℤ g.cap)

in-front : (x : Group) (xs : List Group) → Contains (x ∷ xs) x
in-front x xs = (0, omega arith, refl)

in-behind : (y x : Group) (xs : List Group) → Contains xs x → Contains (y ∷ xs) x
in-behind y x xs (k, lt, e) = (suc k, omega (arith, lt), e)

in-none : (x : Group) → Contains [] x → ⊥
in-none x (k, lt, e) = omega (arith, lt)

same-by : (h g : Group) → bytes_eq h.members g.members ≡ true → h.members ≡ g.members
same-by h g e = (bytes_eq-Decides h.members g.members).0 e

-- ---- of two groups

-- the one with the lesser cap, the first where they have one cap
abbrev lesser_of : Group → Group → Group
lesser_of g h = if le_z g.cap h.cap then g else h

lesser-one : (h g : Group) → (lesser_of h g ≡ h) ⊎ (lesser_of h g ≡ g)
lesser-one h g = at (le_z h.cap g.cap)
  where
    at : (b : Bool) → ((if b then h else g) ≡ h) ⊎ ((if b then h else g) ≡ g)
    at true = inl refl
    at false = inr refl

lesser-members : (h g : Group) → h.members ≡ g.members → (lesser_of h g).members ≡ g.members
lesser-members h g same = at (le_z h.cap g.cap)
  where
    at : (b : Bool) → (if b then h else g).members ≡ g.members
    at true = same
    at false = refl

lesser-cap : (h g : Group) → ((lesser_of h g).cap ≤ℤ h.cap) × ((lesser_of h g).cap ≤ℤ g.cap)
lesser-cap h g = at (le_z h.cap g.cap) refl
  where
    at : (b : Bool) → le_z h.cap g.cap ≡ b → ((if b then h else g).cap ≤ℤ h.cap)
        × ((if b then h else g).cap ≤ℤ g.cap)
    at true e = (omega (arith, ints), omega (arith, ints, e))
    at false e = (omega (arith, ints, e), omega (arith, ints))

-- ---- one more group

one-from : (kept : List Group) (g k : Group) → Contains (with_group kept g) k → Contains kept k
    ⊎ (g ≡ k)
one-from [] g k (zero, lt, e) = inr e
one-from [] g k (suc j, lt, e) = absurd (omega (arith, lt))
one-from (h ∷ kept) g k c = at (bytes_eq h.members g.members) c (one-from kept g k)
  where
    first : (lesser_of h g ≡ h) ⊎ (lesser_of h g ≡ g) → lesser_of h g ≡ k → Contains (h ∷ kept) k
        ⊎ (g ≡ k)
    first (inl is) e = let same : h ≡ k = sym is ∙ e in inl (0, omega arith, same)
    first (inr is) e = inr (sym is ∙ e)

    at : (b : Bool) → Contains (if b then lesser_of h g ∷ kept else h ∷ with_group kept g) k
        → (Contains (with_group kept g) k → Contains kept k ⊎ (g ≡ k)) → Contains (h ∷ kept) k
        ⊎ (g ≡ k)
    at true (zero, lt, e) more = first (lesser-one h g) e
    at true (suc j, lt, e) more = inl (suc j, lt, e)
    at false (zero, lt, e) more = inl (0, omega arith, e)
    at false (suc j, lt, e) more = ⊎_elim (λ (m : Contains kept k). inl (in-behind h k kept m))
        (λ (s : g ≡ k). inr s) (more (j, omega (arith, lt), e))

one-old : (kept : List Group) (g x : Group) → HasLeast kept x → HasLeast (with_group kept g) x
one-old [] g x (k, c, same, le) = absurd (in-none k c)
one-old (h ∷ kept) g x (k, c, same, le) =
    at (bytes_eq h.members g.members) refl c (one-old kept g x)
  where
    at : (b : Bool) → bytes_eq h.members g.members ≡ b → Contains (h ∷ kept) k
        → (HasLeast kept x → HasLeast (with_group kept g) x)
        → HasLeast (if b then lesser_of h g ∷ kept else h ∷ with_group kept g) x
    at true b (zero, lt, e) more =
        let m = lesser-members h g (same-by h g b) ∙ sym (same-by h g b) in
        let cap = lesser-cap h g in
        let cap' : k.cap ≡ h.cap = sym (ap (λ (z : Group). z.cap) e) in (
          lesser_of h g,
          in-front (lesser_of h g) kept,
          m ∙ (ap (λ (z : Group). z.members) e ∙ same),
          omega (arith, ints, cap.0, le, cap'),
        )
    at true b (suc j, lt, e) more =
        (k, in-behind (lesser_of h g) k kept (j, omega (arith, lt), e), same, le)
    at false b (zero, lt, e) more = (k, (0, omega arith, e), same, le)
    at false b (suc j, lt, e) more =
        let (k', c', same', le') = more (k, (j, omega (arith, lt), e), same, le) in
        (k', in-behind h k' (with_group kept g) c', same', le')

one-new : (kept : List Group) (g : Group) → HasLeast (with_group kept g) g
one-new [] g = (g, in-front g [], refl, omega (arith, ints))
one-new (h ∷ kept) g = at (bytes_eq h.members g.members) refl (one-new kept g)
  where
    at : (b : Bool) → bytes_eq h.members g.members ≡ b → HasLeast (with_group kept g) g
        → HasLeast (if b then lesser_of h g ∷ kept else h ∷ with_group kept g) g
    at true b more = (
      lesser_of h g,
      in-front (lesser_of h g) kept,
      lesser-members h g (same-by h g b),
      (lesser-cap h g).1,
    )
    at false b (k, c, same, le) = (k, in-behind h k (with_group kept g) c, same, le)

-- ---- all groups

-- one more at the end
pub with-more : (kept more : List Group) (g : Group)
    → fold with_group kept (more ++ g ∷ []) ≡ with_group (fold with_group kept more) g
with-more kept [] g = refl
with-more kept (h ∷ more) g = with-more (with_group kept h) more g

all-from : (kept more : List Group) (k : Group) → Contains (fold with_group kept more) k
    → Contains kept k ⊎ Contains more k
all-from kept [] k c = inl c
all-from kept (g ∷ more) k c = ⊎_elim
    (λ (m : Contains (with_group kept g) k). ⊎_elim (λ (old : Contains kept k). inl old)
    (λ (s : g ≡ k). inr (0, omega arith, s)) (one-from kept g k m))
    (λ (m : Contains more k). inr (in-behind g k more m))
    (all-from (with_group kept g) more k c)

all-old : (kept more : List Group) (x : Group) → HasLeast kept x
    → HasLeast (fold with_group kept more) x
all-old kept [] x h = h
all-old kept (g ∷ more) x h = all-old (with_group kept g) more x (one-old kept g x h)

all-new : (kept more : List Group) (x : Group) → Contains more x
    → HasLeast (fold with_group kept more) x
all-new kept [] x c = absurd (in-none x c)
all-new kept (g ∷ more) x (zero, lt, e) =
    let (k, c, same, le) = all-old (with_group kept g) more g (one-new kept g) in
    let cap : g.cap ≡ x.cap = ap (λ (z : Group). z.cap) e in
    (k, c, same ∙ ap (λ (z : Group). z.members) e, omega (arith, ints, le, cap))
all-new kept (g ∷ more) x (suc j, lt, e) =
    all-new (with_group kept g) more x (j, omega (arith, lt), e)

pub least-from : (groups : List Group) (k : Group) → Contains (least_groups groups) k
    → Contains groups k
least-from groups k c = ⊎_elim (λ (m : Contains [] k). absurd (in-none k m))
    (λ (m : Contains groups k). m) (all-from [] groups k c)

pub least-for : (groups : List Group) (g : Group) → Contains groups g
    → HasLeast (least_groups groups) g
least-for groups g c = all-new [] groups g c

-- ---- what holds of each

contains-at : (xs : List Group) (k : ℕ) (d : Group) → k < length xs → Contains xs (get_or xs k d)
contains-at xs k d lt = (k, lt, get_or_default xs k (get_or xs k d) d lt)

all-at : (P : Group → Type 0) (xs : List Group) (x : Group) → All P xs → Contains xs x → P x
all-at P xs x h (k, lt, e) = rw e at (h k x lt)

pub least-each : (P : Group → Type 0) (groups : List Group) → All P groups
    → All P (least_groups groups)
least-each P groups h = λ k d lt.
    all-at P groups _ h (least-from groups _ (contains-at (least_groups groups) k d lt))

-- ---- caps

pub least-caps : (groups : List Group) (t : List Bool) → IsWithinCaps (least_groups groups) t
    ↔ IsWithinCaps groups t
least-caps groups t = (
  λ h k d lt.
      let g : Group = get_or groups k d in
      let (l, c, same, le) = least-for groups g (contains-at groups k d lt) in
      let kept = all-at (λ group. pos (count_in group t) ≤ℤ group.cap) (least_groups groups) l h
      c in
      let count : count_in l t ≡ count_in g t = counts l g same in
      omega (arith, ints, le, kept, count),
  λ h. least-each (λ group. pos (count_in group t) ≤ℤ group.cap) groups h,
)
  where
    counts : (a b : Group) → a.members ≡ b.members → count_in a t ≡ count_in b t
    counts a b same = rw same refl

-- ---- crossings

cross-same : (a b c d : Group) → a.members ≡ c.members → b.members ≡ d.members → AreCrossing a b
    → AreCrossing c d
cross-same a b c d first second h = record {
  shared = rw (sym first, sym second) h.shared;
  first_beyond = rw (sym first, sym second) h.first_beyond;
  second_beyond = rw (sym first, sym second) h.second_beyond;
}

cross-turned : (a b : Group) → AreCrossing a b → AreCrossing b a
cross-turned a b h = record {
  shared = (h.shared.0, h.shared.2, h.shared.1);
  first_beyond = h.second_beyond;
  second_beyond = h.first_beyond;
}

cross-apart : (a b : Group) → AreCrossing a b → a.members ≡ b.members → ⊥
cross-apart a b h same = h.second_beyond (λ e c. rw (sym same) at c)

crossing-of : (groups : List Group) (a b : Group) → Contains groups a → Contains groups b
    → AreCrossing a b → (i : ℕ) × (j : ℕ) × IsCrossing groups i j
crossing-of groups a b (i, lt, e) (j, lt', e') cross = at (cases_lt i j) (cases_lt j i)
  where
    here : (k : ℕ) (x : Group) → k < length groups → get_or groups k x ≡ x → group_at groups k ≡ x
    here k x within is = sym (get_or_default groups k x no_group within) ∙ is

    members : (k : ℕ) (x : Group) → k < length groups → get_or groups k x ≡ x
        → x.members ≡ (group_at groups k).members
    members k x within is = sym (ap (λ (z : Group). z.members) (here k x within is))

    at : (i < j) ⊎ (j ≤ i) → (j < i) ⊎ (i ≤ j) → (i : ℕ) × (j : ℕ) × IsCrossing groups i j
    at (inl less) _ = (
      i,
      j,
      record {
        order = less;
        in_range = lt';
        cross = cross-same a b (group_at groups i) (group_at groups j) (members i a lt e)
            (members j b lt' e') cross;
      },
    )
    at (inr _) (inl less) = (
      j,
      i,
      record {
        order = less;
        in_range = lt;
        cross = cross-same b a (group_at groups j) (group_at groups i) (members j b lt' e')
            (members i a lt e) (cross-turned a b cross);
      },
    )
    at (inr ge) (inr ge') =
        let one : i ≡ j = omega (arith, ge, ge') in
        absurd (cross-apart a b cross
        (members i a lt e ∙ (ap (λ (k : ℕ). (group_at groups k).members) one
        ∙ sym (members j b lt' e'))))

crossing-at : (groups : List Group) (i j : ℕ) (h : IsCrossing groups i j)
    → Contains groups (group_at groups i) × Contains groups (group_at groups j)
crossing-at groups i j h = (
  contains-at groups i no_group (omega (arith, h.order, h.in_range)),
  contains-at groups j no_group h.in_range,
)

-- groups cross where some of the least do
pub crossing-from : (groups : List Group)
    → ((i : ℕ) × (j : ℕ) × IsCrossing (least_groups groups) i j) → (i : ℕ) × (j : ℕ)
    × IsCrossing groups i j
crossing-from groups (i, j, h) =
    let (a, b) = crossing-at (least_groups groups) i j h in
    crossing-of groups (group_at (least_groups groups) i) (group_at (least_groups groups) j)
    (least-from groups _ a) (least-from groups _ b) h.cross

-- and some of the least do where groups cross
pub crossing-for : (groups : List Group) → ((i : ℕ) × (j : ℕ) × IsCrossing groups i j) → (i : ℕ)
    × (j : ℕ) × IsCrossing (least_groups groups) i j
crossing-for groups (i, j, h) =
    let (a, b) = crossing-at groups i j h in
    let (k, c, same, le) = least-for groups (group_at groups i) a in
    let (l, d, same', le') = least-for groups (group_at groups j) b in
    crossing-of (least_groups groups) k l c d
    (cross-same (group_at groups i) (group_at groups j) k l (sym same) (sym same') h.cross)

-- ---- one more group, by the place of the first with the same members

pub apart-more : (members : List ℕ) (groups : List Group) (i : ℕ) (d : Group) → i < length groups
    → All (λ g. g.members ≢ members) (take i groups) → ((get_or groups i d).members ≢ members)
    → All (λ g. g.members ≢ members) (take (i + 1) groups)
apart-more members groups i d lt h other =
    rw (take_more groups i d lt) (All-push (λ g. g.members ≢ members) (take i groups)
    (get_or groups i d) h other)

pub apart-all : (members : List ℕ) (groups : List Group) (i : ℕ) → length groups ≤ i
    → All (λ g. g.members ≢ members) (take i groups) → All (λ g. g.members ≢ members) groups
apart-all members groups i ge h = rw (take_all i groups ge) at h

pub with-none : (groups : List Group) (g : Group) → All (λ h. h.members ≢ g.members) groups
    → with_group groups g ≡ groups ++ g ∷ []
with-none [] g none = refl
with-none (h ∷ groups) g none =
    at (bytes_eq h.members g.members) refl
    (with-none groups g (λ k d lt. none (suc k) d (omega (arith, lt))))
  where
    at : (b : Bool) → bytes_eq h.members g.members ≡ b → with_group groups g ≡ groups ++ g ∷ []
        → (if b then lesser_of h g ∷ groups else h ∷ with_group groups g) ≡ h ∷ (groups ++ g ∷ [])
    at true e more = absurd (none 0 h (omega arith) (same-by h g e))
    at false e more = ap (λ (l : List Group). h ∷ l) more

with-place : (groups : List Group) (g : Group) (i : ℕ) → i < length groups
    → (get_or groups i no_group).members ≡ g.members
    → All (λ h. h.members ≢ g.members) (take i groups)
    → with_group groups g ≡ set groups i (lesser_of (get_or groups i no_group) g)
with-place [] g i lt here none = absurd (omega (arith, lt))
with-place (h ∷ groups) g zero lt here none =
    rw ((bytes_eq-Decides h.members g.members).1 here) refl
with-place (h ∷ groups) g (suc i) lt here none =
    at (bytes_eq h.members g.members) refl
    (with-place groups g i (omega (arith, lt)) here (λ k d m. none (suc k) d (omega (arith, m))))
  where
    at : (b : Bool) → bytes_eq h.members g.members ≡ b
        → with_group groups g ≡ set groups i (lesser_of (get_or groups i no_group) g)
        → (if b then lesser_of h g ∷ groups else h ∷ with_group groups g) ≡ h ∷ set groups i
        (lesser_of (get_or groups i no_group) g)
    at true e more = absurd (none 0 h (omega arith) (same-by h g e))
    at false e more = ap (λ (l : List Group). h ∷ l) more

pub with-lesser : (groups : List Group) (g : Group) (i : ℕ) → IsFirstWith g.members groups i
    → g.cap <ℤ (group_at groups i).cap → with_group groups g ≡ set groups i g
with-lesser groups g i first less = with-place groups g i first.within first.here first.none_before
    ∙ ap (λ (x : Group). set groups i x) (at (le_z (group_at groups i).cap g.cap) refl)
  where
    at : (b : Bool) → le_z (group_at groups i).cap g.cap ≡ b
        → (if b then group_at groups i else g) ≡ g
    at true e = absurd (omega (arith, ints, e, less))
    at false e = refl

pub with-greater : (groups : List Group) (g : Group) (i : ℕ) → IsFirstWith g.members groups i
    → (group_at groups i).cap ≤ℤ g.cap → with_group groups g ≡ groups
with-greater groups g i first most = with-place groups g i first.within first.here first.none_before
    ∙ (ap (λ (x : Group). set groups i x) (at (le_z (group_at groups i).cap g.cap) refl)
    ∙ set-get_or groups i no_group)
  where
    at : (b : Bool) → le_z (group_at groups i).cap g.cap ≡ b
        → (if b then group_at groups i else g) ≡ group_at groups i
    at true e = refl
    at false e = absurd (omega (arith, ints, e, most))
