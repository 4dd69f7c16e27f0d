-- Groups cut down to the kept places: they are groups again, and a part of the kept places is
-- within their caps where it is within the caps of all groups.
use Rattle.std.proofs.Common.{◌≡◌, ◌↔◌, ℕ, zero, suc, ◌+◌, ◌<◌, ◌≤◌, Bool, true, false, cond, List, [], ◌∷◌, ◌++◌, length, map, get_or, take, nat_lt, pos, ◌≤ℤ◌, refl, sym, ap, ◌∙◌, arith, subst, ⊎_elim}
use Rattle.std.specs.List.{All, Contains, filter}
use Rattle.std.proofs.lemmas.Bool.{cases_lt, cases_Bool}
use Rattle.std.proofs.lemmas.Int.{ints}
use Rattle.std.proofs.lemmas.List.{get_or_default}
use Rattle.std.proofs.lemmas.List.Elements.{All-head, All-tail, All-cons, All-map, All-filter, All-weaker, All-contains, All-contains_itself, filter_passes}
use Rattle.sfm_spec.specs.Sets.{Has, size}
use Rattle.sfm_spec.specs.Kinds.{Group, count_in, IsWithinCaps}
use Rattle.sfm_spec.proofs.Where.{size-cons}
use Rattle.sfm_layers.specs.Kept.{spread}
use Rattle.sfm_layers.proofs.Kept.{number-rises, number-below, number-one, spread-at, spread-out}
use Rattle.sfm_laminar.specs.Groups.{IsAscending, IsGroup, IsBelow, NoneCross, AreGroups}
use Rattle.sfm_laminar.specs.Crossing.{Holds, AreCrossing, no_group, group_at}
use Rattle.sfm_laminar.specs.Masks.{ascending-tail, count_listed, count-cons}
use Rattle.sfm_laminar.specs.Cut.{cut_members, cut_group, cut_groups}

-- ---- numbers, one place after another

pub size-take : (keep : List Bool) (j : ℕ)
    → size (take (suc j) keep) ≡ size (take j keep) + cond (get_or keep j false) 1 0
size-take [] zero = refl
size-take [] (suc j) = refl
size-take (true ∷ keep) zero = refl
size-take (false ∷ keep) zero = refl
size-take (b ∷ keep) (suc j) =
    let r = size-take keep j in
    let s = size-cons b (take (suc j) keep) in
    let t = size-cons b (take j keep) in
    omega (arith, r, s, t)

pub size-take_below : (keep : List Bool) (j : ℕ) → size (take j keep) ≤ j
size-take_below keep zero = omega arith
size-take_below keep (suc j) = let r = size-take_below keep j in let s = size-take keep j in at
    (get_or keep j false) s r where
      at : (b : Bool) → size (take (suc j) keep) ≡ size (take j keep) + cond b 1 0
          → size (take j keep) ≤ j → size (take (suc j) keep) ≤ suc j
      at true s r = omega (arith, s, r)
      at false s r = omega (arith, s, r)

-- ---- members, one after another

pub cut-in : (keep : List Bool) (e : ℕ) (es : List ℕ) → Has keep e
    → cut_members keep (e ∷ es) ≡ size (take e keep) ∷ cut_members keep es
cut-in keep e es has = rw has refl

pub cut-out : (keep : List Bool) (e : ℕ) (es : List ℕ) → get_or keep e false ≡ false
    → cut_members keep (e ∷ es) ≡ cut_members keep es
cut-out keep e es out = rw out refl

pub cut-more : (keep : List Bool) (es : List ℕ) (i : ℕ) → i < length es → Has keep (get_or es i 0)
    → cut_members keep (take (suc i) es) ≡ cut_members keep (take i es) ++ size
    (take (get_or es i 0) keep) ∷ []
cut-more keep [] i lt has = absurd (omega arith)
cut-more keep (e ∷ es) zero lt has = cut-in keep e [] has
cut-more keep (e ∷ es) (suc i) lt has =
    at (get_or keep e false) (cut-more keep es i (omega arith) has) where
      at : (b : Bool) → cut_members keep (take (suc i) es) ≡ cut_members keep (take i es) ++ size
          (take (get_or es i 0) keep) ∷ []
          → map (λ e. size (take e keep))
          (cond b (e ∷ filter (λ e. get_or keep e false) (take (suc i) es))
          (filter (λ e. get_or keep e false) (take (suc i) es)))
          ≡ map (λ e. size (take e keep))
          (cond b (e ∷ filter (λ e. get_or keep e false) (take i es))
          (filter (λ e. get_or keep e false) (take i es))) ++ size (take (get_or es i 0) keep) ∷ []
      at true r = ap (λ xs. size (take e keep) ∷ xs) r
      at false r = r

pub cut-same : (keep : List Bool) (es : List ℕ) (i : ℕ) → i < length es
    → get_or keep (get_or es i 0) false ≡ false
    → cut_members keep (take (suc i) es) ≡ cut_members keep (take i es)
cut-same keep [] i lt out = absurd (omega arith)
cut-same keep (e ∷ es) zero lt out = cut-out keep e [] out
cut-same keep (e ∷ es) (suc i) lt out =
    at (get_or keep e false) (cut-same keep es i (omega arith) out) where
      at : (b : Bool) → cut_members keep (take (suc i) es) ≡ cut_members keep (take i es)
          → map (λ e. size (take e keep))
          (cond b (e ∷ filter (λ e. get_or keep e false) (take (suc i) es))
          (filter (λ e. get_or keep e false) (take (suc i) es)))
          ≡ map (λ e. size (take e keep))
          (cond b (e ∷ filter (λ e. get_or keep e false) (take i es))
          (filter (λ e. get_or keep e false) (take i es)))
      at true r = ap (λ xs. size (take e keep) ∷ xs) r
      at false r = r

-- what is so of each kept member's number is so of each cut member
cut-each : (P : ℕ → Type 0) (keep : List Bool) (es : List ℕ)
    → ((e : ℕ) → Contains es e → Has keep e → P (size (take e keep))) → All P (cut_members keep es)
cut-each P keep es each =
    All-map P (λ e. size (take e keep)) (filter (λ e. get_or keep e false) es)
    (λ k d lt. each (get_or (filter (λ e. get_or keep e false) es) k d)
    (All-filter (λ e. get_or keep e false) (Contains es) es (All-contains_itself es) k d lt)
    (filter_passes (λ e. get_or keep e false) es k d lt))

-- a cut member is the number of a kept member
cut-from : (keep : List Bool) (es : List ℕ) (n : ℕ) → Contains (cut_members keep es) n → (e : ℕ)
    × Contains es e × Has keep e × (size (take e keep) ≡ n)
cut-from keep es n has = All-contains
    (λ m. (e : ℕ) × Contains es e × Has keep e × (size (take e keep) ≡ m)) (cut_members keep es) n
    (cut-each (λ m. (e : ℕ) × Contains es e × Has keep e × (size (take e keep) ≡ m)) keep es
    (λ e c h. (e, c, h, refl))) has

later : (n x : ℕ) (ns : List ℕ) → Contains ns x → Contains (n ∷ ns) x
later n x ns (k, lt, is) = (suc k, omega (arith, lt), is)

-- the number of a kept member is a cut member
cut-to : (keep : List Bool) (es : List ℕ) (e : ℕ) → Contains es e → Has keep e
    → Contains (cut_members keep es) (size (take e keep))
cut-to keep [] e (k, lt, is) has = absurd (omega arith)
cut-to keep (d ∷ es) e (zero, lt, is) has =
    let same : d ≡ e = is in
    subst (λ (ns : List ℕ). Contains ns (size (take e keep)))
    (sym (cut-in keep d es (subst (Has keep) (sym same) has)))
    (0, omega arith, ap (λ x. size (take x keep)) same)
cut-to keep (d ∷ es) e (suc k, lt, is) has =
    let rest = cut-to keep es e (k, omega (arith, lt), is) has in ⊎_elim
    (λ (h : Has keep d). subst (λ (ns : List ℕ). Contains ns (size (take e keep)))
    (sym (cut-in keep d es h)) (later (size (take d keep)) (size (take e keep))
    (cut_members keep es) rest))
    (λ out. subst (λ (ns : List ℕ). Contains ns (size (take e keep))) (sym (cut-out keep d es out))
    rest)
    (cases_Bool (get_or keep d false))

-- ---- a cut group is a group

ascending-cons : (n : ℕ) (ns : List ℕ) → All (λ m. n < m) ns → IsAscending ns → IsAscending (n ∷ ns)
ascending-cons n ns above up zero zero lt l = absurd (omega arith)
ascending-cons n ns above up zero (suc j) lt l = above j 0 (omega (arith, l))
ascending-cons n ns above up (suc i) zero lt l = absurd (omega arith)
ascending-cons n ns above up (suc i) (suc j) lt l = up i j (omega (arith, lt)) (omega (arith, l))

above-head : (e : ℕ) (es : List ℕ) → IsAscending (e ∷ es) → All (λ x. e < x) es
above-head e es up k d lt = let u = up 0 (suc k) (omega arith)
    (omega (arith, lt)) in subst (λ x. e < x) (get_or_default es k 0 d lt) u

pub cut-ascending : (keep : List Bool) (es : List ℕ) → IsAscending es
    → IsAscending (cut_members keep es)
cut-ascending keep [] up = λ i j lt l. absurd (omega (arith, l))
cut-ascending keep (e ∷ es) up =
    let rest = cut-ascending keep es (ascending-tail e es up) in
    let above = above-head e es up in ⊎_elim
    (λ (has : Has keep e). subst IsAscending (sym (cut-in keep e es has))
    (ascending-cons (size (take e keep)) (cut_members keep es)
    (cut-each (λ m. size (take e keep) < m) keep es
    (λ d c h. number-rises keep e d (All-contains (λ x. e < x) es d above c) has)) rest))
    (λ out. subst IsAscending (sym (cut-out keep e es out)) rest)
    (cases_Bool (get_or keep e false))

pub cut-group : (keep : List Bool) (g : Group) → IsGroup g → IsGroup (cut_group keep g)
cut-group keep g ok = record {
  low = ok.low;
  given = ok.given;
  ascending = cut-ascending keep g.members ok.ascending;
}

pub cut-below : (keep : List Bool) (g : Group) → IsBelow (size keep) (cut_group keep g)
cut-below keep g = cut-each (λ n. n < size keep) keep g.members (λ e c h. number-below keep e h)

-- ---- cut groups that cross were cut from groups that cross

cut-crossing : (keep : List Bool) (g h : Group) → AreCrossing (cut_group keep g) (cut_group keep h)
    → AreCrossing g h
cut-crossing keep g h c =
    let (n, ng, nh) = c.shared in
    let (d, dg, hd, nd) = cut-from keep g.members n ng in
    let (e, eh, he, ne) = cut-from keep h.members n nh in
    let same = number-one keep e d he hd (ne ∙ sym nd) in
    record {
      shared = (d, dg, subst (Contains h.members) same eh);
      first_beyond = λ holds. c.first_beyond (down h g holds);
      second_beyond = λ holds. c.second_beyond (down g h holds);
    }
  where
    down : (a b : Group) → Holds a b → Holds (cut_group keep a) (cut_group keep b)
    down a b holds n has =
        let (e, eb, he, is) = cut-from keep b.members n has in
        subst (Contains (cut_members keep a.members)) is (cut-to keep a.members e (holds e eb) he)

turned : (g h : Group) → AreCrossing g h → AreCrossing h g
turned g h c = let (e, eg, eh) = c.shared in record {
  shared = (e, eh, eg);
  first_beyond = c.second_beyond;
  second_beyond = c.first_beyond;
}

-- a cut group is cut from one of the groups
IsCutFrom : List Bool → List Group → Group → Type 0
IsCutFrom keep groups c = (j : ℕ) × (j < length groups) × (c ≡ cut_group keep (group_at groups j))

cut-groups_from : (keep : List Bool) (groups : List Group)
    → All (IsCutFrom keep groups) (cut_groups keep groups)
unfolding IsCutFrom
cut-groups_from keep groups = All-filter (λ g. nat_lt 0 (length g.members)) (IsCutFrom keep groups)
    (map (cut_group keep) groups)
    (All-map (IsCutFrom keep groups) (cut_group keep) groups
    (λ k d lt. (k, lt, ap (cut_group keep) (get_or_default groups k d no_group lt))))

cut-none : (keep : List Bool) (groups : List Group) → NoneCross groups
    → NoneCross (cut_groups keep groups)
unfolding IsCutFrom
cut-none keep groups none i j c =
    let lj = c.in_range in
    let li : i < length (cut_groups keep groups) = let o = c.order in omega (arith, o, lj) in
    let (a, la, ia) = cut-groups_from keep groups i no_group li in
    let (b, lb, ib) = cut-groups_from keep groups j no_group lj in
    let cross : AreCrossing (cut_group keep (group_at groups a))
    (cut_group keep (group_at groups b)) =
    subst (λ g. AreCrossing g (cut_group keep (group_at groups b))) ia
    (subst (λ h. AreCrossing (group_at (cut_groups keep groups) i) h) ib c.cross) in
    let up = cut-crossing keep (group_at groups a) (group_at groups b) cross in ⊎_elim
    (λ (l : a < b). none a b (record { order = l; in_range = lb; cross = up }))
    (λ (ge : b ≤ a). ⊎_elim
    (λ (l : b < a).
    none b a (record {
      order = l;
      in_range = la;
      cross = turned (group_at groups a) (group_at groups b) up;
    }))
    (λ (le : a ≤ b). let same : a ≡ b = omega (arith, ge, le) in itself (group_at groups b)
    (subst (λ x. AreCrossing (group_at groups x) (group_at groups b)) same up))
    (cases_lt b a))
    (cases_lt a b)
  where
    itself : (g : Group) → AreCrossing g g → ⊥
    itself g c = c.first_beyond (λ e h. h)

pub cut-groups : (keep : List Bool) (groups : List Group) → AreGroups (length keep) groups
    → AreGroups (size keep) (cut_groups keep groups)
cut-groups keep groups ok = record {
  each = All-filter (λ g. nat_lt 0 (length g.members)) IsGroup (map (cut_group keep) groups)
      (All-map IsGroup (cut_group keep) groups
      (All-weaker IsGroup (λ g. IsGroup (cut_group keep g)) (cut-group keep) groups ok.each));
  below = All-filter (λ g. nat_lt 0 (length g.members)) (IsBelow (size keep))
      (map (cut_group keep) groups)
      (All-map (IsBelow (size keep)) (cut_group keep) groups
      (λ k d lt. cut-below keep (get_or groups k d)));
  none = cut-none keep groups ok.none;
}

-- ---- one group after another

-- something is left of a group
pub cut_groups-in : (keep : List Bool) (g : Group)
    → nat_lt 0 (length (cut_members keep g.members)) ≡ true
    → cut_groups keep (g ∷ []) ≡ cut_group keep g ∷ []
cut_groups-in keep g some = ap (λ b. cond b (cut_group keep g ∷ []) []) some

pub cut_groups-more : (keep : List Bool) (groups : List Group) (i : ℕ) → i < length groups
    → cut_groups keep (take (suc i) groups) ≡ cut_groups keep (take i groups) ++ cut_groups keep
    (group_at groups i ∷ [])
cut_groups-more keep [] i lt = absurd (omega arith)
cut_groups-more keep (g ∷ groups) zero lt = refl
cut_groups-more keep (g ∷ groups) (suc i) lt =
    at (nat_lt 0 (length (cut_members keep g.members)))
    (cut_groups-more keep groups i (omega arith)) where
      at : (b : Bool) → cut_groups keep (take (suc i) groups) ≡ cut_groups keep
          (take i groups) ++ cut_groups keep (group_at groups i ∷ [])
          → cond b (cut_group keep g ∷ cut_groups keep (take (suc i) groups))
          (cut_groups keep (take (suc i) groups)) ≡ cond b
          (cut_group keep g ∷ cut_groups keep (take i groups)) (cut_groups keep (take i groups))
          ++ cut_groups keep (group_at groups i ∷ [])
      at true r = ap (λ gs. cut_group keep g ∷ gs) r
      at false r = r

-- ---- parts of the kept places

-- a cut group has as many of a part as the group has of the same part among all places
count-cut : (keep : List Bool) (es : List ℕ) (u : List Bool)
    → count_listed (cut_members keep es) u ≡ count_listed es (spread keep u)
count-cut keep [] u = refl
count-cut keep (e ∷ es) u =
    let rest = count-cut keep es u in
    let c = count-cons e es (spread keep u) in ⊎_elim
    (λ (has : Has keep e).
    let d = count-cons (size (take e keep)) (cut_members keep es) u in
    let at = ap {B = ℕ} (λ b. cond b 1 0) (spread-at keep u e has) in
    ap (λ ns. count_listed ns u) (cut-in keep e es has) ∙ omega (arith, rest, c, d, at))
    (λ out.
    let at = ap {B = ℕ} (λ b. cond b 1 0) (spread-out keep u e out) in
    ap (λ ns. count_listed ns u) (cut-out keep e es out) ∙ omega (arith, rest, c, at))
    (cases_Bool (get_or keep e false))

-- a part of the kept places is within the caps of the cut groups where it is within those of the
-- groups among all places
pub laminar-spread : (k : ℕ) (groups : List Group) (keep u : List Bool) → AreGroups k groups
    → IsWithinCaps (cut_groups keep groups) u ↔ IsWithinCaps groups (spread keep u)
laminar-spread k groups keep u ok = (λ free. up groups ok.each free, λ free. down free) where
  down : IsWithinCaps groups (spread keep u) → IsWithinCaps (cut_groups keep groups) u
  down free =
      All-filter (λ g. nat_lt 0 (length g.members)) (λ g. pos (count_in g u) ≤ℤ g.cap)
      (map (cut_group keep) groups)
      (All-map (λ g. pos (count_in g u) ≤ℤ g.cap) (cut_group keep) groups
      (All-weaker (λ g. pos (count_in g (spread keep u)) ≤ℤ g.cap)
      (λ g. pos (count_in (cut_group keep g) u) ≤ℤ g.cap)
      (λ g less. let same = count-cut keep g.members u in omega (arith, ints, less, same)) groups
      free))

  none : (ns : List ℕ) → nat_lt 0 (length ns) ≡ false → count_listed ns u ≡ 0
  none [] e = refl
  none (n ∷ ns) e = absurd (grind (arith, e))

  up : (groups : List Group) → All IsGroup groups → IsWithinCaps (cut_groups keep groups) u
      → IsWithinCaps groups (spread keep u)
  up [] each free = λ i d lt. absurd (omega (arith, lt))
  up (g ∷ groups) each free = at (nat_lt 0 (length (cut_members keep g.members))) refl free
      (up groups (All-tail IsGroup g groups each)) where
        both : pos (count_in g (spread keep u)) ≤ℤ g.cap → IsWithinCaps groups (spread keep u)
            → IsWithinCaps (g ∷ groups) (spread keep u)
        both first rest = All-cons (λ h. pos (count_in h (spread keep u)) ≤ℤ h.cap) g groups first
            rest

        at : (b : Bool) → nat_lt 0 (length (cut_members keep g.members)) ≡ b
            → IsWithinCaps (cond b (cut_group keep g ∷ cut_groups keep groups)
            (cut_groups keep groups))
            u
            → (IsWithinCaps (cut_groups keep groups) u → IsWithinCaps groups (spread keep u))
            → IsWithinCaps (g ∷ groups) (spread keep u)
        at true is free rest =
            let less = All-head (λ h. pos (count_in h u) ≤ℤ h.cap) (cut_group keep g)
            (cut_groups keep groups) free in
            let same = count-cut keep g.members u in
            both (omega (arith, ints, less, same))
            (rest (All-tail (λ h. pos (count_in h u) ≤ℤ h.cap) (cut_group keep g)
            (cut_groups keep groups) free))
        at false is free rest =
            let low = (All-head IsGroup g groups each).low in
            let same = count-cut keep g.members u in
            let zero' = none (cut_members keep g.members) is in
            both (omega (arith, ints, low, same, zero')) (rest free)
