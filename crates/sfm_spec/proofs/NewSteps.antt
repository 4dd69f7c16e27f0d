-- Which steps one term has after an exchange, and after all its exchanges along a walk. A new step
-- from u to v comes only where, before the exchange of s and t, u led to t and s led to v. So
-- labels that fall by at most one along each step still do so afterwards. And a step that is moved
-- to its capacity is no step any more.
use Rattle.std.proofs.Common.{◌≡◌, ◌≢◌, ◌⊎◌, ℕ, ◌+◌, ◌<◌, ◌≤◌, Bool, true, false, not, ◌&&◌, ◌||◌, List, [], ◌∷◌, length, get_or, ℤ, pos, ◌+ℤ◌, ◌-ℤ◌, ◌≤ℤ◌, ◌<ℤ◌, Option, Some, None, refl, sym, ap, ◌∙◌, arith, inl, inr, ⊎_elim}
use Rattle.std.proofs.lemmas.Bool.{both_ways, cases_eq, and_parts, and_left, not-true}
use Rattle.std.proofs.lemmas.Int.{ints}
use Rattle.std.specs.Int.Signed.{lt_z}
use Rattle.sfm_spec.specs.Sets.{Has, union, intersection, sum_over}
use Rattle.sfm_spec.specs.Terms.{SetFunction, IsFamily, IsSubmodular, IsBase, IsTight, HasRoom, exchanged}
use Rattle.sfm_spec.proofs.Sums.{share, sum_over-modular, sum_over-exchanged, length-union, length-intersection, length-exchanged}
use Rattle.sfm_spec.proofs.Sets.{has_or_not, find_set, FoundSet, get_or-union, get_or-intersection, in_both, in_second, union_left, union_right}
use Rattle.sfm_spec.proofs.Exchange.{LeavesRoom, base_moved, leaves_room}
use Rattle.sfm_spec.proofs.Tight.{some_of, is_some_of, TightSet, tight_both, room_or_split, tight_closed}
use Rattle.sfm_spec.proofs.Order.{places_of, moved, length-moved, Avoids, InOrder, moved_base, tight_apart, moved_agrees, sum_agree}

out_of_both : (a b : Bool) → a ≡ false → b ≡ false → (a || b) ≡ false
out_of_both true b h k = cc
out_of_both false true h k = cc
out_of_both false false h k = refl

-- ---- one exchange

module _ {k : ℕ} {f : SetFunction} (family : IsFamily k f) (law : IsSubmodular k f) {x : List ℤ}
    (sized : length x ≡ k) (base : IsBase f x)
    (s t : ℕ) (ks : s < k) (kt : t < k) (apart : s ≢ t) (a : ℤ) (some : pos 1 ≤ℤ a)
    (after : IsBase f (exchanged x s t a)) where
  -- a tight set with u and not v, which loses nothing by the exchange, lets u have no room to v
  -- afterwards
  no_room_by : (r : List Bool) (u v : ℕ) → TightSet family law sized base r → u < k → v < k → u ≢ v
      → Has r u → get_or r v false ≡ false → (Has r t → Has r s)
      → HasRoom f (exchanged x s t a) u v → ⊥
  no_room_by r u v tight ku kv ne hu nv keeps (b, least, moved) =
      let y = exchanged x s t a in
      let ly : length y ≡ k = length-exchanged x s t a ∙ sized in
      let lr : length r ≡ length y = tight.places ∙ sym ly in
      let room = leaves_room after (rw ly ku) (rw ly kv) ne b moved r (sum_over r x) lr tight.tight
      hu nv in
      let change = sum_over-exchanged r x s t a (tight.places ∙ sym sized) (rw sized ks)
      (rw sized kt) apart in
      cases (has_or_not r s) (has_or_not r t) room change where
        cases : Has r s ⊎ (get_or r s false ≡ false) → Has r t ⊎ (get_or r t false ≡ false)
            → (sum_over r (exchanged x s t a) +ℤ b) ≤ℤ sum_over r x
            → sum_over r (exchanged x s t a) ≡ (sum_over r x +ℤ (share r s a -ℤ share r t a)) → ⊥
        cases (inl hs) (inl ht) room change =
            let c = rw (hs, ht) at change in omega (arith, ints, c, room, least)
        cases (inl hs) (inr nt) room change =
            let c = rw (hs, nt) at change in omega (arith, ints, c, room, least, some)
        cases (inr ns) (inl ht) room change = both_ways (get_or r s false) ns (keeps ht)
        cases (inr ns) (inr nt) room change =
            let c = rw (ns, nt) at change in omega (arith, ints, c, room, least)

  -- a step that is new after an exchange
  pub new_step : (u v : ℕ) → u < k → v < k → u ≢ v → HasRoom f (exchanged x s t a) u v
      → (HasRoom f x u v) ⊎ (((u ≡ t) ⊎ HasRoom f x u t) × ((v ≡ s) ⊎ HasRoom f x s v))
  new_step u v ku kv ne room = at (room_or_split family law sized base u v ku kv ne) where
    at : HasRoom f x u v ⊎ ((r : List Bool) × TightSet family law sized base r × Has r u
        × (get_or r v false ≡ false)) → (HasRoom f x u v)
        ⊎ (((u ≡ t) ⊎ HasRoom f x u t) × ((v ≡ s) ⊎ HasRoom f x s v))
    at (inl old) = inl old
    at (inr (r, tight, hu, nv)) = inr (to_t (cases_eq u t), from_s (cases_eq v s)) where
      has_t : Has r t
      has_t = ⊎_elim (λ h. h) (λ nt.
          absurd (no_room_by r u v tight ku kv ne hu nv
          (λ h. absurd (both_ways (get_or r t false) nt h)) room)) (has_or_not r t)

      no_s : get_or r s false ≡ false
      no_s = ⊎_elim (λ h. absurd (no_room_by r u v tight ku kv ne hu nv (λ _. h) room)) (λ ns. ns)
          (has_or_not r s)

      to_t : (u ≡ t) ⊎ (u ≢ t) → (u ≡ t) ⊎ HasRoom f x u t
      to_t (inl e) = inl e
      to_t (inr ut) = ⊎_elim (λ room'. inr room') (λ z. absurd (cut z))
          (room_or_split family law sized base u t ku kt ut) where
            cut : (p : List Bool) × TightSet family law sized base p × Has p u
                × (get_or p t false ≡ false) → ⊥
            cut (p, tp, pu, pt) =
                let same : length r ≡ length p = tight.places ∙ sym tp.places in
                let out_v : get_or (intersection r p) v false ≡ false = get_or-intersection r p v
                same
                ∙ and_left (get_or r v false) (get_or p v false) nv in
                no_room_by (intersection r p) u v (tight_both family law sized base r p tight tp).1
                ku
                kv ne (in_both r p u same hu pu) out_v
                (λ h. absurd (both_ways (get_or p t false) pt (in_second r p t same h))) room

      from_s : (v ≡ s) ⊎ (v ≢ s) → (v ≡ s) ⊎ HasRoom f x s v
      from_s (inl e) = inl e
      from_s (inr vs) = ⊎_elim (λ room'. inr room') (λ z. absurd (cut z))
          (room_or_split family law sized base s v ks kv (λ e. vs (sym e))) where
            cut : (p : List Bool) × TightSet family law sized base p × Has p s
                × (get_or p v false ≡ false) → ⊥
            cut (p, tp, ps, pv) =
                let same : length r ≡ length p = tight.places ∙ sym tp.places in
                let out_v : get_or (union r p) v false ≡ false = get_or-union r p v same
                ∙ out_of_both (get_or r v false) (get_or p v false) nv pv in
                no_room_by (union r p) u v (tight_both family law sized base r p tight tp).0 ku kv
                ne
                (union_left r p u same hu) out_v (λ _. union_right r p s same ps) room

-- ---- labels

-- along each step d falls by at most one, and where it does fall, the label of the beginning is at
-- most that of the end
abbrev pub IsLabelled : ℕ → SetFunction → List ℤ → (ℕ → ℕ) → (ℕ → ℕ) → (ℕ → ℕ) → Type 0
IsLabelled k f x d l c = (u v : ℕ) → u < k → v < k → u ≢ v → HasRoom f x u v → (d u ≤ d v + 1)
    × (d u ≡ d v + 1 → l u ≤ c v)

-- labels outlive an exchange along a step at which d falls and the labels agree
pub labels_kept : {k : ℕ} {f : SetFunction} (family : IsFamily k f) (law : IsSubmodular k f)
    {x : List ℤ} (sized : length x ≡ k) (base : IsBase f x) (s t : ℕ) → s < k → t < k → s ≢ t
    → (a : ℤ) → pos 1 ≤ℤ a → IsBase f (exchanged x s t a) → (d l c : ℕ → ℕ) → IsLabelled k f x d l c
    → d s ≡ d t + 1 → l s ≡ c t → IsLabelled k f (exchanged x s t a) d l c
labels_kept {k} {f} family law {x} sized base s t ks kt apart a some after d l c lab ds ls u v ku kv
    ne room =
    at (new_step family law sized base s t ks kt apart a some after u v ku kv ne room) where
      to_t : (u ≡ t) ⊎ HasRoom f x u t → d u ≤ d t + 1
      to_t (inl e) = let q = ap d e in omega (arith, q)
      to_t (inr h) = ⊎_elim (λ e. let q = ap d e in omega (arith, q)) (λ ne. (lab u t ku kt ne h).0)
          (cases_eq u t)

      from_s : (v ≡ s) ⊎ HasRoom f x s v → d s ≤ d v + 1
      from_s (inl e) = let q = ap d e in omega (arith, q)
      from_s (inr h) = ⊎_elim (λ e. let q = ap d e in omega (arith, q))
          (λ ne. (lab s v ks kv ne h).0) (cases_eq s v)

      low : (u ≡ t) ⊎ HasRoom f x u t → d u ≡ d t + 1 → l u ≤ c t
      low (inl e) q = let p = ap d e in absurd (omega (arith, p, q))
      low (inr h) q = ⊎_elim (λ e. let p = ap d e in absurd (omega (arith, p, q)))
          (λ ne. (lab u t ku kt ne h).1 q) (cases_eq u t)

      high : (v ≡ s) ⊎ HasRoom f x s v → d s ≡ d v + 1 → l s ≤ c v
      high (inl e) q = let p = ap d e in absurd (omega (arith, p, q))
      high (inr h) q = ⊎_elim (λ e. let p = ap d e in absurd (omega (arith, p, q)))
          (λ ne. (lab s v ks kv ne h).1 q) (cases_eq s v)

      at : (HasRoom f x u v) ⊎ (((u ≡ t) ⊎ HasRoom f x u t) × ((v ≡ s) ⊎ HasRoom f x s v))
          → (d u ≤ d v + 1) × (d u ≡ d v + 1 → l u ≤ c v)
      at (inl old) = lab u v ku kv ne old
      at (inr (first, second)) =
          let p = to_t first in
          let q = from_s second in (
            omega (arith, p, q, ds),
            λ e.
                let g = low first (omega (arith, p, q, ds, e)) in let h = high second
                (omega (arith, p, q, ds, e)) in omega (arith, g, h, ls),
          )

-- ---- all exchanges of one term along a walk

-- P holds of the two places of each move
abbrev pub EachMove : (ℕ → ℕ → Type 0) → List (ℕ × ℕ) → Type 0
EachMove P [] = Unit {0}
EachMove P (m ∷ moves) = P m.0 m.1 × EachMove P moves

-- u and v are one of the moves
abbrev pub IsMove : ℕ → ℕ → List (ℕ × ℕ) → Type 0
IsMove u v [] = ⊥
IsMove u v (m ∷ moves) = ((m.0 ≡ u) × (m.1 ≡ v)) ⊎ IsMove u v moves

module _ {f : SetFunction} {x : List ℤ} (family : IsFamily (length x) f)
    (law : IsSubmodular (length x) f) (base : IsBase f x) (a : ℤ) (some : pos 1 ≤ℤ a) where
  -- labels outlive all of them
  pub labels_kept_all : (moves : List (ℕ × ℕ)) (d l c : ℕ → ℕ) → InOrder family law base a moves
      → IsLabelled (length x) f x d l c → EachMove (λ u v. (d u ≡ d v + 1) × (l u ≡ c v)) moves
      → IsLabelled (length x) f (moved x a moves) d l c
  labels_kept_all [] d l c h lab each = lab
  labels_kept_all (m ∷ moves) d l c h lab each =
      labels_kept family law (length-moved x a moves)
      (moved_base family law base a moves (omega (arith, ints, some)) h.5) m.0 m.1 h.0 h.1 h.2 a
      some
      (moved_base family law base a (m ∷ moves) (omega (arith, ints, some)) h) d l c
      (labels_kept_all moves d l c h.5 lab each.1) each.0.0 each.0.1

  -- a tight set with u and not v
  abbrev Cut : List ℤ → ℕ → ℕ → Type 0
  Cut y u v = (r : List Bool) × (length r ≡ length x) × IsTight f y r × Has r u
      × (get_or r v false ≡ false)

  -- an exchange leads to a base, or a set with u and not v has not enough left
  Short : ℕ → ℕ → ℤ → Type 0
  Short u v b = (r : List Bool) × (c : ℤ) × (length r ≡ length x) × (f r ≡ Some c) × Has r u
      × (get_or r v false ≡ false) × (c <ℤ (sum_over r x +ℤ b))

  short_test : ℕ → ℕ → ℤ → List Bool → Bool
  short_test u v b r = get_or r u false &&
      (not (get_or r v false) && elim (f r) [ None ↦ false | Some c ↦ lt_z c (sum_over r x +ℤ b) ])

  base_or_short : (u v : ℕ) (b : ℤ) → u < length x → v < length x → u ≢ v → pos 0 ≤ℤ b
      → IsBase f (exchanged x u v b) ⊎ Short u v b
  unfolding short_test Short
  base_or_short u v b ku kv ne low = from (find_set (length x) (short_test u v b)) where
    of_test : (r : List Bool) → length r ≡ length x → Has r u → get_or r v false ≡ false
        → (o : Option ℤ) → f r ≡ o → elim o [ None ↦ false | Some c ↦ lt_z c (sum_over r x +ℤ b) ]
        ≡ true
        → (r : List Bool) × (c : ℤ) × (length r ≡ length x) × (f r ≡ Some c) × Has r u
        × (get_or r v false ≡ false) × (c <ℤ (sum_over r x +ℤ b))
    of_test r h hu nv None e t = cc
    of_test r h hu nv (Some c) e t = (r, c, h, e, hu, nv, omega (arith, ints, t))

    none_short : ((r : List Bool) → length r ≡ length x → short_test u v b r ≡ false)
        → LeavesRoom f x u v b
    none_short none r c h e hu nv =
        let t = rw (hu, nv, e) at (none r h) in
        omega (arith, ints, t)

    from : FoundSet (length x) (short_test u v b)
        ⊎ ((r : List Bool) → length r ≡ length x → short_test u v b r ≡ false)
        → IsBase f (exchanged x u v b)
        ⊎ ((r : List Bool) × (c : ℤ) × (length r ≡ length x) × (f r ≡ Some c) × Has r u
        × (get_or r v false ≡ false) × (c <ℤ (sum_over r x +ℤ b)))
    from (inr none) = inl (base_moved base ku kv ne b low (none_short none))
    from (inl (r, h, t)) =
        let p = and_parts (get_or r u false)
        (not (get_or r v false) && elim (f r)
        [ None ↦ false | Some c ↦ lt_z c (sum_over r x +ℤ b) ]) t in
        let q = and_parts (not (get_or r v false))
        (elim (f r) [ None ↦ false | Some c ↦ lt_z c (sum_over r x +ℤ b) ]) p.1 in
        inr (of_test r h p.0 (not-true (get_or r v false) q.0) (f r) refl q.1)

  -- an exchange leads to a base, or it does not
  pub base_or_not : (u v : ℕ) (b : ℤ) → u < length x → v < length x → u ≢ v → pos 0 ≤ℤ b
      → IsBase f (exchanged x u v b) ⊎ (IsBase f (exchanged x u v b) → ⊥)
  unfolding Short
  base_or_not u v b ku kv ne low = at (base_or_short u v b ku kv ne low) where
    at : IsBase f (exchanged x u v b)
        ⊎ ((r : List Bool) × (c : ℤ) × (length r ≡ length x) × (f r ≡ Some c) × Has r u
        × (get_or r v false ≡ false) × (c <ℤ (sum_over r x +ℤ b)))
        → IsBase f (exchanged x u v b) ⊎ (IsBase f (exchanged x u v b) → ⊥)
    at (inl yes') = inl yes'
    at (inr (r, c, lr, er, hu, nv, short)) =
        inr (λ reached. let k = leaves_room base ku kv ne b reached r c lr er hu
        nv in omega (arith, ints, k, short))

  avoids_end : (r : List Bool) (u v : ℕ) (moves : List (ℕ × ℕ)) → Avoids r (places_of moves)
      → IsMove u v moves → get_or r v false ≡ false
  avoids_end r u v [] h i = absurd i
  avoids_end r u v (m ∷ moves) h (inl e) = rw e.1 at h.1.0
  avoids_end r u v (m ∷ moves) h (inr i) = avoids_end r u v moves h.1.1 i

  -- the set for the first move: the short one, cut to what the later moves leave as it is
  cut_first : (m : ℕ × ℕ) (moves : List (ℕ × ℕ)) → InOrder family law base a (m ∷ moves)
      → Short m.0 m.1 (a +ℤ pos 1) → (t : List Bool) → TightSet family law refl base t → Has t m.0
      → Avoids t (places_of moves)
      → Cut (moved x a (m ∷ moves)) m.0 m.1
  unfolding Short
  cut_first m moves h (r, c, lr, er, hu, nv, short) t tight tu avoid =
      let y = moved x a moves in
      let z = exchanged y m.0 m.1 a in
      let ly : length y ≡ length x = length-moved x a moves in
      let lz : length z ≡ length x = length-moved x a (m ∷ moves) in
      let same : length r ≡ length t = lr ∙ sym tight.places in
      let ar = is_some_of (f r) c er in
      let at' = is_some_of (f t) (sum_over t x) tight.tight in
      let (d, ed) = some_of (f (union r t)) (family.unions r t lr tight.places ar at') in
      let (b, eb) = some_of (f (intersection r t))
      (family.intersections r t lr tight.places ar at') in
      let i = intersection r t in
      let li : length i ≡ length x = length-intersection r t same ∙ lr in
      let sub = law.submodular r t c (sum_over t x) d b lr tight.places er tight.tight ed eb in
      let above = base.within (union r t) d (length-union r t same ∙ lr) ed in
      let modular = sum_over-modular r t x same lr in
      let agree = sum_agree i x y (sym ly)
      (λ e has. moved_agrees t x a moves avoid e (in_second r t e same has)) in
      let has_u : Has i m.0 = in_both r t m.0 same hu tu in
      let no_v : get_or i m.1 false ≡ false = get_or-intersection r t m.1 same
      ∙ and_left (get_or r m.1 false) (get_or t m.1 false) nv in
      let change = rw (has_u, no_v) at
      (sum_over-exchanged i y m.0 m.1 a (li ∙ sym ly) (rw ly h.0) (rw ly h.1) h.2) in
      let within = (moved_base family law base a (m ∷ moves) (omega (arith, ints, some)) h).within i
      b (li ∙ sym lz) eb in
      let q : b ≡ sum_over i z = omega (
        arith,
        ints,
        sub,
        above,
        modular,
        agree,
        change,
        within,
        short,
      ) in
      (i, li, eb ∙ ap Some q, has_u, no_v)

  -- the set for a later move: the one that is there before the first is made, with all that the
  -- first one moves within
  cut_later : (m : ℕ × ℕ) (moves : List (ℕ × ℕ)) (u v : ℕ) → InOrder family law base a (m ∷ moves)
      → IsMove u v moves → Cut (moved x a moves) u v → (t : List Bool)
      → TightSet family law refl base t → Has t m.0 → Has t m.1
      → Avoids t (places_of moves) → Cut (moved x a (m ∷ moves)) u v
  cut_later m moves u v h is_move (w, lw, tw, wu, wv) t tight tu tv avoid =
      let y = moved x a moves in
      let z = exchanged y m.0 m.1 a in
      let ly : length y ≡ length x = length-moved x a moves in
      let by = moved_base family law base a moves (omega (arith, ints, some)) h.5 in
      let agree = sum_agree t x y (sym ly) (moved_agrees t x a moves avoid) in
      let first : TightSet family law ly by w = record { places = lw; tight = tw } in
      let second : TightSet family law ly by
      t = record { places = tight.places; tight = tight.tight ∙ ap Some agree } in
      let both = (tight_both family law ly by w t first second).0 in
      let same : length w ≡ length t = lw ∙ sym tight.places in
      let has_u : Has (union w t) m.0 = union_right w t m.0 same tu in
      let has_v : Has (union w t) m.1 = union_right w t m.1 same tv in
      let change = rw (has_u, has_v) at
      (sum_over-exchanged (union w t) y m.0 m.1 a (both.places ∙ sym ly) (rw ly h.0) (rw ly h.1)
      h.2) in
      let q : sum_over (union w t) y ≡ sum_over (union w t) z = omega (arith, ints, change) in (
        union w t,
        both.places,
        both.tight ∙ ap Some q,
        union_left w t u same wu,
        get_or-union w t v same ∙ out_of_both (get_or w v false) (get_or t v false) wv
            (avoids_end t u v moves avoid is_move),
      )

  cut_after : (moves : List (ℕ × ℕ)) (u v : ℕ) → InOrder family law base a moves → IsMove u v moves
      → Short u v (a +ℤ pos 1) → Cut (moved x a moves) u v
  cut_after [] u v h i short = absurd i
  cut_after (m ∷ moves) u v h i short =
      at (tight_apart family law base m.0 (places_of moves) h.0 h.4) (cut_after moves u v h.5)
      i where
        at : (t : List Bool) × TightSet family law refl base t × Has t m.0
            × Avoids t (places_of moves)
            → (IsMove u v moves → Short u v (a +ℤ pos 1) → Cut (moved x a moves) u v)
            → ((m.0 ≡ u) × (m.1 ≡ v)) ⊎ IsMove u v moves → Cut (moved x a (m ∷ moves)) u v
        at (t, tight, tu, avoid) rest (inl (eu, ev)) =
            rw (← eu, ← ev) (cut_first m moves h (rw (eu, ev) short) t tight tu avoid)
        at (t, tight, tu, avoid) rest (inr later) =
            cut_later m moves u v h later (rest later short) t tight tu
            (tight_closed family law refl base t m.0 m.1 tight h.0 h.1 h.2 tu (a, some, h.3)) avoid

  -- a step that is moved to its capacity has no room afterwards
  pub filled_gone : (moves : List (ℕ × ℕ)) (u v : ℕ) → u < length x → v < length x → u ≢ v
      → InOrder family law base a moves → IsMove u v moves
      → (IsBase f (exchanged x u v (a +ℤ pos 1)) → ⊥)
      → HasRoom f (moved x a moves) u v → ⊥
  filled_gone moves u v ku kv ne h i full room =
      at (base_or_short u v (a +ℤ pos 1) ku kv ne (omega (arith, ints, some))) where
        at : IsBase f (exchanged x u v (a +ℤ pos 1)) ⊎ Short u v (a +ℤ pos 1) → ⊥
        at (inl more) = full more
        at (inr short) =
            let (r, lr, tight, hu, nv) = cut_after moves u v h i short in
            let y = moved x a moves in
            let ly : length y ≡ length x = length-moved x a moves in
            let by = moved_base family law base a moves (omega (arith, ints, some)) h in
            both_ways (get_or r v false) nv
            (tight_closed family law ly by r u v (record { places = lr; tight = tight }) ku kv ne hu
            room)
