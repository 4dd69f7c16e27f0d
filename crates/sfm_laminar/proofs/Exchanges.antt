-- The exchanges at a base of the weighted rank: what v has, what u lacks of q·w, and what each
-- group lacks that has u and not v.
use Rattle.std.proofs.Common.{◌≡◌, ◌≢◌, ◌⊎◌, ◌↔◌, ℕ, ◌<◌, Bool, true, false, List, length, get_or, set, ℤ, pos, ◌+ℤ◌, ◌-ℤ◌, ◌*ℤ◌, ◌≤ℤ◌, ◌<ℤ◌, if◌then◌else◌, refl, sym, ◌∙◌, arith, inl, inr, ⊎_elim, length-set, get_or-set_other}
use Rattle.std.specs.List.{Contains}
use Rattle.std.proofs.lemmas.Bool.{false≢true, cases_Bool}
use Rattle.std.proofs.lemmas.Int.{ints, by_lt_z}
use Rattle.std.proofs.lemmas.List.{length-replicate}
use Rattle.sfm_spec.specs.Sets.{Has, empty_set}
use Rattle.sfm_spec.specs.Terms.{times, IsBase, IsCapacity, HasRoom, exchanged}
use Rattle.sfm_spec.specs.Kinds.{Group, IsWithinCaps}
use Rattle.sfm_spec.proofs.Lattice.{none_in_empty}
use Rattle.sfm_spec.proofs.Sets.{has_or_not}
use Rattle.sfm_spec.proofs.Sums.{share, sum_over-set}
use Rattle.sfm_law.proofs.Places.{others_in}
use Rattle.sfm_law.specs.Room.{IsReach}
use Rattle.sfm_rank.proofs.Members.{has_or_out}
use Rattle.sfm_rank.proofs.Bases.{IsMostAt, own_capacity, gives_room, room_gives}
use Rattle.sfm_laminar.specs.Masks.{mask, length-mask, sum_listed}
use Rattle.sfm_laminar.specs.Groups.{AreGroups}
use Rattle.sfm_laminar.specs.Crossing.{no_group, group_at}
use Rattle.sfm_laminar.specs.Ranks.{contains-mask, mask-contains, rank, caps-matroid, caps-ranks}
use Rattle.sfm_laminar.specs.LaminarLaws.{laminar_value}
use Rattle.sfm_laminar.specs.Rooms.{bound_of, slack_of, Splits, IsLeast, IsHeld, IsKept}
use Rattle.sfm_laminar.specs.Slacks.{IsSupport, share_of}
use Rattle.sfm_laminar.proofs.Bases.{IsLaminarBase, IsGroupMet, low, sum-group, laminar_base_back, laminar_tests}
use Rattle.sfm_laminar.proofs.Slacking.{slack-exchanged}

share-none : (s : List Bool) (e : ℕ) → share s e (pos 0) ≡ pos 0
share-none s e = at (get_or s e false) where
  at : (b : Bool) → (if b then pos 0 else pos 0) ≡ pos 0
  at true = refl
  at false = refl

module _ (k : ℕ) (q w : ℤ) (groups : List Group) (hq : pos 1 ≤ℤ q) (hw : pos 0 ≤ℤ w)
    (ok : AreGroups k groups) (x : List ℤ) (kx : length x ≡ k)
    (base : IsBase (times q (laminar_value k w groups)) x) where
  is_base : IsLaminarBase k q w groups x
  is_base = laminar_base_back k q w groups hq hw ok x kx base

  abbrev members : ℕ → List Bool
  members i = mask k (group_at groups i).members

  module _ (u v : ℕ) (ku : u < k) (kv : v < k) (ne : u ≢ v) where
    -- x with u at r and nothing at v
    abbrev with_u : ℤ → List ℤ
    with_u r = set (set x v (pos 0)) u r

    -- what a group gets then
    sum-with : (i : ℕ) (r : ℤ) → i < length groups
        → (sum_listed (group_at groups i).members
        (with_u r) +ℤ (share (members i) u (get_or x u (pos 0)) +ℤ share (members i) v
        (get_or x v (pos 0)))) ≡ (sum_listed (group_at groups i).members x +ℤ share (members i)
        u r)
    sum-with i r lt =
        let km = length-mask k (group_at groups i).members in
        let lv = length-set x v (pos 0) in
        let here = get_or-set_other x v u (pos 0) (pos 0) ne in
        let first = sum_over-set (members i) x v (pos 0) (km ∙ sym kx) (omega (arith, kx, kv)) in
        let second = rw here at (sum_over-set (members i) (set x v (pos 0)) u r (km ∙ sym (lv ∙ kx))
        (omega (arith, lv, kx, ku))) in
        let none = share-none (members i) v in
        let old = sum-group k groups ok i x lt kx in
        let new = sum-group k groups ok i (with_u r) lt
        (length-set (set x v (pos 0)) u r ∙ (lv ∙ kx)) in
        omega (arith, ints, first, second, none, old, new)

    -- what a group lacks once v gave one to u
    moved : (i : ℕ) → i < length groups
        → slack_of q w (exchanged x u v (pos 1))
        (group_at groups i)
        ≡ ((slack_of q w x (group_at groups i) -ℤ share_of k (group_at groups i) u (pos 1))
        +ℤ share_of k (group_at groups i) v (pos 1))
    moved = slack-exchanged k q w groups hq hw ok x kx u v (pos 1) (omega (arith, kx, ku))
        (omega (arith, kx, kv)) ne

    splits : (i : ℕ) → i < length groups → Has (members i) u → get_or (members i) v false ≡ false
        → Splits (group_at groups i) u v
    splits i lt hu ov = (
      mask-contains k (group_at groups i) u hu,
      λ c. false≢true (sym ov ∙ contains-mask k (group_at groups i) v (ok.below i no_group lt) c),
    )

    sides : (i : ℕ) → i < length groups → Splits (group_at groups i) u v → Has (members i) u
        × (get_or (members i) v false ≡ false)
    sides i lt (c, never) = (
      contains-mask k (group_at groups i) u (ok.below i no_group lt) c,
      has_or_out (members i) v (λ h. never (mask-contains k (group_at groups i) v h)),
    )

    -- the same of a group that has u and not v
    split-with : (i : ℕ) (r : ℤ) → i < length groups → Splits (group_at groups i) u v
        → (sum_listed (group_at groups i).members (with_u r) +ℤ get_or x u (pos 0))
        ≡ (sum_listed (group_at groups i).members x +ℤ r)
    split-with i r lt split = let (hu, ov) = sides i lt split in let e = rw (hu, ov) at
        (sum-with i r lt) in omega (arith, ints, e)

    split-moved : (i : ℕ) → i < length groups → Splits (group_at groups i) u v
        → slack_of q w (exchanged x u v (pos 1))
        (group_at groups i) ≡ (slack_of q w x (group_at groups i) -ℤ pos 1)
    split-moved i lt split = let (hu, ov) = sides i lt split in let e = rw (hu, ov) at
        (moved i lt) in omega (arith, ints, e)

    -- a group gets no more than its bound with nothing at v and a more at u
    met_with : (i : ℕ) (a : ℤ) → i < length groups → a ≤ℤ get_or x v (pos 0)
        → (Splits (group_at groups i) u v → a ≤ℤ slack_of q w x (group_at groups i))
        → IsGroupMet q w groups i (with_u (get_or x u (pos 0) +ℤ a))
    met_with i a lt onto left = at (has_or_not (members i) u) (has_or_not (members i) v) where
      b : sum_listed (group_at groups i).members x ≤ℤ bound_of q w (group_at groups i)
      b = is_base.bounded i lt

      some : pos 0 ≤ℤ get_or x v (pos 0)
      some = is_base.counts v (omega (arith, kx, kv))

      at : Has (members i) u ⊎ (get_or (members i) u false ≡ false) → Has (members i) v
          ⊎ (get_or (members i) v false ≡ false)
          → IsGroupMet q w groups i (with_u (get_or x u (pos 0) +ℤ a))
      at (inl hu) (inl hv) = let e = rw (hu, hv) at
          (sum-with i (get_or x u (pos 0) +ℤ a) lt) in let c = b in omega (arith, ints, e, c, onto)
      at (inl hu) (inr ov) = let l = left (splits i lt hu ov) in let e = split-with i
          (get_or x u (pos 0) +ℤ a) lt (splits i lt hu ov) in omega (arith, ints, e, l)
      at (inr ou) (inl hv) = let e = rw (ou, hv) at
          (sum-with i (get_or x u (pos 0) +ℤ a) lt) in let c = b in let s = some in omega (
            arith,
            ints,
            e,
            c,
            s,
          )
      at (inr ou) (inr ov) = let e = rw (ou, ov) at
          (sum-with i (get_or x u (pos 0) +ℤ a) lt) in let c = b in omega (arith, ints, e, c)

    -- nor once v gave one to u
    met_moved : (i : ℕ) → i < length groups
        → (Splits (group_at groups i) u v → pos 1 ≤ℤ slack_of q w x (group_at groups i))
        → IsGroupMet q w groups i (exchanged x u v (pos 1))
    met_moved i lt left = at (has_or_not (members i) u) (has_or_not (members i) v) where
      b : sum_listed (group_at groups i).members x ≤ℤ bound_of q w (group_at groups i)
      b = is_base.bounded i lt

      at : Has (members i) u ⊎ (get_or (members i) u false ≡ false) → Has (members i) v
          ⊎ (get_or (members i) v false ≡ false) → IsGroupMet q w groups i (exchanged x u v (pos 1))
      at (inl hu) (inl hv) = let e = rw (hu, hv) at
          (moved i lt) in let c = b in omega (arith, ints, e, c)
      at (inl hu) (inr ov) = let l = left (splits i lt hu ov) in let e = split-moved i lt
          (splits i lt hu ov) in omega (arith, ints, e, l)
      at (inr ou) (inl hv) = let e = rw (ou, hv) at
          (moved i lt) in let c = b in omega (arith, ints, e, c)
      at (inr ou) (inr ov) = let e = rw (ou, ov) at
          (moved i lt) in let c = b in omega (arith, ints, e, c)

    pub laminar-capacity : (a : ℤ) → IsLeast q w groups x u v (length groups) a
        → IsCapacity (times q (laminar_value k w groups)) x u v a
    laminar-capacity a h =
        own_capacity k (length groups) q w (low k q w groups hq hw ok) (IsWithinCaps groups)
        (rank k groups) (caps-matroid k groups ok) (caps-ranks k groups ok)
        (IsGroupMet q w groups) (laminar_tests k q w groups hq hw ok) x kx base u v ku kv ne a
        (record {
          under_limit = h.onto;
          under_v = h.onto;
          under_cap = h.from;
          under_most = λ i lt. (
            get_or x u (pos 0) +ℤ a,
            met_with i a lt h.onto (h.left i lt),
            omega (arith, ints),
          );
          reached = inr (⊎_elim (λ is. inl is)
              (λ rest. inr (⊎_elim (λ is. inl is)
              (λ (i, lt, split, is). inr (
                i,
                lt,
                get_or x u (pos 0) +ℤ slack_of q w x (group_at groups i),
                most i lt split,
                omega (arith, ints, is),
              )) rest)) h.reached);
        }) where
          most : (i : ℕ) → i < length groups → Splits (group_at groups i) u v
              → IsMostAt k (length groups) q w (low k q w groups hq hw ok) (IsWithinCaps groups)
              (rank k groups) (caps-matroid k groups ok) (caps-ranks k groups ok)
              (IsGroupMet q w groups) (laminar_tests k q w groups hq hw ok) x kx base u v ku kv ne i
              (get_or x u (pos 0) +ℤ slack_of q w x (group_at groups i))
          most i lt split = record {
            reached = let e = split-with i
                (get_or x u (pos 0) +ℤ slack_of q w x (group_at groups i)) lt
                split in omega (arith, ints, e);
            greatest = λ b met. let e = split-with i b lt split in omega (arith, ints, e, met);
          }

    pub laminar-room : ((get_or x u (pos 0) <ℤ (q *ℤ w)) × (pos 1 ≤ℤ get_or x v (pos 0))
        × ((i : ℕ) → i < length groups → Splits (group_at groups i) u v
        → pos 1 ≤ℤ slack_of q w x (group_at groups i)))
        → HasRoom (times q (laminar_value k w groups)) x u v
    laminar-room (lacks, some, left) =
        gives_room k (length groups) q w (low k q w groups hq hw ok) (IsWithinCaps groups)
        (rank k groups) (caps-matroid k groups ok) (caps-ranks k groups ok)
        (IsGroupMet q w groups) (laminar_tests k q w groups hq hw ok) x kx base u v ku kv ne
        (record { under_cap = lacks; has = some; met = λ i lt. met_moved i lt (left i lt) })

    pub room-laminar : HasRoom (times q (laminar_value k w groups)) x u v
        → ((get_or x u (pos 0) <ℤ (q *ℤ w)) × (pos 1 ≤ℤ get_or x v (pos 0))
        × ((i : ℕ) → i < length groups → Splits (group_at groups i) u v
        → pos 1 ≤ℤ slack_of q w x (group_at groups i)))
    room-laminar room =
        let give = room_gives k (length groups) q w (low k q w groups hq hw ok)
        (IsWithinCaps groups) (rank k groups) (caps-matroid k groups ok)
        (caps-ranks k groups ok) (IsGroupMet q w groups) (laminar_tests k q w groups hq hw ok) x
        kx base u v ku kv ne room in (
          give.under_cap,
          give.has,
          λ i lt split. let m = give.met i lt in let e = split-moved i lt
              split in omega (arith, ints, m, e),
        )

  member_or_not : (i v : ℕ) → i < length groups → Contains (group_at groups i).members v
      ⊎ (Contains (group_at groups i).members v → ⊥)
  member_or_not i v lt = ⊎_elim
      (λ has. inl (mask-contains k (group_at groups i) v has))
      (λ out. inr (λ c. false≢true (sym out
      ∙ contains-mask k (group_at groups i) v (ok.below i no_group lt) c)))
      (cases_Bool (get_or (mask k (group_at groups i).members) v false))

  pub laminar-reach : (u : ℕ) → u < length x → (to : List Bool) → length to ≡ length x
      → ((v : ℕ) → v < length x → Has to v
      ↔ ((v ≢ u) × (get_or x u (pos 0) <ℤ (q *ℤ w)) × (pos 1 ≤ℤ get_or x v (pos 0))
      × IsHeld q w groups x u (length groups) v))
      → IsReach (times q (laminar_value k w groups)) x u to
  laminar-reach u ku to same is = record { places = same; exact = exact } where
    exact : (v : ℕ) → v < length x
        → Has to v ↔ ((v ≢ u) × HasRoom (times q (laminar_value k w groups)) x u v)
    exact v kv = (
      (λ h. let i = (is v kv).0 h in (
        i.0,
        laminar-room u v (rw (← kx) ku) (rw (← kx) kv) (λ e. i.0 (sym e))
            (i.1, i.2, λ j lt splits. some j lt (i.3 j lt splits.0) splits),
      )),
      (λ (ne, room). let r = room-laminar u v (rw (← kx) ku) (rw (← kx) kv) (λ e. ne (sym e))
          room in
          (is v kv).1 (
            ne,
            r.0,
            r.1,
            λ j lt cu none.
                ⊎_elim (λ c. c) (λ never. let m = r.2 j lt
                (cu, never) in absurd (omega (arith, ints, m, none))) (member_or_not j v lt),
          )),
    ) where
      some : (j : ℕ) → j < length groups
          → (slack_of q w x (group_at groups j) ≡ pos 0 → Contains (group_at groups j).members v)
          → Splits (group_at groups j) u v → pos 1 ≤ℤ slack_of q w x (group_at groups j)
      some j lt full (cu, never) =
          let b = is_base.bounded j lt in
          by_lt_z (slack_of q w x (group_at groups j)) (pos 1)
          (λ less. absurd (never (full (omega (arith, ints, b, less))))) (λ more. more)

  -- u lacks nothing
  pub reach_none : (u : ℕ) → u < length x → (get_or x u (pos 0) <ℤ (q *ℤ w) → ⊥)
      → IsReach (times q (laminar_value k w groups)) x u (empty_set (length x))
  reach_none u ku never = laminar-reach u ku (empty_set (length x))
      (length-replicate (length x) false) (λ v kv. (
        (λ h. absurd (none_in_empty (length x) v h)),
        (λ (ne, less, some, held). absurd (never less)),
      ))

  -- u lacks something: of the others that have something those that the groups hold
  pub reach_held : (u : ℕ) → u < length x → get_or x u (pos 0) <ℤ (q *ℤ w) → (s to : List Bool)
      → IsSupport x s → IsKept (set s u false) to (IsHeld q w groups x u (length groups))
      → IsReach (times q (laminar_value k w groups)) x u to
  reach_held u ku lacks s to is kept = laminar-reach u ku to (kept.places ∙ same) (λ v kv.
      let others = others_in (λ e. pos 1 ≤ℤ get_or x e (pos 0)) s u v (omega (arith, is.places, ku))
      (is.exact v kv) in
      let left = kept.exact v (omega (arith, kv, same)) in (
        (λ h. let a = left.0 h in let b = others.0 a.0 in (b.0, lacks, b.1, a.1)),
        (λ (ne, less, some, held). left.1 (others.1 (ne, some), held)),
      )) where
        same : length (set s u false) ≡ length x
        same = length-set s u false ∙ is.places
