-- What a set function turned round keeps: its bases are the negated ones, and its rooms those of
-- the two places exchanged.
use Rattle.std.proofs.Common.{◌≡◌, ◌≢◌, ◌⊎◌, ℕ, zero, suc, ◌<◌, Bool, true, false, not, List, [], ◌∷◌, length, get_or, ℤ, pos, neg_ℤ, ◌+ℤ◌, ◌-ℤ◌, ◌*ℤ◌, ◌≤ℤ◌, Option, Some, None, IsSome, unwrap_or, refl, sym, ap, ◌∙◌, arith, inl, inr, ⊎_elim}
use Rattle.std.specs.Option.{option_map}
use Rattle.std.specs.List.{All}
use Rattle.std.proofs.Math.IntN.{*ℤ-zero}
use Rattle.std.proofs.lemmas.Int.{ints}
use Rattle.std.proofs.lemmas.Bool.{both_ways, cases_eq}
use Rattle.std.proofs.lemmas.List.{length-map, length-replicate, get_or-map, ext_get_or}
use Rattle.sfm_spec.specs.Sets.{empty_set, whole_set, union, intersection, complement, sum_over}
use Rattle.sfm_spec.specs.Terms.{SetFunction, times, IsFamily, IsSubmodular, IsBase, IsUnsplit, HasRoom, exchanged}
use Rattle.sfm_spec.proofs.Scaled.{times-assoc, times-comm, times-sub, family-times, submodular-times}
use Rattle.sfm_spec.proofs.Sums.{length-exchanged}
use Rattle.sfm_spec.proofs.Sets.{has_or_not}
use Rattle.sfm_spec.proofs.Tight.{some_of, is_some_of}
use Rattle.sfm_spec.proofs.Extremes.{length-complement, in_complement, not_in_complement}
use Rattle.sfm_spec.proofs.MoveOrder.{exchanged-first, exchanged-second, exchanged-other}
use Rattle.sfm_law.specs.Room.{IsRoom, IsWithinRoom, IsCapacityUpto}
use Rattle.sfm_law.specs.declared.room.Room.{Room}
use Rattle.sfm_law.specs.declared.room.Room.TheVariants.{Upto, Unbounded}
use Rattle.sfm_flip.specs.Flipped.{flipped, negated}

-- ---- complements and negated lists

complement-twice : (s : List Bool) → complement (complement s) ≡ s
complement-twice [] = refl
complement-twice (true ∷ s) = ap (λ r. true ∷ r) (complement-twice s)
complement-twice (false ∷ s) = ap (λ r. false ∷ r) (complement-twice s)

complement-union : (s t : List Bool)
    → complement (union s t) ≡ intersection (complement s) (complement t)
complement-union [] t = refl
complement-union (a ∷ s) [] = refl
complement-union (true ∷ s) (b ∷ t) = ap (λ r. false ∷ r) (complement-union s t)
complement-union (false ∷ s) (b ∷ t) = ap (λ r. not b ∷ r) (complement-union s t)

complement-intersection : (s t : List Bool)
    → complement (intersection s t) ≡ union (complement s) (complement t)
complement-intersection [] t = refl
complement-intersection (a ∷ s) [] = refl
complement-intersection (true ∷ s) (b ∷ t) = ap (λ r. not b ∷ r) (complement-intersection s t)
complement-intersection (false ∷ s) (b ∷ t) = ap (λ r. true ∷ r) (complement-intersection s t)

complement-empty : (k : ℕ) → complement (empty_set k) ≡ whole_set k
complement-empty zero = refl
complement-empty (suc k) = ap (λ r. true ∷ r) (complement-empty k)

pub complement-whole : (k : ℕ) → complement (whole_set k) ≡ empty_set k
complement-whole zero = refl
complement-whole (suc k) = ap (λ r. false ∷ r) (complement-whole k)

pub sum_over-complement : (s : List Bool) (x : List ℤ) → length s ≡ length x
    → (sum_over s x +ℤ sum_over (complement s) x) ≡ sum_over (whole_set (length x)) x
sum_over-complement [] [] h = refl
sum_over-complement [] (a ∷ x) h = absurd (omega arith)
sum_over-complement (b ∷ s) [] h = absurd (omega arith)
sum_over-complement (true ∷ s) (a ∷ x) h =
    let r = sum_over-complement s x (omega arith) in omega (arith, ints, r)
sum_over-complement (false ∷ s) (a ∷ x) h =
    let r = sum_over-complement s x (omega arith) in omega (arith, ints, r)

sum_over-negated : (s : List Bool) (x : List ℤ) → sum_over s (negated x) ≡ neg_ℤ (sum_over s x)
sum_over-negated [] x = refl
sum_over-negated (b ∷ s) [] = refl
sum_over-negated (true ∷ s) (a ∷ x) = let r = sum_over-negated s x in omega (arith, ints, r)
sum_over-negated (false ∷ s) (a ∷ x) = let r = sum_over-negated s x in omega (arith, ints, r)

pub negated-twice : (x : List ℤ) → negated (negated x) ≡ x
negated-twice [] = refl
negated-twice (a ∷ x) = let n : neg_ℤ
    (neg_ℤ a) ≡ a = omega (arith, ints) in ap (λ b. b ∷ negated (negated x)) n
    ∙ ap (λ r. a ∷ r) (negated-twice x)

pub length-negated : (x : List ℤ) → length (negated x) ≡ length x
length-negated x = length-map x neg_ℤ

-- ---- values

module _ (k : ℕ) (f : SetFunction) where
  w : ℤ
  w = unwrap_or (f (whole_set k)) (pos 0)

  -- the value of the rest
  value_of : (s : List Bool) (a : ℤ) → flipped k f s ≡ Some a → (c : ℤ)
      × (f (complement s) ≡ Some c) × (a ≡ (c -ℤ w))
  unfolding w
  value_of s a e = at (f (complement s)) refl e where
    at : (o : Option ℤ) → f (complement s) ≡ o → option_map (λ a. a -ℤ w) o ≡ Some a → (c : ℤ)
        × (f (complement s) ≡ Some c) × (a ≡ (c -ℤ w))
    at None is e = cc
    at (Some c) is e = (c, is, cc)

  value_by : (s : List Bool) (c : ℤ) → f (complement s) ≡ Some c → flipped k f s ≡ Some (c -ℤ w)
  unfolding w
  value_by s c e = ap (option_map (λ a. a -ℤ w)) e

  allowed_of : (s : List Bool) → IsSome (flipped k f s) → IsSome (f (complement s))
  allowed_of s h = let (a, e) = some_of (flipped k f s) h in let (c, is, _) = value_of s a
      e in is_some_of (f (complement s)) c is

  allowed_by : (s : List Bool) → IsSome (f (complement s)) → IsSome (flipped k f s)
  allowed_by s h = let (c, e) = some_of (f (complement s)) h in is_some_of (flipped k f s) (c -ℤ w)
      (value_by s c e)

  module _ (family : IsFamily k f) (law : IsSubmodular k f) where
    whole_is : f (whole_set k) ≡ Some w
    unfolding w
    whole_is = let (a, e) = some_of (f (whole_set k)) family.whole in e
        ∙ ap (λ o. Some (unwrap_or o (pos 0))) (sym e)

    lc : (s : List Bool) → length s ≡ k → length (complement s) ≡ k
    lc s h = length-complement s ∙ h

    pub flipped-family : IsFamily k (flipped k f)
    flipped-family = record {
      empty = allowed_by (empty_set k) (rw (complement-empty k) family.whole);
      whole = allowed_by (whole_set k) (rw (complement-whole k) family.empty);
      unions = λ s t hs ht as' at'. allowed_by (union s t)
          (rw (complement-union s t) (family.intersections (complement s) (complement t) (lc s hs)
          (lc t ht) (allowed_of s as') (allowed_of t at')));
      intersections = λ s t hs ht as' at'. allowed_by (intersection s t)
          (rw (complement-intersection s t)
          (family.unions (complement s) (complement t) (lc s hs) (lc t ht) (allowed_of s as')
          (allowed_of t at')));
    }

    pub flipped-submodular : IsSubmodular k (flipped k f)
    flipped-submodular = record {
      at_empty = let e = value_by (empty_set k) w (rw (complement-empty k) whole_is) in let z
          : (w -ℤ w) ≡ pos 0 = omega (arith, ints) in e ∙ ap Some z;
      submodular = λ s t a b c d hs ht fs ft fu fi.
          let (a', ea, ia) = value_of s a fs in
          let (b', eb, ib) = value_of t b ft in
          let (c', ec, ic) = value_of (union s t) c fu in
          let (d', ed, id) = value_of (intersection s t) d fi in
          let less = law.submodular (complement s) (complement t) a' b' d' c' (lc s hs) (lc t ht) ea
          eb (rw (complement-intersection s t) at ed) (rw (complement-union s t) at ec) in
          omega (arith, ints, less, ia, ib, ic, id);
    }

    pub flipped-bounded : (m : ℤ)
        → ((s : List Bool) (a : ℤ) → length s ≡ k → f s ≡ Some a → (neg_ℤ m ≤ℤ a) × (a ≤ℤ m))
        → (s : List Bool) (a : ℤ) → length s ≡ k → flipped k f s ≡ Some a
        → (neg_ℤ (pos 2 *ℤ m) ≤ℤ a) × (a ≤ℤ (pos 2 *ℤ m))
    flipped-bounded m bounded s a h e =
        let (c, ec, ic) = value_of s a e in
        let one = bounded (complement s) c (lc s h) ec in
        let all = bounded (whole_set k) w (length-replicate k true) whole_is in
        (omega (arith, ints, one, all, ic), omega (arith, ints, one, all, ic))

    -- ---- bases

    module _ {x : List ℤ} (sized : length x ≡ k) where
      pub flipped-base : IsBase f x → IsBase (flipped k f) (negated x)
      flipped-base base = record { within = within; total = total } where
        all : w ≡ sum_over (whole_set (length x)) x
        all = let t = rw sized at base.total in let i = whole_is in rw sized (cc)

        within : (s : List Bool) (a : ℤ) → length s ≡ length (negated x) → flipped k f s ≡ Some a
            → sum_over s (negated x) ≤ℤ a
        within s a h e =
            let l : length s ≡ length x = h ∙ length-negated x in
            let (c, ec, ic) = value_of s a e in
            let b = base.within (complement s) c (length-complement s ∙ l) ec in
            let p = sum_over-complement s x l in
            let n = sum_over-negated s x in
            omega (arith, ints, b, p, n, ic, all)

        total : flipped k f (whole_set (length (negated x))) ≡ Some
            (sum_over (whole_set (length (negated x))) (negated x))
        total =
            let e = value_by (whole_set k) (pos 0) (rw (complement-whole k) law.at_empty) in
            let n = sum_over-negated (whole_set (length x)) x in
            let z : (pos 0 -ℤ w) ≡ sum_over (whole_set (length x))
            (negated x) = omega (arith, ints, n, all) in
            let zk : (pos 0 -ℤ w) ≡ sum_over (whole_set k) (negated x) = rw sized at z in
            rw (length-negated x ∙ sized) (e ∙ ap Some zk)

      pub flipped-base_back : IsBase (flipped k f) (negated x) → IsBase f x
      flipped-base_back base = record { within = within; total = total } where
        lk : length (negated x) ≡ k
        lk = length-negated x ∙ sized

        all : w ≡ sum_over (whole_set (length x)) x
        all =
            let t = rw lk at base.total in
            let e = value_by (whole_set k) (pos 0) (rw (complement-whole k) law.at_empty) in
            let q : (pos 0 -ℤ w) ≡ sum_over (whole_set k) (negated x) = cc in
            let n = sum_over-negated (whole_set k) x in
            rw sized (omega (arith, ints, q, n))

        within : (s : List Bool) (a : ℤ) → length s ≡ length x → f s ≡ Some a → sum_over s x ≤ℤ a
        within s a h e =
            let e' : f (complement (complement s)) ≡ Some a = rw (complement-twice s) e in
            let b = base.within (complement s) (a -ℤ w)
            (length-complement s ∙ h ∙ sym (length-negated x)) (value_by (complement s) a e') in
            let n = sum_over-negated (complement s) x in
            let p = sum_over-complement s x h in
            omega (arith, ints, b, n, p, all)

        total : f (whole_set (length x)) ≡ Some (sum_over (whole_set (length x)) x)
        total = rw sized (whole_is ∙ ap Some (rw sized at all))

-- ---- q times

times-flipped : (q : ℤ) (k : ℕ) (f : SetFunction) (s : List Bool)
    → times q (flipped k f) s ≡ flipped k (times q f) s
times-flipped q k f s = at (f (complement s)) (f (whole_set k)) where
  at : (o p : Option ℤ) → option_map (λ a. q *ℤ a) (option_map (λ a. a -ℤ unwrap_or p (pos 0)) o)
      ≡ option_map (λ a. a -ℤ unwrap_or (option_map (λ a. q *ℤ a) p) (pos 0))
      (option_map (λ a. q *ℤ a) o)
  at None p = refl
  at (Some a) None = ap Some (times-sub q a (pos 0) ∙ ap (λ z. (q *ℤ a) -ℤ z) (*ℤ-zero q))
  at (Some a) (Some b) = ap Some (times-sub q a b)

base-same : (f g : SetFunction) (x : List ℤ) → ((s : List Bool) → f s ≡ g s) → IsBase f x
    → IsBase g x
base-same f g x same base = record {
  within = λ s a h e. base.within s a h (same s ∙ e);
  total = sym (same (whole_set (length x))) ∙ base.total;
}

-- ---- exchanges

pub exchanged-negated : (x : List ℤ) (u v : ℕ) (a : ℤ) → u < length x → v < length x → u ≢ v
    → exchanged (negated x) u v a ≡ negated (exchanged x v u a)
exchanged-negated x u v a lu lv ne =
    ext_get_or (pos 0) (exchanged (negated x) u v a) (negated (exchanged x v u a)) same
    (λ j lj. at j (rw ln at (rw length-exchanged at lj)) (cases_eq j u) (cases_eq j v)) where
      ln : length (negated x) ≡ length x
      ln = length-negated x

      same : length (exchanged (negated x) u v a) ≡ length (negated (exchanged x v u a))
      same = length-exchanged (negated x) u v a
          ∙ (ln ∙ sym (length-negated (exchanged x v u a) ∙ length-exchanged x v u a))

      each : (j : ℕ) → j < length x → get_or (negated x) j (pos 0) ≡ neg_ℤ (get_or x j (pos 0))
      each j l = get_or-map neg_ℤ x j (pos 0) (pos 0) l

      other : (j : ℕ) → j < length x → get_or (negated (exchanged x v u a)) j (pos 0) ≡ neg_ℤ
          (get_or (exchanged x v u a) j (pos 0))
      other j l = get_or-map neg_ℤ (exchanged x v u a) j (pos 0) (pos 0)
          (rw (length-exchanged x v u a) l)

      at : (j : ℕ) → j < length x → (j ≡ u) ⊎ (j ≢ u) → (j ≡ v) ⊎ (j ≢ v)
          → get_or (exchanged (negated x) u v a) j (pos 0) ≡ get_or (negated (exchanged x v u a)) j
          (pos 0)
      at j l (inl ju) (inl jv) = absurd (ne (sym ju ∙ jv))
      at j l (inl ju) (inr nv) =
          let p = exchanged-first (negated x) u v a (rw ln lu) ne in
          let q = exchanged-second x v u a lu in
          let e = each u lu in
          let o = other u lu in
          rw ju (omega (arith, ints, p, q, e, o))
      at j l (inr nu) (inl jv) =
          let p = exchanged-second (negated x) u v a (rw ln lv) in
          let q = exchanged-first x v u a lv (λ s. ne (sym s)) in
          let e = each v lv in
          let o = other v lv in
          rw jv (omega (arith, ints, p, q, e, o))
      at j l (inr nu) (inr nv) =
          let p = exchanged-other (negated x) u v j a nu nv in
          let q = exchanged-other x v u j a nv nu in
          let e = each j l in
          let o = other j l in
          omega (arith, ints, p, q, e, o)

-- ---- at q times a term, the base y of the term turned round

module _ (k : ℕ) (f : SetFunction) (family : IsFamily k f) (law : IsSubmodular k f) (q : ℤ)
    (family' : IsFamily k (times q f)) (law' : IsSubmodular k (times q f)) where
  abbrev G : SetFunction
  G = times q f

  abbrev H : SetFunction
  H = times q (flipped k f)

  pub turned-base : (x : List ℤ) → length x ≡ k → IsBase (times q f) x
      → IsBase (times q (flipped k f)) (negated x)
  turned-base x sized base = base-same (flipped k G) H (negated x)
      (λ s. sym (times-flipped q k f s)) (flipped-base k G family' law' sized base)

  pub turned-base_back : (x : List ℤ) → length x ≡ k → IsBase (times q (flipped k f)) (negated x)
      → IsBase (times q f) x
  turned-base_back x sized base =
      flipped-base_back k G family' law' sized
      (base-same H (flipped k G) (negated x) (times-flipped q k f) base)

  -- the base y of the term turned round, told by what it is turned
  pub turned-from : (y : List ℤ) → length y ≡ k → IsBase (times q (flipped k f)) y
      → IsBase (times q f) (negated y)
  turned-from y sized base = turned-base_back (negated y) (length-negated y ∙ sized)
      (rw (negated-twice y) base)

  pub turned-to : (y : List ℤ) → length y ≡ k → IsBase (times q f) (negated y)
      → IsBase (times q (flipped k f)) y
  turned-to y sized base = rw (negated-twice y) at
      (turned-base (negated y) (length-negated y ∙ sized) base)

  module _ (y : List ℤ) (sized : length y ≡ k) (u v : ℕ) (lu : u < length y) (lv : v < length y)
      (ne : u ≢ v) where
    ln : length (negated y) ≡ length y
    ln = length-negated y

    turn : (a : ℤ) → exchanged (negated y) v u a ≡ negated (exchanged y u v a)
    turn a = exchanged-negated y v u a lv lu (λ s. ne (sym s))

    le : (a : ℤ) → length (exchanged y u v a) ≡ k
    le a = length-exchanged y u v a ∙ sized

    moved-to : (a : ℤ) → IsBase (times q f) (exchanged (negated y) v u a)
        → IsBase (times q (flipped k f)) (exchanged y u v a)
    moved-to a base = turned-to (exchanged y u v a) (le a) (rw (turn a) at base)

    moved-from : (a : ℤ) → IsBase (times q (flipped k f)) (exchanged y u v a)
        → IsBase (times q f) (exchanged (negated y) v u a)
    moved-from a base = rw (turn a) (turned-from (exchanged y u v a) (le a) base)

    unsplit-to : IsUnsplit (times q f) (length (negated y)) v u
        → IsUnsplit (times q (flipped k f)) (length y) u v
    unsplit-to h s l allowed hu = ⊎_elim (λ y. y) (λ nv. absurd (clash nv)) (has_or_not s v) where
      clash : get_or s v false ≡ false → ⊥
      clash nv =
          let c = allowed_of k G s (rw (times-flipped q k f s) at allowed) in
          let hv = in_complement s v (rw l lv) nv in
          let r = h (complement s) (length-complement s ∙ l ∙ sym ln) c hv in
          both_ways (get_or s u false) (not_in_complement s u r) hu

    unsplit-from : IsUnsplit (times q (flipped k f)) (length y) u v
        → IsUnsplit (times q f) (length (negated y)) v u
    unsplit-from h s l allowed hv = ⊎_elim (λ y. y) (λ nu. absurd (clash nu)) (has_or_not s u) where
      ls : length s ≡ length y
      ls = l ∙ ln

      clash : get_or s u false ≡ false → ⊥
      clash nu =
          let twice : IsSome (G (complement (complement s))) = rw (complement-twice s) allowed in
          let c = rw (← times-flipped q k f (complement s)) at
          (allowed_by k G (complement s) twice) in
          let hu = in_complement s u (rw ls lu) nu in
          let r = h (complement s) (length-complement s ∙ ls) c hu in
          both_ways (get_or s v false) (not_in_complement s v r) hv

    -- the room of (u, v) is that of (v, u) at the negated base
    pub room-to : (room : Room) → IsRoom (times q f) (negated y) v u room
        → IsRoom (times q (flipped k f)) y u v room
    room-to (Upto a) h = record {
      reached = moved-to a h.reached;
      greatest = λ b base. h.greatest b (moved-from b base);
    }
    room-to Unbounded h = ((λ a low. moved-to a (h.0 a low)), unsplit-to h.1)

    pub room-from : (room : Room) → IsRoom (times q (flipped k f)) y u v room
        → IsRoom (times q f) (negated y) v u room
    room-from (Upto a) h = record {
      reached = moved-from a h.reached;
      greatest = λ b base. h.greatest b (moved-to b base);
    }
    room-from Unbounded h = ((λ a low. moved-from a (h.0 a low)), unsplit-from h.1)

    -- and so it is up to a limit
    pub capacity-to : (limit a : ℤ) → IsCapacityUpto (times q f) (negated y) v u limit a
        → IsCapacityUpto (times q (flipped k f)) y u v limit a
    capacity-to limit a h = record {
      low = h.low;
      high = h.high;
      reached = moved-to a h.reached;
      greatest = λ b lb base. h.greatest b lb (moved-from b base);
    }

    pub within-from : (a : ℤ) → IsWithinRoom (times q (flipped k f)) y u v a
        → IsWithinRoom (times q f) (negated y) v u a
    within-from a (room, is, most) = (room, room-from room is, most)

    pub has-room-to : HasRoom (times q f) (negated y) v u → HasRoom (times q (flipped k f)) y u v
    has-room-to (a, least, base) = (a, least, moved-to a base)

    pub has-room-from : HasRoom (times q (flipped k f)) y u v → HasRoom (times q f) (negated y) v u
    has-room-from (a, least, base) = (a, least, moved-from a base)

-- ---- first bases

pub flipped-starts : (k : ℕ) (f : SetFunction) → IsFamily k f → IsSubmodular k f → (q : ℤ)
    → pos 1 ≤ℤ q → (x : List ℤ) → (length x ≡ k) × IsBase (times q f) x
    → (length (negated x) ≡ k) × IsBase (times q (flipped k f)) (negated x)
flipped-starts k f family law q low x (sized, base) = (
  length-negated x ∙ sized,
  turned-base k f family law q (family-times k q f family)
      (submodular-times k q f (omega (arith, ints, low)) law) x sized base,
)

pub flipped-starts_small : (m q : ℤ) (x : List ℤ)
    → All (λ a. (neg_ℤ ((pos 2 *ℤ q) *ℤ m) ≤ℤ a) × (a ≤ℤ ((pos 2 *ℤ q) *ℤ m))) x
    → All (λ a. (neg_ℤ ((pos 2 *ℤ q) *ℤ (pos 2 *ℤ m)) ≤ℤ a) × (a ≤ℤ ((pos 2 *ℤ q) *ℤ (pos 2 *ℤ m))))
    (negated x)
flipped-starts_small m q x h = λ i d l.
    let lx = rw (length-negated x) at l in
    let s = h i (pos 0) lx in
    let g : get_or (negated x) i d ≡ neg_ℤ (get_or x i (pos 0)) = get_or-map neg_ℤ x i (pos 0) d
    lx in
    let t : ((pos 2 *ℤ q) *ℤ (pos 2 *ℤ m)) ≡ (pos 2 *ℤ ((pos 2 *ℤ q) *ℤ m)) = sym
    (times-assoc (pos 2 *ℤ q) (pos 2) m)
    ∙ (ap (λ z. z *ℤ m) (times-comm (pos 2 *ℤ q) (pos 2))
    ∙ times-assoc (pos 2) (pos 2 *ℤ q) m) in
    (omega (arith, ints, s, g, t), omega (arith, ints, s, g, t))
