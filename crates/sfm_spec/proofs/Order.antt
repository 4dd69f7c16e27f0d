-- Exchanges of one term along a shortest walk, from the last to the first: each still leads to a
-- base.
use Rattle.std.proofs.Common.{◌≡◌, ◌≢◌, ◌⊎◌, ℕ, suc, ◌<◌, Bool, true, false, List, [], ◌∷◌, length, get_or, set, ℤ, pos, ◌+ℤ◌, ◌-ℤ◌, ◌≤ℤ◌, refl, sym, ◌∙◌, arith, inl, inr, get_or-set_other}
use Rattle.std.proofs.lemmas.Bool.{both_ways, and_left, and_right}
use Rattle.std.proofs.lemmas.Int.{ints}
use Rattle.sfm_spec.specs.Sets.{Has, whole_set, union, intersection, sum_over}
use Rattle.sfm_spec.specs.Terms.{SetFunction, IsFamily, IsSubmodular, IsBase, HasRoom, exchanged}
use Rattle.sfm_spec.proofs.Sums.{sum_over-modular, length-union, length-intersection, length-exchanged}
use Rattle.sfm_spec.proofs.Sets.{get_or-intersection, in_both, in_second, Has-whole}
use Rattle.sfm_spec.proofs.Exchange.{LeavesRoom, base_moved, leaves_room}
use Rattle.sfm_spec.proofs.Tight.{some_of, is_some_of, TightSet, tight_both, tight_whole, room_or_split}

-- x and y agree at the places of s
abbrev pub Agree : List Bool → List ℤ → List ℤ → Type 0
Agree s x y = (e : ℕ) → Has s e → get_or x e (pos 0) ≡ get_or y e (pos 0)

-- lists that agree on a set have the same sum over it
pub sum_agree : (s : List Bool) (x y : List ℤ) → length x ≡ length y → Agree s x y
    → sum_over s x ≡ sum_over s y
sum_agree [] x y h g = refl
sum_agree (b ∷ s) [] [] h g = refl
sum_agree (b ∷ s) [] (c ∷ y) h g = absurd (omega arith)
sum_agree (b ∷ s) (a ∷ x) [] h g = absurd (omega arith)
sum_agree (true ∷ s) (a ∷ x) (c ∷ y) h g =
    let r = sum_agree s x y (omega arith) (λ e has. g (suc e) has) in
    let z : a ≡ c = g 0 refl in
    omega (arith, ints, r, z)
sum_agree (false ∷ s) (a ∷ x) (c ∷ y) h g =
    let r = sum_agree s x y (omega arith) (λ e has. g (suc e) has) in omega (arith, ints, r)

-- the later exchanges' places, and the row after these exchanges, the last one first
abbrev pub places_of : List (ℕ × ℕ) → List ℕ
places_of [] = []
places_of (m ∷ moves) = m.0 ∷ m.1 ∷ places_of moves

-- the row after the exchanges, the last one first
abbrev pub moved : List ℤ → ℤ → List (ℕ × ℕ) → List ℤ
moved x a [] = x
moved x a (m ∷ moves) = exchanged (moved x a moves) m.0 m.1 a

-- exchanges keep the length
pub length-moved : (x : List ℤ) (a : ℤ) (moves : List (ℕ × ℕ)) → length (moved x a moves) ≡ length x
length-moved x a [] = refl
length-moved x a (m ∷ moves) = length-exchanged (moved x a moves) m.0 m.1 a ∙ length-moved x a moves

-- none of the places is in the set
abbrev pub Avoids : List Bool → List ℕ → Type 0
Avoids s [] = Unit {0}
Avoids s (e ∷ es) = (get_or s e false ≡ false) × Avoids s es

-- exchanges change nothing on a set that avoids their places
pub moved_agrees : (s : List Bool) (x : List ℤ) (a : ℤ) (moves : List (ℕ × ℕ))
    → Avoids s (places_of moves) → Agree s x (moved x a moves)
moved_agrees s x a [] h e has = refl
moved_agrees s x a (m ∷ moves) h e has =
    let r = moved_agrees s x a moves h.1.1 e has in
    let y = moved x a moves in
    let nu : e ≢ m.0 = λ same. both_ways (get_or s m.0 false) h.0 (rw same at has) in
    let nv : e ≢ m.1 = λ same. both_ways (get_or s m.1 false) h.1.0 (rw same at has) in
    let one = get_or-set_other y m.0 e (get_or y m.0 (pos 0) +ℤ a) (pos 0) nu in
    let two = get_or-set_other (set y m.0 (get_or y m.0 (pos 0) +ℤ a)) m.1 e
    (get_or y m.1 (pos 0) -ℤ a) (pos 0) nv in
    r ∙ sym (two ∙ one)

module _ {f : SetFunction} {x : List ℤ} (family : IsFamily (length x) f)
    (law : IsSubmodular (length x) f) (base : IsBase f x) where
  -- a base that agrees with x on a tight set with u leaves u as much room as x does
  pub room_kept : (y : List ℤ) (u v : ℕ) (a : ℤ) (t : List Bool) → length y ≡ length x → IsBase f y
      → TightSet family law refl base t → Has t u → Agree t x y
      → LeavesRoom f x u v a → LeavesRoom f y u v a
  room_kept y u v a t sized other tight hu agree leaves s c h e su nv =
      let ls : length s ≡ length x = h ∙ sized in
      let same : length s ≡ length t = ls ∙ sym tight.places in
      let as' = is_some_of (f s) c e in
      let at' = is_some_of (f t) (sum_over t x) tight.tight in
      let (d, ed) = some_of (f (union s t)) (family.unions s t ls tight.places as' at') in
      let (b, eb) = some_of (f (intersection s t))
      (family.intersections s t ls tight.places as' at') in
      let li : length (intersection s t) ≡ length x = length-intersection s t same ∙ ls in
      let lu : length (union s t) ≡ length y = length-union s t same ∙ h in
      let inside = leaves (intersection s t) b li eb (in_both s t u same su hu)
      (get_or-intersection s t v same ∙ and_left (get_or s v false) (get_or t v false) nv) in
      let si = sum_agree (intersection s t) x y (sym sized)
      (λ i has. agree i (in_second s t i same has)) in
      let st = sum_agree t x y (sym sized) agree in
      let above = other.within (union s t) d lu ed in
      let modular = sum_over-modular s t y same h in
      let sub = law.submodular s t c (sum_over t x) d b ls tight.places e tight.tight ed eb in
      omega (arith, ints, inside, si, st, above, modular, sub)

  -- u has no room to any of the places
  abbrev pub NoRooms : ℕ → List ℕ → Type 0
  NoRooms u [] = Unit {0}
  NoRooms u (e ∷ es) = (e < length x) × (u ≢ e) × (HasRoom f x u e → ⊥) × NoRooms u es

  avoids_more : (s t : List Bool) (es : List ℕ) → length s ≡ length t → Avoids s es
      → Avoids (intersection s t) es
  avoids_more s t [] h g = tt
  avoids_more s t (e ∷ es) h g = (
    get_or-intersection s t e h ∙ and_left (get_or s e false) (get_or t e false) g.0,
    avoids_more s t es h g.1,
  )

  -- a tight set with u that avoids places to which u has no room
  pub tight_apart : (u : ℕ) (es : List ℕ) → u < length x → NoRooms u es → (t : List Bool)
      × TightSet family law refl base t × Has t u × Avoids t es
  tight_apart u [] ku h = (
    whole_set (length x),
    tight_whole family law refl base,
    Has-whole (length x) u ku,
    tt,
  )
  tight_apart u (e ∷ es) ku h = join (tight_apart u es ku h.3)
      (room_or_split family law refl base u e ku h.0 h.1) where
        join : (t : List Bool) × TightSet family law refl base t × Has t u × Avoids t es
            → HasRoom f x u e ⊎ ((s : List Bool) × TightSet family law refl base s × Has s u
            × (get_or s e false ≡ false))
            → (t : List Bool) × TightSet family law refl base t × Has t u × Avoids t (e ∷ es)
        join r (inl room) = absurd (h.2 room)
        join (t, ht, tu, avoid) (inr (s, hs, su, ns)) =
            let same : length t ≡ length s = ht.places ∙ sym hs.places in (
              intersection t s,
              (tight_both family law refl base t s ht hs).1,
              in_both t s u same tu su,
              (
                get_or-intersection t s e same ∙ and_right (get_or t e false) (get_or s e false) ns,
                avoids_more t s es same avoid,
              ),
            )

  -- in walk order: each pair can be exchanged at x, and its beginning has no room to a later pair's
  -- places
  abbrev pub InOrder : ℤ → List (ℕ × ℕ) → Type 0
  InOrder a [] = Unit {0}
  InOrder a (m ∷ moves) = (m.0 < length x) × (m.1 < length x) × (m.0 ≢ m.1)
      × IsBase f (exchanged x m.0 m.1 a) × NoRooms m.0 (places_of moves) × InOrder a moves

  -- exchanges in order lead to a base
  pub moved_base : (a : ℤ) (moves : List (ℕ × ℕ)) → pos 0 ≤ℤ a → InOrder a moves
      → IsBase f (moved x a moves)
  moved_base a [] low h = base
  moved_base a (m ∷ moves) low h =
      let y = moved x a moves in
      let len : length y ≡ length x = length-moved x a moves in
      let later = moved_base a moves low h.5 in
      let (t, tight, tu, avoid) = tight_apart m.0 (places_of moves) h.0 h.4 in
      let room = leaves_room base h.0 h.1 h.2 a h.3 in
      let kept = room_kept y m.0 m.1 a t len later tight tu (moved_agrees t x a moves avoid) room in
      base_moved later (rw len h.0) (rw len h.1) h.2 a low kept
