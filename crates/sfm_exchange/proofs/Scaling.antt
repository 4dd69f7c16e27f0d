-- Multiples of bases: the same sets are tight, so the same places depend on each other, and the
-- rows of all terms stay.
use Rattle.std.proofs.Common.{◌≡◌, ◌≢◌, ◌↔◌, ⊎_elim, inr, ℕ, ◌<◌, Bool, true, false, List, [], ◌∷◌, length, Some, ℤ, pos, ◌+ℤ◌, ◌*ℤ◌, ◌≤ℤ◌, refl, sym, ap, ◌∙◌, arith, map}
use Rattle.std.proofs.Math.IntN.{*ℤ-zero}
use Rattle.std.proofs.lemmas.Int.{ints}
use Rattle.std.proofs.lemmas.List.{length-map}
use Rattle.std.specs.Option.{option_map}
use Rattle.sfm_spec.specs.Sets.{Has, sum_over, whole_set}
use Rattle.sfm_spec.specs.Rows.{Depends}
use Rattle.sfm_spec.specs.Terms.{SetFunction, times, IsFamily, IsSubmodular, IsBase, IsTight, IsTightSet, HasRoom}
use Rattle.sfm_spec.specs.Families.{Meaning, AreTerms, AreBases}
use Rattle.sfm_spec.specs.Walks.{term_at, base_at}
use Rattle.sfm_spec.proofs.RowLaw.{least_tight}
use Rattle.sfm_spec.proofs.Scaled.{times_some, times-add, times-assoc, times-cancel, family-times, submodular-times, times-mono}
use Rattle.sfm_spec.proofs.Walks.{terms-at, bases-at}
use Rattle.sfm_reach.specs.declared.bits.Bits.{Bits}
use Rattle.sfm_reach.specs.declared.spots.Spot.{Spot}
use Rattle.sfm_reach.specs.Bits.{set_at}
use Rattle.sfm_exchange.specs.Claimed.{AreClaims}
use Rattle.sfm_exchange.specs.Scaled.{row_times, rows_times}
use Rattle.sfm_reach.specs.Reach.{IsRow, table_at}
use Rattle.sfm_reach.specs.Spots.{AreSpots, spots_at, spot_at}
use Rattle.sfm_reach.specs.Unions.{AreUnions, IsUnion}

-- a sum of entries is multiplied with them
pub sum_over-times : (q : ℤ) (s : List Bool) (x : List ℤ)
    → sum_over s (row_times q x) ≡ (q *ℤ sum_over s x)
sum_over-times q [] x = sym (*ℤ-zero q)
sum_over-times q (b ∷ s) [] = sym (*ℤ-zero q)
sum_over-times q (true ∷ s) (a ∷ x) = ap (λ z. (q *ℤ a) +ℤ z) (sum_over-times q s x)
    ∙ sym (times-add q a (sum_over s x))
sum_over-times q (false ∷ s) (a ∷ x) =
    ap (λ z. pos 0 +ℤ z) (sum_over-times q s x)
    ∙ ap (λ z. z +ℤ (q *ℤ sum_over s x)) (sym (*ℤ-zero q))
    ∙ sym (times-add q (pos 0) (sum_over s x))

module _ (f : SetFunction) (p q : ℤ) (low : pos 1 ≤ℤ q) (x : List ℤ) where
  -- a set that is tight at a base is so at a multiple of it
  tight_times : (r : List Bool) → IsTight (times p f) x r
      → IsTight (times (q *ℤ p) f) (row_times q x) r
  tight_times r h =
      let (a, fr, e) = times_some p (f r) (sum_over r x) h in
      ap (option_map (λ z. (q *ℤ p) *ℤ z)) fr
      ∙ ap Some (times-assoc q p a ∙ (ap (λ z. q *ℤ z) (sym e) ∙ sym (sum_over-times q r x)))

  -- and the other way round
  tight_back : (r : List Bool) → IsTight (times (q *ℤ p) f) (row_times q x) r
      → IsTight (times p f) x r
  tight_back r h =
      let (a, fr, e) = times_some (q *ℤ p) (f r) (sum_over r (row_times q x)) h in
      let same : (q *ℤ sum_over r x) ≡ (q *ℤ (p *ℤ a)) = sym (sum_over-times q r x)
      ∙ (e ∙ times-assoc q p a) in
      let least : sum_over r x ≤ℤ (p *ℤ a) = times-cancel q (sum_over r x) (p *ℤ a) low
      (omega (arith, ints, same)) in
      let most : (p *ℤ a) ≤ℤ sum_over r x = times-cancel q (p *ℤ a) (sum_over r x) low
      (omega (arith, ints, same)) in
      let is : (p *ℤ a) ≡ sum_over r x = omega (arith, ints, least, most) in
      ap (option_map (λ z. p *ℤ z)) fr ∙ ap Some is

-- q times a base of r times a term is a base of q·r times the term
pub base-times : (q r : ℤ) (f : SetFunction) (x : List ℤ) → pos 1 ≤ℤ q → IsBase (times r f) x
    → IsBase (times (q *ℤ r) f) (row_times q x)
base-times q r f x lq h = record { within = within; total = total } where
  within : (s : List Bool) (c : ℤ) → length s ≡ length (row_times q x) → times (q *ℤ r) f s ≡ Some c
      → sum_over s (row_times q x) ≤ℤ c
  within s c len is =
      let (a, fs, ec) = times_some (q *ℤ r) (f s) c is in
      let le : sum_over s x ≤ℤ (r *ℤ a) = h.within s (r *ℤ a) (len ∙ length-map x (λ a. q *ℤ a))
      (ap (option_map (λ z. r *ℤ z)) fs) in
      rw (sum_over-times q s x, ec, times-assoc q r a)
      (times-mono q (sum_over s x) (r *ℤ a) (omega (arith, ints, lq)) le)

  total : times (q *ℤ r) f (whole_set (length (row_times q x))) ≡ Some
      (sum_over (whole_set (length (row_times q x))) (row_times q x))
  total =
      let w = whole_set (length x) in
      let (a, fw, e) = times_some r (f w) (sum_over w x) h.total in
      let same : ((q *ℤ r) *ℤ a) ≡ (q *ℤ sum_over w x) = times-assoc q r a
      ∙ ap (λ z. q *ℤ z) (sym e) in
      let at : times (q *ℤ r) f w ≡ Some
      (sum_over w (row_times q x)) = ap (option_map (λ z. (q *ℤ r) *ℤ z)) fw ∙ ap Some same
      ∙ ap Some (sym (sum_over-times q w x)) in
      rw length-map at

-- one for each term
pub bases-times : (q r : ℤ) (terms : List Meaning) (rows : List (List ℤ)) → pos 1 ≤ℤ q
    → AreBases r terms rows → AreBases (q *ℤ r) terms (map (row_times q) rows)
bases-times q r [] [] lq h = tt
bases-times q r [] (x ∷ rows) lq h = absurd h
bases-times q r (t ∷ terms) [] lq h = absurd h
bases-times q r (t ∷ terms) (x ∷ rows) lq h = (
  length-map x (λ a. q *ℤ a) ∙ h.0,
  base-times q r t.value x lq h.1,
  bases-times q r terms rows lq h.2,
)

module _ {k : ℕ} {f : SetFunction} (family : IsFamily k f) (law : IsSubmodular k f) (p q : ℤ)
    (some : pos 1 ≤ℤ p) (low : pos 1 ≤ℤ q) (many : pos 1 ≤ℤ (q *ℤ p)) (x : List ℤ)
    (sized : length x ≡ k) (base : IsBase (times p f) x)
    (after : IsBase (times (q *ℤ p) f) (row_times q x)) where
  long : length (row_times q x) ≡ k
  long = length-map x (λ a. q *ℤ a) ∙ sized

  -- what depends on what stays
  pub depends_times : (e w : ℕ) → e < k → w < k → Depends (times p f) x e w
      ↔ Depends (times (q *ℤ p) f) (row_times q x) e w
  depends_times e w ke kw = (
    (λ d. there.1 (λ r h has. here.0 d r
        (record {
          places = h.places ∙ length-map x (λ a. q *ℤ a);
          tight = tight_back f p q low x r h.tight;
        }) has)),
    (λ d. here.1 (λ r h has. there.0 d r
        (record {
          places = h.places ∙ sym (length-map x (λ a. q *ℤ a));
          tight = tight_times f p q low x r h.tight;
        }) has)),
  ) where
    here : Depends (times p f) x e w
        ↔ ((r : List Bool) → IsTightSet (times p f) x r → Has r e → Has r w)
    here = least_tight (family-times k p f family)
        (submodular-times k p f (omega (arith, ints, some)) law) sized base e w (rw sized ke)
        (rw sized kw)

    there : Depends (times (q *ℤ p) f) (row_times q x) e w
        ↔ ((r : List Bool) → IsTightSet (times (q *ℤ p) f) (row_times q x) r → Has r e → Has r w)
    there = least_tight (family-times k (q *ℤ p) f family)
        (submodular-times k (q *ℤ p) f (omega (arith, ints, many)) law) long after e w (rw long ke)
        (rw long kw)

  -- and so does where there is room
  room_times : (u v : ℕ) → u < k → v < k → v ≢ u → HasRoom (times p f) x u v
      ↔ HasRoom (times (q *ℤ p) f) (row_times q x) u v
  room_times u v ku kv ne = (
    (λ room. ⊎_elim (λ same. absurd (ne same)) (λ still. still)
        ((depends_times u v ku kv).0 (inr room))),
    (λ room. ⊎_elim (λ same. absurd (ne same)) (λ still. still)
        ((depends_times u v ku kv).1 (inr room))),
  )

  -- the rows of a term stay
  pub row_stays : (places : List ℕ) → length places ≡ k → (u : ℕ) → u < length places → (row : Bits)
      → IsRow places (times p f) x u row → IsRow places (times (q *ℤ p) f) (row_times q x) u row
  row_stays places count u lu row h e = (
    (λ one. let (v, lv, ne, room, is) = (h e).0
        one in (v, lv, ne, (room_times u v (rw (← count) lu) (rw (← count) lv) ne).0 room, is)),
    (λ (v, lv, ne, room, is). (h e).1
        (v, lv, ne, (room_times u v (rw (← count) lu) (rw (← count) lv) ne).1 room, is)),
  )

  -- and so do those that are claimed
  pub claims_stay : (places : List ℕ) → length places ≡ k → (claimed : Bits) (table : List Bits)
      → AreClaims places (times p f) x claimed table
      → AreClaims places (times (q *ℤ p) f) (row_times q x) claimed table
  claims_stay places count claimed table h = record {
    claims = λ u lu. record {
      has = λ v lv ne room. (h.claims u lu).has v lv ne
          ((room_times u v (rw (← count) lu) (rw (← count) lv) ne).1 room);
      inside = (h.claims u lu).inside;
    };
    exact = λ u lu none. row_stays places count u lu (set_at table u) (h.exact u lu none);
  }

-- of all terms
pub claims_times : (terms : List Meaning) (n : ℕ) (p q : ℤ) (rows bases : List (List ℤ))
    (claimed : List Bits) (tables : List (List Bits)) → pos 1 ≤ℤ p → pos 1 ≤ℤ q → pos 1 ≤ℤ (q *ℤ p)
    → AreTerms n terms → AreBases p terms rows → AreBases (q *ℤ p) terms bases
    → (i : ℕ) → i < length terms → base_at bases i ≡ row_times q (base_at rows i)
    → AreClaims (term_at terms i).places (times p (term_at terms i).value) (base_at rows i)
    (set_at claimed i) (table_at tables i)
    → AreClaims (term_at terms i).places (times (q *ℤ p) (term_at terms i).value) (base_at bases i)
    (set_at claimed i) (table_at tables i)
claims_times terms n p q rows bases claimed tables some low many fit are after i li same h =
    let t = terms-at n terms i fit li in
    let b = bases-at p terms rows i are li in
    let c = bases-at (q *ℤ p) terms bases i after li in
    rw same (claims_stay t.family t.submodular p q some low many (base_at rows i) b.0 b.1
    (rw same at c.1) (term_at terms i).places refl (set_at claimed i) (table_at tables i) h)

-- the spots of one list stand in another one
spot_elsewhere : (terms : List Meaning) (n : ℕ) (spots others : List (List Spot))
    → AreSpots terms n spots → AreSpots terms n others → (e j : ℕ) → e < n
    → j < length (spots_at others e)
    → (k : ℕ) × (k < length (spots_at spots e))
    × (spot_at (spots_at spots e) k ≡ spot_at (spots_at others e) j)
spot_elsewhere terms n spots others one two e j le lj =
    let is = two.sound e j le lj in
    rw is.at at (one.complete (spot_at (spots_at others e) j).term
    (spot_at (spots_at others e) j).local is.term_in is.local_in)

-- so the unions hang on no list of spots
pub unions_same : {terms : List Meaning} {n : ℕ} {spots others : List (List Spot)}
    {tables : List (List Bits)} {unions : List Bits} → AreSpots terms n spots
    → AreSpots terms n others → AreUnions tables others unions → AreUnions tables spots unions
unions_same {terms} {n} {spots} {others} {tables} {unions} one two h =
    record { count = h.count ∙ (two.count ∙ sym one.count); exact = exact } where
      exact : (e : ℕ) → e < length spots
          → IsUnion tables (spots_at spots e) (length (spots_at spots e))
          (set_at unions e)
      exact e le t = (
        (λ bit. let (j, lj, b) = (h.exact e lo t).0 bit in let (k, lk, is) = spot_elsewhere terms n
            spots others one two e j ln lj in (k, lk, rw is b)),
        (λ (j, lj, b). let (k, lk, is) = spot_elsewhere terms n others spots two one e j ln
            lj in (h.exact e lo t).1 (k, lk, rw is b)),
      ) where
        ln : e < n
        ln = rw (← one.count) le

        lo : e < length others
        lo = rw two.count ln

-- q times the first bases of terms are those at the factor q
pub starts_times : {X : Type 0} (start : X → ℤ → List ℤ)
    → ((x : X) (q : ℤ) → start x q ≡ row_times q (start x (pos 1))) → (q : ℤ) (xs : List X)
    → rows_times q (map (λ x. start x (pos 1)) xs) ≡ map (λ x. start x q) xs
starts_times start law q [] = refl
starts_times start law q (x ∷ xs) =
    ap (λ r. r ∷ rows_times q (map (λ x. start x (pos 1)) xs)) (sym (law x q))
    ∙ ap (λ r. start x q ∷ r) (starts_times start law q xs)
