-- The ground places of the next part, as those are written one after another in which it differs
-- from the part before.
use Rattle.std.proofs.Common.{◌≡◌, ◌≢◌, ◌↔◌, ◌⊎◌, ⊎_elim, ℕ, ◌<◌, Bool, true, false, List, length, refl, get_or, sym, ◌∙◌, inl, inr, arith, if◌then◌else◌}
use Rattle.std.proofs.lemmas.Bool.{cases_eq}
use Rattle.sfm_spec.specs.Sets.{Has, IsPlaced}
use Rattle.sfm_reach.specs.declared.bits.Bits.{Bits}
use Rattle.sfm_reach.specs.Bits.{HasPlaces, bit_in, IsTaken}
use Rattle.sfm_reach.specs.Image.{HasImages}
use Rattle.sfm_reach.proofs.Words.{bit_in-lt}

-- a part as a list of truth values, and as a set
module _ (places : List ℕ) (part : List Bool) (s bits : Bits)
    (same : (v : ℕ) → (bit_in s v ≡ 1) ↔ Has part v) where
  pub images_of : HasPlaces places part (length places) bits → HasImages places s bits
  images_of h e = (
    (λ one. let (v, lv, has, is) = (h e).0 one in (v, lv, (same v).1 has, is)),
    (λ (v, lv, in_s, is). (h e).1 (v, lv, (same v).0 in_s, is)),
  )

  pub places_of : HasImages places s bits → HasPlaces places part (length places) bits
  places_of h e = (
    (λ one. let (v, lv, in_s, is) = (h e).0 one in (v, lv, (same v).0 in_s, is)),
    (λ (v, lv, has, is). (h e).1 (v, lv, (same v).1 has, is)),
  )

-- no place has a ground place
pub no_images : (places : List ℕ) (none bits : Bits) → ((v : ℕ) → bit_in none v ≡ 0)
    → ((e : ℕ) → bit_in bits e ≡ 0) → HasImages places none bits
no_images places none bits out empty e = (
  (λ one. let z = empty e in absurd (omega (arith, z, one))),
  (λ (v, lv, in_s, is). let z = out v in absurd (omega (arith, z, in_s))),
)

-- parts differ at places of the one or the other alone
pub differ_inside : (part next changed : Bits) (v n : ℕ)
    → ((bit_in changed v ≡ 0) ↔ (bit_in part v ≡ bit_in next v)) → (bit_in part v ≡ 1 → v < n)
    → (bit_in next v ≡ 1 → v < n) → bit_in changed v ≡ 1 → v < n
differ_inside part next changed v n same in_part in_next here =
    ⊎_elim (λ one. in_part one) (λ ne. ⊎_elim (λ one. in_next one) (λ none. absurd (apart ne none))
    (cases_eq (bit_in next v) 1)) (cases_eq (bit_in part v) 1) where
      apart : bit_in part v ≢ 1 → bit_in next v ≢ 1 → ⊥
      apart ne none =
          let lp = bit_in-lt part v in
          let ln = bit_in-lt next v in
          let z = same.1 (omega (arith, lp, ln, ne, none)) in
          omega (arith, z, here)

-- what is told of a place: by the part before of those ahead, and by the next one of all others
pub record IsStill (part next ahead : Bits) (v : ℕ) : Type 0 where
  pub old : bit_in ahead v ≡ 1 → bit_in part v ≡ 1
  pub new : bit_in ahead v ≡ 0 → bit_in next v ≡ 1

-- a set has the ground places of the next part, but for places ahead, of which it has those of the
-- part before
pub record IsWriting (places : List ℕ) (part next ahead bits : Bits) : Type 0 where
  pub inside : (v : ℕ) → bit_in ahead v ≡ 1 → v < length places
  pub exact : (e : ℕ) → (bit_in bits e ≡ 1)
      ↔ ((v : ℕ) × (v < length places) × IsStill part next ahead v × (get_or places v 0 ≡ e))

module _ (places : List ℕ) (part next : Bits) where
  pub writing_begun : (changed ahead bits : Bits)
      → ((v : ℕ) → bit_in changed v ≡ 1 → v < length places) → HasImages places part bits
      → ((v : ℕ) → bit_in changed v ≡ 0 → bit_in part v ≡ bit_in next v)
      → ((v : ℕ) → bit_in ahead v ≡ bit_in changed v) → IsWriting places part next ahead bits
  writing_begun changed ahead bits inside image same all = record {
    inside = λ v here. inside v (sym (all v) ∙ here);
    exact = λ e. (
      (λ one. let (v, lv, was, is) = (image e).0
          one in (v, lv, record { old = λ here. was; new = λ out. sym (even v out) ∙ was }, is)),
      (λ (v, lv, still, is). (image e).1 (v, lv, was v still, is)),
    );
  } where
    even : (v : ℕ) → bit_in ahead v ≡ 0 → bit_in part v ≡ bit_in next v
    even v out = same v (sym (all v) ∙ out)

    was : (v : ℕ) → IsStill part next ahead v → bit_in part v ≡ 1
    was v still = ⊎_elim
        (λ one. still.old one)
        (λ ne. let lt = bit_in-lt ahead v in let out : bit_in ahead
        v ≡ 0 = omega (arith, lt, ne) in even v out ∙ still.new out)
        (cases_eq (bit_in ahead v) 1)

  pub writing_done : (ahead bits : Bits) → IsWriting places part next ahead bits
      → ((v : ℕ) → bit_in ahead v ≡ 0) → HasImages places next bits
  writing_done ahead bits h none e = (
    (λ one. let (v, lv, still, is) = (h.exact e).0 one in (v, lv, still.new (none v), is)),
    (λ (v, lv, in_next, is). (h.exact e).1 (
      v,
      lv,
      record {
        old = λ here. absurd (let z = none v in omega (arith, z, here));
        new = λ out. in_next;
      },
      is,
    )),
  )

  -- one place more is written as the next part tells
  pub writing_more : IsPlaced 256 places → (ahead ahead' bits bits' : Bits) (v : ℕ) (put : Bool)
      → IsWriting places part next ahead bits → IsTaken ahead v ahead' → (put ≡ true)
      ↔ (bit_in next v ≡ 1)
      → bit_in bits' (get_or places v 0) ≡ (if put then 1 else 0)
      → ((k : ℕ) → k ≢ get_or places v 0 → bit_in bits' k ≡ bit_in bits k)
      → IsWriting places part next ahead' bits'
  writing_more placed ahead ahead' bits bits' v put h taken told written others = record {
    inside = λ i here. ⊎_elim (λ (same : i ≡ v).
        absurd (let o = taken.out in let z : bit_in ahead' v ≡ 1 = rw same at
        here in omega (arith, o, z))) (λ ne. h.inside i (sym (taken.others i ne) ∙ here))
        (cases_eq i v);
    exact = λ e. at e (cases_eq e (get_or places v 0));
  } where
    lv : v < length places
    lv = h.inside v taken.had

    has : (b : Bool) → bit_in bits' (get_or places v 0) ≡ (if b then 1 else 0)
        → (bit_in bits' (get_or places v 0) ≡ 1) ↔ (b ≡ true)
    has true is = ((λ one. refl), (λ yes. is))
    has false is = ((λ one. absurd (omega (arith, is, one))), (λ yes. absurd (cc)))

    on : (i : ℕ) → i ≢ v → IsStill part next ahead i → IsStill part next ahead' i
    on i ne s = record {
      old = λ here. s.old (sym (taken.others i ne) ∙ here);
      new = λ out. s.new (sym (taken.others i ne) ∙ out);
    }

    back : (i : ℕ) → i ≢ v → IsStill part next ahead' i → IsStill part next ahead i
    back i ne s = record {
      old = λ here. s.old (taken.others i ne ∙ here);
      new = λ out. s.new (taken.others i ne ∙ out);
    }

    apart : (e i : ℕ) → e ≢ get_or places v 0 → get_or places i 0 ≡ e → i ≢ v
    apart e i ne is same = ne (let z = rw same at is in sym z)

    at : (e : ℕ) → (e ≡ get_or places v 0) ⊎ (e ≢ get_or places v 0) → (bit_in bits' e ≡ 1)
        ↔ ((i : ℕ) × (i < length places) × IsStill part next ahead' i × (get_or places i 0 ≡ e))
    at e (inl same) = (
      (λ one. (
        v,
        lv,
        record {
          old = λ here. absurd (let o = taken.out in omega (arith, o, here));
          new = λ out. told.0 ((has put written).0 (rw same at one));
        },
        sym same,
      )),
      (λ (i, li, still, is). let here : i ≡ v = placed.distinct i v li lv (is ∙ same) in rw same
          ((has put written).1 (told.1 ((rw here at still).new taken.out)))),
    )
    at e (inr ne) = (
      (λ one. let (i, li, still, is) = (h.exact e).0
          (sym (others e ne) ∙ one) in (i, li, on i (apart e i ne is) still, is)),
      (λ (i, li, still, is). others e ne
          ∙ (h.exact e).1 (i, li, back i (apart e i ne is) still, is)),
    )
