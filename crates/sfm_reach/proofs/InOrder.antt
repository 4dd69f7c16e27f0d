-- Parts of a term whose places are the first of the ground, in their order: their words tell their
-- ground places.
use Rattle.std.proofs.Common.{◌≡◌, ◌↔◌, ℕ, ◌<◌, ◌≤◌, Bool, List, length, sym, ◌∙◌, arith}
use Rattle.sfm_base.specs.Words.{AreWords, bit_of, members}
use Rattle.sfm_base.proofs.Members.{in_set, in_words}
use Rattle.sfm_spec.specs.Sets.{Has}
use Rattle.sfm_reach.specs.declared.bits.Bits.{Bits}
use Rattle.sfm_reach.specs.Bits.{HasPlaces, bit_in}
use Rattle.sfm_reach.specs.Image.{AreInOrder}
use Rattle.sfm_reach.proofs.Placing.{has_place}

-- there are at most four words for 256 places
pub four_words : (part : List Bool) (words : List ℕ) → AreWords (length part) words
    → length part ≤ 256 → length words ≤ 4
four_words part words h few = let counted = h.counted in omega arith

-- a part by its words
pub told_by_words : (part : List Bool) (words : List ℕ) (bits : Bits)
    → part ≡ members (length part) words → AreWords (length part) words
    → ((e : ℕ) → bit_in bits e ≡ bit_of words e) → (e : ℕ) → (bit_in bits e ≡ 1) ↔ Has part e
told_by_words part words bits is kept told e = (
  (λ one. rw is (in_set (length part) words e kept (sym (told e) ∙ one))),
  (λ has. told e ∙ in_words (length part) words e kept (rw (← is) has)),
)

-- a part is its own image
pub has_by_words : (places : List ℕ) (part : List Bool) (bits : Bits) → AreInOrder places
    → length part ≡ length places → ((e : ℕ) → (bit_in bits e ≡ 1) ↔ Has part e)
    → HasPlaces places part (length places) bits
has_by_words places part bits order sized told e = (
  (λ one. let has = (told e).0 one in let l : e < length places = let p = has_place part e
      has in omega (arith, p, sized) in (e, l, has, order e l)),
  (λ (v, l, has, same). rw (sym same ∙ order v l) ((told v).1 has)),
)
