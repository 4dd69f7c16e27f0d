-- Rows turned round, a bit at a time.
use Rattle.std.proofs.Common.{◌≡◌, ◌≢◌, ◌↔◌, ⊎_elim, ℕ, Bool, true, false, if◌then◌else◌, ◌+◌, ◌<◌, ◌≤◌, List, length, set, refl, sym, ap, ◌∙◌, arith, length-set, get_or-set_same, get_or-set_other}
use Rattle.std.proofs.lemmas.Bool.{false≢true, cases_eq, cases_lt}
use Rattle.std.proofs.lemmas.List.{get_or_past}
use Rattle.sfm_reach.specs.declared.bits.Bits.{Bits}
use Rattle.sfm_reach.specs.Bits.{bit_in, set_at, blank_bits, IsTaken}
use Rattle.sfm_reach.specs.Turned.{AreTurned}
use Rattle.sfm_reach.proofs.Words.{bit_in-lt, within_words}

-- the bits at e are those of the row after, but at places ahead, which are among those in which the
-- rows differ; all other bits stay
pub record IsTurning (e : ℕ) (before after ahead : Bits) (old new : List Bits) : Type 0 where
  pub count : length new ≡ length old
  pub inside : (t : ℕ) → bit_in ahead t ≡ 1 → bit_in before t ≢ bit_in after t
  pub written : (t : ℕ) → t < length old → bit_in before t ≢ bit_in after t → bit_in ahead t ≡ 0
      → bit_in (set_at new t) e ≡ bit_in after t
  pub kept : (t : ℕ) → bit_in before t ≡ bit_in after t
      → bit_in (set_at new t) e ≡ bit_in (set_at old t) e
  pub others : (k t : ℕ) → k ≢ e → bit_in (set_at new t) k ≡ bit_in (set_at old t) k

pub turning_begun : (e : ℕ) (before after changed ahead : Bits) (old : List Bits)
    → ((t : ℕ) → (bit_in changed t ≡ 0) ↔ (bit_in before t ≡ bit_in after t))
    → ((t : ℕ) → bit_in ahead t ≡ bit_in changed t) → IsTurning e before after ahead old old
turning_begun e before after changed ahead old same all = record {
  count = refl;
  inside = λ t one even. let a = all t in let z = (same t).1 even in omega (arith, a, z, one);
  written = λ t l apart none. absurd (apart ((same t).0 (sym (all t) ∙ none)));
  kept = λ t h. refl;
  others = λ k t h. refl;
}

-- a truth value tells a bit
told_bit : (b : Bool) (x : ℕ) → x < 2 → (b ≡ true) ↔ (x ≡ 1) → (if b then 1 else 0) ≡ x
told_bit true x lt is = sym (is.0 refl)
told_bit false x lt is = ⊎_elim (λ one. absurd (false≢true (is.1 one)))
    (λ ne. omega (arith, lt, ne)) (cases_eq x 1)

-- one place more
pub turning_more : (e : ℕ) (before after ahead ahead' : Bits) (old new : List Bits) (t : ℕ)
    (s : Bits) (put : Bool) → IsTurning e before after ahead old new → t < length old
    → IsTaken ahead t ahead'
    → (put ≡ true) ↔ (bit_in after t ≡ 1) → bit_in s e ≡ (if put then 1 else 0)
    → ((k : ℕ) → k ≢ e → bit_in s k ≡ bit_in (set_at new t) k)
    → IsTurning e before after ahead' old (set new t s)
turning_more e before after ahead ahead' old new t s put h inside taken told wrote others = record {
  count = length-set new t s ∙ h.count;
  inside = λ k one. ⊎_elim (λ (same : k ≡ t).
      absurd (let o = taken.out in let z : bit_in ahead' t ≡ 1 = rw same at
      one in omega (arith, o, z))) (λ ne. h.inside k (sym (taken.others k ne) ∙ one))
      (cases_eq k t);
  written = λ k l apart none. ⊎_elim
      (λ (same : k ≡ t). ap (λ z. bit_in z e) (here k same)
      ∙ (wrote ∙ (told_bit put (bit_in after t) (bit_in-lt after t) told
      ∙ ap (λ z. bit_in after z) (sym same))))
      (λ ne. rw (there k ne) (h.written k l apart (sym (taken.others k ne) ∙ none)))
      (cases_eq k t);
  kept = λ k even. ⊎_elim (λ (same : k ≡ t). absurd (h.inside t taken.had (rw same at even)))
      (λ ne. rw (there k ne) (h.kept k even)) (cases_eq k t);
  others = λ j k ne. ⊎_elim (λ same.
      rw (here k same) (others j ne
      ∙ (h.others j t ne ∙ ap (λ z. bit_in (set_at old z) j) (sym same))))
      (λ apart. rw (there k apart) (h.others j k ne)) (cases_eq k t);
} where
  l : t < length new
  l = omega (arith, inside, h.count)

  here : (k : ℕ) → k ≡ t → set_at (set new t s) k ≡ s
  here k same = ap (λ z. set_at (set new t s) z) same ∙ get_or-set_same new t s blank_bits l

  there : (k : ℕ) → k ≢ t → set_at (set new t s) k ≡ set_at new k
  there k ne = get_or-set_other new t k s blank_bits ne

-- no place is ahead
pub turning_done : (e : ℕ) (before after ahead : Bits) (old new : List Bits) (t : ℕ)
    → IsTurning e before after ahead old new → t < length old → bit_in ahead t ≡ 0
    → bit_in (set_at old t) e ≡ bit_in before t → bit_in (set_at new t) e ≡ bit_in after t
turning_done e before after ahead old new t h l none was =
    ⊎_elim (λ even. h.kept t even ∙ (was ∙ even)) (λ apart. h.written t l apart none)
    (cases_eq (bit_in before t) (bit_in after t))

-- the first k rows are turned round
pub record AreTurnedTo (k : ℕ) (rows back : List Bits) : Type 0 where
  pub count : length back ≡ 256
  pub exact : (e t : ℕ) → e < k → t < 256 → bit_in (set_at back t) e ≡ bit_in (set_at rows e) t
  pub none : (e t : ℕ) → k ≤ e → t < 256 → bit_in (set_at back t) e ≡ 0

-- a row that changes, and the sets with it
pub turned_set : (rows back back' : List Bits) (e : ℕ) (row : Bits) → e < length rows
    → AreTurned rows back → length back' ≡ 256
    → ((t : ℕ) → t < 256 → bit_in (set_at back' t) e ≡ bit_in row t)
    → ((k t : ℕ) → k ≢ e → bit_in (set_at back' t) k ≡ bit_in (set_at back t) k)
    → AreTurned (set rows e row) back'
turned_set rows back back' e row l h count column others = record {
  count = count;
  exact = λ k t lt. ⊎_elim
      (λ same. ap (λ z. bit_in (set_at back' t) z) same
      ∙ (column t lt ∙ ap (λ s. bit_in s t)
      (sym (ap (λ z. set_at (set rows e row) z) same
      ∙ get_or-set_same rows e row blank_bits l))))
      (λ ne. rw (get_or-set_other rows e k row blank_bits ne) (others k t ne ∙ h.exact k t lt))
      (cases_eq k e);
}

-- a row more
pub turned_more : (k : ℕ) (rows back back' : List Bits) (row : Bits) → AreTurnedTo k rows back
    → length back' ≡ 256 → set_at rows k ≡ row
    → ((t : ℕ) → t < 256 → bit_in (set_at back' t) k ≡ bit_in row t)
    → ((e t : ℕ) → e ≢ k → bit_in (set_at back' t) e ≡ bit_in (set_at back t) e)
    → AreTurnedTo (k + 1) rows back'
turned_more k rows back back' row h count is column others = record {
  count = count;
  exact = λ e t l lt. ⊎_elim
      (λ same. ap (λ z. bit_in (set_at back' t) z) same
      ∙ (column t lt ∙ ap (λ s. bit_in s t) (sym (ap (λ z. set_at rows z) same ∙ is))))
      (λ ne. others e t ne ∙ h.exact e t (omega (arith, l, ne)) lt)
      (cases_eq e k);
  none = λ e t l lt. others e t (λ same. omega (arith, same, l)) ∙ h.none e t (omega (arith, l)) lt;
}

-- all of them
pub turned_all : (k : ℕ) (rows back : List Bits) → AreTurnedTo k rows back → length rows ≤ k
    → AreTurned rows back
turned_all k rows back h all = record {
  count = h.count;
  exact = λ e t lt. ⊎_elim
      (λ l. h.exact e t l lt)
      (λ ge. h.none e t ge lt ∙ sym
      (ap (λ s. bit_in s t) (get_or_past rows e blank_bits (omega (arith, all, ge)))
      ∙ within_words blank_bits t (omega arith)))
      (cases_lt e k);
}
