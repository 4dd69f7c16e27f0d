-- The rank of a matroid: it grows with the part, by at most one for a place, and is submodular.
-- Textbook: Schrijver, Combinatorial Optimization, section 39.
use Rattle.std.proofs.Common.{◌≡◌, ℕ, zero, suc, ◌+◌, ◌<◌, ◌≤◌, Bool, true, false, List, length, get_or, set, ℤ, pos, ◌+ℤ◌, ◌*ℤ◌, ◌≤ℤ◌, sym, ◌∙◌, arith, ⊎_elim, length-set}
use Rattle.std.proofs.lemmas.Bool.{false≢true, cases_lt, cases_Bool}
use Rattle.std.proofs.lemmas.Int.{ints}
use Rattle.std.proofs.lemmas.List.{length-replicate}
use Rattle.std.proofs.Math.IntN.{*ℤ-zero}
use Rattle.sfm_spec.specs.Sets.{IsWithin, empty_set, size}
use Rattle.sfm_spec.specs.Terms.{IsSubmodular}
use Rattle.sfm_spec.proofs.Scaled.{times-mono, times-add}
use Rattle.sfm_spec.proofs.Sizes.{size-empty, size_within}
use Rattle.sfm_law.proofs.LocalLaw.{on_all, local_law}
use Rattle.sfm_rank.specs.Matroids.{IsMatroid, AreRanks}
use Rattle.sfm_rank.proofs.Members.{has_or_out, has_place, has_set, out_gone, out_has, set_has, set_here, set_wider, set_within, size-in, size-out}

-- an independent set of the rank of t, between s and t
pub record IsBetween (IsIndependent : List Bool → Type 0) (rank : List Bool → ℕ)
    (s t b : List Bool) : Type 0 where
  pub places : length b ≡ length t
  pub wider : IsWithin s b
  pub within : IsWithin b t
  pub independent : IsIndependent b
  pub full : size b ≡ rank t

module _ (k : ℕ) (IsIndependent : List Bool → Type 0) (rank : List Bool → ℕ)
    (matroid : IsMatroid k IsIndependent) (ranks : AreRanks k IsIndependent rank) where
  pub rank-most : (s t : List Bool) → length s ≡ k → length t ≡ k → IsWithin s t → IsIndependent s
      → size s ≤ rank t
  rank-most s t ks kt within free = (ranks t kt).greatest s (ks ∙ sym kt) within free

  grown : (fuel : ℕ) (s t : List Bool) → length s ≡ k → length t ≡ k → IsWithin s t
      → IsIndependent s → rank t ≤ size s + fuel → (b : List Bool)
      × IsBetween IsIndependent rank s t b
  grown zero s t ks kt within free few =
      let m = rank-most s t ks kt within free in (
        s,
        record {
          places = ks ∙ sym kt;
          wider = λ e h. h;
          within = within;
          independent = free;
          full = omega (arith, few, m);
        },
      )
  grown (suc fuel) s t ks kt within free few = ⊎_elim
      (λ (less : size s < rank t).
      let (j, kj, wj, fj, sj) = (ranks t kt).reached in
      let (e, hj, out, more) = matroid.grows s j ks (kj ∙ kt) free fj (omega (arith, less, sj)) in
      let lt = has_place j e hj in
      let z = size-in s e (omega (arith, lt, kj, kt, ks)) out in
      let (b, h) = grown fuel (set s e true) t (length-set s e true ∙ ks) kt
      (set_within s t e within (wj e hj)) more (omega (arith, few, z)) in (
        b,
        record {
          places = h.places;
          wider = λ i hi. h.wider i (set_has s e i hi);
          within = h.within;
          independent = h.independent;
          full = h.full;
        },
      ))
      (λ (full : rank t ≤ size s).
      let m = rank-most s t ks kt within free in (
        s,
        record {
          places = ks ∙ sym kt;
          wider = λ e h. h;
          within = within;
          independent = free;
          full = omega (arith, full, m);
        },
      ))
      (cases_lt (size s) (rank t))

  -- an independent part grows to one of full rank
  pub extend : (s t : List Bool) → length s ≡ k → length t ≡ k → IsWithin s t → IsIndependent s
      → (b : List Bool) × IsBetween IsIndependent rank s t b
  extend s t ks kt within free = grown (rank t) s t ks kt within free (omega arith)

  pub rank-mono : (s t : List Bool) → length s ≡ k → length t ≡ k → IsWithin s t → rank s ≤ rank t
  rank-mono s t ks kt within =
      let (j, kj, wj, fj, sj) = (ranks s ks).reached in
      let m = rank-most j t (kj ∙ ks) kt (λ e h. within e (wj e h)) fj in
      omega (arith, sj, m)

  pub rank-size : (s : List Bool) → length s ≡ k → rank s ≤ size s
  rank-size s ks =
      let (j, kj, wj, fj, sj) = (ranks s ks).reached in
      let m = size_within j s kj wj in
      omega (arith, sj, m)

  -- a place more adds at most 1
  pub rank-one : (s : List Bool) (e : ℕ) → length s ≡ k → e < k → rank (set s e true) ≤ suc (rank s)
  rank-one s e ks lt =
      let ke = length-set s e true in
      let (j, kj, wj, fj, sj) = (ranks (set s e true) (ke ∙ ks)).reached in
      let kj' : length j ≡ k = kj ∙ (ke ∙ ks) in
      let ko = length-set j e false ∙ kj' in
      let w : IsWithin (set j e false) s = λ i h.
      ⊎_elim (λ (same : i ≡ e). absurd (out_gone j e (let hj = rw same at h in hj)))
      (λ old. old) (has_set s e i (wj i (out_has j e i h))) in
      let m = rank-most (set j e false) s ko ks w
      (matroid.parts (set j e false) j ko kj' (out_has j e) fj) in
      let z = size-out j e (omega (arith, kj', lt)) in
      omega (arith, sj, m, z)

  -- a place that cannot be taken to an independent set of full rank adds nothing
  pub rank-same : (s b : List Bool) (e : ℕ) → length s ≡ k → length b ≡ k → e < k → IsWithin b s
      → IsIndependent b → size b ≡ rank s → (IsIndependent (set b e true) → ⊥)
      → rank (set s e true) ≡ rank s
  rank-same s b e ks kb lt within free full never =
      let ke = length-set s e true ∙ ks in
      let (c, h) = extend b (set s e true) kb ke (λ i hi. set_has s e i (within i hi)) free in
      let kc : length c ≡ k = h.places ∙ ke in
      let up = rank-mono s (set s e true) ks ke (set_wider s e) in
      ⊎_elim
      (λ has. absurd (never (matroid.parts (set b e true) c (length-set b e true ∙ kb) kc
      (set_within b c e h.wider has) h.independent)))
      (λ out.
      let m = rank-most c s kc ks (λ i hi.
      ⊎_elim (λ (same : i ≡ e). absurd (false≢true (sym out ∙ (let hj = rw same at hi in hj))))
      (λ old. old) (has_set s e i (h.within i hi))) h.independent in
      let f = h.full in
      omega (arith, m, f, up))
      (cases_Bool (get_or c e false))

  -- a place that can be taken to one adds 1
  pub rank-more : (s b : List Bool) (e : ℕ) → length s ≡ k → length b ≡ k → e < k → IsWithin b s
      → size b ≡ rank s → get_or b e false ≡ false → IsIndependent (set b e true)
      → rank (set s e true) ≡ suc (rank s)
  rank-more s b e ks kb lt within full out free =
      let ke = length-set s e true ∙ ks in
      let m = rank-most (set b e true) (set s e true) (length-set b e true ∙ kb) ke
      (set_within b (set s e true) e (λ i hi. set_has s e i (within i hi))
      (set_here s e (omega (arith, lt, ks)))) free in
      let z = size-in b e (omega (arith, lt, kb)) out in
      let o = rank-one s e ks lt in
      omega (arith, m, z, o, full)

  rank-local : (s : List Bool) (a b : ℕ) → length s ≡ k → a < b → b < k → get_or s a false ≡ false
      → get_or s b false ≡ false
      → rank (set (set s a true) b true) + rank s ≤ rank (set s a true) + rank (set s b true)
  rank-local s a b ks lt lb oa ob =
      let sa = set s a true in
      let sb = set s b true in
      let sab = set (set s a true) b true in
      let ka = length-set s a true ∙ ks in
      let kb = length-set s b true ∙ ks in
      let kab = length-set sa b true ∙ ka in
      let (j, kj, wj, fj, sj) = (ranks s ks).reached in
      let (c, hc) = extend j sb (kj ∙ ks) kb (λ i h. set_has s b i (wj i h)) fj in
      let kc : length c ≡ k = hc.places ∙ kb in
      let bab : IsWithin sb sab = λ i h.
      ⊎_elim (λ (same : i ≡ b). rw same (set_here sa b (omega (arith, ka, lb))))
      (λ old. set_has sa b i (set_has s a i old)) (has_set s b i h) in
      let (d, hd) = extend c sab kc kab (λ i h. bab i (hc.within i h)) hc.independent in
      let kd : length d ≡ k = hd.places ∙ kab in
      let up = rank-mono s sa ks ka (set_wider s a) in
      let one = rank-one sb a kb (omega (arith, lt, lb)) in
      let turned : IsWithin sab (set sb a true) = λ i h. ⊎_elim
      (λ (same : i ≡ b). set_has sb a i (rw same (set_here s b (omega (arith, ks, lb)))))
      (λ old. ⊎_elim (λ (same : i ≡ a). rw same (set_here sb a (omega (arith, kb, lt, lb))))
      (λ older. set_has sb a i (set_has s b i older)) (has_set s a i old))
      (has_set sa b i h) in
      let less = rank-mono sab (set sb a true) kab (length-set sb a true ∙ kb) turned in
      ⊎_elim
      (λ has.
      let ja = length-set j a true ∙ (kj ∙ ks) in
      let oj = has_or_out j a (λ h. false≢true (sym oa ∙ wj a h)) in
      let m = rank-most (set j a true) sa ja ka
      (set_within j sa a (λ i h. set_has s a i (wj i h))
      (set_here s a (omega (arith, ks, lt, lb))))
      (matroid.parts (set j a true) d ja kd
      (set_within j d a (λ i h. hd.wider i (hc.wider i h)) has) hd.independent) in
      let z = size-in j a (omega (arith, kj, ks, lt, lb)) oj in
      omega (arith, m, z, sj, one, less))
      (λ out.
      let w : IsWithin d sb = λ i h. ⊎_elim
      (λ (same : i ≡ b). rw same (set_here s b (omega (arith, ks, lb))))
      (λ old. ⊎_elim (λ (same : i ≡ a).
      absurd (false≢true (sym out ∙ (let hj = rw same at h in hj))))
      (λ older. set_has s b i older) (has_set s a i old))
      (has_set sa b i (hd.within i h)) in
      let m = rank-most d sb kd kb w hd.independent in
      let f = hd.full in
      omega (arith, m, f, up))
      (cases_Bool (get_or d a false))

  pub rank-submodular : (w : ℤ) → pos 0 ≤ℤ w → IsSubmodular k (on_all (λ s. w *ℤ pos (rank s)))
  rank-submodular w low = local_law k (λ s. w *ℤ pos (rank s)) none (record { pairs = pairs }) where
    none : (w *ℤ pos (rank (empty_set k))) ≡ pos 0
    none =
        let r = rank-size (empty_set k) (length-replicate k false) in
        let z = size-empty k in
        let e : rank (empty_set k) ≡ 0 = omega (arith, r, z) in
        rw e (*ℤ-zero w)

    pairs : (s : List Bool) (a b : ℕ) → length s ≡ k → a < b → b < k → get_or s a false ≡ false
        → get_or s b false ≡ false
        → ((w *ℤ pos (rank (set (set s a true) b true))) +ℤ (w *ℤ pos (rank s)))
        ≤ℤ ((w *ℤ pos (rank (set s a true))) +ℤ (w *ℤ pos (rank (set s b true))))
    pairs s a b ks lt lb oa ob =
        let r = rank-local s a b ks lt lb oa ob in
        let up = times-mono w (pos (rank (set (set s a true) b true)) +ℤ pos (rank s))
        (pos (rank (set s a true)) +ℤ pos (rank (set s b true))) low (omega (arith, ints, r)) in
        let left = times-add w (pos (rank (set (set s a true) b true))) (pos (rank s)) in
        let right = times-add w (pos (rank (set s a true))) (pos (rank (set s b true))) in
        omega (arith, ints, up, left, right)
