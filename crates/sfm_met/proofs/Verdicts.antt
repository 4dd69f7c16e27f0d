-- A verdict that tells what was found of a text is `valid` exactly where the text is right, and
-- else names its first fault.
use Rattle.std.proofs.Common.{◌≡◌, ℕ, ◌≤◌, Bool, List, [], ◌∷◌, ◌++◌, length, ℤ, pos, inl, inr, sym, ◌∙◌, arith, subst}
use Rattle.std.proofs.lemmas.Int.{ints}
use Rattle.sfm_spec.specs.Families.{AreBases, Meaning}
use Rattle.sfm_spec.proofs.Sets.{same_sets}
use Rattle.sfm_spec.proofs.Walks.{bases-at}
use Rattle.sfm_kind.specs.Names.{AreElementNames}
use Rattle.sfm_cert.specs.Solved.{form_of}
use Rattle.sfm_cert.specs.Grammar.{answer_limit}
use Rattle.sfm_check.specs.declared.verdicts.Wrong.TheVariants.{Long, Grammar, Base, Unproved, Answer}
use Rattle.sfm_check.specs.declared.verdicts.Verdict.{Verdict}
use Rattle.sfm_check.specs.declared.verdicts.Verdict.TheVariants.{Valid, Invalid}
use Rattle.sfm_meet.specs.Common.{IsLeastSplit}
use Rattle.sfm_meet.specs.Met.{MetAnswer, IsProvedMet}
use Rattle.sfm_check.specs.Truth.{Question}
use Rattle.sfm_met.specs.MetReading.{IsMetText}
use Rattle.sfm_met.specs.MetVerdict.{IsFirstNoMetBase, IsFirstWrongMet, IsMetVerdict, IsRightMet}
use Rattle.sfm_met.specs.MetFindings.{IsFoundMet}
use Rattle.sfm_met.proofs.OneMet.{one_met}

-- ---- rows of two sums, one behind the other

-- bases of both are bases of all
pub bases-append : (q : ℤ) (ts us : List Meaning) (xs ys : List (List ℤ)) → AreBases q ts xs
    → AreBases q us ys → AreBases q (ts ++ us) (xs ++ ys)
bases-append q [] us [] ys h k = k
bases-append q [] us (x ∷ xs) ys h k = absurd h
bases-append q (t ∷ ts) us [] ys h k = absurd h
bases-append q (t ∷ ts) us (x ∷ xs) ys h k = (h.0, h.1, bases-append q ts us xs ys h.2 k)

-- ---- at most one least split

same_split : (ts us : List Meaning) (n : ℕ) (v w : ℤ) (s t : List Bool) → IsLeastSplit ts us n v s
    → IsLeastSplit ts us n w t → v ≡ w
same_split ts us n v w s t h k =
    let a = h.least t k.places in
    let b = k.least s h.places in
    let c = h.value in
    let d = k.value in
    omega (arith, ints, a, b, c, d)

same_set : (ts us : List Meaning) (n : ℕ) (v : ℤ) (s t : List Bool) → IsLeastSplit ts us n v s
    → IsLeastSplit ts us n v t → s ≡ t
same_set ts us n v s t h k = same_sets s t (h.places ∙ sym k.places)
    (λ e l. h.within t k.places k.value e) (λ e l. k.within s h.places h.value e)

module _ (left right : Question) (text : List ℕ) (a : MetAnswer)
    (fine : AreElementNames left.instance.names)
    (is_text : IsMetText (form_of left.instance) (form_of right.instance) text a)
    (short : length text ≤ answer_limit) where
  -- a right text says what was read
  same_answer : (r : IsRightMet left right text) → r.answer ≡ a
  same_answer r = one_met (form_of left.instance) (form_of right.instance) text r.answer a fine
      r.is_text is_text

  proved_of : IsRightMet left right text
      → IsProvedMet left.meant right.meant (length left.instance.names) a
  proved_of r = subst (IsProvedMet left.meant right.meant (length left.instance.names))
      (same_answer r) r.proved

  split_of : IsRightMet left right text
      → IsLeastSplit left.meant right.meant (length left.instance.names) a.value a.members
  split_of r = subst (λ (x : MetAnswer). IsLeastSplit left.meant right.meant
      (length left.instance.names) x.value x.members) (same_answer r) r.split

  no_base : (line : ℕ) → IsFirstNoMetBase left right a line → IsRightMet left right text → ⊥
  no_base line (at, is_row, line_is, not_base, before) r =
      let p = proved_of r in
      not_base (bases-at (pos 1) (left.meant ++ right.meant) (a.left ++ a.right) at
      (bases-append (pos 1) left.meant right.meant a.left a.right p.left_bases p.right_bases)
      is_row).1

  no_line : (line : ℕ) → IsFirstWrongMet left right a line → IsRightMet left right text → ⊥
  no_line line (value, members, split, inl (line_is, wrong)) r =
      wrong (same_split _ _ _ _ _ _ _ (split_of r) split)
  no_line line (value, members, split, inr (line_is, same, wrong)) r =
      wrong (same_set left.meant right.meant (length left.instance.names) a.value a.members members
      (split_of r)
      (subst (λ (v : ℤ). IsLeastSplit left.meant right.meant (length left.instance.names) v members)
      (sym same) split))

  pub found_verdict : (v : Verdict) → IsFoundMet left right a v → IsMetVerdict left right text v
  found_verdict Valid f = record { answer = a; is_text = is_text; proved = f.0; split = f.1 }
  found_verdict (Invalid line Long) f = absurd f
  found_verdict (Invalid line Grammar) f = absurd f
  found_verdict (Invalid line Base) f = ((λ r. no_base line f r), (short, (a, is_text, f)))
  found_verdict (Invalid line Unproved) f = ((λ r. f.3 (proved_of r)), (short, (a, is_text, f)))
  found_verdict (Invalid line Answer) f = ((λ r. no_line line f.1 r), (short, (a, is_text, f)))
