use Rattle.std.proofs.Common.{◌≡◌, ◌++◌, length, map, pos, Option, Some, None, Result, Ok, Err, sym, ◌∙◌}
use Rattle.std.specs.Prelude.{IfOk, IfSome, IfNone}
use Rattle.std.proofs.lemmas.Bool.{false≢true}
use Rattle.std.proofs.lemmas.Result.{IfOk-weaker}
use Rattle.sfm_spec.specs.Sets.{sum_over, whole_set}
use Rattle.sfm_spec.specs.Families.{IsLeast, Prove, base_sum_at, even_shift}
use Rattle.sfm_kind.specs.Limits.{AreInBounds}
use Rattle.sfm_flip.specs.Flipped.{negated}
use Rattle.sfm_meet.specs.Both.{both_terms}
use Rattle.sfm_meet.specs.Common.{IsLeastSplit}
use Rattle.sfm_meet.specs.Met.{IsProvedMet}
use Rattle.sfm_meet.specs.Told.{met_of, side_terms}
use Rattle.sfm_meet.proofs.TrueMet.{smaller_only}
use Rattle.sfm_meet.proofs.Found.{least_split_of, proved_of, proves_of}
use Rattle.sfm_meet.proofs.proving.proved_split.Goals as goal

pub smaller_sums-requires-clause-same : goal.smaller_sums-requires-clause-same
smaller_sums-requires-clause-same c = c.requires.meetable.same

pub certified-requires-clause-bounded_left : goal.certified-requires-clause-bounded_left
certified-requires-clause-bounded_left c =
    rw (c.names_len-n.ensures.len, c.terms-lefts.ensures.terms) c.terms-lefts.ensures.bounded

pub certified-requires-clause-bounded_right : goal.certified-requires-clause-bounded_right
certified-requires-clause-bounded_right c =
    let bounded : AreInBounds (length c.args.left.now.names)
    c.args.right.now.terms = rw c.requires.meetable.same c.terms-rights.ensures.bounded in
    rw (c.names_len-n.ensures.len, c.terms-rights.ensures.terms) bounded

pub certified-requires-clause-places : goal.certified-requires-clause-places
certified-requires-clause-places c = rw (c.terms-lefts.ensures.terms, c.terms-rights.ensures.terms)
    c.requires.meetable.places

pub certified-requires-clause-sizes : goal.certified-requires-clause-sizes
certified-requires-clause-sizes c = rw (c.terms-lefts.ensures.terms, c.terms-rights.ensures.terms)
    c.requires.meetable.sizes

pub certified-requires-clause-left : goal.certified-requires-clause-left
certified-requires-clause-left c = rw c.terms-lefts.ensures.terms c.requires.left

pub certified-requires-clause-right : goal.certified-requires-clause-right
certified-requires-clause-right c = rw c.terms-rights.ensures.terms c.requires.right

-- what follows of a set that was found
found_weaker : {X Y : Type 0} (r : Result (Option X) Y) (P Q R : X → Type 0)
    → ((t : X) → P t → Q t → R t)
    → IfOk r (λ o. IfSome o P) → IfOk r (λ o. IfSome o Q) → IfOk r (λ o. IfSome o R)
found_weaker (Ok (Some t)) P Q R f p q = f t p q
found_weaker (Ok None) P Q R f p q = tt
found_weaker (Err e) P Q R f p q = tt

-- and where none was
none_weaker : {X : Type 0} (o : Option X) (P Q : Type 0) → (P → Q) → IfNone o P → IfNone o Q
none_weaker (Some x) P Q f h = tt
none_weaker None P Q f h = f h

pub returns-then-not-are_equal-clause-unproved : goal.returns-then-not-are_equal-clause-unproved
returns-then-not-are_equal-clause-unproved c = λ h.
    let m = c.args.met.now in
    let n = length c.args.left.now.names in
    let same = smaller_only n (base_sum_at (side_terms c.args.left.now.terms) m.bases.left)
    (base_sum_at (side_terms c.args.right.now.terms) m.bases.right) c.in_ok-least.least m.common
    c.in_ok-least.ensures.count c.in_ok-least.ensures.each h.places h.smaller in
    false≢true (sym c.if-not-are_equal.true
    ∙ c.are_equal.ensures.1 (c.as_slice.ensures ∙ (same ∙ sym c.as_slice-2.ensures)))

pub returns-clause-proved : goal.returns-clause-proved
returns-clause-proved c =
    let l = c.args.left.now in
    let r = c.args.right.now in
    let m = c.args.met.now in
    let q = c.requires in
    let n = length l.names in
    let bounded : AreInBounds n r.terms = rw q.meetable.same c.terms-rights.ensures.bounded in
    let equal = c.are_equal.ensures.0 c.if-not-are_equal.false in
    let same : c.in_ok-least.least ≡ m.common = sym c.as_slice.ensures
    ∙ (equal ∙ c.as_slice-2.ensures) in
    let count = rw same at c.in_ok-least.ensures.count in
    let each = rw same at c.in_ok-least.ensures.each in
    let least = rw (
      c.terms-lefts.ensures.terms,
      c.terms-rights.ensures.terms,
      c.names_len-n.ensures.len,
    ) at c.certified.ensures.least in
    let proves = rw (
      c.terms-lefts.ensures.terms,
      c.terms-rights.ensures.terms,
      c.names_len-n.ensures.len,
    ) at c.certified.ensures.proves in
    found_weaker c.certified.result
    (IsLeast (both_terms l.terms r.terms) n (pos 1) (even_shift n (pos 0)))
    (λ t. Prove (both_terms l.terms r.terms) n (pos 1) (even_shift n (pos 0))
    (m.bases.left ++ map negated m.bases.right))
    (λ t. IsProvedMet (side_terms l.terms) (side_terms r.terms) n (met_of m)
    × IsLeastSplit (side_terms l.terms) (side_terms r.terms) n (sum_over (whole_set n) m.common) t)
    (λ t a b.
    let split = (least_split_of l.terms r.terms n c.terms-lefts.ensures.bounded bounded
    q.meetable.left_free q.meetable.right_free
    m.bases.left m.bases.right m.common t q.left q.right count each a b).0 in (
      proved_of l.terms r.terms n c.terms-lefts.ensures.bounded bounded q.meetable.left_free
          q.meetable.right_free
          m.bases.left m.bases.right m.common m.value m.members t q.left q.right count each split,
      split,
    )) least proves

pub returns-clause-unproved : goal.returns-clause-unproved
returns-clause-unproved c =
    let l = c.args.left.now in
    let r = c.args.right.now in
    let m = c.args.met.now in
    let q = c.requires in
    let n = length l.names in
    let bounded : AreInBounds n r.terms = rw q.meetable.same c.terms-rights.ensures.bounded in
    let none = rw (
      c.terms-lefts.ensures.terms,
      c.terms-rights.ensures.terms,
      c.names_len-n.ensures.len,
    ) at c.certified.ensures.unproved in
    let proves = Prove (both_terms l.terms r.terms) n (pos 1) (even_shift n (pos 0))
    (m.bases.left ++ map negated m.bases.right) in
    let met = IsProvedMet (side_terms l.terms) (side_terms r.terms) n (met_of m) in
    IfOk-weaker c.certified.result (λ o. IfNone o (proves → ⊥)) (λ o. IfNone o (met → ⊥))
    (λ o. none_weaker o (proves → ⊥) (met → ⊥)
    (λ no h. no (proves_of l.terms r.terms n c.terms-lefts.ensures.bounded bounded
    q.meetable.left_free q.meetable.right_free m.bases.left m.bases.right m.common m.value m.members
    h))) none
