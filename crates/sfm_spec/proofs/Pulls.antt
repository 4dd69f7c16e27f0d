-- Which places come along with which in every minimiser, read off from bases that prove the
-- minimum. What comes along with a place is the least minimiser and all that walks reach from the
-- place. A set between the least and the greatest minimiser is one exactly where it has, with each
-- of its places, all that comes along with it.
use Rattle.std.proofs.Common.{◌≡◌, ◌↔◌, ◌⊎◌, ℕ, ◌<◌, Bool, List, length, ℤ, pos, ◌≤ℤ◌, ◌<ℤ◌, refl, sym, ◌∙◌, inl, inr, ⊎_elim}
use Rattle.sfm_spec.specs.Sets.{Has, union, IsWithin}
use Rattle.sfm_spec.specs.Families.{Meaning, AreTerms, AreBases, IsMinimiser, IsLeast, IsGreatest, IsSigned, Prove, rest_at}
use Rattle.sfm_spec.specs.Blocks.{PullsAlong, IsFree}
use Rattle.sfm_spec.specs.Reach.{IsClosed, IsReached, IsReachedSet}
use Rattle.sfm_spec.proofs.Sets.{in_union, union_left, union_right}
use Rattle.sfm_spec.proofs.Sums.{length-union}
use Rattle.sfm_spec.proofs.Walks.{walk_inside, step_below}
use Rattle.sfm_spec.proofs.Extremes.{closed_minimiser, minimiser_closed}

-- some minimiser has the place, and some has it not, exactly where the greatest has it and the
-- least has it not
pub free_exactly : (terms : List Meaning) (n : ℕ) (q : ℤ) (shift : List ℤ)
    (least greatest : List Bool) → IsLeast terms n q shift least
    → IsGreatest terms n q shift greatest → (e : ℕ)
    → IsFree terms n q shift e ↔ (Has greatest e × (Has least e → ⊥))
free_exactly terms n q shift least greatest hl hg e = (
  (λ free. let (s, hs, has) = free.is_in in let (
    t,
    ht,
    lacks,
  ) = free.is_out in (hg.within s hs e has, λ inside. lacks (hl.within t ht e inside))),
  (λ (has, lacks). record {
    is_in = (greatest, hg.minimiser, has);
    is_out = (least, hl.minimiser, lacks);
  }),
)

-- the unions of closed sets are closed
union_closed : (terms : List Meaning) (q : ℤ) (rows : List (List ℤ)) (s t : List Bool)
    → length s ≡ length t → IsClosed terms q rows s → IsClosed terms q rows t
    → IsClosed terms q rows (union s t)
union_closed terms q rows s t same hs ht from step h inside =
    ⊎_elim (λ k. union_left s t step.to same (hs from step h k))
    (λ k. union_right s t step.to same (ht from step h k)) (in_union s t from same inside)

module _ (terms : List Meaning) (rows : List (List ℤ)) (n : ℕ) (q : ℤ) (shift : List ℤ)
    (low : pos 0 ≤ℤ q) (fit : AreTerms n terms) (bases : AreBases q terms rows)
    (prove : Prove terms n q shift rows)
    (least greatest : List Bool) (hl : IsLeast terms n q shift least)
    (hg : IsGreatest terms n q shift greatest) where
  -- a set within a minimiser has no place with z > 0
  none_over : (s : List Bool) → IsMinimiser terms n q shift s → (e : ℕ) → e < n
      → pos 0 <ℤ rest_at terms rows shift e → Has s e → ⊥
  none_over s m e l over has = (minimiser_closed terms rows n q shift low fit bases prove s
      m).0.above e l over has

  -- what walks reach from a place of the greatest minimiser, with the least one, is the least
  -- minimiser that has the place
  pub with_place : (e : ℕ) (r : List Bool) → e < n → IsReachedSet terms n q rows (λ d. d ≡ e) r
      → Has greatest e → IsMinimiser terms n q shift (union least r) × Has (union least r) e
  with_place e r le set inside = (
    (closed_minimiser terms rows n q shift low fit bases (union least r)
        (length-union least r same ∙ hl.minimiser.places) signed
        (union_closed terms q rows least r same first.1 set.closed)).0,
    union_right least r e same (set.firsts e le refl),
  ) where
    same : length least ≡ length r
    same = hl.minimiser.places ∙ sym set.places

    first : IsSigned n (rest_at terms rows shift) least × IsClosed terms q rows least
    first = minimiser_closed terms rows n q shift low fit bases prove least hl.minimiser

    all : IsSigned n (rest_at terms rows shift) greatest × IsClosed terms q rows greatest
    all = minimiser_closed terms rows n q shift low fit bases prove greatest hg.minimiser

    within : (d : ℕ) → IsReached terms q rows (λ d. d ≡ e) d → Has greatest d
    within d (inl is) = rw is inside
    within d (inr (start, steps, is, walk, ends)) =
        rw (← ends) (walk_inside terms q rows greatest all.1 start steps walk.steps_fit
        (rw is inside))

    signed : IsSigned n (rest_at terms rows shift) (union least r)
    signed = record {
      below = λ d l under. union_left least r d same (first.0.below d l under);
      above = λ d l over has. ⊎_elim (λ k. first.0.above d l over k)
          (λ k. all.0.above d l over (within d (set.reached d k))) (in_union least r d same has);
    }

  -- what comes along with a place of the greatest minimiser
  pub pulls_exactly : (e e' : ℕ) (r : List Bool) → e < n
      → IsReachedSet terms n q rows (λ d. d ≡ e) r → Has greatest e
      → PullsAlong terms n q shift e e' ↔ (Has least e' ⊎ Has r e')
  pulls_exactly e e' r le set inside = (to, from) where
    same : length least ≡ length r
    same = hl.minimiser.places ∙ sym set.places

    to : PullsAlong terms n q shift e e' → Has least e' ⊎ Has r e'
    to pulls = let (m, has) = with_place e r le set inside in in_union least r e' same
        (pulls (union least r) m has)

    reached_in : (s : List Bool) → IsClosed terms q rows s → Has s e
        → IsReached terms q rows (λ d. d ≡ e) e' → Has s e'
    reached_in s closed has (inl is) = rw is has
    reached_in s closed has (inr (start, steps, is, walk, ends)) =
        rw (← ends) (walk_inside terms q rows s closed start steps walk.steps_fit (rw is has))

    from : Has least e' ⊎ Has r e' → PullsAlong terms n q shift e e'
    from (inl k) s m has = hl.within s m e' k
    from (inr k) s m has = reached_in s
        (minimiser_closed terms rows n q shift low fit bases prove s m).1 has (set.reached e' k)

  -- the minimisers are the sets between the least and the greatest that have with each place all
  -- that comes along with it
  pub minimisers_generated : (s : List Bool) → length s ≡ n
      → IsMinimiser terms n q shift s
      ↔ (IsWithin least s × IsWithin s greatest
      × ((e e' : ℕ) → Has s e → e' < n → PullsAlong terms n q shift e e' → Has s e'))
  minimisers_generated s ls = (to, from) where
    to : IsMinimiser terms n q shift s → IsWithin least s × IsWithin s greatest
        × ((e e' : ℕ) → Has s e → e' < n → PullsAlong terms n q shift e e' → Has s e')
    to m = (hl.within s m, hg.within s m, λ e e' has l pulls. pulls s m has)

    from : IsWithin least s × IsWithin s greatest
        × ((e e' : ℕ) → Has s e → e' < n → PullsAlong terms n q shift e e' → Has s e')
        → IsMinimiser terms n q shift s
    from (under, over, all) = (closed_minimiser terms rows n q shift low fit bases s ls signed
        closed).0 where
          signed : IsSigned n (rest_at terms rows shift) s
          signed = record {
            below = λ d l neg.
                under d ((minimiser_closed terms rows n q shift low fit bases prove least
                hl.minimiser).0.below d l neg);
            above = λ d l pos' has. none_over greatest hg.minimiser d l pos' (over d has);
          }

          closed : IsClosed terms q rows s
          closed at step h has = all at step.to has
              (step_below terms rows n q low fit bases at step h)
              (λ t m inside. (minimiser_closed terms rows n q shift low fit bases prove t m).1 at
              step h
              inside)
