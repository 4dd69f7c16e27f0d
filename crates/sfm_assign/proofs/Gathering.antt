-- What a demand leads to, put together slot by slot from what the holders of its slots lead to.
use Rattle.std.proofs.Common.{◌≡◌, inl, inr, ⊎_elim, ℕ, ◌<◌, Bool, true, false, List, length, set, ℤ, pos, ◌≤ℤ◌, refl, sym, ◌∙◌, arith, MatchBool, length-set, get_or-set_same, get_or-set_other}
use Rattle.std.proofs.lemmas.Bool.{cases_eq}
use Rattle.std.proofs.lemmas.List.{length-replicate}
use Rattle.sfm_spec.specs.Sets.{Has, IsWithin, empty_set, union}
use Rattle.sfm_spec.proofs.Lattice.{none_in_empty}
use Rattle.sfm_spec.proofs.Sets.{in_union, union_left, union_right}
use Rattle.sfm_spec.proofs.Sums.{length-union}
use Rattle.sfm_cells.specs.Splits.{amount_at}
use Rattle.sfm_cells.specs.Cells.{label_at}
use Rattle.sfm_assign.specs.Spread.{IsStepClosed, LeadsTo, AreLedTo, LeadsToRoom, IsAnswer, IsHeldBy, Holds, IsFullClosed, AreTakenIn, HeldWithRoom, IsPutTo}
use Rattle.sfm_assign.specs.declared.spread.Answer.{Answer}
use Rattle.sfm_assign.specs.declared.spread.Answer.TheVariants.{Room, Full}

-- nothing is on a cell
abbrev pub nothing_on : List ℤ → ℕ → Type 0
nothing_on y f = amount_at y f ≤ℤ pos 0

-- the demand of a cell that has something holds its slot
pub holds_by : (whos slots : List ℕ) (y : List ℤ) (s cell h : ℕ) → IsHeldBy whos slots y s cell
    → h ≡ label_at whos cell → Holds whos slots y s h
holds_by whos slots y s cell h held is =
    record {
      cell = cell;
      exists = held.exists;
      mine = sym is;
      there = held.there;
      some = held.some;
    }

module _ (n : ℕ) (whos slots : List ℕ) (y rooms : List ℤ) where
  -- what is gathered so far for the demand u: it leads to all of it
  pub record IsGathered (u : ℕ) (found : List Bool) : Type 0 where
    pub whole : IsFullClosed n whos slots y rooms found
    pub led : (v : ℕ) → Has found v → LeadsTo whos slots y u v

  -- the slot of a cell is done with: it's full, and all that hold it were found
  pub record IsDone (found : List Bool) (e : ℕ) : Type 0 where
    pub full : amount_at rooms (label_at slots e) ≤ℤ pos 0
    pub holders : (h : ℕ) → Holds whos slots y (label_at slots e) h → Has found h

  pub gathered_none : (u : ℕ) → IsGathered u (empty_set n)
  gathered_none u = record {
    whole = record {
      places = length-replicate n false;
      closed = record {
        step = λ e f le lf has shared some.
            absurd (none_in_empty n (label_at whos e) has);
      };
      full = λ e lt has. absurd (none_in_empty n (label_at whos e) has);
    };
    led = λ v has. absurd (none_in_empty n v has);
  }

  -- a demand leads to each holder of a slot of its list
  pub led_to_holder : (e h : ℕ) → e < length whos → Holds whos slots y (label_at slots e) h
      → LeadsTo whos slots y (label_at whos e) h
  led_to_holder e h le holds = λ set closed has.
      rw (← holds.mine) (closed.step e holds.cell le holds.exists has holds.there holds.some)

  pub gathered_more : (e : ℕ) (before after : List Bool) → e < length whos
      → IsGathered (label_at whos e) before
      → AreTakenIn n whos slots y rooms (label_at slots e) before after
      → IsGathered (label_at whos e) after
  gathered_more e before after le so taken = record {
    whole = taken.whole;
    led = λ v has. ⊎_elim (λ old. so.led v old)
        (λ new. let (h, holds, leads) = new in λ set closed own.
        leads set closed (led_to_holder e h le holds set closed own)) (taken.led v has);
  }

  pub done_still : (before after : List Bool) (e : ℕ) → IsWithin before after → IsDone before e
      → IsDone after e
  done_still before after e within d =
      record { full = d.full; holders = λ h holds. within h (d.holders h holds) }

  -- where all slots of u are done with, it leads to what was gathered, and to itself
  pub gathered_all : (u : ℕ) (found : List Bool) → u < n → IsGathered u found
      → ((e : ℕ) → e < length whos → label_at whos e ≡ u → IsDone found e)
      → AreLedTo n whos slots y rooms u (set found u true)
  gathered_all u found lu so done = record {
    places = length-set found u true ∙ so.whole.places;
    begins = here;
    closed = record {
      step = λ e f le lf has shared some.
          ⊎_elim (λ (is : label_at whos e ≡ u). more (label_at whos f)
          ((done e le is).holders (label_at whos f)
          (record { cell = f; exists = lf; mine = refl; there = shared; some = some })))
          (λ ne. more (label_at whos f)
          (so.whole.closed.step e f le lf (only (label_at whos e) ne has) shared some))
          (cases_eq (label_at whos e) u);
    };
    least = λ v has. ⊎_elim (λ (is : v ≡ u). rw is (λ s closed own. own))
        (λ ne. so.led v (only v ne has)) (cases_eq v u);
    full = λ e le has. ⊎_elim (λ (is : label_at whos e ≡ u). (done e le is).full)
        (λ ne. so.whole.full e le (only (label_at whos e) ne has)) (cases_eq (label_at whos e) u);
  } where
    within : u < length found
    within = let p = so.whole.places in omega (arith, p, lu)

    here : Has (set found u true) u
    here = get_or-set_same found u true false within

    more : (v : ℕ) → Has found v → Has (set found u true) v
    more v has = ⊎_elim (λ (is : v ≡ u). rw is here)
        (λ ne. get_or-set_other found u v true false ne ∙ has) (cases_eq v u)

    only : (v : ℕ) → (v ≡ u → ⊥) → Has (set found u true) v → Has found v
    only v ne has = sym (get_or-set_other found u v true false ne) ∙ has

  -- a holder leads to room, so all that could use the slot do
  pub held_room : (e : ℕ) → e < length whos → HeldWithRoom whos slots y rooms (label_at slots e)
      → LeadsToRoom whos slots y rooms (label_at whos e)
  held_room e le (h, holds, room) =
      record {
        some = λ set closed has full.
            room.some set closed (led_to_holder e h le holds set closed has) full;
      }

  -- ---- one slot

  -- each holder of a slot leads to all others
  held_by_all : (s : ℕ) (found : List Bool) (h g : ℕ) → IsStepClosed whos slots y found
      → Holds whos slots y s h → Has found h → Holds whos slots y s g → Has found g
  held_by_all s found h g closed a has b =
      rw (← b.mine) (closed.step a.cell b.cell a.exists b.exists (rw a.mine has)
      (b.there ∙ sym a.there) b.some)

  pub taken_none : (s : ℕ) (found : List Bool) → IsFullClosed n whos slots y rooms found
      → ((h : ℕ) → Holds whos slots y s h → ⊥) → AreTakenIn n whos slots y rooms s found found
  taken_none s found whole none =
      record {
        kept = λ v has. has;
        whole = whole;
        holders = λ h holds. absurd (none h holds);
        led = λ v has. inl has;
      }

  pub taken_before : (s h : ℕ) (found : List Bool) → IsFullClosed n whos slots y rooms found
      → Holds whos slots y s h → Has found h → AreTakenIn n whos slots y rooms s found found
  taken_before s h found whole holds has =
      record {
        kept = λ v in_found. in_found;
        whole = whole;
        holders = λ g other. held_by_all s found h g whole.closed holds has other;
        led = λ v in_found. inl in_found;
      }

  pub taken_now : (s h : ℕ) (found joined : List Bool) → IsFullClosed n whos slots y rooms found
      → Holds whos slots y s h → AreLedTo n whos slots y rooms h joined
      → AreTakenIn n whos slots y rooms s found (union found joined)
  taken_now s h found joined whole holds leads = record {
    kept = left;
    whole = record {
      places = length-union found joined even ∙ whole.places;
      closed = closed;
      full = λ e le has. ⊎_elim (λ old. whole.full e le old) (λ new. leads.full e le new)
          (in_union found joined (label_at whos e) even has);
    };
    holders = λ g other. held_by_all s (union found joined) h g closed holds (right h leads.begins)
        other;
    led = λ v has. ⊎_elim (λ old. inl old) (λ new. inr (h, holds, leads.least v new))
        (in_union found joined v even has);
  } where
    even : length found ≡ length joined
    even = whole.places ∙ sym leads.places

    left : (v : ℕ) → Has found v → Has (union found joined) v
    left v has = union_left found joined v even has

    right : (v : ℕ) → Has joined v → Has (union found joined) v
    right v has = union_right found joined v even has

    closed : IsStepClosed whos slots y (union found joined)
    closed = record {
      step = λ e f le lf has shared some.
          ⊎_elim (λ old. left (label_at whos f) (whole.closed.step e f le lf old shared some))
          (λ new. right (label_at whos f) (leads.closed.step e f le lf new shared some))
          (in_union found joined (label_at whos e) even has);
    }

  -- the same by what is told of the holder
  pub put_taken : (s h : ℕ) (found after : List Bool) (answer : Answer) (room : Bool)
      → IsFullClosed n whos slots y rooms found → Holds whos slots y s h
      → IsAnswer n whos slots y rooms h answer → IsPutTo answer found after room
      → MatchBool room (HeldWithRoom whos slots y rooms s)
      (AreTakenIn n whos slots y rooms s found after)
  put_taken s h found after Room room whole holds leads is = rw is (h, holds, leads)
  put_taken s h found after (Full joined) room whole holds leads (full, same) =
      rw (full, same) (taken_now s h found joined whole holds leads)

  -- a set that is told of has as many places
  pub put_even : (h : ℕ) (found : List Bool) (answer : Answer)
      → IsFullClosed n whos slots y rooms found → IsAnswer n whos slots y rooms h answer
      → (set : List Bool) → answer ≡ Full set → length set ≡ length found
  put_even h found answer whole leads set is = (rw is at leads).places ∙ sym whole.places
