-- A search for what a demand leads to: what stays true as it goes on, and what it has found once
-- all that were found are settled.
use Rattle.std.proofs.Common.{◌≡◌, ◌⊎◌, inl, inr, ⊎_elim, ℕ, ◌+◌, ◌<◌, ◌≤◌, Bool, true, false, cond, List, [], ◌∷◌, ◌++◌, length, get_or, set, ℤ, pos, ◌≤ℤ◌, Option, Some, None, MatchOption, refl, sym, ap, ◌∙◌, arith, length-set, get_or-set_same, get_or-set_other}
use Rattle.std.proofs.lemmas.Int.{ints}
use Rattle.std.proofs.lemmas.Bool.{cases_eq, cases_lt}
use Rattle.std.proofs.lemmas.List.{length_push, get_or_push, get_or_append_left, length-replicate}
use Rattle.std.proofs.lemmas.List.Sums.{sum_by-set}
use Rattle.sfm_spec.specs.Sets.{Has, IsWithin, empty_set, union, size}
use Rattle.sfm_spec.proofs.Lattice.{none_in_empty}
use Rattle.sfm_spec.proofs.Sets.{in_union, union_left, union_right, has_or_not}
use Rattle.sfm_spec.proofs.Sizes.{size_within, size_below_length}
use Rattle.sfm_spec.proofs.Sums.{length-union}
use Rattle.sfm_cells.specs.Splits.{amount_at}
use Rattle.sfm_cells.specs.Cells.{label_at}
use Rattle.sfm_assign.specs.Spread.{LeadsTo, AreLedTo, LeadsToRoom, IsAnswer, AreAnswers, AreTold, answer_at, IsSettled, Waits, IsSpread, IsJoin, IsWider}
use Rattle.sfm_assign.specs.declared.spread.Answer.{Answer}
use Rattle.sfm_assign.specs.declared.spread.Answer.TheVariants.{Room, Full}

-- ---- sets with one place more

abbrev one : Bool → ℕ
one b = cond b 1 0

size-insert : (s : List Bool) (e : ℕ) → e < length s → get_or s e false ≡ false
    → size (set s e true) ≡ size s + 1
size-insert s e l lacks =
    let h = sum_by-set one s e true false l in
    let z : one (get_or s e false) ≡ 0 = ap one lacks in
    omega (arith, h, z)

put_keeps : (s : List Bool) (e : ℕ) → e < length s → IsWithin s (set s e true)
put_keeps s e l d h = ⊎_elim (λ same. rw same (get_or-set_same s e true false l))
    (λ ne. get_or-set_other s e d true false ne ∙ h) (cases_eq d e)

put_only : (s : List Bool) (e d : ℕ) → Has (set s e true) d → Has s d ⊎ (d ≡ e)
put_only s e d h = ⊎_elim (λ same. inr same)
    (λ ne. inl (sym (get_or-set_other s e d true false ne) ∙ h)) (cases_eq d e)

pub union-nothing : (s : List Bool) → union (empty_set (length s)) s ≡ s
union-nothing [] = refl
union-nothing (b ∷ s) = ap (λ t. b ∷ t) (union-nothing s)

-- ---- steps

module _ (whos slots : List ℕ) (y : List ℤ) where
  pub led_here : (u : ℕ) → LeadsTo whos slots y u u
  led_here u = λ set closed has. has

  pub led_further : (u e f : ℕ) → e < length whos → f < length whos
      → label_at slots f ≡ label_at slots e → pos 1 ≤ℤ amount_at y f
      → LeadsTo whos slots y u (label_at whos e) → LeadsTo whos slots y u (label_at whos f)
  led_further u e f le lf shared some led =
      λ set closed has. closed.step e f le lf (led set closed has) shared some

  led_on : (u v w : ℕ) → LeadsTo whos slots y u v → LeadsTo whos slots y v w
      → LeadsTo whos slots y u w
  led_on u v w to on = λ set closed has. on set closed (to set closed has)

  -- a demand leads to the room of each demand that it leads to, and to all room that this one leads
  -- to
  pub led_to_room : (rooms : List ℤ) (u v : ℕ) → LeadsTo whos slots y u v
      → LeadsToRoom whos slots y rooms v → LeadsToRoom whos slots y rooms u
  led_to_room rooms u v led h = record {
    some = λ set closed has full.
        h.some set closed (led set closed has) full;
  }

  pub room_here : (rooms : List ℤ) (e : ℕ) → e < length whos
      → pos 1 ≤ℤ amount_at rooms (label_at slots e)
      → LeadsToRoom whos slots y rooms (label_at whos e)
  room_here rooms e lt room = record {
    some = λ set closed has full.
        let f = full e lt has in omega (arith, ints, f, room);
  }

  -- two that lead to each other lead to the same
  pub led_to_same : (n : ℕ) (rooms : List ℤ) (u v : ℕ) (found : List Bool)
      → LeadsTo whos slots y u v → AreLedTo n whos slots y rooms v found → Has found u
      → AreLedTo n whos slots y rooms u found
  led_to_same n rooms u v found led h has =
      record {
        places = h.places;
        begins = has;
        closed = h.closed;
        least = λ w in_found. led_on u v w led (h.least w in_found);
        full = h.full;
      }

-- ---- the search

pub wider_none : (found : List Bool) (queue : List ℕ) → IsWider found queue found queue
wider_none found queue = record { kept = λ v has. has; first = λ k lt. (lt, refl) }

pub wider_more : (a b c : List Bool) (p q r : List ℕ) → IsWider a p b q → IsWider b q c r
    → IsWider a p c r
wider_more a b c p q r f g = record {
  kept = λ v has. g.kept v (f.kept v has);
  first = λ k lt. let (l, e) = f.first k lt in let (m, d) = g.first k l in (m, d ∙ e);
}

module _ (n : ℕ) (whos slots : List ℕ) (y rooms : List ℤ) (u : ℕ) where
  settled_still : (found after : List Bool) (v : ℕ) → IsWithin found after
      → IsSettled whos slots y rooms found v → IsSettled whos slots y rooms after v
  settled_still found after v kept h =
      record {
        full = h.full;
        step = λ e f le lf is shared some. kept (label_at whos f)
            (h.step e f le lf is shared some);
      }

  waits_still : (found after : List Bool) (queue longer : List ℕ) (next v : ℕ)
      → IsWider found queue after longer → Waits queue next v → Waits longer next v
  waits_still found after queue longer next v wider w =
      let (l, e) = wider.first w.place
      w.within in record { place = w.place; from = w.from; within = l; here = e ∙ w.here }

  pub spread_begun : u < n → IsSpread n whos slots y rooms u (set (empty_set n) u true)
      (empty_set (length rooms)) (u ∷ []) 0
  spread_begun lu = record {
    places = length-set (empty_set n) u true ∙ length-replicate n false;
    mark_places = length-replicate (length rooms) false;
    begins = here;
    led = λ v has. rw (only v has) (led_here whos slots y u);
    settled = λ v has. inr (record {
      place = 0;
      from = omega arith;
      within = omega arith;
      here = sym (only v has);
    });
    members = λ k lk. let q : k ≡ 0 = omega (arith, lk) in rw q here;
    in_queue = omega arith;
    few = (let s = size-insert (empty_set n) u wide (none u) in omega (arith, s));
    swept = λ s f has. absurd (none_in_empty (length rooms) s has);
    full = λ s has. absurd (none_in_empty (length rooms) s has);
  } where
    wide : u < length (empty_set n)
    wide = let l = length-replicate n false in omega (arith, l, lu)

    none : (v : ℕ) → get_or (empty_set n) v false ≡ false
    none v = ⊎_elim (λ has. absurd (none_in_empty n v has)) (λ out. out)
        (has_or_not (empty_set n) v)

    here : Has (set (empty_set n) u true) u
    here = get_or-set_same (empty_set n) u true false wide

    only : (v : ℕ) → Has (set (empty_set n) u true) v → v ≡ u
    only v has = ⊎_elim (λ old. absurd (none_in_empty n v old)) (λ q. q)
        (put_only (empty_set n) u v has)

  module _ (found marks : List Bool) (queue : List ℕ) (next : ℕ)
      (inv : IsSpread n whos slots y rooms u found marks queue next) where
    -- one more is found, and waits
    module _ (f : ℕ) (lf : f < n) (out : get_or found f false ≡ false)
        (led : LeadsTo whos slots y u f) where
      wide : f < length found
      wide = let p = inv.places in omega (arith, p, lf)

      pub entered_wider : IsWider found queue (set found f true) (queue ++ f ∷ [])
      entered_wider = record {
        kept = put_keeps found f wide;
        first = λ k lk. (
          (let p = length_push queue f in omega (arith, p, lk)),
          get_or_append_left queue (f ∷ []) 0 k lk,
        );
      }

      pub spread_entered : IsSpread n whos slots y rooms u (set found f true) marks
          (queue ++ f ∷ []) next
      spread_entered = record {
        places = length-set found f true ∙ inv.places;
        mark_places = inv.mark_places;
        begins = put_keeps found f wide u inv.begins;
        led = λ v has. ⊎_elim (λ old. inv.led v old) (λ q. rw q led) (put_only found f v has);
        settled = λ v has. ⊎_elim
            (λ old. ⊎_elim
            (λ h. inl (settled_still found (set found f true) v (put_keeps found f wide) h))
            (λ w. inr (waits_still found (set found f true) queue (queue ++ f ∷ []) next v
            entered_wider w))
            (inv.settled v old))
            (λ q. inr (record {
              place = length queue;
              from = inv.in_queue;
              within = (let p = length_push queue f in omega (arith, p));
              here = get_or_push queue f 0 (length queue) refl ∙ sym q;
            }))
            (put_only found f v has);
        members = λ k lk. ⊎_elim
            (λ (l : k < length queue). rw (get_or_append_left queue (f ∷ []) 0 k l)
            (put_keeps found f wide (label_at queue k) (inv.members k l)))
            (λ ge. let p = length_push queue f in let q : k ≡ length
            queue = omega (arith, ge, lk, p) in rw (
              q,
              get_or_push queue f 0 (length queue) refl,
            )
            (get_or-set_same found f true false wide))
            (cases_lt k (length queue));
        in_queue = (let p = length_push queue f in let q = inv.in_queue in omega (arith, p, q));
        few = (let p = length_push queue f in let s = size-insert found f wide
            out in let c = inv.few in omega (arith, p, s, c));
        swept = λ s g has lg is some. put_keeps found f wide (label_at whos g)
            (inv.swept s g has lg is some);
        full = inv.full;
      }

    -- all is taken in that one more leads to
    module _ (f : ℕ) (joined : List Bool) (h : AreLedTo n whos slots y rooms f joined)
        (led : LeadsTo whos slots y u f) where
      even : length found ≡ length joined
      even = inv.places ∙ sym h.places

      kept : IsWithin found (union found joined)
      kept v has = union_left found joined v even has

      pub joined_wider : IsWider found queue (union found joined) queue
      joined_wider = record { kept = kept; first = λ k lk. (lk, refl) }

      pub joined_has : Has (union found joined) f
      joined_has = union_right found joined f even h.begins

      joined_settled : (v : ℕ) → Has joined v → IsSettled whos slots y rooms (union found joined) v
      joined_settled v has = record {
        full = λ e le is. h.full e le (rw is has);
        step = λ e g le lg is shared some. union_right found joined (label_at whos g) even
            (h.closed.step e g le lg (rw is has) shared some);
      }

      pub spread_joined : IsSpread n whos slots y rooms u (union found joined) marks queue next
      spread_joined = record {
        places = length-union found joined even ∙ inv.places;
        mark_places = inv.mark_places;
        begins = kept u inv.begins;
        led = λ v has. ⊎_elim (λ old. inv.led v old)
            (λ new. led_on whos slots y u f v led (h.least v new))
            (in_union found joined v even has);
        settled = λ v has. ⊎_elim
            (λ old. ⊎_elim (λ s. inl (settled_still found (union found joined) v kept s))
            (λ w. inr w) (inv.settled v old))
            (λ new. inl (joined_settled v new))
            (in_union found joined v even has);
        members = λ k lk. kept (label_at queue k) (inv.members k lk);
        in_queue = inv.in_queue;
        few = (let s = size_within found (union found joined) (sym (length-union found joined even))
            kept in let c = inv.few in omega (arith, s, c));
        swept = λ s g has lg is some. kept (label_at whos g) (inv.swept s g has lg is some);
        full = inv.full;
      }

    -- the answer of one more is taken in, or told where it is that of the first one
    pub taken : (f w : ℕ) (Q : Type 0) (answer : Answer) (after : List Bool) (told : Option Answer)
        → f ≡ w → LeadsTo whos slots y u f → IsAnswer n whos slots y rooms f answer
        → IsJoin answer u found after told
        → IsSpread n whos slots y rooms u after marks queue next × IsWider found queue after queue
        × MatchOption told (Q → Has after w) (IsAnswer n whos slots y rooms u)
    taken f w Q Room after told same led room (e, is) =
        rw (e, is) (inv, wider_none found queue, led_to_room whos slots y rooms u f led room)
    taken f w Q (Full set) after None same led all e =
        rw e (
          spread_joined f set all led,
          joined_wider f set all led,
          λ _. rw (← same) (joined_has f set all led),
        )
    taken f w Q (Full set) after (Some a) same led all (e, has, is) =
        rw (e, is) (
          inv,
          wider_none found queue,
          led_to_same whos slots y n rooms u f set led all has,
        )

    -- a slot is marked that has no room, once all that have something there were found
    pub spread_marked : (s : ℕ) → amount_at rooms s ≤ℤ pos 0
        → ((f : ℕ) → f < length whos → label_at slots f ≡ s → pos 1 ≤ℤ amount_at y f
        → Has found (label_at whos f)) → IsSpread n whos slots y rooms u found (set marks s true)
        queue next
    spread_marked s none all = record {
      places = inv.places;
      mark_places = length-set marks s true ∙ inv.mark_places;
      begins = inv.begins;
      led = inv.led;
      settled = inv.settled;
      members = inv.members;
      in_queue = inv.in_queue;
      few = inv.few;
      swept = λ t f has lf is some. ⊎_elim (λ old. inv.swept t f old lf is some)
          (λ q. all f lf (is ∙ q) some) (put_only marks s t has);
      full = λ t has. ⊎_elim (λ old. inv.full t old) (λ q. rw q none) (put_only marks s t has);
    }

    -- the next one is settled once all its slots are marked
    pub spread_handled : next < length queue
        → ((e : ℕ) → e < length whos → label_at whos e ≡ label_at queue next
        → Has marks (label_at slots e))
        → IsSpread n whos slots y rooms u found marks queue (next + 1)
    spread_handled lt marked = record {
      places = inv.places;
      mark_places = inv.mark_places;
      begins = inv.begins;
      led = inv.led;
      settled = λ v has. ⊎_elim (λ h. inl h) (λ w. waited v w) (inv.settled v has);
      members = inv.members;
      in_queue = omega (arith, lt);
      few = inv.few;
      swept = inv.swept;
      full = inv.full;
    } where
      waited : (v : ℕ) → Waits queue next v → IsSettled whos slots y rooms found v
          ⊎ Waits queue (next + 1) v
      waited v w = ⊎_elim
          (λ (q : w.place ≡ next).
          let same : label_at queue next ≡ v = ap (λ k. label_at queue k) (sym q) ∙ w.here in
          inl (record {
            full = λ e le is. inv.full (label_at slots e) (marked e le (is ∙ sym same));
            step = λ e f le lf is shared some. inv.swept (label_at slots e) f
                (marked e le (is ∙ sym same)) lf shared some;
          }))
          (λ ne. let from = w.from in inr
          (record {
            place = w.place;
            from = omega (arith, ne, from);
            within = w.within;
            here = w.here;
          }))
          (cases_eq w.place next)

    all_settled : length queue ≤ next → (v : ℕ) → Has found v → IsSettled whos slots y rooms found v
    all_settled past v has = ⊎_elim (λ h. h)
        (λ w. let from = w.from in let l = w.within in absurd (omega (arith, from, l, past)))
        (inv.settled v has)

    -- none waits any more
    pub spread_done : length queue ≤ next → AreLedTo n whos slots y rooms u found
    spread_done past = record {
      places = inv.places;
      begins = inv.begins;
      closed = record {
        step = λ e f le lf has shared some.
            (all_settled past (label_at whos e) has).step e f le lf refl shared some;
      };
      least = inv.led;
      full = λ e le has. (all_settled past (label_at whos e) has).full e le refl;
    }

    -- each turn handles one more of n
    pub spread_few : length queue ≤ n
    spread_few = let c = inv.few in let s = size_below_length
        found in let p = inv.places in omega (arith, c, s, p)

-- ---- what is remembered

no_answer : {a : Answer} → None ≡ Some a → ⊥
no_answer h = cc

same_answer : {a b : Answer} → Some a ≡ Some b → a ≡ b
same_answer h = cc

room_not_full : {set : List Bool} → Room ≡ Full set → ⊥
room_not_full h = cc

same_set : {s t : List Bool} → Full s ≡ Full t → s ≡ t
same_set h = cc

module _ (n : ℕ) (whos slots : List ℕ) (y rooms : List ℤ) where
  pub answers_none : AreAnswers n whos slots y rooms []
  answers_none = record {
    room = λ u is. absurd (no_answer is);
    led = λ u set is. absurd (no_answer is);
  }

  -- none is told any more
  pub answers_forgotten : (answers : List (Option Answer)) → ((u : ℕ) → answer_at answers u ≡ None)
      → AreAnswers n whos slots y rooms answers
  answers_forgotten answers none =
      record {
        room = λ u is. absurd (no_answer (sym (none u) ∙ is));
        led = λ u set is. absurd (no_answer (sym (none u) ∙ is));
      }

  -- of as many demands as before
  pub answers_anew : (answers after : List (Option Answer)) (m : ℕ) → length answers ≤ m → n ≡ m
      → length after ≡ length answers → ((u : ℕ) → answer_at after u ≡ None) → (length after ≤ n)
      × AreAnswers n whos slots y rooms after
  answers_anew answers after m few long same none =
      (omega (arith, few, long, same), answers_forgotten after none)

  pub answer_told : (answers : List (Option Answer)) (u : ℕ) (a : Answer)
      → AreAnswers n whos slots y rooms answers → answer_at answers u ≡ Some a
      → IsAnswer n whos slots y rooms u a
  answer_told answers u Room h is = h.room u is
  answer_told answers u (Full set) h is = h.led u set is

  pub answers_same : (before after : List (Option Answer))
      → ((u : ℕ) → answer_at after u ≡ answer_at before u) → AreAnswers n whos slots y rooms before
      → AreAnswers n whos slots y rooms after
  answers_same before after same h =
      record {
        room = λ u is. h.room u (sym (same u) ∙ is);
        led = λ u set is. h.led u set (sym (same u) ∙ is);
      }

  pub answers_put : (answers : List (Option Answer)) (u : ℕ) (a : Answer) → u < length answers
      → IsAnswer n whos slots y rooms u a → AreAnswers n whos slots y rooms answers
      → AreAnswers n whos slots y rooms (set answers u (Some a))
  answers_put answers u a lt told h = record {
    room = λ v is. ⊎_elim
        (λ (q : v ≡ u). rw q (room_told a told (here v a q is)))
        (λ ne. h.room v (sym (get_or-set_other answers u v (Some a) None ne) ∙ is))
        (cases_eq v u);
    led = λ v s is. ⊎_elim
        (λ (q : v ≡ u). rw q (led_told a s told (full v s q is)))
        (λ ne. h.led v s (sym (get_or-set_other answers u v (Some a) None ne) ∙ is))
        (cases_eq v u);
  } where
    at_u : answer_at (set answers u (Some a)) u ≡ Some a
    at_u = get_or-set_same answers u (Some a) None lt

    here : (v : ℕ) (b : Answer) → v ≡ u → answer_at (set answers u (Some b)) v ≡ Some Room
        → answer_at (set answers u (Some b)) u ≡ Some Room
    here v b q is = ap (λ k. answer_at (set answers u (Some b)) k) (sym q) ∙ is

    full : (v : ℕ) (s : List Bool) → v ≡ u → answer_at (set answers u (Some a)) v ≡ Some (Full s)
        → a ≡ Full s
    full v s q is = same_answer (sym at_u
        ∙ (ap (λ k. answer_at (set answers u (Some a)) k) (sym q) ∙ is))

    room_told : (b : Answer) → IsAnswer n whos slots y rooms u b
        → answer_at (set answers u (Some b)) u ≡ Some Room → LeadsToRoom whos slots y rooms u
    room_told Room told is = told
    room_told (Full s) told is =
        absurd (room_not_full
        (sym (same_answer (sym (get_or-set_same answers u (Some (Full s)) None lt) ∙ is))))

    led_told : (b : Answer) (s : List Bool) → IsAnswer n whos slots y rooms u b → b ≡ Full s
        → AreLedTo n whos slots y rooms u s
    led_told Room s told is = absurd (room_not_full is)
    led_told (Full t) s told is = rw (← same_set is) told

-- something more is told
pub told_more : (whos slots : List ℕ) (y rooms : List ℤ) (answers : List (Option Answer)) (g : ℕ)
    (a : Answer) → AreTold whos slots y rooms answers → g < length answers
    → IsAnswer (length answers) whos slots y rooms g a
    → AreTold whos slots y rooms (set answers g (Some a))
told_more whos slots y rooms answers g a h lg is =
    let long = length-set answers g (Some a) in
    record {
      cells = rw long h.cells;
      same = h.same;
      known = rw long (answers_put (length answers) whos slots y rooms answers g a lg is h.known);
    }
