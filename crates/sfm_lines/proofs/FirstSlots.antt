-- An entry of different slots needs no more of them than its line has elements: where a member has
-- a slot that is none of its first ones, these are as many as there are elements, and the other
-- members are fewer, so one of them is free.
use Rattle.std.proofs.Common.{◌≡◌, ◌⊎◌, inl, inr, ℕ, zero, suc, ◌+◌, ◌<◌, ◌≤◌, Bool, true, false, not, cond, if◌then◌else◌, nat_eq, List, [], ◌∷◌, length, get_or, take, map, flat_map, Contains, bytes_eq, refl, sym, ap, ◌∙◌, ⊎_elim, one-add, eq-eqb, ne_eqb, length-take, arith}
use Rattle.std.specs.List.{All, range_with_len}
use Rattle.std.specs.Set.{is_member}
use Rattle.std.proofs.lemmas.Bool.{true≢false, false≢true, cases_lt}
use Rattle.std.proofs.lemmas.Cmp.{nat_list_eq_equiv}
use Rattle.std.proofs.lemmas.List.{get_or-map, get_or_past, get_or-take, get_or_default, take_all, length-map}
use Rattle.std.proofs.lemmas.List.Elements.{Contains-append_left, Contains-append_right, Contains-get_or}
use Rattle.std.proofs.lemmas.List.FromFn.{get_or-map-range_with_len, length-map-range_with_len}
use Rattle.std.proofs.lemmas.Map.Keys.{IsDistinct-from_apart}
use Rattle.std.proofs.lemmas.Map.Made.{Contains-tail, is_member-Decides, length-le_from_is_member}
use Rattle.std.proofs.lemmas.Slice.Eq.{bytes_eq-Decides}
use Rattle.sfm_spec.specs.Sets.{Has}
use Rattle.sfm_spec.specs.Kinds.{IsMatching, IsMatchable}
use Rattle.sfm_lines.specs.LabelTerms.{distinct_of, numbers_of}
use Rattle.sfm_lines.specs.CutParts.{place_among}
use Rattle.sfm_lines.specs.TermLines.{StandsTwice}
use Rattle.sfm_lines.proofs.Known.{any-distinct}
use Rattle.sfm_lines.proofs.Repeats.{twice-at, twice-same}

-- the members of the part have texts of their own lists, all different
pub record AreOwn (lists : List (List (List ℕ))) (t : List Bool) (own : ℕ → List ℕ) : Type 0 where
  pub among : (e : ℕ) → Has t e → Contains (get_or lists e []) (own e)
  pub differ : (d e : ℕ) → Has t d → Has t e → own d ≡ own e → d ≡ e

-- a member has a list
member-below : (lists : List (List (List ℕ))) (t : List Bool) (own : ℕ → List ℕ)
    → AreOwn lists t own → (e : ℕ) → Has t e → e < length lists
member-below lists t own h e has = ⊎_elim
    (λ (lt : e < length lists). lt)
    (λ (le : length lists ≤ e). let one = h.among e
    has in absurd (omega (arith, one.1, ap length (get_or_past lists e [] le))))
    (cases_lt e (length lists))

-- ---- a number stands for its text

contains-map : {X Y : Type 0} (f : X → Y) (xs : List X) (x : X) → Contains xs x
    → Contains (map f xs) (f x)
contains-map f xs x (k, lt, e) =
    (k, omega (arith, lt, length-map xs f), get_or-map f xs k x (f x) lt ∙ ap f e)

among-all : (lists : List (List (List ℕ))) (e : ℕ) (x : List ℕ) → Contains (get_or lists e []) x
    → Contains (flat_map (λ texts. texts) lists) x
among-all [] e x h = absurd (omega (arith, h.1))
among-all (l ∷ lists) zero x h = Contains-append_left l (flat_map (λ texts. texts) lists) x h
among-all (l ∷ lists) (suc e) x h = Contains-append_right l (flat_map (λ texts. texts) lists) x
    (among-all lists e x h)

among-different : (texts : List (List ℕ)) (x : List ℕ) → Contains texts x
    → Contains (distinct_of texts) x
among-different texts x h = (is_member-Decides bytes_eq-Decides (distinct_of texts) x).0
    (any-distinct x texts ∙ (is_member-Decides bytes_eq-Decides texts x).1 h)

-- what stands at the place of a text is the text
found-at : (texts : List (List ℕ)) (x : List ℕ) → Contains texts x
    → get_or texts (place_among texts x) [] ≡ x
found-at [] x h = absurd (omega (arith, h.1))
found-at (y ∷ texts) x h = at (bytes_eq x y) refl (λ behind. found-at texts x behind)
  where
    at : (b : Bool) → bytes_eq x y ≡ b
        → (Contains texts x → get_or texts (place_among texts x) [] ≡ x)
        → get_or (y ∷ texts) (cond (not b) (1 + place_among texts x) 0) [] ≡ x
    at true e more = sym ((bytes_eq-Decides x y).0 e)
    at false e more = ap (λ (k : ℕ). get_or (y ∷ texts) k []) (one-add (place_among texts x))
        ∙ more (Contains-tail y texts x
        (λ same. true≢false (sym ((bytes_eq-Decides x y).1 (sym same)) ∙ e)) h)

module _ (lists : List (List (List ℕ))) (t : List Bool) where
  abbrev different : List (List ℕ)
  different = distinct_of (flat_map (λ texts. texts) lists)

  entry-is : (e : ℕ) → get_or (numbers_of lists) e [] ≡ map (place_among different)
      (get_or lists e [])
  entry-is e = ⊎_elim
      (λ (lt : e < length lists). get_or-map
      (λ (labels : List (List ℕ)). map (place_among different) labels) lists e [] [] lt)
      (λ (le : length lists ≤ e). get_or_past (numbers_of lists) e []
      (omega (
        arith,
        le,
        length-map lists
            (λ (labels : List (List ℕ)). map (place_among different) labels),
      ))
      ∙ sym (ap (λ (l : List (List ℕ)). map (place_among different) l)
      (get_or_past lists e [] le)))
      (cases_lt e (length lists))

  known : (e : ℕ) (x : List ℕ) → Contains (get_or lists e []) x → Contains different x
  known e x h = among-different (flat_map (λ texts. texts) lists) x (among-all lists e x h)

  pub matched-by : (own : ℕ → List ℕ) → AreOwn lists t own → IsMatchable (numbers_of lists) t
  matched-by own h = (
    slots,
    record {
      own = λ e has. rw (entry-is e, slot-is e has)
          (contains-map (place_among different) (get_or lists e []) (own e) (h.among e has));
      distinct = λ d e has has' same. h.differ d e has has' (
          let places : place_among different (own d) ≡ place_among different (own e) = sym
          (slot-is d has) ∙ (same ∙ slot-is e has') in
          sym (found-at different (own d) (known d (own d) (h.among d has)))
          ∙ (ap (λ (k : ℕ). get_or different k []) places
          ∙ found-at different (own e) (known e (own e) (h.among e has'))));
    },
  )
    where
      slots : List ℕ
      slots = map (λ e. place_among different (own e)) (range_with_len 0 (length lists))

      slot-is : (e : ℕ) → Has t e → get_or
          (map (λ e. place_among different (own e)) (range_with_len 0 (length lists))) e
          0 ≡ place_among different (own e)
      slot-is e has = get_or-map-range_with_len (λ e. place_among different (own e)) 0
          (length lists) e e 0 (member-below lists t own h e has) (omega arith)

  -- the text of a slot
  text-of : List ℕ → ℕ → List ℕ
  text-of slots e = get_or different (get_or slots e 0) []

  slot-text : (slots : List ℕ) → IsMatching (numbers_of lists) t slots → (e : ℕ) → Has t e
      → Contains (get_or lists e []) (get_or different (get_or slots e 0) [])
      × (place_among different (get_or different (get_or slots e 0) []) ≡ get_or slots e 0)
  slot-text slots h e has =
      let one : Contains (map (place_among different) (get_or lists e []))
      (get_or slots e 0) = rw (entry-is e) at (h.own e has) in
      let lt : one.0 < length (get_or lists e []) = omega (
        arith,
        one.1,
        length-map (get_or lists e []) (place_among different),
      ) in
      let x : List ℕ = get_or (get_or lists e []) one.0 [] in
      let in_ : Contains (get_or lists e []) x = Contains-get_or (get_or lists e []) one.0 [] lt in
      let slot : get_or slots e 0 ≡ place_among different x = sym one.2
      ∙ get_or-map (place_among different) (get_or lists e []) one.0 [] (get_or slots e 0) lt in
      let there : get_or different (get_or slots e 0) [] ≡ x = ap (λ (k : ℕ). get_or different k [])
      slot ∙ found-at different x (known e x in_) in
      (rw there in_, ap (place_among different) there ∙ sym slot)

  pub matched-of : IsMatchable (numbers_of lists) t → (own : ℕ → List ℕ) × AreOwn lists t own
  matched-of (slots, h) = (
    λ e. get_or different (get_or slots e 0) [],
    record {
      among = λ e has. (slot-text slots h e has).0;
      differ = λ d e has has' same. h.distinct d e has has'
          (sym (slot-text slots h d has).1
          ∙ (ap (place_among different) same ∙ (slot-text slots h e has').1));
    },
  )

-- ---- from the first slots to all

contains-front : (k : ℕ) (xs : List (List ℕ)) (x : List ℕ) → Contains (take k xs) x → Contains xs x
contains-front k xs x (j, lt, e) = (
  j,
  omega (arith, lt, length-take k xs),
  sym (get_or-take k xs j x (omega (arith, lt, length-take k xs))) ∙ e,
)

front-at : (k : ℕ) (lists : List (List (List ℕ))) (e : ℕ)
    → get_or (map (take k) lists) e [] ≡ take k (get_or lists e [])
front-at k lists e = ⊎_elim
    (λ (lt : e < length lists). get_or-map (take k) lists e [] [] lt)
    (λ (le : length lists ≤ e). get_or_past (map (take k) lists) e []
    (omega (arith, le, length-map lists (take k)))
    ∙ (sym (take_all k [] (omega arith)) ∙ sym (ap (take k) (get_or_past lists e [] le))))
    (cases_lt e (length lists))

pub cut-whole : (lists : List (List (List ℕ))) (t : List Bool)
    → IsMatchable (numbers_of (map (take (length lists)) lists)) t
    → IsMatchable (numbers_of lists) t
cut-whole lists t h =
    let (own, o) = matched-of (map (take (length lists)) lists) t h in
    matched-by lists t own (record {
      among = λ e has. contains-front (length lists) (get_or lists e []) (own e)
          (rw (front-at (length lists) lists e) at (o.among e has));
      differ = o.differ;
    })

-- ---- a text that is free

once-front : (k : ℕ) (xs : List (List ℕ)) → (StandsTwice xs → ⊥) → StandsTwice (take k xs) → ⊥
once-front k xs once t =
    let n = length-take k xs in
    once (twice-at xs t.0 t.1 [] t.2 (omega (arith, t.3, n))
    (sym (get_or-take k xs t.0 [] (omega (arith, t.2, t.3, n)))
    ∙ (twice-same (take k xs) [] t ∙ get_or-take k xs t.1 [] (omega (arith, t.3, n)))))

once-more : (x : List ℕ) (xs : List (List ℕ)) → (Contains xs x → ⊥) → (StandsTwice xs → ⊥)
    → StandsTwice (x ∷ xs) → ⊥
once-more x xs new once t = apart t.0 t.1 t.2 t.3 (twice-same (x ∷ xs) [] t)
  where
    apart : (i j : ℕ) → i < j → j < length (x ∷ xs) → get_or (x ∷ xs) i [] ≡ get_or (x ∷ xs) j []
        → ⊥
    apart i zero lt within e = absurd (omega (arith, lt))
    apart zero (suc j) lt within e =
        new (j, omega (arith, within), get_or_default xs j x [] (omega (arith, within)) ∙ sym e)
    apart (suc i) (suc j) lt within e =
        once (twice-at xs i j [] (omega (arith, lt)) (omega (arith, within)) e)

-- different texts that are all among some others are no more
pub no-more : (xs ys : List (List ℕ)) → (StandsTwice xs → ⊥)
    → ((x : List ℕ) → Contains xs x → Contains ys x) → length xs ≤ length ys
no-more xs ys once all = length-le_from_is_member nat_list_eq_equiv xs ys
    (IsDistinct-from_apart bytes_eq xs
    (λ i j d lt within. differs (get_or xs i d) (get_or xs j d)
    (λ same. once (twice-at xs i j d lt within same))))
    (λ x m. (is_member-Decides bytes_eq-Decides ys x).1
    (all x ((is_member-Decides bytes_eq-Decides xs x).0 m)))
  where
    differs : (x y : List ℕ) → (x ≡ y → ⊥) → bytes_eq x y ≡ false
    differs x y apart = at (bytes_eq x y) refl
      where
        at : (b : Bool) → bytes_eq x y ≡ b → b ≡ false
        at true e = absurd (apart ((bytes_eq-Decides x y).0 e))
        at false e = refl

some-or-all : (p : List ℕ → Bool) (xs : List (List ℕ))
    → ((x : List ℕ) × Contains xs x × (p x ≡ false)) ⊎ ((x : List ℕ) → Contains xs x → p x ≡ true)
some-or-all p [] = inr (λ x h. absurd (omega (arith, h.1)))
some-or-all p (y ∷ xs) = at (p y) refl (some-or-all p xs)
  where
    at : (b : Bool) → p y ≡ b → ((x : List ℕ) × Contains xs x × (p x ≡ false))
        ⊎ ((x : List ℕ) → Contains xs x → p x ≡ true)
        → ((x : List ℕ) × Contains (y ∷ xs) x × (p x ≡ false))
        ⊎ ((x : List ℕ) → Contains (y ∷ xs) x → p x ≡ true)
    at false e h = inl (y, (0, omega arith, refl), e)
    at true e (inl (x, (k, lt, is), none)) = inl (x, (suc k, omega (arith, lt), is), none)
    at true e (inr all) = inr (λ x (k, lt, is). each x k lt is)
      where
        each : (x : List ℕ) (k : ℕ) → k < length (y ∷ xs) → get_or (y ∷ xs) k x ≡ x → p x ≡ true
        each x zero lt is = rw is at e
        each x (suc k) lt is = all x (k, omega (arith, lt), is)

-- of more different texts some is none of the others
pub one-free : (xs ys : List (List ℕ)) → (StandsTwice xs → ⊥) → length ys < length xs → (x : List ℕ)
    × Contains xs x × (Contains ys x → ⊥)
one-free xs ys once fewer = ⊎_elim
    (λ (some : (x : List ℕ) × Contains xs x × (is_member bytes_eq ys x ≡ false)). (
      some.0,
      some.1,
      λ h. true≢false
          (sym ((is_member-Decides bytes_eq-Decides ys some.0).1 h) ∙ some.2),
    ))
    (λ (all : (x : List ℕ) → Contains xs x → is_member bytes_eq ys x ≡ true).
    absurd (omega (
      arith,
      fewer,
      no-more xs ys once (λ x h. (is_member-Decides bytes_eq-Decides ys x).0 (all x h)),
    )))
    (some-or-all (is_member bytes_eq ys) xs)

-- ---- from all slots to the first

put : (ℕ → List ℕ) → ℕ → List ℕ → ℕ → List ℕ
put own i x e = if nat_eq e i then x else own e

module _ (own : ℕ → List ℕ) (i : ℕ) (x : List ℕ) where
  put-here : (e : ℕ) → e ≡ i → put own i x e ≡ x
  unfolding put
  put-here e is = rw (eq-eqb e i is) refl

  put-else : (e : ℕ) → (e ≡ i → ⊥) → put own i x e ≡ own e
  unfolding put
  put-else e other = rw (ne_eqb e i other) refl

same-or-not : (d e : ℕ) → (d ≡ e) ⊎ (d ≡ e → ⊥)
same-or-not d e = ⊎_elim
    (λ (lt : d < e). inr (λ same. absurd (omega (arith, lt, same))))
    (λ (le : e ≤ d). ⊎_elim
    (λ (lt : e < d). inr (λ same. absurd (omega (arith, lt, same))))
    (λ (le' : d ≤ e). inl (omega (arith, le, le')))
    (cases_lt e d))
    (cases_lt d e)

module _ (lists : List (List (List ℕ))) (t : List Bool)
    (once : All (λ slots. StandsTwice slots → ⊥) lists) where
  abbrev front : ℕ → List (List ℕ)
  front e = take (length lists) (get_or lists e [])

  -- the members before i have texts of the fronts of their lists
  record Cut (i : ℕ) (own : ℕ → List ℕ) : Type 0 where
    pub whole : AreOwn lists t own
    pub early : (e : ℕ) → e < i → Has t e → Contains (front e) (own e)

  -- one more member whose text is of the front
  kept : (i : ℕ) (own : ℕ → List ℕ) → Cut i own → (Has t i → Contains (front i) (own i))
      → Cut (i + 1) own
  kept i own h here = record {
    whole = h.whole;
    early = λ e lt has. ⊎_elim
        (λ (before : e < i). h.early e before has)
        (λ (le : i ≤ e). let is : e ≡ i = omega (arith, lt, le) in rw is (here (rw is at has)))
        (cases_lt e i);
  }

  module _ (i : ℕ) (lt : i < length lists) (own : ℕ → List ℕ) (h : Cut i own) (has : Has t i)
      (out : Contains (front i) (own i) → ⊥) where
    -- the texts of all elements
    abbrev all : List (List ℕ)
    all = map own (range_with_len 0 (length lists))

    in-all : (e : ℕ) → e < length lists → Contains all (own e)
    in-all e below = (
      e,
      omega (arith, below, length-map-range_with_len own 0 (length lists)),
      get_or-map-range_with_len own 0 (length lists) e e (own e) below (omega arith),
    )

    long : length lists ≤ length (get_or lists i [])
    long = ⊎_elim
        (λ (short : length (get_or lists i []) < length lists).
        absurd (out (rw (take_all (length lists) (get_or lists i []) (omega (arith, short)))
        (h.whole.among i has))))
        (λ (le : length lists ≤ length (get_or lists i [])). le)
        (cases_lt (length (get_or lists i [])) (length lists))

    free : (x : List ℕ) × Contains (front i) x × ((e : ℕ) → e < length lists → x ≡ own e → ⊥)
    free =
        let fewer : length all < length
        (own i ∷ front i) = omega (
          arith,
          length-map-range_with_len own 0 (length lists),
          length-take (length lists) (get_or lists i []),
          long,
        ) in
        let (x, is, none) = one-free (own i ∷ front i) all
        (once-more (own i) (front i) out
        (once-front (length lists) (get_or lists i []) (once i [] lt))) fewer in
        let none' : (e : ℕ) → e < length lists → x ≡ own e
        → ⊥ = λ e below same. none (rw same (in-all e below)) in
        (x, Contains-tail (own i) (front i) x (λ same. none' i lt (sym same)) is, none')

    moved : Cut (i + 1) (put own i free.0)
    moved = record {
      whole = record {
        among = λ e has'. ⊎_elim
            (λ (same : e ≡ i). rw (put-here own i free.0 e same)
            (rw same (contains-front (length lists) (get_or lists i []) free.0 free.1)))
            (λ (other : e ≡ i → ⊥). rw (put-else own i free.0 e other) (h.whole.among e has'))
            (same-or-not e i);
        differ = λ d e has' has'' same. by d e has' has'' same (same-or-not d i) (same-or-not e i);
      };
      early = λ e before has'. ⊎_elim
          (λ (same : e ≡ i). rw (put-here own i free.0 e same) (rw same free.1))
          (λ (other : e ≡ i → ⊥). rw (put-else own i free.0 e other) (⊎_elim
          (λ (lt' : e < i). h.early e lt' has')
          (λ (le : i ≤ e). absurd (other (omega (arith, before, le))))
          (cases_lt e i)))
          (same-or-not e i);
    }
      where
        by : (d e : ℕ) → Has t d → Has t e → put own i free.0 d ≡ put own i free.0 e → (d ≡ i)
            ⊎ (d ≡ i → ⊥) → (e ≡ i) ⊎ (e ≡ i → ⊥) → d ≡ e
        by d e has' has'' same (inl a) (inl b) = a ∙ sym b
        by d e has' has'' same (inl a) (inr b) =
            absurd (free.2 e (member-below lists t own h.whole e has'')
            (sym (put-here own i free.0 d a) ∙ (same ∙ put-else own i free.0 e b)))
        by d e has' has'' same (inr a) (inl b) =
            absurd (free.2 d (member-below lists t own h.whole d has')
            (sym (put-here own i free.0 e b) ∙ (sym same ∙ put-else own i free.0 d a)))
        by d e has' has'' same (inr a) (inr b) =
            h.whole.differ d e has' has''
            (sym (put-else own i free.0 d a) ∙ (same ∙ put-else own i free.0 e b))

  step : (i : ℕ) → i < length lists → (own : ℕ → List ℕ) → Cut i own → (more : ℕ → List ℕ)
      × Cut (i + 1) more
  step i lt own h = at (get_or t i false) refl (is_member bytes_eq (front i) (own i)) refl
    where
      at : (b : Bool) → get_or t i false ≡ b → (c : Bool) → is_member bytes_eq (front i) (own i) ≡ c
          → (more : ℕ → List ℕ) × Cut (i + 1) more
      at false e c f = (own, kept i own h (λ has. absurd (false≢true (sym e ∙ has))))
      at true e true f =
          (own, kept i own h (λ has. (is_member-Decides bytes_eq-Decides (front i) (own i)).0 f))
      at true e false f =
          let out : Contains (front i) (own i)
          → ⊥ = λ is. true≢false (sym
          ((is_member-Decides bytes_eq-Decides (front i) (own i)).1 is) ∙ f) in
          (put own i (free i lt own h e out).0, moved i lt own h e out)

  steps : (i : ℕ) → i ≤ length lists → (own : ℕ → List ℕ) → AreOwn lists t own → (more : ℕ → List ℕ)
      × Cut i more
  steps zero le own h = (own, record { whole = h; early = λ e lt has. absurd (omega (arith, lt)) })
  steps (suc i) le own h =
      let (before, cut) = steps i (omega (arith, le)) own h in
      let (more, next) = step i (omega (arith, le)) before cut in (
        more,
        record {
          whole = next.whole;
          early = λ e lt has. next.early e (omega (arith, lt)) has;
        },
      )

  pub whole-cut : IsMatchable (numbers_of lists) t
      → IsMatchable (numbers_of (map (take (length lists)) lists)) t
  whole-cut h =
      let (own, o) = matched-of lists t h in
      let (more, cut) = steps (length lists) (omega arith) own o in
      matched-by (map (take (length lists)) lists) t more (record {
        among = λ e has. rw (front-at (length lists) lists e)
            (cut.early e (member-below lists t more cut.whole e has) has);
        differ = cut.whole.differ;
      })
