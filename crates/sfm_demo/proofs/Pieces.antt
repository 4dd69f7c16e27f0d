-- How the text grows by a piece: one more element, number or line; and the generator as its
-- wrapping operations compute it.
use Rattle.std.proofs.Common.{◌≡◌, ℕ, zero, suc, ◌+◌, ◌*◌, ◌/◌, ◌%◌, ◌^◌, ◌<◌, List, [], ◌∷◌, ◌++◌, length, get_or, take, ℤ, pos, ◌+ℤ◌, ◌-ℤ◌, Result, Ok, Err, OnOk, refl, sym, ap, ◌∙◌, append_assoc, add-one}
use Rattle.std.proofs.Math.Nat.{mod-add-mod}
use Rattle.std.proofs.lemmas.List.{append-nil, take_more}
use Rattle.std.specs.Prelude.{codes}
use Rattle.std.specs.Fmt.{decimal, signed_decimal}
use Rattle.sfm_demo.specs.declared.kind.LineKind.{LineKind}
use Rattle.sfm_demo.specs.declared.kind.LineKind.TheVariants.{Table}
use Rattle.sfm_demo.specs.Draws.{Drawing, done, next, top, ◌>>◌}
use Rattle.sfm_demo.specs.DemoText.{demo_text_of, each, edge, element, falling, level, line_of, lines, pair, series, set_values}
use Rattle.sfm_demo.specs.Names.{IsPut, names, numbers, first_lines, last_lines, table_drawn, term_lines}

-- what is said of a result that is passed on
pub passed_on : {T E P Q : Type 0} (r : Result T E) → (P → Q) → OnOk r P → OnOk r Q
passed_on (Ok _) then h = then h
passed_on (Err _) then h = tt

pub next-wrapping : (s : ℕ) → (s * 6364136223846793005 % 2 ^ 64 + 1442695040888963407) % 2 ^
    64 ≡ next s
unfolding next
next-wrapping s = mod-add-mod (s * 6364136223846793005) (2 ^ 64) 1442695040888963407

pub top-lem : (k s : ℕ) → s / 2 ^ 32 % k ≡ top k s
unfolding top
top-lem k s = refl

-- a text, and another behind it
behind : (m n : Drawing (List ℕ)) (s s' s'' : ℕ) (out out' more : List ℕ) → IsPut m out out' s s'
    → IsPut n out' more s' s'' → IsPut (m >> n) out more s s''
behind m n s s' s'' out out' more first then = record {
  text = then.text ∙ ap (λ o. o ++ (n s').value) first.text
      ∙ append_assoc out (m s).value (n s').value ∙ ap (λ t. out ++ ((m s).value ++ (n t).value))
      first.after;
  after = then.after ∙ ap (λ t. (n t).state) first.after;
}

-- a text of none, and of one more
series_none : (text : ℕ → Drawing (List ℕ)) (s : ℕ) (out : List ℕ)
    → IsPut (series 0 text) out out s s
unfolding series
series_none text s out = record { text = sym (append-nil out); after = refl }

series_more : (text : ℕ → Drawing (List ℕ)) (n s s' s'' : ℕ) (out out' more : List ℕ)
    → IsPut (series n text) out out' s s' → IsPut (text n) out' more s' s''
    → IsPut (series (n + 1) text) out more s s''
unfolding series
series_more text n s s' s'' out out' more before put =
    rw add-one (behind (series n text) (text n) s s' s'' out out' more before put)

-- where nothing is drawn, the state stays, and the text is the same from any state
series_still : (v : ℕ → List ℕ) (n s : ℕ) → (series n (λ i. done (v i)) s).state ≡ s
unfolding series
series_still v zero s = refl
series_still v (suc n) s = series_still v n s

series_same : (v : ℕ → List ℕ) (n s t : ℕ)
    → (series n (λ i. done (v i)) s).value ≡ (series n (λ i. done (v i)) t).value
unfolding series
series_same v zero s t = refl
series_same v (suc n) s t = ap (λ w. w ++ v n) (series_same v n s t)

-- the texts of no element, and of one more
pub each_none : (text : ℕ → Drawing (List ℕ)) (p step s : ℕ) (out : List ℕ)
    → IsPut (each text p step 0) out out s s
unfolding each
each_none text p step s out = series_none (λ j. text ((p + step * j) % 200)) s out

pub each_more : (text : ℕ → Drawing (List ℕ)) (p step j e s s' s'' : ℕ) (out out' more : List ℕ)
    → (p + step * j) % 200 ≡ e → IsPut (each text p step j) out out' s s'
    → IsPut (text e) out' more s' s'' → IsPut (each text p step (j + 1)) out more s s''
unfolding each
each_more text p step j e s s' s'' out out' more here before put =
    series_more (λ i. text ((p + step * i) % 200)) j s s' s'' out out' more before (rw here put)

-- nothing is drawn for names
pub still : (p step count s : ℕ) → (each element p step count s).state ≡ s
unfolding each element
still p step count s = series_still (λ j. codes " e" ++ decimal ((p + step * j) % 200)) count s

pub named : (p step count s : ℕ) → (each element p step count s).value ≡ names p step count
unfolding names each element
named p step count s = series_same (λ j. codes " e" ++ decimal ((p + step * j) % 200)) count s 0

pub names_none : (p step : ℕ) (out : List ℕ) → out ≡ out ++ names p step 0
unfolding names
names_none p step out = (each_none element p step 0 out).text

pub names_more : (p step j e : ℕ) (out out' more : List ℕ) → (p + step * j) % 200 ≡ e
    → out' ≡ out ++ names p step j → more ≡ out' ++ (32 ∷ 101 ∷ decimal e)
    → more ≡ out ++ names p step (j + 1)
unfolding names element
names_more p step j e out out' more here before put =
    let s : ℕ = (each element p step j 0).state in
    (each_more element p step j e 0 s s out out' more here (record { text = before; after = refl })
    (record { text = put; after = refl })).text

-- an element as an edge, of two drawn vertices
pub edge_put : (out more : List ℕ) (s s1 s2 e u x : ℕ) → u ≡ top 6 (next s) → s1 ≡ next s
    → x ≡ top 6 (next s1) → s2 ≡ next s1
    → more ≡ out
    ++ (codes " e" ++ (decimal e ++ (codes "=v" ++ (decimal u ++ (codes "-v" ++ decimal x)))))
    → IsPut (edge e) out more s s2
unfolding edge element
edge_put out more s s1 s2 e u x eu e1 ex e2 h =
    record { text = rw (h, eu, ex, e1) (simp append_assoc); after = e2 ∙ ap next e1 }

-- pieces side by side, and names for which nothing is drawn
pub ruleset joining = (append_assoc, named, still)

-- what is left to be written after one more number
pub falling_more : (out more : List ℕ) (a a' d d' : ℤ) (n m s s' : ℕ) → n ≡ m + 1
    → d' ≡ d -ℤ pos (top 150 (next s)) → a' ≡ a +ℤ d' → s' ≡ next s
    → more ≡ out ++ (32 ∷ signed_decimal a')
    → more ++ (falling m a' d' s').value ≡ out ++ (falling n a d s).value
unfolding falling
falling_more out more a a' d d' n m s s' left less added after put =
    rw (left, add-one, put, added, after, less)
    (append_assoc out (32 ∷ signed_decimal (a +ℤ (d -ℤ pos (top 150 (next s)))))
    (falling m (a +ℤ (d -ℤ pos (top 150 (next s)))) (d -ℤ pos (top 150 (next s)))
    (next s)).value)

pub falling_after_more : (a a' d d' : ℤ) (n m s s' : ℕ) → n ≡ m + 1
    → d' ≡ d -ℤ pos (top 150 (next s)) → a' ≡ a +ℤ d' → s' ≡ next s
    → (falling m a' d' s').state ≡ (falling n a d s).state
unfolding falling
falling_after_more a a' d d' n m s s' left less added after =
    rw (left, add-one, added, after, less) refl

pub falling_all : (out start : List ℕ) (a d : ℤ) (n s : ℕ) → n ≡ 0
    → out ++ (falling n a d s).value ≡ start → out ≡ start
unfolding falling
falling_all out start a d n s none h = sym (append-nil out) ∙ (rw none at h)

pub falling_after_all : (a d : ℤ) (n s t : ℕ) → n ≡ 0 → (falling n a d s).state ≡ t → s ≡ t
unfolding falling
falling_after_all a d n s t none h = rw none at h

-- the first numbers of a list, and one more
numbers-append : (xs ys : List ℤ) → numbers (xs ++ ys) ≡ numbers xs ++ numbers ys
numbers-append [] ys = refl
numbers-append (x ∷ xs) ys = ap (λ w. (32 ∷ signed_decimal x) ++ w) (numbers-append xs ys)
    ∙ sym (append_assoc (32 ∷ signed_decimal x) (numbers xs) (numbers ys))

pub numbers_more : (x : List ℤ) (i : ℕ) (out out' more : List ℕ) → i < length x
    → out' ≡ out ++ numbers (take i x) → more ≡ out' ++ (32 ∷ signed_decimal (get_or x i (pos 0)))
    → more ≡ out ++ numbers (take (i + 1) x)
numbers_more x i out out' more h text put =
    let a = get_or x i (pos 0) in
    put ∙ ap (λ w. out' ++ (32 ∷ w)) (sym (append-nil (signed_decimal a)))
    ∙ ap (λ o. o ++ numbers (a ∷ [])) text
    ∙ append_assoc out (numbers (take i x)) (numbers (a ∷ []))
    ∙ ap (λ w. out ++ w) (sym (numbers-append (take i x) (a ∷ []))
    ∙ ap numbers (sym (take_more x i (pos 0) h)))

-- a line of numbers, a colon and names, in the pieces that it is put down in
divided : (o o1 o2 o3 first xs names : List ℕ) → o1 ≡ o ++ first → o2 ≡ o1 ++ xs
    → o3 ≡ o2 ++ (codes " :" ++ names) → o3 ≡ o ++ (first ++ (xs ++ (codes " :" ++ names)))
divided o o1 o2 o3 first xs names h1 h2 h3 = rw (h3, h2, h1) (simp append_assoc)

pub values_drawn : (s s1 s2 s3 t : ℕ) (x y z : ℤ) (v : List ℤ) → v ≡ set_values x y z (pos t)
    → x ≡ (level s).value → s1 ≡ (level s).state → y ≡ (level s1).value → s2 ≡ (level s1).state
    → z ≡ (level s2).value → s3 ≡ (level s2).state → t ≡ top 300 (next s3)
    → v ≡ (table_drawn s).value
unfolding table_drawn
values_drawn s s1 s2 s3 t x y z v ev ex e1 ey e2 ez e3 et = rw (ev, ex, ey, ez, et, e3, e2, e1) refl

pub values_after : (s s1 s2 s3 s4 : ℕ) → s1 ≡ (level s).state → s2 ≡ (level s1).state
    → s3 ≡ (level s2).state → s4 ≡ next s3 → s4 ≡ (table_drawn s).state
unfolding table_drawn
values_after s s1 s2 s3 s4 e1 e2 e3 e4 = rw (e4, e3, e2, e1) refl

pub table_put : (out out1 out2 more : List ℕ) (s s1 s2 p : ℕ) (v : List ℤ) → p ≡ top 200 (next s)
    → s1 ≡ next s → v ≡ (table_drawn s1).value → s2 ≡ (table_drawn s1).state
    → out1 ≡ out ++ codes "table" → out2 ≡ out1 ++ numbers v
    → more ≡ out2 ++ (codes " :" ++ names p 17 3) → IsPut (line_of Table) out more s s2
unfolding line_of table_drawn
table_put out out1 out2 more s s1 s2 p v ep e1 ev e2 h1 h2 h3 =
    let z = table_drawn (next s) in
    let q = top 200 (next s) in
    record {
      text = divided out out1 out2 more (codes "table") (numbers z.value)
          (each element q 17 3 z.state).value h1
          (h2 ∙ ap (λ w. out1 ++ numbers w) (ev ∙ ap (λ n. (table_drawn n).value) e1))
          (h3 ∙ ap (λ n. out2 ++ (codes " :" ++ names n 17 3)) ep
          ∙ ap (λ w. out2 ++ (codes " :" ++ w)) (sym (named q 17 3 z.state)));
      after = e2 ∙ ap (λ n. (table_drawn n).state) e1 ∙ sym (still q 17 3 z.state);
    }

pub level_of : (s n : ℕ) (a : ℤ) → n ≡ top 401 (next s) → a ≡ pos n -ℤ pos 200 → a ≡ (level s).value
unfolding level
level_of s n a h e = e ∙ ap (λ k. pos k -ℤ pos 200) h

pub level-state : (s : ℕ) → (level s).state ≡ next s
unfolding level
level-state s = refl

-- a line more of a kind
pub lines_none : (kind : LineKind) (s : ℕ) (out : List ℕ) → IsPut (lines 0 kind) out out s s
unfolding lines
lines_none kind s out = series_none (λ i. line_of kind >> done (codes "\n")) s out

pub lines_more : (kind : LineKind) (n s s' s'' : ℕ) (out out' put more : List ℕ)
    → IsPut (lines n kind) out out' s s' → IsPut (line_of kind) out' put s' s''
    → more ≡ put ++ codes "\n"
    → IsPut (lines (n + 1) kind) out more s s''
unfolding lines
lines_more kind n s s' s'' out out' put more before line feed =
    series_more (λ i. line_of kind >> done (codes "\n")) n s s' s'' out out' more before
    (behind (line_of kind) (done (codes "\n")) s' s'' s'' out' put more line
    (record { text = feed; after = refl }))

-- seven pieces, one behind another
pieces : (o o1 o2 o3 o4 o5 o6 o7 ground weights terms : List ℕ) → o1 ≡ o ++ codes "sfm 1\nground"
    → o2 ≡ o1 ++ ground → o3 ≡ o2 ++ codes "\nweight" → o4 ≡ o3 ++ weights
    → o5 ≡ o4 ++ codes "\n" → o6 ≡ o5 ++ terms → o7 ≡ o6 ++ codes "end\n"
    → o7 ≡ o ++ ((codes "sfm 1\nground" ++ ground)
    ++ ((codes "\nweight" ++ weights) ++ (codes "\n" ++ (terms ++ codes "end\n"))))
pieces o o1 o2 o3 o4 o5 o6 o7 ground weights terms h1 h2 h3 h4 h5 h6 h7 =
    rw (h7, h6, h5, h4, h3, h2, h1) (simp append_assoc)

-- four pieces, bracketed as the lines of a block are
halves : (feed first last end : List ℕ)
    → feed ++ ((first ++ last) ++ end) ≡ (feed ++ first) ++ (last ++ end)
halves feed first last end = ap (λ l. feed ++ l) (append_assoc first last end)
    ∙ sym (append_assoc feed first (last ++ end))

pub whole : (o o1 o2 o3 o4 o5 o6 o7 : List ℕ) (seed s' : ℕ) → o1 ≡ o ++ codes "sfm 1\nground"
    → o2 ≡ o1 ++ names 0 1 200 → o3 ≡ o2 ++ codes "\nweight"
    → o4 ≡ o3 ++ (each pair 0 1 200 seed).value → s' ≡ (each pair 0 1 200 seed).state
    → o5 ≡ o4 ++ codes "\n" → o6 ≡ o5 ++ (term_lines s').value → o7 ≡ o6 ++ codes "end\n"
    → o7 ≡ o ++ demo_text_of seed
unfolding demo_text_of term_lines
whole o o1 o2 o3 o4 o5 o6 o7 seed s' h1 h2 h3 h4 e' h5 h6 h7 =
    let start : seed ≡ (each element 0 1 200 seed).state = sym (still 0 1 200 seed) in
    let weighed : ℕ = (each pair 0 1 200 (each element 0 1 200 seed).state).state in
    let ground : List ℕ = (each element 0 1 200 seed).value in
    let weights : List ℕ = (each pair 0 1 200 (each element 0 1 200 seed).state).value in
    pieces o o1 o2 o3 o4 o5 o6 o7 ground weights (term_lines weighed).value
    h1 (h2 ∙ ap (λ w. o1 ++ w) (sym (named 0 1 200 seed))) h3
    (h4 ∙ ap (λ t. o3 ++ (each pair 0 1 200 t).value) start) h5
    (h6 ∙ ap (λ t. o5 ++ (term_lines t).value) (e' ∙ ap (λ t. (each pair 0 1 200 t).state) start))
    h7
    ∙ ap (λ l. o ++ ((codes "sfm 1\nground" ++ ground) ++ ((codes "\nweight" ++ weights) ++ l)))
    (halves (codes "\n") (first_lines weighed).value
    (last_lines (first_lines weighed).state).value (codes "end\n"))
