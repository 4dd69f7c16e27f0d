-- A text is the text of one answer alone.
use Rattle.std.proofs.Common.{◌≡◌, ◌≢◌, ℕ, suc, ◌+◌, ◌<◌, ◌^◌, Bool, List, [], ◌∷◌, ◌++◌, length, map, get_or, ℤ, pos, refl, sym, ap, subst, ◌∙◌, arith, append_assoc}
use Rattle.std.specs.Prelude.{codes}
use Rattle.std.specs.List.{All}
use Rattle.std.proofs.lemmas.List.{append_cancel_left}
use Rattle.std.proofs.lemmas.List.Elements.{All-head, All-tail}
use Rattle.sfm_spec.specs.Bounds.{IsEntry}
use Rattle.sfm_spec.specs.Blocks.{Block, block_at}
use Rattle.sfm_kind.specs.Names.{AreElementNames}
use Rattle.sfm_cert.specs.Answer.{Answer, Break, Form, block_line, slope_line, at_line, answer_lines}
use Rattle.sfm_cert.specs.LineLists.{block_lines, slope_lines, base_lines, break_lines, base_line, IsAnswerText}
use Rattle.sfm_cert.specs.Form.{IsFormedBlock, IsFormedBreak}
use Rattle.sfm_cert.specs.Grammar.{IsLine}
use Rattle.sfm_cert.specs.Labels.{label_in}
use Rattle.sfm_readback.specs.Lines.{ratio_of}
use Rattle.sfm_readback.proofs.BadLines.{one_list}
use Rattle.sfm_readback.proofs.Machine.{regroup}
use Rattle.sfm_readback.proofs.Tokens.{one_number}
use Rattle.sfm_readback.proofs.Unique.{listed-same, block_line-same, slope_line-same, row_line-same}

cons_head : {a b : List ℕ} {x y : List (List ℕ)} → a ∷ x ≡ b ∷ y → a ≡ b
cons_head e = cc

cons_tail : {a b : List ℕ} {x y : List (List ℕ)} → a ∷ x ≡ b ∷ y → x ≡ y
cons_tail e = cc

first_of : {a b : List ℕ} {x y : List (List ℕ)} → a ∷ x ≡ b ∷ y → get_or a 0 0 ≡ get_or b 0 0
first_of e = ap (λ l. get_or l 0 0) (cons_head e)

abbrev made : ℤ → List Bool → List Bool → List Block → List (List ℤ) → List Break → Answer
made v l g k r s = record { value = v; least = l; greatest = g; blocks = k; bases = r; breaks = s }

module _ (form : Form) (named : AreElementNames form.names) where
  abbrev AreFormedFrom : ℕ → List Block → Type 0
  AreFormedFrom k blocks = (i : ℕ) → i < length blocks
      → IsFormedBlock (length form.names) (k + i) (block_at blocks i)

  abbrev AreFormedBreaks : List Break → Type 0
  AreFormedBreaks breaks = All (IsFormedBreak (length form.names) form.widths) breaks

  -- the slope lines up to the line of 0/1, then the rest
  same_slopes : (x y : List Break) (a : List ℕ) (u v : List (List ℕ)) → get_or a 0 0 ≡ 97
      → AreFormedBreaks x → AreFormedBreaks y
      → slope_lines form.names x ++ a ∷ u ≡ slope_lines form.names y ++ a ∷ v
      → (slope_lines form.names x ≡ slope_lines form.names y) × (length x ≡ length y) × (u ≡ v)
  same_slopes [] [] a u v h hx hy e = (refl, refl, cons_tail e)
  same_slopes [] (c ∷ y) a u v h hx hy e = absurd (omega (arith, first_of e, h))
  same_slopes (b ∷ x) [] a u v h hx hy e = absurd (omega (arith, first_of e, h))
  same_slopes (b ∷ x) (c ∷ y) a u v h hx hy e =
      let r = same_slopes x y a u v h
      (All-tail (IsFormedBreak (length form.names) form.widths) b x hx)
      (All-tail (IsFormedBreak (length form.names) form.widths) c y hy) (cons_tail e) in (
        ap (λ l. l ∷ slope_lines form.names x) (cons_head e)
            ∙ ap (λ l. slope_line form.names c ∷ l) r.0,
        omega (arith, r.1),
        r.2,
      )

  block_is : (k : ℕ) (block : Block) (blocks : List Block) → AreFormedFrom k (block ∷ blocks)
      → IsFormedBlock (length form.names) k block
  block_is k block blocks h = subst (λ (n : ℕ). IsFormedBlock (length form.names) n block)
      (omega arith) (h 0 (omega arith))

  blocks_behind : (k : ℕ) (block : Block) (blocks : List Block) → AreFormedFrom k (block ∷ blocks)
      → AreFormedFrom (k + 1) blocks
  blocks_behind k block blocks h i lt =
      subst (λ (n : ℕ). IsFormedBlock (length form.names) n (block_at blocks i)) (omega arith)
      (h (suc i) (omega (arith, lt)))

  -- the block lines up to a line that begins in another way
  same_blocks : (k : ℕ) (x y : List Block) (u v : List (List ℕ)) → k + length x < 2 ^ 64
      → ((l : List ℕ) (m : List (List ℕ)) → u ≡ l ∷ m → get_or l 0 0 ≢ 98)
      → ((l : List ℕ) (m : List (List ℕ)) → v ≡ l ∷ m → get_or l 0 0 ≢ 98)
      → AreFormedFrom k x → AreFormedFrom k y
      → block_lines form.names (k + 1) x ++ u ≡ block_lines form.names (k + 1) y ++ v → (x ≡ y)
      × (u ≡ v)
  same_blocks k [] [] u v few nu nv hx hy e = (refl, e)
  same_blocks k [] (c ∷ y) u v few nu nv hx hy e = absurd (nu _ _ e refl)
  same_blocks k (b ∷ x) [] u v few nu nv hx hy e = absurd (nv _ _ (sym e) refl)
  same_blocks k (b ∷ x) (c ∷ y) u v few nu nv hx hy e =
      let one = block_line-same form.names k (block_line form.names (k + 1) b) b c named
      (omega (arith, few)) (block_is k b x hx, refl) (block_is k c y hy, cons_head e) in
      let r = same_blocks (k + 1) x y u v (omega (arith, few)) nu nv (blocks_behind k b x hx)
      (blocks_behind k c y hy) (cons_tail e) in (
        ap (λ (m : List Bool). let w : Block = record { members = m; needs = b.needs } in w ∷ x)
            one.0 ∙ ap (λ (n : List ℕ).
            let w : Block = record { members = c.members; needs = n } in w
            ∷ x) one.1 ∙ ap (λ z. c ∷ z) r.0,
        r.1,
      )

  -- the base lines of as many rows of the same widths
  same_rows : (i : ℕ) (x y : List (List ℤ)) (u v : List (List ℕ)) → map length x ≡ map length y
      → All (λ r. All IsEntry r) x → All (λ r. All IsEntry r) y
      → base_lines form.lines i x ++ u ≡ base_lines form.lines i y ++ v → (x ≡ y) × (u ≡ v)
  same_rows i [] [] u v w hx hy e = (refl, e)
  same_rows i [] (b ∷ y) u v w hx hy e = absurd (cc)
  same_rows i (a ∷ x) [] u v w hx hy e = absurd (cc)
  same_rows i (a ∷ x) (b ∷ y) u v w hx hy e =
      let f : length a ≡ length b = cc in
      let g : map length x ≡ map length y = cc in
      let one = row_line-same (codes "base ") (label_in form.lines i) (length a)
      (base_line form.lines i a) a b
      (refl, All-head (λ (r : List ℤ). All IsEntry r) a x hx, refl)
      (sym f, All-head (λ (r : List ℤ). All IsEntry r) b y hy, cons_head e) in
      let r = same_rows (i + 1) x y u v g (All-tail (λ (z : List ℤ). All IsEntry z) a x hx)
      (All-tail (λ (z : List ℤ). All IsEntry z) b y hy) (cons_tail e) in
      (ap (λ c. c ∷ x) one ∙ ap (λ z. b ∷ z) r.0, r.1)

  -- the sections of slopes with the same slope lines
  same_breaks : (x y : List Break) (u v : List (List ℕ)) → AreFormedBreaks x → AreFormedBreaks y
      → slope_lines form.names x ≡ slope_lines form.names y
      → break_lines form.lines x ++ u ≡ break_lines form.lines y ++ v → (x ≡ y) × (u ≡ v)
  same_breaks [] [] u v hx hy s e = (refl, e)
  same_breaks [] (c ∷ y) u v hx hy s e = absurd (cc)
  same_breaks (b ∷ x) [] u v hx hy s e = absurd (cc)
  same_breaks (b ∷ x) (c ∷ y) u v hx hy s e =
      let hb = All-head (IsFormedBreak (length form.names) form.widths) b x hx in
      let hc = All-head (IsFormedBreak (length form.names) form.widths) c y hy in
      let one = slope_line-same form.names (slope_line form.names b) (ratio_of b) (ratio_of c)
      b.members c.members named
      (record {
        lowest = hb.lowest;
        entry = hb.entry;
        factor = hb.factor;
        members = hb.members;
        written = refl;
      })
      (record {
        lowest = hc.lowest;
        entry = hc.entry;
        factor = hc.factor;
        members = hc.members;
        written = cons_head s;
      }) in
      let tails : base_lines form.lines 1 b.bases ++ (break_lines form.lines x ++ u) ≡ base_lines
      form.lines 1 c.bases ++ (break_lines form.lines y ++ v)
      = sym (append_assoc (base_lines form.lines 1 b.bases) (break_lines form.lines x) u)
      ∙ cons_tail e ∙ append_assoc (base_lines form.lines 1 c.bases) (break_lines form.lines y)
      v in
      let rows = same_rows 1 b.bases c.bases (break_lines form.lines x ++ u)
      (break_lines form.lines y ++ v) (hb.bases.widths_are ∙ sym hc.bases.widths_are)
      hb.bases.small hc.bases.small tails in
      let r = same_breaks x y u v (All-tail (IsFormedBreak (length form.names) form.widths) b x hx)
      (All-tail (IsFormedBreak (length form.names) form.widths) c y hy) (cons_tail s) rows.1 in
      (ap (λ z. z ∷ x) (same_break b c one.0 one.1 one.2 rows.0) ∙ ap (λ z. c ∷ z) r.0, r.1) where
        same_break : (b c : Break) → b.num ≡ c.num → b.den ≡ c.den → b.members ≡ c.members
            → b.bases ≡ c.bases → b ≡ c
        same_break b c p q m r =
            ap (λ (x : ℤ). let w : Break = record {
              num = x;
              den = b.den;
              members = b.members;
              bases = b.bases;
            } in w) p
            ∙ ap (λ (x : ℤ). let w : Break = record {
              num = c.num;
              den = x;
              members = b.members;
              bases = b.bases;
            } in w) q
            ∙ ap (λ (x : List Bool). let w : Break = record {
              num = c.num;
              den = c.den;
              members = x;
              bases = b.bases;
            } in w) m
            ∙ ap (λ (x : List (List ℤ)).
            let w : Break = record {
              num = c.num;
              den = c.den;
              members = c.members;
              bases = x;
            } in w) r

  from_zero : (blocks : List Block)
      → ((i : ℕ) → i < length blocks → IsFormedBlock (length form.names) i (block_at blocks i))
      → AreFormedFrom 0 blocks
  from_zero blocks h i lt = subst (λ (n : ℕ). IsFormedBlock (length form.names) n
      (block_at blocks i)) (omega arith) (h i lt)

  no_block_next : (x : List Break) (a : List ℕ) (u : List (List ℕ)) → get_or a 0 0 ≡ 97
      → (l : List ℕ) (m : List (List ℕ)) → slope_lines form.names x ++ a ∷ u ≡ l ∷ m
      → get_or l 0 0 ≢ 98
  no_block_next [] a u h l m e f = omega (arith, h, f, first_of e)
  no_block_next (b ∷ x) a u h l m e f = omega (arith, f, first_of e)

  -- the answer of a text whose blocks can be counted
  pub one_answer : (clean : IsLine form.header) (text : List ℕ) (a b : Answer)
      → length a.blocks < 2 ^ 64 → IsAnswerText form text a → IsAnswerText form text b → a ≡ b
  one_answer clean text a b few ha hb =
      let e : answer_lines form a ≡ answer_lines form b = one_list form clean named.forms a b
      ha.formed hb.formed (sym ha.written ∙ hb.written) in
      let value = one_number a.value b.value ha.formed.value hb.formed.value
      (append_cancel_left (codes "minimum ") _ _ (cons_head (cons_tail e))) in
      let low = listed-same form.names a.least b.least named ha.formed.least hb.formed.least
      (append_cancel_left (codes "least") _ _ (cons_head (cons_tail (cons_tail e)))) in
      let high = listed-same form.names a.greatest b.greatest named ha.formed.greatest
      hb.formed.greatest (append_cancel_left (codes "greatest") _ _
      (cons_head (cons_tail (cons_tail (cons_tail e))))) in
      let tail = sym (regroup (block_lines form.names 1 a.blocks) (slope_lines form.names a.breaks)
      (at_line (pos 0) (pos 1)) (base_lines form.lines 1 a.bases)
      (break_lines form.lines a.breaks) (codes "end" ∷ []))
      ∙ cons_tail (cons_tail (cons_tail (cons_tail e)))
      ∙ regroup (block_lines form.names 1 b.blocks) (slope_lines form.names b.breaks)
      (at_line (pos 0) (pos 1)) (base_lines form.lines 1 b.bases)
      (break_lines form.lines b.breaks) (codes "end" ∷ []) in
      let blocks = same_blocks 0 a.blocks b.blocks _ _ (omega (arith, few))
      (no_block_next a.breaks (at_line (pos 0) (pos 1)) _ refl)
      (no_block_next b.breaks (at_line (pos 0) (pos 1)) _ refl)
      (from_zero a.blocks ha.formed.blocks) (from_zero b.blocks hb.formed.blocks) tail in
      let slopes = same_slopes a.breaks b.breaks (at_line (pos 0) (pos 1)) _ _ refl ha.formed.breaks
      hb.formed.breaks blocks.1 in
      let rows = same_rows 1 a.bases b.bases _ _
      (ha.formed.bases.widths_are ∙ sym hb.formed.bases.widths_are) ha.formed.bases.small
      hb.formed.bases.small slopes.2 in
      let breaks = same_breaks a.breaks b.breaks (codes "end" ∷ []) (codes "end" ∷ [])
      ha.formed.breaks hb.formed.breaks slopes.0 rows.1 in
      same value low high blocks.0 rows.0 breaks.0 where
        same : {v v' : ℤ} {l l' g g' : List Bool} {k k' : List Block} {r r' : List (List ℤ)}
            {s s' : List Break} → v ≡ v' → l ≡ l' → g ≡ g' → k ≡ k' → r ≡ r' → s ≡ s'
            → made v l g k r s ≡ made v' l' g' k' r' s'
        same p q m n o t = cc
