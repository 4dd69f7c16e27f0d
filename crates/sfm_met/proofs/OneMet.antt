-- A text says one thing.
use Rattle.std.proofs.Common.{◌≡◌, ℕ, ◌+◌, Bool, List, [], ◌∷◌, ◌++◌, length, map, ℤ, refl, sym, ap, ◌∙◌, append_assoc}
use Rattle.std.specs.Prelude.{codes}
use Rattle.std.specs.List.{All}
use Rattle.std.proofs.lemmas.List.Elements.{All-head, All-tail}
use Rattle.sfm_spec.specs.Bounds.{IsEntry}
use Rattle.sfm_kind.specs.Names.{AreElementNames}
use Rattle.sfm_cert.specs.Answer.{Form, row_lines}
use Rattle.sfm_cert.specs.Labels.{label_in}
use Rattle.sfm_cert.specs.LineLists.{row_line}
use Rattle.sfm_readback.proofs.Unique.{row_line-same, set_line-same, value_line-same}
use Rattle.sfm_meet.specs.Met.{MetAnswer}
use Rattle.sfm_met.specs.MetText.{met_lines}
use Rattle.sfm_met.specs.MetReading.{IsMetText}
use Rattle.sfm_met.proofs.MetLines.{same_lines}

head_of : {a b : List ℕ} {x y : List (List ℕ)} → a ∷ x ≡ b ∷ y → a ≡ b
head_of e = cc

tail_of : {a b : List ℕ} {x y : List (List ℕ)} → a ∷ x ≡ b ∷ y → x ≡ y
tail_of e = cc

-- the lines of as many rows of the same widths
same_rows : (word lines : List ℕ) (i : ℕ) (x y : List (List ℤ)) (u v : List (List ℕ))
    → map length x ≡ map length y → All (λ r. All IsEntry r) x → All (λ r. All IsEntry r) y
    → row_lines word lines i x ++ u ≡ row_lines word lines i y ++ v → (x ≡ y) × (u ≡ v)
same_rows word lines i [] [] u v w hx hy e = (refl, e)
same_rows word lines i [] (b ∷ y) u v w hx hy e = absurd (cc)
same_rows word lines i (a ∷ x) [] u v w hx hy e = absurd (cc)
same_rows word lines i (a ∷ x) (b ∷ y) u v w hx hy e =
    let f : length a ≡ length b = cc in
    let g : map length x ≡ map length y = cc in
    let one = row_line-same word (label_in lines i) (length a) (row_line word (label_in lines i) a)
    a b (refl, All-head (λ (r : List ℤ). All IsEntry r) a x hx, refl)
    (sym f, All-head (λ (r : List ℤ). All IsEntry r) b y hy, head_of e) in
    let r = same_rows word lines (i + 1) x y u v g (All-tail (λ (z : List ℤ). All IsEntry z) a x hx)
    (All-tail (λ (z : List ℤ). All IsEntry z) b y hy) (tail_of e) in
    (ap (λ c. c ∷ x) one ∙ ap (λ z. b ∷ z) r.0, r.1)

abbrev made : ℤ → List Bool → List ℤ → List (List ℤ) → List (List ℤ) → MetAnswer
made v s x l r = record { value = v; members = s; common = x; left = l; right = r }

-- what a text says is one thing
pub one_met : (lf rf : Form) (text : List ℕ) (a b : MetAnswer) → AreElementNames lf.names
    → IsMetText lf rf text a → IsMetText lf rf text b → a ≡ b
one_met lf rf text a b fine ha hb =
    let e : met_lines lf rf a ≡ met_lines lf rf b = same_lines lf rf fine.forms a b ha.formed
    hb.formed (sym ha.written ∙ hb.written) in
    let e1 = tail_of e in
    let e2 = tail_of e1 in
    let e3 = tail_of e2 in
    let value = value_line-same (codes "value ") _ a.value b.value (ha.formed.value, refl)
    (hb.formed.value, head_of e1) in
    let members = set_line-same (codes "set") lf.names _ a.members b.members fine
    (ha.formed.members, refl) (hb.formed.members, head_of e2) in
    let common = row_line-same (codes "common") [] (length lf.names) _ a.common b.common
    (ha.formed.count, ha.formed.common, refl) (hb.formed.count, hb.formed.common, head_of e3) in
    let ends = codes "end" ∷ [] in
    let rows : row_lines (codes "left ") lf.lines 1
    a.left ++ (row_lines (codes "right ") rf.lines 1 a.right ++ ends) ≡ row_lines
    (codes "left ") lf.lines 1 b.left ++ (row_lines (codes "right ") rf.lines 1 b.right ++ ends)
    = sym (append_assoc (row_lines (codes "left ") lf.lines 1 a.left)
    (row_lines (codes "right ") rf.lines 1 a.right) ends) ∙ tail_of e3
    ∙ append_assoc (row_lines (codes "left ") lf.lines 1 b.left)
    (row_lines (codes "right ") rf.lines 1 b.right) ends in
    let lefts = same_rows (codes "left ") lf.lines 1 a.left b.left _ _
    (ha.formed.left_rows.widths_are ∙ sym hb.formed.left_rows.widths_are)
    ha.formed.left_rows.small hb.formed.left_rows.small rows in
    let rights = same_rows (codes "right ") rf.lines 1 a.right b.right _ _
    (ha.formed.right_rows.widths_are ∙ sym hb.formed.right_rows.widths_are)
    ha.formed.right_rows.small hb.formed.right_rows.small lefts.1 in
    same value members common lefts.0 rights.0 where
      same : {v v' : ℤ} {s s' : List Bool} {x x' : List ℤ} {l l' r r' : List (List ℤ)} → v ≡ v'
          → s ≡ s' → x ≡ x' → l ≡ l' → r ≡ r' → made v s x l r ≡ made v' s' x' l' r'
      same p q m n o = cc
