-- A line of a block says which block it is, and a line of a slope which slope.
use Rattle.std.proofs.Common.{◌≡◌, ℕ, ◌+◌, ◌<◌, ◌^◌, Bool, List, ◌++◌, length, ℤ, refl, sym, ◌∙◌, arith}
use Rattle.std.specs.Prelude.{codes}
use Rattle.std.proofs.lemmas.List.{append_cancel_left}
use Rattle.sfm_spec.specs.Laws.{Mark}
use Rattle.sfm_spec.specs.Bounds.{IsEntry}
use Rattle.sfm_spec.specs.Blocks.{Block}
use Rattle.sfm_kind.specs.Names.{AreElementNames}
use Rattle.sfm_cert.specs.Answer.{block_line, listed, slope_text}
use Rattle.sfm_cert.specs.Form.{IsFormedBlock}
use Rattle.sfm_readback.proofs.Tokens.{same_front, slope_text-plain, slope_text-same}
use Rattle.sfm_readback.proofs.LineForms.{list_stop, slope_line_cut}
use Rattle.sfm_readback.proofs.Unique.{block_line-same as by_line, listed-same}

-- what is asked of the marks whose lines are told apart
pub record IsPlainMark (names : List (List ℕ)) (m : Mark) : Type 0 where
  pub num : IsEntry m.num
  pub den : IsEntry m.den
  pub places : length m.members ≡ length names

abbrev made : List Bool → List ℕ → Block
made s x = record { members = s; needs = x }

pub block_line-same : (names : List (List ℕ)) (i : ℕ) (a b : Block) → AreElementNames names
    → i < 2 ^ 63 → IsFormedBlock (length names) i a → IsFormedBlock (length names) i b
    → block_line names (i + 1) a ≡ block_line names (i + 1) b → a ≡ b
block_line-same names i a b fine small fa fb e =
    let r = by_line names i (block_line names (i + 1) a) a b fine (omega (arith, small)) (fa, refl)
    (fb, e) in
    same r.0 r.1 where
      same : {s t : List Bool} {x y : List ℕ} → s ≡ t → x ≡ y → made s x ≡ made t y
      same p q = cc

abbrev marked : ℤ → ℤ → List Bool → Mark
marked p q s = record { num = p; den = q; members = s }

pub slope_line-apart : (names : List (List ℕ)) (a b : Mark) → AreElementNames names
    → IsPlainMark names a → IsPlainMark names b
    → codes "slope " ++ slope_text a.num a.den ++ listed names a.members ≡ codes
    "slope " ++ slope_text b.num b.den ++ listed names b.members → a ≡ b
slope_line-apart names a b fine pa pb e =
    let f : codes "slope " ++ (slope_text a.num a.den ++ listed names a.members) ≡ codes
    "slope " ++ (slope_text b.num b.den ++ listed names b.members)
    = sym (slope_line_cut names a.num a.den a.members) ∙ e
    ∙ slope_line_cut names b.num b.den b.members in
    let g = append_cancel_left (codes "slope ") _ _ f in
    let t = same_front 32 (slope_text a.num a.den) (slope_text b.num b.den) (listed names a.members)
    (listed names b.members) (slope_text-plain a.num a.den pa.num pa.den)
    (slope_text-plain b.num b.den pb.num pb.den) (list_stop names a.members)
    (list_stop names b.members) g in
    let n = slope_text-same a.num a.den b.num b.den pa.num pa.den pb.num pb.den t.0 in
    same n.0 n.1 (listed-same names a.members b.members fine pa.places pb.places t.1) where
      same : {p p' q q' : ℤ} {s s' : List Bool} → p ≡ p' → q ≡ q' → s ≡ s'
          → marked p q s ≡ marked p' q' s'
      same x y z = cc
