-- A text of a form of which each line says one thing is good for one thing alone, or has one first
-- fault, and not both.
use Rattle.std.proofs.Common.{◌≡◌, inl, inr, ℕ, List, [], ◌∷◌, codes, refl, sym, ap, subst, ◌∙◌}
use Rattle.sfm_lines.specs.declared.reason.Reason.{Reason}
use Rattle.sfm_lines.specs.Lines.{tokens_of}
use Rattle.sfm_text.specs.Language.{IsReadAs, IsFaultIn}
use Rattle.sfm_text.proofs.Orders.{first_once}
use Rattle.sfm_text.proofs.Readings.{IsKept, readings-alike, good-or-faulty, faults-once}
use Rattle.sfm_side.specs.Side.{SideState, SideForm, header, lines, ended, HasSide, AddsSide, side_language}

-- a line says one thing, and the end says nothing
pub record IsSaidOnce {D : Type 0} (form : SideForm D) : Type 0 where
  pub once : (d : D) (tokens : List (List ℕ)) (a b : D) → form.Says d tokens a
      → form.Says d tokens b → a ≡ b
  pub ends : (d a : D) → form.Says d (codes "end" ∷ []) a → ⊥

module _ {D : Type 0} (form : SideForm D) (once : IsSaidOnce form) where
  -- two readings come to one state
  abbrev Same : SideState D → SideState D → Type 0
  Same s t = s ≡ t

  adds-same : (s : SideState D) (line : List ℕ) (u v : SideState D) → AddsSide form s line u
      → AddsSide form s line v → u ≡ v
  adds-same header line u v h g = h ∙ sym g
  adds-same (lines d) line u v (inl (last, h)) (inl (last', g)) = h ∙ sym g
  adds-same (lines d) line u v (inl (last, h)) (inr (said, says, g)) =
      absurd (once.ends d said (rw last at says))
  adds-same (lines d) line u v (inr (said, says, h)) (inl (last, g)) =
      absurd (once.ends d said (rw last at says))
  adds-same (lines d) line u v (inr (said, says, h)) (inr (said', says', g)) =
      h ∙ (ap lines (once.once d (tokens_of line) said said' says says') ∙ sym g)
  adds-same (ended d) line u v h g = absurd h

  kept : IsKept (side_language form) Same
  kept = record {
    start = refl;
    takes = λ s t line u v same h g. adds-same s line u v h.1
        (subst (λ (r : SideState D). AddsSide form r line v) (sym same) g.1);
    ends = λ s t same (d, e). (d, sym same ∙ e);
    refuses = λ s t line reason u same first takes.
        takes.0 reason (subst (λ (r : SideState D). HasSide form r line reason) same first.holds);
    once = λ s t line a b same back. first_once (HasSide form s line) (HasSide form t line) a b
        (λ reason. subst (λ (r : SideState D). HasSide form r line reason) same)
        (λ reason. subst (λ (r : SideState D). HasSide form r line reason) back);
  }

  module _ (text : List ℕ) where
    pub one-reading : (a b : D) → IsReadAs (side_language form) text (ended a)
        → IsReadAs (side_language form) text (ended b) → a ≡ b
    one-reading a b h g = let same : ended a ≡ ended b = readings-alike (side_language form) Same
        kept text (ended a) (ended b) h g in cc

    pub not-both : (a : D) (line : ℕ) (reason : Reason)
        → IsReadAs (side_language form) text (ended a)
        → IsFaultIn (side_language form) text line reason → ⊥
    not-both a line reason h fault = good-or-faulty (side_language form) Same kept text (ended a)
        line reason h (a, refl) fault

    pub one-fault : (line line' : ℕ) (reason reason' : Reason)
        → IsFaultIn (side_language form) text line reason
        → IsFaultIn (side_language form) text line' reason' → (line ≡ line') × (reason ≡ reason')
    one-fault line line' reason reason' h g =
        faults-once (side_language form) Same kept text line line' reason reason' h g
