-- What bases that prove tell makes a true answer of the right form.
use Rattle.std.proofs.Common.{◌≡◌, ℕ, List, length, map, codes, ℤ, pos, ap, sym, ◌∙◌, subst, arith}
use Rattle.std.proofs.lemmas.Int.{ints}
use Rattle.std.specs.List.{All}
use Rattle.std.proofs.lemmas.List.Elements.{All-cons}
use Rattle.sfm_spec.specs.Bounds.{IsEntry}
use Rattle.sfm_spec.specs.Blocks.{AreBlocks}
use Rattle.sfm_spec.specs.Laws.{AreBreakpoints}
use Rattle.sfm_spec.specs.Families.{even_shift, sized_shift}
use Rattle.sfm_sizes.specs.Sizes.{AreElementSizes}
use Rattle.sfm_sizes.proofs.Sized.{sized-zero}
use Rattle.sfm_cert.proofs.AnyHeader.{formed_any}
use Rattle.sfm_kind.specs.Instance.{InstanceData}
use Rattle.sfm_kind.specs.Limits.{AreInBounds}
use Rattle.sfm_kind.specs.Names.{AreElementNames}
use Rattle.sfm_cert.specs.Answer.{Answer, mark_of}
use Rattle.sfm_cert.specs.LineLists.{answer_text}
use Rattle.sfm_cert.specs.Form.{IsFormedBreak}
use Rattle.sfm_cert.specs.Solved.{form_of, form_with}
use Rattle.sfm_check.specs.Truth.{IsProvedSection, IsTrueHead, section_of}
use Rattle.sfm_check.proofs.BlockOrder.{blocks_formed}
use Rattle.sfm_check.proofs.Short.{head_few}
use Rattle.sfm_check.proofs.Small.{value_small}
use Rattle.sfm_due.proofs.Moved.{reached}
use Rattle.sfm_due.proofs.Rows.{formed_rows}
use Rattle.sfm_due.specs.Meanings.{meanings_of, question_of}
use Rattle.sfm_due.specs.Due.{IsSolvedBy, IsReached}
use Rattle.sfm_due.specs.Solving.{Gives, IsTrueAnswer}

-- the bases and what they tell are those of an answer, with its blocks and its slopes
pub record IsRead (instance : InstanceData) (sizes : List ℤ) (a : Answer) : Type 0 where
  pub gives : Gives instance a.bases
      (record { value = a.value; least = a.least; greatest = a.greatest })
  pub blocks : AreBlocks (meanings_of instance.terms) (length instance.names) (pos 1)
      (even_shift (length instance.names) (pos 0)) a.blocks
  pub slopes : AreBreakpoints (meanings_of instance.terms) (length instance.names) sizes
      (map mark_of a.breaks)
  pub breaks : All (IsFormedBreak (length instance.names) (form_of instance).widths) a.breaks
  pub proved : All (IsProvedSection (meanings_of instance.terms) (length instance.names) sizes)
      (map section_of a.breaks)
  pub reached : All (IsReached instance.terms (meanings_of instance.terms) (length instance.names)
      sizes) (map section_of a.breaks)

-- at 0/1 sizes say nothing
pub no_shift : (n : ℕ) (sizes : List ℤ) → AreElementSizes n sizes
    → even_shift n (pos 0) ≡ sized_shift sizes (pos 0)
no_shift n sizes sized = ap (λ m. even_shift m (pos 0)) (sym sized.places) ∙ sym (sized-zero sizes)

pub true_answer : (instance : InstanceData) (sizes : List ℤ) (a : Answer)
    → AreElementNames instance.names → AreInBounds (length instance.names) instance.terms
    → AreElementSizes (length instance.names) sizes
    → IsRead instance sizes a → IsTrueAnswer instance sizes a
true_answer instance sizes a named bounded sized h = record {
  formed = record {
    value = subst IsEntry (sym head.value)
        (value_small (length instance.names) sizes instance.terms a.least bounded
        h.gives.least.minimiser.allowed);
    least = h.gives.least.minimiser.places;
    greatest = h.gives.greatest.minimiser.places;
    blocks = blocks_formed (meanings_of instance.terms) (length instance.names) (pos 1)
        (even_shift (length instance.names) (pos 0)) a.blocks h.blocks;
    bases = record {
      widths_are = formed_rows (pos 1) instance.terms a.bases h.gives.bases;
      small = h.gives.small;
    };
    breaks = h.breaks;
  };
  few = head_few instance sizes a named bounded sized head;
  head = head;
  sections = All-cons (IsProvedSection (meanings_of instance.terms) (length instance.names) sizes)
      (record { num = pos 0; den = pos 1; bases = a.bases }) (map section_of a.breaks)
      (record { bases = h.gives.bases; proves = rw (← zero) h.gives.proves })
      h.proved;
  reached = All-cons (IsReached instance.terms (meanings_of instance.terms) (length instance.names)
      sizes) (record { num = pos 0; den = pos 1; bases = a.bases }) (map section_of a.breaks)
      (reached instance.terms (length instance.names) sizes
      (record { num = pos 0; den = pos 1; bases = a.bases }) bounded (omega (arith, ints))
      (rw (← zero) h.gives.reached))
      h.reached;
} where
  zero : even_shift (length instance.names) (pos 0) ≡ sized_shift sizes (pos 0)
  zero = no_shift (length instance.names) sizes sized

  head : IsTrueHead (meanings_of instance.terms) (length instance.names) sizes a
  head = record {
    least = rw (← zero) h.gives.least;
    greatest = rw (← zero) h.gives.greatest;
    value = rw (← zero) h.gives.value;
    blocks = rw (← zero) h.blocks;
    breaks = h.slopes;
  }

-- the text of a true answer, with that first line, is a right file
pub solved : (header : List ℕ) (file : List ℕ) (instance : InstanceData) (sizes : List ℤ)
    (a : Answer) → IsTrueAnswer instance sizes a → file ≡ answer_text (form_with header instance) a
    → IsSolvedBy header sizes (question_of instance) file
solved header file instance sizes a h written = record {
  right = record {
    answer = a;
    is_text = record {
      formed = formed_any instance (codes "answer 1")
          header h.formed;
      written = written;
    };
    head = h.head;
    sections = h.sections;
  };
  reached = h.reached;
}
