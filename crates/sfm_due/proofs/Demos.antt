-- What the line of a demonstration tells.
use Rattle.std.proofs.Common.{◌≡◌, ℕ, List, length, refl}
use Rattle.sfm_spec.specs.Laws.{ones}
use Rattle.sfm_kind.specs.Instance.{InstanceData}
use Rattle.sfm_cert.specs.declared.solved.Solved.{Solved}
use Rattle.sfm_cert.specs.LineLists.{answer_text}
use Rattle.sfm_cert.specs.Solved.{answer_of, form_of}
use Rattle.sfm_due.specs.Meanings.{question_of}
use Rattle.sfm_due.specs.Demo.{demo_line, IsDemoed}
use Rattle.sfm_due.specs.Solving.{IsTrueAnswer}

-- the line of a true answer
pub demoed : (seed : ℕ) (written : List ℕ) (instance : InstanceData) (s : Solved)
    → IsTrueAnswer instance (ones (length instance.names)) (answer_of s)
    → written ≡ demo_line seed (answer_of s) → IsDemoed seed (question_of instance) written
demoed seed written instance s h named = record {
  file = answer_text (form_of instance) (answer_of s);
  right = record {
    answer = answer_of s;
    is_text = record { formed = h.formed; written = refl };
    head = h.head;
    sections = h.sections;
  };
  named = named;
}
