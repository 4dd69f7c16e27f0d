-- The form of an answer does not depend on what its first line says.
use Rattle.std.proofs.Common.{ℕ, List}
use Rattle.sfm_kind.specs.Instance.{InstanceData}
use Rattle.sfm_cert.specs.Answer.{Answer}
use Rattle.sfm_cert.specs.Form.{IsFormed}
use Rattle.sfm_cert.specs.Solved.{form_with}

-- an answer has the form that names and terms ask for, whatever the first line is
pub formed_any : (instance : InstanceData) (a b : List ℕ) {answer : Answer}
    → IsFormed (form_with a instance) answer → IsFormed (form_with b instance) answer
formed_any instance a b f = record {
  value = f.value;
  least = f.least;
  greatest = f.greatest;
  blocks = f.blocks;
  bases = f.bases;
  breaks = f.breaks;
}
