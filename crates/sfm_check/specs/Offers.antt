-- What is judged: an answer that was read, with the instance and the sizes that it is offered for.
use Rattle.std.specs.Prelude.{ℕ, ◌≤◌, List, length, ℤ}
use Rattle.sfm_spec.specs.Families.{Meaning, meanings}
use Rattle.sfm_kind.specs.Kinds.{kind_places, kind_value}
use Rattle.sfm_cert.specs.Answer.{Answer, answer_lines}
use Rattle.sfm_cert.specs.Form.{IsFormed}
use Rattle.sfm_cert.specs.Grammar.{answer_limit}
use Rattle.sfm_cert.specs.Solved.{answer_of, form_of}
use Rattle.sfm_sizes.specs.Sizes.{AreElementSizes}
use Rattle.sfm_check.specs.Truth.{Section, section_at}
use Rattle.sfm_check.specs.declared.offer.Offer.{Offer}

-- what the terms mean
abbrev pub meant : Offer → List Meaning
meant o = meanings kind_places kind_value o.instance.now.terms

-- how many elements there are
abbrev pub elements : Offer → ℕ
elements o = length o.instance.now.names

-- what the answer says
abbrev pub said : Offer → Answer
said o = answer_of o.solved.now

-- its answer has no more lines than a text may have
abbrev pub IsShort : Offer → Type 0
IsShort o = length (answer_lines (form_of o.instance.now) (said o)) ≤ answer_limit

-- what is said of terms, of so many elements with their sizes and of an answer, said of an offer
abbrev pub of_offer : {A : Type 1} → (List Meaning → ℕ → List ℤ → Answer → A) → Offer → A
of_offer P o = P (meant o) (elements o) o.sizes.now (said o)

-- what is said of terms, of so many elements with their sizes and of a section, said of section s
-- of an offer
abbrev pub of_section : {A : Type 1} → (List Meaning → ℕ → List ℤ → Section → A) → Offer → ℕ → A
of_section P o s = P (meant o) (elements o) o.sizes.now (section_at (said o) s)

-- each element has its size, and the answer is of the form of the instance
pub record IsOffer (o : Offer) : Type 0 where
  pub sizes : AreElementSizes (elements o) o.sizes.now
  pub formed : IsFormed (form_of o.instance.now) (said o)
