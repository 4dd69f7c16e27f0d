-- A right file for the terms of an instance is no longer than the limit, so none is refused for its
-- length.
use Rattle.std.proofs.Common.{◌≡◌, ℕ, ◌≤◌, List, length, map, ℤ, pos, sym, arith, subst}
use Rattle.std.proofs.lemmas.List.{length-map}
use Rattle.sfm_spec.specs.Sets.{empty_set}
use Rattle.sfm_spec.specs.Families.{meanings, sized_shift}
use Rattle.sfm_spec.specs.Laws.{AreBreakpoints, Mark}
use Rattle.sfm_spec.proofs.Chain.{chain_count, chain_of_breakpoints}
use Rattle.sfm_sizes.specs.Sizes.{AreElementSizes}
use Rattle.sfm_kind.specs.declared.kind.Kind.{Kind}
use Rattle.sfm_kind.specs.Instance.{InstanceData, terms_in}
use Rattle.sfm_kind.specs.Limits.{AreInBounds}
use Rattle.sfm_kind.specs.Kinds.{kind_places, kind_value}
use Rattle.sfm_kind.specs.Names.{AreElementNames}
use Rattle.sfm_cert.specs.Answer.{Answer, mark_of}
use Rattle.sfm_cert.specs.Few.{HasFewLines}
use Rattle.sfm_cert.specs.Grammar.{answer_limit}
use Rattle.sfm_cert.specs.Header.{header_text}
use Rattle.sfm_cert.specs.Solved.{form_with}
use Rattle.sfm_cert.specs.declared.header.Header.{Header}
use Rattle.sfm_cert.proofs.InstanceLengths.{instance_text_short}
use Rattle.sfm_check.specs.Truth.{IsRightFile, IsTrueHead}
use Rattle.sfm_check.proofs.AllSlopes.{fit}
use Rattle.sfm_check.proofs.BlockOrder.{few_blocks}

-- there are at most as many slopes as elements
few_slopes : (n : ℕ) (sizes : List ℤ) (ts : List Kind) → AreInBounds n ts → AreElementSizes n sizes
    → (marks : List Mark) → AreBreakpoints (meanings kind_places kind_value ts) n sizes marks
    → length marks ≤ n
few_slopes n sizes ts bounded sized marks b =
    let chain = chain_of_breakpoints (meanings kind_places kind_value ts) n sizes (fit n ts bounded)
    sized.places sized.positive marks b in
    let count = chain_count (meanings kind_places kind_value ts) n sizes (empty_set n) marks
    chain in
    omega (arith, count)

-- an answer that is true has at most as many blocks and slopes as there are elements
pub head_few : (instance : InstanceData) (sizes : List ℤ) (a : Answer)
    → AreElementNames instance.names → AreInBounds (length instance.names) instance.terms
    → AreElementSizes (length instance.names) sizes
    → IsTrueHead (meanings kind_places kind_value instance.terms) (length instance.names) sizes a
    → HasFewLines a
head_few instance sizes a fine bounded sized head =
    let n = length instance.names in
    let few = fine.few in
    let blocks = few_blocks (meanings kind_places kind_value instance.terms) n (pos 1)
    (sized_shift sizes (pos 0)) a.blocks head.blocks in
    let slopes = few_slopes n sizes instance.terms bounded sized (map mark_of a.breaks)
    head.breaks in
    record {
      blocks = omega (arith, blocks, few);
      breaks = omega (arith, slopes, few, length-map a.breaks mark_of);
    }

pub right_short : (header : Header) (instance : InstanceData) (sizes : List ℤ) (text : List ℕ)
    → AreElementNames instance.names → AreInBounds (length instance.names) instance.terms
    → terms_in instance.lines ≡ length instance.terms
    → AreElementSizes (length instance.names) sizes
    → IsRightFile (form_with (header_text header) instance)
    (meanings kind_places kind_value instance.terms) sizes text → length text ≤ answer_limit
right_short header instance sizes text fine bounded lined sized r =
    subst (λ (z : List ℕ). length z ≤ answer_limit) (sym r.is_text.written)
    (instance_text_short header instance r.answer fine bounded lined r.is_text.formed
    (head_few instance sizes r.answer fine bounded sized r.head))
