use Rattle.std.proofs.Common.{◌≡◌, length, map, pos, sym, arith, subst, FitsSigned}
use Rattle.std.specs.List.{All}
use Rattle.std.proofs.lemmas.Int.{ints, to_z-of_z}
use mir.Syntax.{w128}
use Rattle.sfm_spec.specs.Bounds.{IsEntry}
use Rattle.sfm_spec.specs.Blocks.{AreBlocks}
use Rattle.sfm_spec.specs.Families.{even_shift, shifted_at, sized_shift}
use Rattle.sfm_spec.specs.Laws.{AreBreakpoints}
use Rattle.sfm_kind.specs.Kinds.{kind_start}
use Rattle.sfm_slope.specs.Marks.{HasBasesBy, mark_of as kept_mark}
use Rattle.sfm_extreme.specs.Blocks.{block_of}
use Rattle.sfm_cert.specs.Answer.{Answer}
use Rattle.sfm_cert.specs.Solved.{break_of}
use Rattle.sfm_check.proofs.Small.{value_small}
use Rattle.sfm_due.specs.Meanings.{meanings_of}
use Rattle.sfm_due.specs.Solving.{Gives, IsTrueAnswer}
use Rattle.sfm_due.proofs.Slopes.{formed_breaks, proved_breaks, reached_breaks, same_marks}
use Rattle.sfm_due.proofs.Solves.{no_shift, true_answer}
use Rattle.sfm_due.proofs.solve.solve_by.Goals as goal
use Rattle.sfm_due.proofs.solve.solve_by.Goals.{In_ok-found}

-- what the engine finds and what is read off it, over the terms and the names of the instance
gives : (c : In_ok-found) → Gives c.args.instance.now c.in_ok-bases.bases c.in_ok-found.found.proved
gives c =
    let best = c.in_ok-bases.ensures in
    let few = c.in_ok-search.ensures.shift in
    let (least, greatest, value) = rw (c.terms-terms.ensures.terms, c.names_len-n.ensures.len) at
    c.in_ok-found.ensures.answer in
    record {
      bases = rw c.terms-terms.ensures.terms at best.bases;
      small = best.small;
      proves = rw (few, c.terms-terms.ensures.terms, c.names_len-n.ensures.len) at best.proves;
      reached = rw (few, c.terms-terms.ensures.terms, c.names_len-n.ensures.len) at best.few;
      least = least;
      greatest = greatest;
      value = value;
    }

pub optimum-requires : goal.optimum-requires
optimum-requires c = record { search = rw c.in_ok-search.ensures.shift c.in_ok-search.ensures }

pub minimisers_at-requires-clause-whole : goal.minimisers_at-requires-clause-whole
minimisers_at-requires-clause-whole c =
    rw c.in_ok-search.ensures.shift at c.in_ok-bases.ensures.cold

pub minimisers_at-requires-clause-small : goal.minimisers_at-requires-clause-small
minimisers_at-requires-clause-small c =
    rw (← c.in_ok-bases.ensures.same) c.in_ok-bases.ensures.small

pub minimisers_at-requires-clause-prove : goal.minimisers_at-requires-clause-prove
minimisers_at-requires-clause-prove c =
    rw (← c.in_ok-bases.ensures.same)
    (rw c.in_ok-search.ensures.shift at c.in_ok-bases.ensures.proves)

pub partition_with-requires-clause-sizes : goal.partition_with-requires-clause-sizes
partition_with-requires-clause-sizes c = rw c.requires.places c.requires

pub partition_with-requires-clause-search : goal.partition_with-requires-clause-search
partition_with-requires-clause-search c =
    rw (c.requires.places, ← c.names_len-n.ensures.len, ← c.in_ok-search.ensures.shift)
    c.in_ok-bases.ensures.search

pub returns : goal.returns
returns c =
    let instance = c.args.instance.now in
    let sizes = c.args.sizes.now in
    let n = length instance.names in
    let h = gives (goal.at.returns c).In_ok-found in
    let sized = c.requires in
    let zero : even_shift n (pos 0) ≡ sized_shift sizes (pos 0) = no_shift n sizes sized in
    let small : IsEntry (shifted_at (meanings_of instance.terms) (pos 1) (sized_shift sizes (pos 0))
    c.in_ok-found.found.proved.least) = value_small n sizes instance.terms
    c.in_ok-found.found.proved.least c.terms-terms.ensures.bounded h.least.minimiser.allowed in
    let entry : IsEntry c.in_ok-found.found.proved.value = subst IsEntry (sym h.value)
    (rw zero small) in
    let fits : FitsSigned w128 c.in_ok-found.found.proved.value = omega (arith, ints, entry) in
    let blocks : AreBlocks (meanings_of instance.terms) n (pos 1) (even_shift n (pos 0))
    (map block_of c.in_ok-found.found.blocks.items) =
    rw (c.terms-terms.ensures.terms, c.names_len-n.ensures.len) at
    c.in_ok-found.ensures.exact in
    let found = c.in_ok-breaks.breaks.items in
    let a : Answer = record {
      value = c.in_ok-found.found.proved.value;
      least = c.in_ok-found.found.proved.least;
      greatest = c.in_ok-found.found.proved.greatest;
      blocks = map block_of c.in_ok-found.found.blocks.items;
      bases = c.in_ok-bases.bases;
      breaks = map break_of found;
    } in
    let slopes : AreBreakpoints (meanings_of instance.terms) n sizes
    (map kept_mark found) = rw (c.requires.places, c.terms-terms.ensures.terms) at
    c.in_ok-breaks.ensures.slopes in
    let has : All (HasBasesBy (meanings_of instance.terms)
    (λ q. map (λ kind. kind_start kind q) instance.terms) n sizes)
    found = rw (c.requires.places, c.terms-terms.ensures.terms) at
    c.in_ok-breaks.ensures.bases in
    let done : IsTrueAnswer instance sizes a = true_answer instance sizes a
    c.names_len-n.ensures.named c.terms-terms.ensures.bounded sized (record {
      gives = h;
      blocks = blocks;
      slopes = subst (AreBreakpoints (meanings_of instance.terms) n sizes) (same_marks found)
          slopes;
      breaks = formed_breaks instance c.terms-terms.ensures.bounded sizes sized found slopes has;
      proved = proved_breaks instance c.terms-terms.ensures.bounded sizes sized found slopes has;
      reached = reached_breaks instance c.terms-terms.ensures.bounded sizes sized found slopes has;
    }) in
    simp to_z-of_z done
