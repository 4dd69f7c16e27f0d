-- the sections so far
use Rattle.std.proofs.Common.{length, take}
use Rattle.sfm_slope.specs.Searches.{IsSearch}
use Rattle.sfm_slope.specs.Behind.{AreBehind}
use Rattle.sfm_slope.proofs.sections.each_section.Given as goal

abbrev pub invariant-loop-point : goal.invariant-loop-point
invariant-loop-point g l = let t = g.T.Term in record {
  search : IsSearch t l.terms (length l.sizes) l.search;
  behind : AreBehind t l.terms l.sizes (take l.point-index l.found) l.initial.breaks.items
      l.breaks.items;
}
