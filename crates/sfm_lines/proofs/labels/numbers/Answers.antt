use Rattle.std.proofs.Common.{Bor, List, ℕ, ◌<◌, ◌^◌}
use Rattle.std.proofs.lemmas.List.Elements.{All-push}
use Rattle.sfm_lines.specs.Lines.{texts_of}
use Rattle.sfm_lines.specs.CutParts.{place_among}
use Rattle.sfm_lines.proofs.Steps.{maps-step, maps-end}
use Rattle.sfm_lines.proofs.labels.numbers.Goals as goal

pub loop-label-preserved : goal.loop-label-preserved
loop-label-preserved c = record {
  numbers = maps-step (λ (t : Bor (List ℕ)). t.now) (place_among (texts_of c.args.names.now.keys))
      c.args.labels.now c.loop-label.label-index _ c.loop-label.numbers.items c.push.new.self.items
      _ c.loop-label-test.true c.loop-label.invariant.numbers c.in_ok-push.ensures.items
      c.number_of.ensures.number;
  small = rw c.in_ok-push.ensures.items
      (All-push (λ v. v < 2 ^ 24) c.loop-label.numbers.items _ c.loop-label.invariant.small
      c.number_of.ensures.small);
}

pub returns-clause-numbers : goal.returns-clause-numbers
returns-clause-numbers c = maps-end (λ (t : Bor (List ℕ)). t.now)
    (place_among (texts_of c.args.names.now.keys)) c.args.labels.now c.loop-label.label-index
    c.loop-label.numbers.items c.loop-label-test.false c.loop-label.invariant.numbers
