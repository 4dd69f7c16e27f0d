use Rattle.std.proofs.Common.{ℕ, Bool, true, List, length, inr, sym, ap, subst, ◌∙◌}
use Rattle.std.proofs.lemmas.Bool.{true≢false}
use Rattle.std.proofs.lemmas.List.{length-set}
use Rattle.sfm_spec.specs.Sets.{Has}
use Rattle.sfm_lines.specs.Lines.{tokens_of}
use Rattle.sfm_lines.specs.ReadParts.{IsKnown}
use Rattle.sfm_passes.proofs.LongNames.{new-unknown}
use Rattle.sfm_side.specs.PinLines.{PutsNames, PutsAgain}
use Rattle.sfm_side.proofs.Putting.{all-first, all-rest}
use Rattle.sfm_side.proofs.pins.put_names.Goals as goal

pub unreachable-requires : goal.unreachable-requires
unreachable-requires c = new-unknown c.args.instance.now.names c.in-Some.name.now
    c.in_default-place_of.ensures.none
    (all-first (IsKnown c.args.instance.now.names) _ _ _ c.in-Some.ensures.cut
    c.loop-name.invariant.known)

pub loop-name-preserved : goal.loop-name-preserved
loop-name-preserved c =
    let names = c.args.instance.now.names in
    let to = c.loop-name.to in
    let other = c.args.other.now in
    let before = c.loop-name.invariant in
    let e = c.in-Some-place_of.e in
    let behind = tokens_of c.in-Some.behind.now in
    let new : Has to e → ⊥ = λ h.
    true≢false (sym h ∙ (sym c.contains.ensures ∙ c.if-contains.false)) in
    let apart : Has other e → ⊥ = λ h.
    true≢false (sym h ∙ (sym c.contains-in-Some.ensures ∙ c.if-contains-2.false)) in
    record {
      places = ap length c.insert.ensures ∙ (length-set to e true ∙ before.places);
      known = all-rest (IsKnown names) _ _ _ c.in-Some.ensures.cut before.known;
      puts = λ after puts. before.puts after
          (subst (λ (texts : List (List ℕ)). PutsNames names to other texts after)
          (sym c.in-Some.ensures.cut) (
            e,
            c.in-Some-place_of.ensures.found,
            new,
            apart,
            subst (λ (s : List Bool). PutsNames names s other behind after) c.insert.ensures
                puts,
          ));
      again = λ again. before.again (subst (PutsAgain names to other) (sym c.in-Some.ensures.cut) (
        e,
        c.in-Some-place_of.ensures.found,
        inr (
          new,
          apart,
          subst (λ (s : List Bool). PutsAgain names s other behind)
              c.insert.ensures again,
        ),
      ));
    }
