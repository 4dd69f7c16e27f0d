-- The names so far stand before those that are left, so the next one is none of them.
use Rattle.std.proofs.Common.{◌≡◌, ◌≢◌, ℕ, List, [], ◌∷◌, ◌++◌, length, get_or, refl, sym, ap, ◌∙◌, length-append, arith}
use Rattle.std.specs.List.{All}
use Rattle.std.proofs.lemmas.List.{get_or_append_left}
use Rattle.sfm_spec.specs.Names.{IsName}
use Rattle.sfm_lines.specs.Lines.{tokens_of}
use Rattle.sfm_lines.specs.TermLines.{StandsTwice}
use Rattle.sfm_lines.proofs.Repeats.{twice-at}
use Rattle.sfm_passes.proofs.Passed.{passed-more, passed-all}
use Rattle.sfm_text.proofs.reading.with_names.Goals as goal
use Rattle.sfm_text.proofs.reading.with_names.Goals.{In-Some}

-- what stands there in all
whole : (c : In-Some) → tokens_of c.args.line.now ≡ c.loop-name.instance.names ++ c.in-Some.name.now
    ∷ tokens_of c.in-Some.behind.now
whole c = c.loop-name.invariant.names ∙ ap (λ (l : List (List ℕ)). c.loop-name.instance.names ++ l)
    c.in-Some.ensures.cut

-- what stands behind those before it
here : {X : Type 0} (d : X) (done : List X) (x : X) (more : List X)
    → get_or (done ++ x ∷ more) (length done) d ≡ x
here d [] x more = refl
here d (y ∷ done) x more = here d done x more

new-here : {X : Type 0} (done : List X) (x : X) (more : List X)
    → (StandsTwice (done ++ x ∷ more) → ⊥) → All (λ y. y ≢ x) done
new-here done x more once = λ k d lt same.
    once (twice-at (done ++ x ∷ more) k (length done) d lt
    (omega (arith, length-append done (x ∷ more)))
    (get_or_append_left done (x ∷ more) d k lt ∙ (same ∙ sym (here d done x more))))

pub add_name-requires : goal.add_name-requires
add_name-requires c =
    let at = goal.at.add_name-requires c in
    let is = whole at.In-Some in
    let done = c.loop-name.instance.names in
    let good = c.requires in
    let more = tokens_of c.in-Some.behind.now in
    let forms : All IsName (done ++ c.in-Some.name.now ∷ more) = rw is at good.forms in
    let last = forms (length done) c.in-Some.name.now
    (omega (arith, length-append done (c.in-Some.name.now ∷ more))) in
    record {
      form = rw (here c.in-Some.name.now done c.in-Some.name.now more) at last;
      fresh = new-here done c.in-Some.name.now (tokens_of c.in-Some.behind.now)
          (rw is at good.distinct);
      few = omega (
        arith,
        good.few,
        ap length is,
        length-append done (c.in-Some.name.now ∷ tokens_of c.in-Some.behind.now),
      );
    }

pub loop-name-preserved : goal.loop-name-preserved
loop-name-preserved c = record {
  names = rw (c.in_ok-add_name.ensures.added)
      (passed-more c.loop-name.instance.names c.in-Some.name.now _ _ _ c.loop-name.invariant.names
      c.in-Some.ensures.cut);
  version = c.add_name.ensures.version ∙ c.loop-name.invariant.version;
  terms = c.add_name.ensures.terms ∙ c.loop-name.invariant.terms;
  lines = c.add_name.ensures.lines ∙ c.loop-name.invariant.lines;
}

pub returns-clause-names : goal.returns-clause-names
returns-clause-names c = sym (passed-all c.loop-name.instance.names _ _ c.loop-name.invariant.names
    c.in_default.ensures.cut)
