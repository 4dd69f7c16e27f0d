-- The keys of the set are the tokens that are kept, so it has the next one exactly where that
-- stands among them.
use Rattle.std.proofs.Common.{◌≡◌, Bor, ℕ, List, [], ◌∷◌, ◌++◌, refl, sym, ap, ◌∙◌, arith}
use Rattle.sfm_kind.proofs.Keys.{new_where_none}
use Rattle.sfm_lines.specs.Lines.{texts_of}
use Rattle.sfm_passes.specs.Passes.{texts_between}
use Rattle.sfm_lines.proofs.Repeats.{true_from_not, false_from_not, found-among}
use Rattle.sfm_passes.proofs.Passed.{twice-behind, once-behind, passed-more, keys-push}
use Rattle.sfm_passes.proofs.passes.keep.Goals as goal

pub loop-separator-init : goal.loop-separator-init
loop-separator-init c = record { cut = refl; once = c.requires; shorter = omega arith }

pub returns-in_default : goal.returns-in_default
returns-in_default c =
    let inv = c.loop-separator.invariant in (record { cut = inv.cut; once = inv.once }, inv.shorter)

pub returns-then-not-branch : goal.returns-then-not-branch
returns-then-not-branch c =
    let inv = c.loop-separator.invariant in
    let keys = texts_of c.loop-separator.kept.keys in
    let found = found-among c.loop-separator.kept.keys _
    (true_from_not _ _ c.in_ok-insert.ensures.added c.if-not-branch.true) in
    twice-behind keys c.in-Some.token.now (texts_between c.args.separator c.in-Some.behind.now) _
    (inv.cut ∙ ap (λ (l : List (List ℕ)). keys ++ l) c.in-Some.ensures.cut) found

pub loop-separator-preserved : goal.loop-separator-preserved
loop-separator-preserved c =
    let inv = c.loop-separator.invariant in
    let old = texts_of c.loop-separator.kept.keys in
    let token = c.in-Some.token.now in
    let none = false_from_not _ _ c.in_ok-insert.ensures.added c.if-not-branch.false in
    let new = new_where_none (λ (t : Bor (List ℕ)). t.now) _ c.loop-separator.kept.keys none in
    let keys = rw none at c.in_ok-insert.ensures.keys in
    let more : texts_of c.insert.new.self.keys ≡ old ++ token ∷ [] = keys-push
    c.loop-separator.kept.keys c.insert.new.self.keys c.in-Some.token old refl keys in
    record {
      cut = passed-more old token (texts_between c.args.separator c.in-Some.behind.now) _ _ inv.cut
          c.in-Some.ensures.cut ∙ ap (λ (l : List (List ℕ)). l ++ texts_between c.args.separator
          c.in-Some.behind.now) (sym more);
      once = rw more (once-behind old token inv.once new);
      shorter = omega (arith, inv.shorter, c.in-Some.ensures.shorter);
    }

pub returns : goal.returns
returns c = let inv = c.loop-separator.invariant in (
  record { cut = inv.cut; once = inv.once },
  inv.shorter,
)
