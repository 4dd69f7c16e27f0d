use Rattle.std.proofs.Common.{◌≡◌, ℕ, zero, suc, List, [], ◌∷◌, ◌++◌, Option, None, refl, ◌∙◌, arith}
use Rattle.std.proofs.lemmas.List.{length_push}
use Rattle.sfm_assign.specs.Spread.{answer_at}
use Rattle.sfm_assign.specs.declared.spread.Answer.{Answer}
use Rattle.sfm_assign.proofs.Telling.{listed_wider}
use Rattle.sfm_assign.proofs.told.Told.make_room.Goals as goal

none_more : (answers : List (Option Answer)) (u : ℕ)
    → answer_at (answers ++ None ∷ []) u ≡ answer_at answers u
none_more [] zero = refl
none_more [] (suc u) = refl
none_more (a ∷ answers) zero = refl
none_more (a ∷ answers) (suc u) = none_more answers u

pub loop-preserved : goal.loop-preserved
loop-preserved c =
    let inv = c.loop.invariant in
    let places = inv.places in
    let len = c.in_ok-push.ensures.len in
    let answers = c.loop.self-inside.answers.items in
    let more = length_push answers None in
    record {
      places = omega (arith, places, len);
      within = omega (arith, places, len);
      same = λ u. rw c.in_ok-push.ensures.items (none_more answers u ∙ inv.same u);
      listed = rw c.in_ok-push.ensures.items
          (listed_wider answers (answers ++ None ∷ []) c.loop.self-inside.known.items
          (omega (arith, more)) (none_more answers) inv.listed);
    }
