use Rattle.std.proofs.Common.{◌≡◌, ◌∙◌, ℤ, Bool, List, length, refl, sym, ap, to_z, of_z}
use Rattle.std.proofs.lemmas.Bool.{false≢true}
use mir.Syntax.{w128}
use Rattle.sfm_spec.specs.Sets.{intersection}
use Rattle.sfm_spec.proofs.Sums.{length-intersection}
use Rattle.sfm_simple.specs.Subsets.{members, length-members}
use Rattle.sfm_simple.proofs.TableRooms.{kept_with, kept_without}
use Rattle.sfm_simple.proofs.table.Table.keep_tight.Goals as goal
use Rattle.sfm_simple.proofs.table.Table.keep_tight.Goals.{then-is_tight_with, else-is_tight_with}

pub loop-s-preserved : goal.loop-s-preserved
loop-s-preserved c =
    let values = c.args.self.now.values in
    let x = c.args.x.now in
    let q : ℤ = to_z w128 (of_z w128 c.args.q) in
    let s = c.loop-s.s in
    let to = c.loop-s.to in
    let inv = c.loop-s.invariant in
    let sized : length to ≡ length x = inv.places ∙ c.requires.room_for_answer in
    elim c.if-is_tight_with.branch [
      | then-is_tight_with w ↦
          (let kept : List Bool = members (length x) s in
          let e : c.if-is_tight_with.to ≡ intersection to kept = w.to-is
          ∙ (w.keep_members.ensures ∙ ap (λ k. intersection to (members k s)) sized) in
          let t = w.if-is_tight_with.ensures.0 refl in
          record {
            places = rw e (length-intersection to kept (sized ∙ sym (length-members (length x) s))
                ∙ inv.places);
            kept = λ v. rw e (kept_with q values x c.args.u s v c.args.to.now to sized (inv.kept v)
                t.0 t.1);
          })
      | else-is_tight_with w ↦
          record {
            places = rw w.to-is inv.places;
            kept = λ v. rw w.to-is (kept_without q values x c.args.u s v c.args.to.now to
                (inv.kept v) (λ hu none. false≢true (w.if-is_tight_with.ensures.1 (hu, none))));
          }
    ]
