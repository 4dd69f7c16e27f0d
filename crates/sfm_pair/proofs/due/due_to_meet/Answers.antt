use Rattle.std.proofs.Common.{inl, refl}
use Rattle.sfm_pair.proofs.due.due_to_meet.Goals as goal

pub returns : goal.returns
returns c =
    let (told, greatest) = c.in_ok-met_text.ensures in
    record { owed = (record { told = told; greatest = greatest }, refl); answered = inl refl }
