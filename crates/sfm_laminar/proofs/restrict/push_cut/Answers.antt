use Rattle.std.proofs.Common.{◌≡◌, ◌∙◌, ℕ, ◌==◌, true, false, List, ◌∷◌, [], ◌++◌, length, nat_lt, ℤ, pos, ◌≤ℤ◌, Result, Ok, Err, is_ok, if◌then◌else◌, OnOk, sym, ap, subst, arith, FitsSigned}
use Rattle.std.specs.Vec.{vec_len}
use Rattle.std.proofs.lemmas.Int.{to_z-of_z}
use mir.Syntax.{w128}
use mir.Val.{to_z, of_z}
use Rattle.sfm_spec.specs.Bounds.{IsGiven}
use Rattle.sfm_spec.specs.Kinds.{Group}
use Rattle.sfm_laminar.specs.Groups.{IsAscending}
use Rattle.sfm_laminar.specs.Cut.{cut_members, cut_group, cut_groups}
use Rattle.sfm_laminar.proofs.Cut.{cut-ascending, cut_groups-in}
use Rattle.sfm_laminar.proofs.restrict.push_cut.Goals as goal
use Rattle.sfm_laminar.proofs.restrict.push_cut.Goals.{In_ok-members}

-- what is left has the numbers of the kept members
left : (c : In_ok-members) → c.in_ok-members.members.items ≡ cut_members c.args.keep.now
    c.args.group.now.members
left c = c.in_ok-members.ensures ∙ ap (λ members. cut_members c.args.keep.now members)
    c.members.ensures

group_of : ℤ → List ℕ → Group
group_of cap members = record { cap = cap; members = members }

filled : (n : ℕ) → (n == 0) ≡ false → nat_lt 0 n ≡ true
filled n h = grind (arith, h)

done : {X E : Type 0} (r : Result X E) (new old more : List Group)
    → new ≡ (if is_ok r then more else old) → OnOk r (new ≡ more)
done (Ok x) new old more h = h
done (Err e) new old more h = tt

pub push-requires : goal.push-requires
push-requires c =
    let keep = c.args.keep.now in
    let g = c.args.group.now in
    let sound = c.requires.sound in
    let fc : FitsSigned w128 c.cap.result = record { sfits = c.cap.type_inv } in
    let cap : to_z w128 (of_z w128 c.cap.result) ≡ g.cap = to_z-of_z w128 c.cap.result fc
    ∙ c.cap.ensures in
    record {
      low = subst (λ z. pos 0 ≤ℤ z) (sym cap) sound.low;
      given = subst IsGiven (sym cap) sound.given;
      ascending = subst IsAscending (sym (left (goal.at.push-requires c).In_ok-members))
          (cut-ascending keep g.members sound.ascending);
    }

pub returns : goal.returns
unfolding group_of
returns c =
    let keep = c.args.keep.now in
    let g = c.args.group.now in
    let old = c.args.cut.now in
    let members = c.in_ok-members.members in
    let items = left (goal.at.returns c).In_ok-members in
    let fc : FitsSigned w128 c.cap.result = record { sfits = c.cap.type_inv } in
    let pushed = simp to_z-of_z at c.push.ensures in
    let same : group_of c.cap.result members.items ≡ cut_group keep
    g = ap (λ z. group_of z members.items) c.cap.ensures ∙ ap (λ ms. group_of g.cap ms) items in
    let len : vec_len members ≡ length
    (cut_members keep g.members) = omega (arith, members.ok.0, ap length items) in
    let some : nat_lt 0 (length (cut_members keep g.members)) ≡ true = filled
    (length (cut_members keep g.members))
    (ap (λ n. n == 0) (sym len) ∙ (sym c.is_empty.ensures ∙ c.if-is_empty.false)) in
    done c.push.result c.push.new.self old (old ++ cut_groups keep (g ∷ []))
    (pushed ∙ ap (λ more. if is_ok c.push.result then more else old)
    (ap (λ h. old ++ h ∷ []) same ∙ ap (λ hs. old ++ hs) (sym (cut_groups-in keep g some))))
