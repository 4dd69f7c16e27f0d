use Rattle.std.proofs.Common.{◌≡◌, ◌++◌, ◌∷◌, [], true, is_ok, length, ap, ◌∙◌, arith}
use Rattle.std.proofs.lemmas.List.{length-append}
use Rattle.sfm_base.proofs.Rowing.{ends_more, rows_more}
use Rattle.sfm_base.proofs.lists.Lists.push.Goals as goal
use Rattle.sfm_base.proofs.lists.Lists.push.Goals.{After-unwrap}

-- the end of the row behind the others
put : (c : After-unwrap) → c.push.new.self.items ≡ c.self.inside.ends.items ++ length
    (c.self.inside.items.items ++ c.args.list.now) ∷ []
put c =
    let done : is_ok c.push.result ≡ true = ap is_ok c.unwrap.ensures in
    let all = ap length c.in_ok-extend_from_slice.ensures.items in
    let end : c.len-end.result ≡ length
    (c.self.inside.items.items ++ c.args.list.now) =
    omega (arith, c.len-end.ensures, all, c.extend_from_slice.new.self.ok.0) in
    rw (done, c.in_ok-reserve.ensures.items, end) at c.push.ensures.items

pub invariant_of-self-2 : goal.invariant_of-self-2
invariant_of-self-2 c =
    let ends = c.self.inside.ends.items in
    let xs = c.self.inside.items.items in
    let row = c.args.list.now in
    rw (put c, c.in_ok-extend_from_slice.ensures.items)
    (ends_more 0 ends (length xs) (length (xs ++ row)) c.self.invariant
    (omega (arith, length-append xs row)))

pub returns : goal.returns
returns c =
    let ends = c.self.inside.ends.items in
    let xs = c.self.inside.items.items in
    let row = c.args.list.now in
    rw (put c, c.in_ok-extend_from_slice.ensures.items)
    (rows_more 0 ends xs row c.self.invariant ∙ ap (λ r. r ++ row ∷ []) c.self.view_is)
