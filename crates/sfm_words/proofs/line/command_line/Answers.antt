use Rattle.sfm_words.proofs.line.command_line.Goals as goal

-- one subcommand after another
pub returns : goal.returns
returns c =
    let one = c.in_ok-line.ensures _ _ c.program-line.ensures c.one_name.ensures.app
    c.one_name.ensures.local in
    let two = c.in_ok-line-2.ensures _ _ one c.two_names.ensures.app c.two_names.ensures.local in
    let three = c.in_ok-line-3.ensures _ _ two c.one_number.ensures.app
    c.one_number.ensures.local in
    let four = c.in_ok-line-4.ensures _ _ three c.two_names-2.ensures.app
    c.two_names-2.ensures.local in
    let five = c.in_ok-line-5.ensures _ _ four c.three_names.ensures.app
    c.three_names.ensures.local in
    let six = c.in_ok-line-6.ensures _ _ five c.two_names-3.ensures.app
    c.two_names-3.ensures.local in
    let seven = c.in_ok-line-7.ensures _ _ six c.one_name-2.ensures.app
    c.one_name-2.ensures.local in
    let eight = c.in_ok-line-8.ensures _ _ seven c.two_names-4.ensures.app
    c.two_names-4.ensures.local in
    let nine = c.in_ok-line-9.ensures _ _ eight c.two_names-5.ensures.app
    c.two_names-5.ensures.local in
    c.with_line-10.ensures _ _ nine c.three_names-2.ensures.app c.three_names-2.ensures.local
