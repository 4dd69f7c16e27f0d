use Rattle.std.proofs.Common.{ℕ, List, map, refl, sym, ◌∙◌, subst, true≢false}
use Rattle.std.proofs.lemmas.Option.{same_Some}
use Rattle.sfm_words.specs.Command.{Asks, command_of}
use Rattle.sfm_words.specs.Subcommand.{Command}
use Rattle.sfm_words.proofs.Lines.{form_asks}
use Rattle.sfm_run.specs.Headline.{EndsFor}
use Rattle.sfm_run.specs.Tasks.{task_of}
use Rattle.sfm_run.proofs.Ending.{completes}
use Rattle.sfm_run.proofs.Joining.{stops_at_once}
use Rattle.sfm_run.proofs.call.obey_words.Goals as goal

pub returns-in-Err-Memory-clause-by_form : goal.returns-in-Err-Memory-clause-by_form
returns-in-Err-Memory-clause-by_form g c command form = (
  form_asks (map (λ word. word.now) c.args.words.now) command form,
  (stops_at_once (task_of command) _, refl),
)

-- the words ask for one command alone, so what holds of the one that was read holds of it
of_asked : (words : List (List ℕ)) (P : Command → Type 0) (read command : Command) → Asks words read
    → Asks words command → P read → P command
of_asked words P read command is asks = subst P (same_Some read command (sym is.1 ∙ asks.1))

pub returns-in-Ok-clause-by_form : goal.returns-in-Ok-clause-by_form
returns-in-Ok-clause-by_form g c command form =
    let words = map (λ word. word.now) c.args.words.now in
    let asks = form_asks words command form in
    let shelf = g.S.Shelf.state c.args.shelf.now in
    let shelf' = g.S.Shelf.state c.obey.new.shelf in
    let out = g.K.Sink.state c.args.out.now in
    let out' = g.K.Sink.state c.obey.new.out in (
      asks,
      of_asked words (λ x. EndsFor (task_of x) shelf shelf' out out' c.obey.result)
          (command_of c.in-Ok.command) command c.in-Ok.ensures.read asks c.obey.ensures,
    )

-- words that clap does not take are of no form
pub returns-in-Err-Usage-clause-by_form : goal.returns-in-Err-Usage-clause-by_form
returns-in-Err-Usage-clause-by_form g c command form =
    let asks = form_asks (map (λ word. word.now) c.args.words.now) command form in
    absurd (true≢false (sym asks.0 ∙ c.in-Err-Usage.ensures.refused c.in-Err-Usage.field-0-is))

pub returns-in-Ok-clause-complete : goal.returns-in-Ok-clause-complete
returns-in-Ok-clause-complete g c command asks sure calm =
    let words = map (λ word. word.now) c.args.words.now in
    let shelf = g.S.Shelf.state c.args.shelf.now in
    let shelf' = g.S.Shelf.state c.obey.new.shelf in
    let out = g.K.Sink.state c.args.out.now in
    let out' = g.K.Sink.state c.obey.new.out in
    let ends = of_asked words (λ x. EndsFor (task_of x) shelf shelf' out out' c.obey.result)
    (command_of c.in-Ok.command) command c.in-Ok.ensures.read asks c.obey.ensures in
    completes (task_of command) shelf shelf' out out' c.obey.result ends sure calm
