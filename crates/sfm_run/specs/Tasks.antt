-- What is to be writes for each command.
use Rattle.std.specs.Prelude.{◌≡◌, ℕ, List, length, codes}
use Rattle.sfm_words.specs.Subcommand.{Command, solve, check, demo, weigh, weighed, ask, level, edit, meet, met}
use Rattle.sfm_text.specs.Language.{IsFaultIn}
use Rattle.sfm_text.specs.GoodText.{instance_language}
use Rattle.sfm_due.specs.Due.{IsAsked, IsJudged, IsJudgedBy, IsSolved, IsSolvedBy, NamesFault, NamesVerdict, Question}
use Rattle.sfm_ask.specs.Pinned.{IsAnswered}
use Rattle.sfm_due.specs.Demo.{IsDueToDemo}
use Rattle.sfm_level.specs.LevelText.{IsLevelText}
use Rattle.sfm_met.specs.MetVerdict.{IsMetVerdict}
use Rattle.sfm_pair.specs.Pair.{IsMeeting}
use Rattle.sfm_run.specs.Task.{File, Task, ends, reads}
use Rattle.sfm_run.specs.Files.{answer_file, edits_file, left_file, level_file, pins_file, right_file, sizes_file, text_file}

-- a text that was asked for is due, with code 0
abbrev pub writes : (List ℕ → Type 0) → Task
writes IsRight = ends (λ written code. IsRight written × (code ≡ 0))

-- a file with the instance that a command is about
abbrev pub main_file : List ℕ → File Question
main_file name = text_file name IsAsked (λ text written. NamesFault (codes "refused") (IsFaultIn instance_language text) written)

-- the task of a command
abbrev pub task_of : Command → Task
task_of (solve file) = reads (main_file file) (λ asked. writes (IsSolved asked))
task_of (check file answer) = reads (main_file file) (λ asked. reads (answer_file answer) (λ text. ends (IsJudged asked text)))
task_of (demo seed) = ends (IsDueToDemo seed)
task_of (weigh file sizes) = reads (main_file file) (λ asked. reads (sizes_file asked sizes)
    (λ w. writes (IsSolvedBy (codes "weighed 1") w asked)))
task_of (weighed file sizes answer) = reads (main_file file) (λ asked. reads (sizes_file asked sizes)
    (λ w. reads (answer_file answer) (λ text. ends (IsJudgedBy (codes "weighed 1") w asked text))))
task_of (ask file pins) = reads (main_file file) (λ asked. reads (pins_file asked pins)
    (λ p. writes (IsAnswered asked.instance.names asked.meant p)))
task_of (level file) = reads (level_file file) (λ asked. writes (IsLevelText asked.instance.lines asked.meant (length asked.instance.names)))
task_of (edit file edits) = reads (main_file file) (λ asked. reads (edits_file asked edits)
    (λ edited. writes (IsSolved edited)))
task_of (meet left right) = reads (left_file left) (λ l. reads (right_file l right) (λ r. writes (IsMeeting l.asked r.asked)))
task_of (met left right answer) = reads (left_file left) (λ l. reads (right_file l right)
    (λ r. reads (answer_file answer) (λ text. ends (NamesVerdict (IsMetVerdict l.asked r.asked text)))))
