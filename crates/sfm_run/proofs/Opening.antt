-- What was read of a file makes what opening it gives.
use Rattle.std.proofs.Common.{◌≡◌, ℕ, List, [], ◌∷◌, codes, ◌≤ℤ◌, Option, None, Result, Ok, Err, IsErrAnd, refl, inl, inr}
use Rattle.std.specs.Prelude.{Vec}
use Rattle.std.specs.Global.{Global}
use Rattle.sfm_io.specs.Shelf.{ShelfState, KeepsShelf}
use Rattle.sfm_kind.specs.Instance.{InstanceData}
use Rattle.sfm_kind.specs.Limits.{total_size_of}
use Rattle.sfm_kind.proofs.Meanings.{kinds-mean}
use Rattle.sfm_lines.specs.declared.reason.Reason.{Reason}
use Rattle.sfm_lines.specs.declared.reason.Reason.TheVariants.{Long, Total}
use Rattle.sfm_side.specs.Side.{SideForm}
use Rattle.sfm_text.specs.Language.{is_long, text_limit}
use Rattle.sfm_text.specs.GoodText.{IsFaultOf, IsTextOf}
use Rattle.sfm_text.specs.declared.reader.Reader.{Reader}
use Rattle.sfm_text.specs.Standing.{Stands}
use Rattle.sfm_text.specs.Numbered.{AreNumbersOf}
use Rattle.sfm_cert.specs.Grammar.{answer_limit}
use Rattle.sfm_due.specs.declared.due.Due.{Due}
use Rattle.sfm_due.specs.declared.status.Status.{Status}
use Rattle.sfm_due.specs.Feeding.{FeedsText}
use Rattle.sfm_due.specs.Files.{IsReadAs, ReadsText}
use Rattle.sfm_due.specs.Meanings.{question_of}
use Rattle.sfm_due.specs.Level.{level_limit}
use Rattle.sfm_due.specs.Sums.{PassesAt}
use Rattle.sfm_due.proofs.Summing.{small-enough, too-large}
use Rattle.sfm_due.specs.Lined.{IsLined, Lined}
use Rattle.sfm_text.specs.declared.reader.Numbered.{Numbered}
use Rattle.sfm_pair.specs.declared.clash.Clash.{Clash}
use Rattle.sfm_pair.specs.Pair.{IsClashOf}
use Rattle.sfm_pair.specs.Sides.{lined_of}
use Rattle.sfm_run.specs.declared.stop.Stop.{Stop}
use Rattle.sfm_run.specs.declared.stop.Stop.TheVariants.{Failed, Faulty}
use Rattle.sfm_run.specs.Task.{Task, reads}
use Rattle.sfm_run.specs.Files.{answer_file, left_file, level_file, right_file, side_file}
use Rattle.sfm_run.specs.Tasks.{main_file}
use Rattle.sfm_run.specs.Preparing.{IsClashing, IsFaulty, OpensFile, Prepares, Tells, settled}
use Rattle.sfm_run.proofs.Joining.{behind, stops}

-- a good instance
pub opens : (name : List ℕ) (before after : ShelfState) (reader : Reader) (instance : InstanceData)
    → KeepsShelf (name ∷ []) before after → FeedsText name before after (Ok reader)
    → ((text : List ℕ) → Stands reader text → IsTextOf text instance)
    → OpensFile question_of (main_file name) before after (Ok instance)
opens name before after reader instance kept (text, stands, named, read) good = record {
  text = text;
  named = named;
  kept = kept;
  read = read;
  holds = record { good = good text stands; means = kinds-mean instance.terms };
}

-- a text beside an instance that is too long
pub opens_long : {D V X : Type 0} (view : V → X) (word : List ℕ) (form : SideForm D)
    (Says : D → X → Type 0) (name : List ℕ) (before after : ShelfState)
    (stop : Stop)
    → KeepsShelf (name ∷ []) before after → ReadsText text_limit name before after (Ok None)
    → IsFaulty word 0 Long stop → OpensFile view (side_file word form Says name) before after
    (Err stop)
opens_long view word form Says name before after (Faulty due) kept (text, more, named, read)
    (is, refused) = (
      record {
        text = text;
        named = named;
        kept = kept;
        read = read;
        holds = record { line = 0; reason = Long; fault = is_long refl refl more; named = is };
      },
      refused,
    )
opens_long view word form Says name before after (Failed status) kept fed memory =
    (kept, inr memory)

-- an answer was read, and what was then made
pub answers : (name : List ℕ) (rest : List ℕ → Task) (mid after : ShelfState)
    (bytes : Option (Vec ℕ Global)) (result : Result Due Status) → KeepsShelf (name ∷ []) mid after
    → ReadsText answer_limit name mid after (Ok bytes)
    → ((text : List ℕ) → IsReadAs answer_limit bytes text → Prepares (rest text) after after result)
    → Prepares (reads (answer_file name) rest) mid after result
answers name rest mid after bytes result kept (text, is, named, read) then =
    behind (answer_file name) rest text mid after after result
    (record { text = text; named = named; kept = kept; read = read; holds = refl })
    (then text is)

-- an answer was not read
pub misses_answer : (name : List ℕ) (rest : List ℕ → Task) (mid after : ShelfState)
    (result : Result Due Stop) (status : Status) → KeepsShelf (name ∷ []) mid after
    → ReadsText answer_limit name mid after (Err status)
    → IsErrAnd result (λ s. s ≡ Failed status)
    → Prepares (reads (answer_file name) rest) mid after (settled result)
misses_answer name rest mid after result status kept miss is =
    stops (λ (text : List ℕ). text) (answer_file name) rest mid after result (Failed status)
    (kept, miss) is

-- an instance of which the most level base is asked for
pub opens_level : (name : List ℕ) (before after : ShelfState) (reader : Reader)
    (result : Result InstanceData Stop) → KeepsShelf (name ∷ []) before after
    → FeedsText name before after (Ok reader)
    → ((text : List ℕ) → Stands reader text → Tells question_of (level_file []) text result)
    → OpensFile question_of (level_file name) before after result
opens_level name before after reader (Ok v) kept (text, stands, named, read) told =
    record { text = text; named = named; kept = kept; read = read; holds = told text stands }
opens_level name before after reader (Err (Faulty due)) kept (text, stands, named, read) told = (
  record { text = text; named = named; kept = kept; read = read; holds = (told text stands).0 },
  (told text stands).1,
)
opens_level name before after reader (Err (Failed status)) kept (text, stands, named, read) told =
    (kept, inr (told text stands))

-- one whose sizes add to too much
pub tells_too_large : (text : List ℕ) (instance : InstanceData) (ground : ℕ) (lines : List ℕ)
    (line : ℕ) (stop : Stop) → IsTextOf text instance
    → AreNumbersOf text ground instance.lines lines → PassesAt instance.terms lines line
    → IsFaulty (codes "refused") line Total stop
    → Tells question_of (level_file []) text (Err stop)
tells_too_large text instance ground lines line (Faulty due) good numbered passes
    (is, refused) = (
      record {
        line = line;
        reason = Total;
        fault = inr (too-large text instance ground lines line good numbered passes, refl);
        named = is;
      },
      refused,
    )
tells_too_large text instance ground lines line (Failed status) good numbered passes memory = memory

-- one whose sizes do not
pub tells_small : (text : List ℕ) (instance : InstanceData) → IsTextOf text instance
    → total_size_of instance.terms ≤ℤ level_limit
    → Tells question_of (level_file []) text (Ok instance)
tells_small text instance good small =
    (record { good = good; means = kinds-mean instance.terms }, small-enough instance small)

-- a text with a fault
pub opens_level_faulty : (name : List ℕ) (before after : ShelfState) (reader : Reader)
    (line : ℕ) (reason : Reason) (stop : Stop)
    → KeepsShelf (name ∷ []) before after → FeedsText name before after (Ok reader)
    → ((text : List ℕ) → Stands reader text → IsFaultOf text line reason)
    → IsFaulty (codes "refused") line reason stop
    → OpensFile question_of (level_file name) before after (Err stop)
opens_level_faulty name before after reader line reason (Faulty due) kept
    (text, stands, named, read) fault (is, refused) = (
      record {
        text = text;
        named = named;
        kept = kept;
        read = read;
        holds = record {
          line = line;
          reason = reason;
          fault = inl (fault text stands);
          named = is;
        };
      },
      refused,
    )
opens_level_faulty name before after reader line reason (Failed status) kept fed fault memory =
    (kept, inr memory)

-- a text of either side
pub is_lined : (text : List ℕ) (side : Numbered) → IsTextOf text side.instance
    → AreNumbersOf text side.ground_line side.instance.lines side.term_lines.items
    → IsLined text (lined_of side)
is_lined text side good numbered = record {
  asked = record { good = good; means = kinds-mean side.instance.terms };
  numbered = numbered;
}

-- the left of two texts
pub opens_left : (name : List ℕ) (before after : ShelfState) (reader : Reader) (side : Numbered)
    → KeepsShelf (name ∷ []) before after → FeedsText name before after (Ok reader)
    → ((text : List ℕ) → Stands reader text → IsTextOf text side.instance)
    → ((text : List ℕ) → Stands reader text → AreNumbersOf text side.ground_line side.instance.lines
    side.term_lines.items)
    → OpensFile lined_of (left_file name) before after (Ok side)
opens_left name before after reader side kept (text, stands, named, read) good numbered = record {
  text = text;
  named = named;
  kept = kept;
  read = read;
  holds = is_lined text side (good text stands) (numbered text stands);
}

-- the right one, told by what it says behind the left
pub opens_right : (left : Lined) (name : List ℕ) (before after : ShelfState) (reader : Reader)
    (result : Result Numbered Stop) → KeepsShelf (name ∷ []) before after
    → FeedsText name before after (Ok reader)
    → ((text : List ℕ) → Stands reader text → Tells lined_of (right_file left []) text result)
    → OpensFile lined_of (right_file left name) before after result
opens_right left name before after reader (Ok v) kept (text, stands, named, read) told =
    record { text = text; named = named; kept = kept; read = read; holds = told text stands }
opens_right left name before after _ (Err (Faulty due)) kept (text, stands, named, read) told = (
  record { text = text; named = named; kept = kept; read = read; holds = (told text stands).0 },
  (told text stands).1,
)
opens_right left name before after reader (Err (Failed status)) kept (text, stands, named, read)
    told =
    (kept, inr (told text stands))

-- one with a fault
pub opens_right_faulty : (left : Lined) (name : List ℕ) (before after : ShelfState)
    (reader : Reader)
    (line : ℕ) (reason : Reason) (stop : Stop)
    → KeepsShelf (name ∷ []) before after → FeedsText name before after (Ok reader)
    → ((text : List ℕ) → Stands reader text → IsFaultOf text line reason)
    → IsFaulty (codes "right") line reason stop
    → OpensFile lined_of (right_file left name) before after (Err stop)
opens_right_faulty left name before after reader line reason (Faulty due) kept
    (text, stands, named, read) fault (is, refused) = (
      record {
        text = text;
        named = named;
        kept = kept;
        read = read;
        holds = inl (record {
          line = line;
          reason = reason;
          fault = fault text stands;
          named = is;
        });
      },
      refused,
    )
opens_right_faulty left name before after reader line reason (Failed status) kept fed fault memory =
    (kept, inr memory)

-- one that does not go together with the left
pub tells_clash : (left : Lined) (text : List ℕ) (right : Numbered) (clash : Clash) (line : ℕ)
    (stop : Stop) → IsLined text (lined_of right)
    → IsClashOf left (lined_of right) clash line → IsClashing clash line stop
    → Tells lined_of (right_file left []) text (Err stop)
tells_clash left text right clash line (Faulty due) lined is (named, refused) = (
  inr (lined_of right, lined, clash, line, is, named),
  refused,
)
tells_clash left text right clash line (Failed status) lined is memory = memory
