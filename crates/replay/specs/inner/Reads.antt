-- What the program does with whatever bytes it read. That these are the file's no contract of the toolchain says.
--   all_tallies    the tallies of the longest list
--   Answers       if no read failed: the answer and the tallies are those of some parts
--   TextAnswers   if no read failed: they are what the text of a list and some file come to, and the tallies stand at the front of the counts
use Rattle.std.specs.Prelude.{ℕ, ◌≤◌, ◌≡◌, List, [], length, take, Result, IfOk}
use Rattle.lists.specs.Filters.{max_filters}
use Rattle.captures.specs.Replay.{tally_room, replay_of, text_replayed}
use Rattle.captures.specs.Parts.{paused, fed, finished}
use Rattle.captures.specs.declared.Numbered.{Numbered}
use Rattle.captures.specs.declared.Stand.TheVariants.{Start}
use Rattle.replay.specs.declared.Ended.{Ended}

abbrev pub all_tallies : ℕ
all_tallies = tally_room max_filters

abbrev pub Answers : {E : Type 0} → List ℕ → List ℕ → Result (Result ℕ Numbered) E → List ℕ → Type 0
Answers l ts r ts' = IfOk r (λ answer. (parts : List (List ℕ)) × (replay_of answer ts' ≡ finished (fed l (paused Start ts []) parts)))

abbrev pub TextAnswers : {E : Type 0} → List ℕ → Result Ended E → List ℕ → Type 0
TextAnswers x r ts =
    IfOk r (λ ended. (ended.tallies ≤ length ts) × ((file : List ℕ) × (replay_of ended.answer (take ended.tallies ts) ≡ text_replayed x file)))
