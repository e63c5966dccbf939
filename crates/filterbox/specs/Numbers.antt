-- The public calls' answers as the fields of C structs.
--   ended_with e r x  how a walk ended (0 refused, 1 done, 2 stopped), the refusal's number, and what was found: each set in two words, 1 for the mark where it is set
--   classified a     these numbers for each way to end
--   matched a        the refusal's number or 0, the filter's number, the match set in two words
--   lamp_with n       the numbers of the lamp's answer
--   field_with s      whether a field is there (0 none, 1 value, 2 cut), and its value or 0, for each case of the enum Seen
--   built_with b      the refusal's number or 0, the number of states or the filter's number
--   Compiled         an answer and the words afterwards are those of an outcome of building
--   verdict_of a      the refusal's number or 0, and the verdict
--   Tallied          an answer and the tallies afterwards are those of a judgement
use Rattle.std.specs.Prelude.{◌≡◌, ℕ, List, Result, Ok, Err}
use Rattle.refusals.specs.Numbers.{number_of}
use Rattle.refusals.specs.declared.Refusal.{Refusal}
use Rattle.refusals.specs.declared.Refused.{Refused}
use Rattle.sets.specs.Sets.{bit}
use Rattle.sets.specs.Halves.{low_half, high_half}
use Rattle.fields.specs.declared.Seen.{Seen}
use Rattle.fields.specs.declared.Seen.TheVariants as F
use Rattle.matcher.specs.declared.Found.{Found}
use Rattle.matcher.specs.declared.Walk.{Walk}
use Rattle.matcher.specs.declared.Walk.TheVariants.{Done, Stopped}
use Rattle.matcher.specs.Walk.{found}
use Rattle.lamp.specs.Lamp as L
use Rattle.gateway.specs.Gateway as G
use Rattle.builder.specs.Outcome as B
use Rattle.filterbox.specs.declared.FilterboxAnswer.{FilterboxAnswer}
use Rattle.filterbox.specs.declared.FilterboxBuilt.{FilterboxBuilt}
use Rattle.filterbox.specs.declared.FilterboxLamp.{FilterboxLamp}
use Rattle.filterbox.specs.declared.FilterboxField.{FilterboxField}
use Rattle.filterbox.specs.declared.FilterboxScanned.{FilterboxScanned}
use Rattle.filterbox.specs.declared.FilterboxJudged.{FilterboxJudged}

abbrev pub ended_with : ℕ → ℕ → Found → FilterboxAnswer
ended_with e r x =
    record {
      ended = e;
      refusal = r;
      sure_low = low_half x.sure;
      sure_high = high_half x.sure;
      out_low = low_half x.out;
      out_high = high_half x.out;
      asked = x.asked;
      cut = bit x.cut;
    }

-- A refusal has zeros for what was found.
unfoldable pub classified : Result Walk Refusal → FilterboxAnswer
classified (Ok (Done x)) = ended_with 1 0 x
classified (Ok (Stopped x)) = ended_with 2 0 x
classified (Err r) = ended_with 0 (number_of r) (found (Err r))

-- A refusal has an empty set.
unfoldable pub matched : Result ℕ (Refused ℕ) → FilterboxScanned
matched (Ok s) = record { refusal = 0; filter = 0; set_low = low_half s; set_high = high_half s }
matched (Err r) = record { refusal = number_of r.refusal; filter = r.place; set_low = 0; set_high = 0 }

abbrev pub lamp_with : L.Numbers → FilterboxLamp
lamp_with n = record { refusal = n.refusal; filter = n.filter; lit = n.lit; asked = n.asked }

unfoldable pub field_with : Seen → FilterboxField
field_with (F.Has x) = record { kind = 1; value = x }
field_with F.None = record { kind = 0; value = 0 }
field_with F.Cut = record { kind = 2; value = 0 }

unfoldable pub built_with : Result ℕ (Refused ℕ) → FilterboxBuilt
built_with (Ok n) = record { refusal = 0; number = n }
built_with (Err r) = record { refusal = number_of r.refusal; number = r.place }

pub record Compiled (l : B.Left) (b : FilterboxBuilt) (t s : List ℕ) : Type 0 where
  pub answer : b ≡ built_with l.answer
  pub table : t ≡ l.table
  pub scratch : s ≡ l.scratch

-- A refusal has no verdict: 0 stands there.
unfoldable pub verdict_of : Result ℕ Refusal → FilterboxJudged
verdict_of (Ok v) = record { refusal = 0; verdict = v }
verdict_of (Err r) = record { refusal = number_of r; verdict = 0 }

pub record Tallied (j : G.Judgement) (r : FilterboxJudged) (ts : List ℕ) : Type 0 where
  pub answer : r ≡ verdict_of j.answer
  pub tallies : ts ≡ j.tallies
