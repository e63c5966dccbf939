-- How tight the promises of the C calls are (document 01, the section of that name): two outcomes that one promise allows are equal.
use Rattle.std.specs.Prelude.{ℕ, ◌≡◌, List, Result}
use Rattle.std.proofs.Common.{sym, ◌∙◌}
use Rattle.slots.specs.Words.{slot_words}
use Rattle.fields.specs.declared.Seen.{Seen}
use Rattle.refusals.specs.declared.Refusal.{Refusal}
use Rattle.refusals.specs.declared.Refused.{Refused}
use Rattle.matcher.specs.declared.Walk.{Walk}
use Rattle.lamp.specs.declared.Lamp.{Lamp}
use Rattle.lamp.specs.Lamp.{numbers_of}
use Rattle.gateway.specs.Gateway as G
use Rattle.builder.specs.Outcome as B
use Rattle.filterbox.specs.Numbers.{classified, matched, field_with, lamp_with, Compiled, Tallied}
use Rattle.filterbox.specs.declared.FilterboxAnswer.{FilterboxAnswer}
use Rattle.filterbox.specs.declared.FilterboxBuilt.{FilterboxBuilt}
use Rattle.filterbox.specs.declared.FilterboxLamp.{FilterboxLamp}
use Rattle.filterbox.specs.declared.FilterboxField.{FilterboxField}
use Rattle.filterbox.specs.declared.FilterboxScanned.{FilterboxScanned}
use Rattle.filterbox.specs.declared.FilterboxJudged.{FilterboxJudged}

-- filterbox_build: both numbers, and each word of the lent memory afterwards.
pub filterbox_build_tight :
    (l : B.Left) (a b : FilterboxBuilt) (ta tb sa sb : List ℕ) → Compiled l a ta sa → Compiled l b tb sb → (a ≡ b) × (ta ≡ tb) × (sa ≡ sb)
filterbox_build_tight l a b ta tb sa sb x y = (
  x.answer ∙ sym y.answer,
  x.table ∙ sym y.table,
  x.scratch ∙ sym y.scratch,
)

-- filterbox_classify: the eight numbers; it writes nothing.
pub filterbox_classify_tight : (w : Result Walk Refusal) (a b : FilterboxAnswer) → a ≡ classified w → b ≡ classified w → a ≡ b
filterbox_classify_tight w a b x y = x ∙ sym y

-- filterbox_scan: the four numbers; it writes nothing.
pub filterbox_scan_tight : (w : Result ℕ (Refused ℕ)) (a b : FilterboxScanned) → a ≡ matched w → b ≡ matched w → a ≡ b
filterbox_scan_tight w a b x y = x ∙ sym y

-- filterbox_lamp: the four numbers; it writes nothing.
pub filterbox_lamp_tight : (w : Result Lamp (Refused ℕ)) (a b : FilterboxLamp) → a ≡ lamp_with (numbers_of w) → b ≡ lamp_with (numbers_of w) → a ≡ b
filterbox_lamp_tight w a b x y = x ∙ sym y

-- filterbox_judge: both numbers, and every tally afterwards.
pub filterbox_judge_tight : (j : G.Judgement) (a b : FilterboxJudged) (ta tb : List ℕ) → Tallied j a ta → Tallied j b tb → (a ≡ b) × (ta ≡ tb)
filterbox_judge_tight j a b ta tb x y = (x.answer ∙ sym y.answer, x.tallies ∙ sym y.tallies)

-- filterbox_clear: every tally afterwards.
pub filterbox_clear_tight : (ts ta tb : List ℕ) → ta ≡ G.emptied ts → tb ≡ G.emptied ts → ta ≡ tb
filterbox_clear_tight ts ta tb x y = x ∙ sym y

-- filterbox_field: both numbers; it writes nothing.
pub filterbox_field_tight : (s : Seen) (a b : FilterboxField) → a ≡ field_with s → b ≡ field_with s → a ≡ b
filterbox_field_tight s a b x y = x ∙ sym y

-- filterbox_scratch_words.
pub filterbox_scratch_words_tight : (a b : ℕ) → a ≡ slot_words → b ≡ slot_words → a ≡ b
filterbox_scratch_words_tight a b x y = x ∙ sym y
