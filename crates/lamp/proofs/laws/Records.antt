-- A record that asks what its state asks, by the words of the question.
--   question_test a   the words of a question; zeros where there is none
--   as_asked        the test on these words is the definition's on the question
--   next_word       the next number that a record has at an outcome
--   words_as_is     a record that has a question's words asks it
--   as_is_words     a record that asks a question has its words
--   as_is_final     a record that asks nothing has kind 0
-- Assumes nothing.
use Rattle.std.specs.Prelude.{ℕ, ◌*◌, ◌<◌, ◌≡◌, refl, Bool, true, false, ◌&&◌, List, get_or, eqb, drop}
use Rattle.std.proofs.Common.{ap, ◌∙◌, arith, eqb-true, eq-eqb, get_or-take, get_or-drop}
use Rattle.std.proofs.Math.Bool.{and-true}
use Rattle.residue.specs.declared.Outcome.{Outcome}
use Rattle.residue.specs.laws.Choice.{first, second}
use Rattle.lists.specs.Filters.{Item, kind_at, field_at, mask_at, value_at}
use Rattle.lists.specs.Words.{kind_of, mask_of, value_of, item_words, words_of}
use Rattle.lists.specs.declared.TestWords.{TestWords}
use Rattle.lists.specs.laws.Items.{kind_some}
use Rattle.states.specs.States.{Question, nothing, ask}
use Rattle.slots.specs.Words.{question_words}
use Rattle.tables.specs.Tables.{record_words, word_of, next_at}
use Rattle.tables.specs.inner.Records.{question_at, record_at, way_at}
use Rattle.tables.proofs.laws.Layout.{next_within}
use Rattle.lamp.specs.Lamp.{is_as_is}
use Rattle.lamp.specs.inner.Records.{record_asks}

four : (a b c d : Bool) → (a && (b && c && d)) ≡ (a && b && c && d)
four true b c d = refl
four false b c d = refl

abbrev pub question_test : Question → TestWords
question_test a = words_of (question_words a)

-- A word of a record, by its place in the table; and the next number at an outcome.
word_at : (t : List ℕ) (n j : ℕ) → j < record_words → get_or (record_at t n) j 0 ≡ word_of t n j
unfolding record_at word_of
word_at t n j h = get_or-take record_words (drop (record_words * n) t) j 0 h ∙ get_or-drop (record_words * n) t j 0

pub next_word : (t : List ℕ) (n : ℕ) (o : Outcome) → get_or (record_at t n) (next_at o) 0 ≡ way_at t n o
unfolding way_at
next_word t n o = word_at t n (next_at o) (next_within o)

pub as_asked : (t : List ℕ) (n : ℕ) (a : Question) → record_asks (record_at t n) (question_test a) ≡ is_as_is t n a
unfolding record_asks is_as_is question_words item_words words_of
as_asked t n nothing = rw (word_at t n kind_at (omega arith)) (and-true _)
as_asked t n (ask q) =
    rw (word_at t n kind_at (omega arith), word_at t n field_at (omega arith), word_at t n mask_at (omega arith), word_at t n value_at (omega arith), kind_some q.test)
    (four (eqb (word_of t n kind_at) (kind_of q.test)) (eqb (word_of t n field_at) q.field) (eqb (word_of t n mask_at) (mask_of q.test)) (eqb (word_of t n value_at) (value_of q.test)))

pub words_as_is : (t : List ℕ) (n : ℕ) (a : Question) → question_at t n ≡ question_words a → is_as_is t n a ≡ true
unfolding question_at is_as_is question_words item_words
words_as_is t n nothing e = eq-eqb (word_of t n kind_at) 0 (ap (λ (ws : List ℕ). get_or ws kind_at 0) e)
words_as_is t n (ask q) e =
    rw (
      eq-eqb _ _ (ap (λ (ws : List ℕ). get_or ws kind_at 0) e),
      eq-eqb _ _ (ap (λ (ws : List ℕ). get_or ws field_at 0) e),
      eq-eqb _ _ (ap (λ (ws : List ℕ). get_or ws mask_at 0) e),
      eq-eqb _ _ (ap (λ (ws : List ℕ). get_or ws value_at 0) e),
    )

pub as_is_final : (t : List ℕ) (n : ℕ) → is_as_is t n nothing ≡ true → word_of t n kind_at ≡ 0
unfolding is_as_is
as_is_final t n e = eqb-true (word_of t n kind_at) 0 e

pub as_is_words : (t : List ℕ) (n : ℕ) (q : Item) → is_as_is t n (ask q) ≡ true → question_at t n ≡ item_words q
unfolding is_as_is question_at item_words
as_is_words t n q e =
    let k = eqb (word_of t n kind_at) (kind_of q.test) in
    let f = eqb (word_of t n field_at) q.field in
    let m = eqb (word_of t n mask_at) (mask_of q.test) in
    let v = eqb (word_of t n value_at) (value_of q.test) in
    let three = first (k && f && m) v e in
    let two = first (k && f) m three in
    rw (
      eqb-true (word_of t n kind_at) (kind_of q.test) (first k f two),
      eqb-true (word_of t n field_at) q.field (second k f two),
      eqb-true (word_of t n mask_at) (mask_of q.test) (second (k && f) m three),
      eqb-true (word_of t n value_at) (value_of q.test) (second (k && f && m) v e),
    )
