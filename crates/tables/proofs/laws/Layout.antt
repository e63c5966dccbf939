-- What the words of a record say.
--   next_within             the next numbers stand within a record
--   record_long             a record is as long as its name says
--   set_read                a set is read off its own words alone
--   sure_in, out_in         the sets that its words say are those it is made of
--   fresh_linked            a fresh record that got its three next numbers
--   Spells t n q next s o   record n of the table t has the question's words q, the next numbers next, the sets s and o
--   record_spells           so it does where its words are made of them
use Rattle.std.specs.Prelude.{ℕ, ◌+◌, ◌*◌, ◌≤◌, ◌<◌, ◌≡◌, drop}
use Rattle.std.proofs.Common.{arith, ◌∙◌, lit<, get_or-take, get_or-drop}
use Rattle.std.proofs.Math.Path.{refl, sym, ap, ap₂}
use mathlib.Core.List.{List, [], ◌∷◌}
use Rattle.std.proofs.Math.ListN.{length, get_or, set}
use Rattle.residue.specs.declared.Outcome.{Outcome}
use Rattle.residue.specs.declared.Outcome.TheVariants.{Holds, Fails, Absent}
use Rattle.sets.specs.Halves.{of_halves}
use Rattle.sets.specs.laws.Halves.{halves_whole}
use Rattle.lists.specs.Filters.{kind_at, field_at, mask_at, value_at}
use Rattle.tables.specs.Tables.{set_words, record_words, sure_at, out_at, next_at, as_words, record_with, word_of, set_at, sure_set_at, out_set_at}
use Rattle.tables.specs.inner.Records.{ask_words, fresh_record, record_at, question_at, way_at}

pub record Spells (t : List ℕ) (n : ℕ) (q : List ℕ) (next : Outcome → ℕ) (s o : ℕ) : Type 0 where
  pub question : question_at t n ≡ q
  pub way : (w : Outcome) → way_at t n w ≡ next w
  pub sure : sure_set_at t n ≡ s
  pub out : out_set_at t n ≡ o

pub next_within : (o : Outcome) → next_at o < record_words
unfolding next_at
next_within Holds = lit< tt
next_within Fails = lit< tt
next_within Absent = lit< tt

pub set_read : (w w' : ℕ → ℕ) (j n : ℕ) → ((i : ℕ) → i < n → w i ≡ w' i) → j + set_words ≤ n → set_at w j ≡ set_at w' j
unfolding set_at
set_read w w' j n same inside = ap₂ of_halves (same j (omega arith)) (same (j + 1) (omega arith))

-- Whatever is true of the records with four words in front is true of those with a question's words.
by_four : (P : List ℕ → Type 0) → ((k f m v : ℕ) → P (k ∷ f ∷ m ∷ v ∷ [])) → (q : List ℕ) → length q ≡ ask_words → P q
by_four P p [] e = absurd (omega arith)
by_four P p (k ∷ []) e = absurd (omega arith)
by_four P p (k ∷ f ∷ []) e = absurd (omega arith)
by_four P p (k ∷ f ∷ m ∷ []) e = absurd (omega arith)
by_four P p (k ∷ f ∷ m ∷ v ∷ []) e = p k f m v
by_four P p (k ∷ f ∷ m ∷ v ∷ w ∷ q) e = absurd (omega arith)

module _ (q : List ℕ) (next : Outcome → ℕ) (s o : ℕ) (long : length q ≡ ask_words) where
  pub record_long : length (record_with q next s o) ≡ record_words
  unfolding record_with as_words
  record_long = by_four (λ (x : List ℕ). length (record_with x next s o) ≡ record_words) (λ k f m v. refl) q long

  pub sure_in : set_at (λ j. get_or (record_with q next s o) j 0) sure_at ≡ s
  unfolding set_at record_with as_words
  sure_in = by_four (λ (x : List ℕ). set_at (λ j. get_or (record_with x next s o) j 0) sure_at ≡ s) (λ k f m v. halves_whole s) q long

  pub out_in : set_at (λ j. get_or (record_with q next s o) j 0) out_at ≡ o
  unfolding set_at record_with as_words
  out_in = by_four (λ (x : List ℕ). set_at (λ j. get_or (record_with x next s o) j 0) out_at ≡ o) (λ k f m v. halves_whole o) q long

  pub fresh_linked :
      set (set (set (fresh_record q s o) (next_at Holds) (next Holds)) (next_at Fails) (next Fails)) (next_at Absent) (next Absent) ≡ record_with q next s o
  unfolding fresh_record record_with as_words next_at
  fresh_linked =
      by_four
      (λ (x : List ℕ).
      set (set (set (fresh_record x s o) (next_at Holds) (next Holds)) (next_at Fails) (next Fails)) (next_at Absent) (next Absent) ≡ record_with x next s o)
      (λ k f m v. refl) q long

  module _ (t : List ℕ) (n : ℕ) (is : record_at t n ≡ record_with q next s o) where
    word_at : (j : ℕ) → j < record_words → word_of t n j ≡ get_or (record_with q next s o) j 0
    unfolding word_of record_at
    word_at j h =
        sym (get_or-drop (record_words * n) t j 0) ∙ sym (get_or-take record_words (drop (record_words * n) t) j 0 h) ∙ ap (λ (ws : List ℕ). get_or ws j 0) is

    question_at_lem : question_at t n ≡ q
    unfolding question_at record_with as_words
    question_at_lem =
        rw (word_at kind_at (lit< tt), word_at field_at (lit< tt), word_at mask_at (lit< tt), word_at value_at (lit< tt))
        (by_four (λ (x : List ℕ).
        let w = record_with x next s o in
        get_or w kind_at 0 ∷ get_or w field_at 0 ∷ get_or w mask_at 0 ∷ get_or w value_at 0 ∷ [] ≡ x)
        (λ k f m v. refl) q long)

    way_at_lem : (w : Outcome) → way_at t n w ≡ next w
    unfolding way_at record_with next_at as_words
    way_at_lem w = word_at (next_at w) (next_within w) ∙ by_four (λ (x : List ℕ). get_or (record_with x next s o) (next_at w) 0 ≡ next w) (λ k f m v. go w k f m v) q long
      where
        go : (w : Outcome) (k f m v : ℕ) → get_or (record_with (k ∷ f ∷ m ∷ v ∷ []) next s o) (next_at w) 0 ≡ next w
        go Holds k f m v = refl
        go Fails k f m v = refl
        go Absent k f m v = refl

    sure_at_lem : sure_set_at t n ≡ s
    unfolding sure_set_at set_at
    sure_at_lem = ap₂ of_halves (word_at sure_at (lit< tt)) (word_at (sure_at + 1) (lit< tt)) ∙ sure_in

    out_at_lem : out_set_at t n ≡ o
    unfolding out_set_at set_at
    out_at_lem = ap₂ of_halves (word_at out_at (lit< tt)) (word_at (out_at + 1) (lit< tt)) ∙ out_in

    pub record_spells : Spells t n q next s o
    record_spells = record { question = question_at_lem; way = way_at_lem; sure = sure_at_lem; out = out_at_lem }
