-- Words written and read back: a state that fits its slot is read back as it was, so equal words are equal states.
use Rattle.std.specs.Prelude.{ℕ, zero, suc, ◌*◌, ◌-◌, ◌≤◌, ◌≡◌, refl, Bool, true, false, cond, List, [], ◌∷◌, ◌++◌, eqb, length, get_or, take, drop, replicate}
use Rattle.std.proofs.Common.{sym, ap, ap₂, ◌∙◌, not-suc-le-zero, arith, length-append, take_at, drop_at}
use Rattle.std.proofs.lemmas.List.{length-replicate}
use Rattle.residue.specs.laws.Choice.{first, second}
use Rattle.residue.specs.declared.Test.{Test}
use Rattle.residue.specs.declared.Test.TheVariants.{Equal, Differs, AtMost, AtLeast}
use Rattle.lists.specs.Filters.{Item, max_tests, test_words, item_of}
use Rattle.lists.specs.Words.{kind_of, item_words}
use Rattle.lists.specs.laws.Items.{kind_some, item_round}
use Rattle.states.specs.States.{Standing, out, left, State, is_held, is_out}
use Rattle.states.specs.inner.Remaining.{remaining_in}
use Rattle.slots.specs.Words.{filter_slot}
use Rattle.slots.specs.inner.Words.{items_words, out_words, written_filter, written, read_items, read_filter, read_state}
use Rattle.slots.specs.Asking.{out_mark}
use Rattle.slots.specs.laws.Fitting.{fits_standing, fits_slot, fits_le}

-- ---- lengths

pub length_items_words : (ts : List Item) → length (items_words ts) ≡ test_words * length ts
unfolding items_words item_words
length_items_words [] = refl
length_items_words (t ∷ ts) = omega (arith, length_items_words ts)

pub length_filter : (x : Standing) → fits_standing x ≡ true → length (written_filter x) ≡ filter_slot
unfolding written_filter out_words remaining_in
length_filter out e = refl
length_filter (left ts) e =
    length-append (items_words ts) (replicate (filter_slot - test_words * length ts) 0) ∙
    omega (arith, length_items_words ts, length-replicate {A = ℕ} (filter_slot - test_words * length ts) 0, fits_le (left ts) e)

-- ---- the first filter and the others

pub take_filter : (x : Standing) (s : State) → fits_standing x ≡ true → take filter_slot (written_filter x ++ written s) ≡ written_filter x
take_filter x s e = take_at (written_filter x) (written s) filter_slot (length_filter x e)

pub drop_filter : (x : Standing) (s : State) → fits_standing x ≡ true → drop filter_slot (written_filter x ++ written s) ≡ written s
drop_filter x s e = drop_at (written_filter x) (written s) filter_slot (length_filter x e)

-- ---- the first word

pub kind_mark : (t : Test) → eqb (kind_of t) out_mark ≡ false
unfolding kind_of
kind_mark (Equal m v) = refl
kind_mark (Differs m v) = refl
kind_mark (AtMost v) = refl
kind_mark (AtLeast v) = refl

pub held_word : (x : Standing) → eqb (get_or (written_filter x) 0 0) 0 ≡ is_held x
unfolding written_filter out_words items_words item_words is_held
held_word out = refl
held_word (left []) = refl
held_word (left (t ∷ ts)) = kind_some t.test

pub out_word : (x : Standing) → eqb (get_or (written_filter x) 0 0) out_mark ≡ is_out x
unfolding written_filter out_words items_words item_words is_out
out_word out = refl
out_word (left []) = refl
out_word (left (t ∷ ts)) = kind_mark t.test

-- ---- reading back

zeros_head : (k : ℕ) → get_or (replicate {A = ℕ} k 0) 0 0 ≡ 0
zeros_head zero = refl
zeros_head (suc k) = refl

item_front : (t : Item) (w : List ℕ) → item_of (item_words t ++ w) ≡ t
unfolding item_of item_words
item_front t w = item_round t

read_items_lem : (n : ℕ) (ts : List Item) (k : ℕ) → length ts ≤ n → read_items n (items_words ts ++ replicate k 0) ≡ ts
unfolding read_items items_words item_words
read_items_lem zero [] k l = refl
read_items_lem zero (t ∷ ts) k l = absurd (not-suc-le-zero l)
read_items_lem (suc n) [] k l = rw (zeros_head k)
read_items_lem (suc n) (t ∷ ts) k l =
    rw (kind_some t.test) (ap₂ (λ (a : Item) (b : List Item). a ∷ b) (item_front t (items_words ts ++ replicate k 0)) (read_items_lem n ts k (omega arith)))

pub read_filter_lem : (x : Standing) → fits_standing x ≡ true → read_filter (written_filter x) ≡ x
unfolding read_filter written_filter out_words is_out remaining_in
read_filter_lem out e = refl
read_filter_lem (left ts) e =
    let k = filter_slot - test_words * length ts in
    ap (λ (b : Bool). cond b out (left (read_items max_tests (items_words ts ++ replicate k 0)))) (out_word (left ts)) ∙
    ap left (read_items_lem max_tests ts k (fits_le (left ts) e))

pub read_written : (s : State) → fits_slot s ≡ true → read_state (length s) (written s) ≡ s
unfolding read_state written fits_slot
read_written [] e = refl
read_written (x ∷ s) e =
    let f = first (fits_standing x) (fits_slot s) e in
    ap₂ (λ (y : Standing) (r : State). y ∷ r)
    (ap read_filter (take_filter x s f) ∙ read_filter_lem x f)
    (ap (read_state (length s)) (drop_filter x s f) ∙ read_written s (second (fits_standing x) (fits_slot s) e))

pub written_injective : (a b : State) → length a ≡ length b → fits_slot a ≡ true → fits_slot b ≡ true → written a ≡ written b → a ≡ b
written_injective a b l f g e = sym (read_written a f) ∙ ap₂ read_state l e ∙ read_written b g
