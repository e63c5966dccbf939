-- A header that was read once answers for every field what the definition answers.
use Rattle.std.specs.Prelude.{ℕ, ◌^◌, ◌<◌, ◌≡◌, refl, Bool, cond, List, [], ◌∷◌, ltb, eqb, length, get_or, set, replicate, Option, None, Some}
use Rattle.std.proofs.Common.{arith, sym, length-set, get_or-set_same, get_or-set_other, ltb-true, ltb-false, eqb-true}
use Rattle.std.proofs.Math.Path.{fun_ext}
use Rattle.std.proofs.Math.Bool.{true, false, or-true, or-false}
use Rattle.std.specs.Int.Bits.{bit_or}
use Rattle.std.proofs.lemmas.List.{length-replicate, get_or-replicate}
use Rattle.std.proofs.Math.ListN.{get_or-eq_default}
use Rattle.std.proofs.lemmas.Bool.{eqb-false}
use Rattle.sets.specs.Sets.{member}
use Rattle.sets.specs.laws.Members.{member_empty, member_or, member_one}
use Rattle.fields.specs.Widths.{field_count}
use Rattle.fields.specs.Puts.{Put, put_all}
use Rattle.fields.specs.Fields.{puts, readings, field}
use Rattle.fields.specs.Header.{noted, filled, present_set, reading_at, HeaderOf}
use Rattle.fields.specs.declared.Header.{Header}

-- A set and k words say what k readings say, each field by its number.
record Says (k s : ℕ) (vs : List ℕ) (rs : List (Option ℕ)) : Type 0 where
  words : length vs ≡ k
  rows : length rs ≡ k
  each : (n : ℕ) → n < k → cond (member n s) (Some (get_or vs n 0)) None ≡ get_or rs n None

says_nothing : (k : ℕ) (old : List ℕ) → length old ≡ k → Says k 0 old (replicate k None)
says_nothing k old long =
    record {
      words = long;
      rows = length-replicate k None;
      each = λ n l. rw (member_empty n) (sym (get_or-replicate k n None None l));
    }

module _ {k s : ℕ} {vs : List ℕ} {rs : List (Option ℕ)} (says : Says k s vs rs) (m x : ℕ) where
  put_at :
      (n : ℕ) → n < k → (b : Bool) → eqb n m ≡ b →
      cond (member n (bit_or s (2 ^ m))) (Some (get_or (set vs m x) n 0)) None ≡ get_or (set rs m (Some x)) n None
  put_at n l true e =
      let same : n ≡ m = eqb-true n m e in
      let before : m < length vs = omega (arith, says.words) in
      let within : m < length rs = omega (arith, says.rows) in
      rw (member_or n s (2 ^ m), member_one n m, e, or-true (member n s), same)
      (rw (get_or-set_same vs m x 0 before) (sym (get_or-set_same rs m (Some x) None within)))
  put_at n l false e =
      let other = eqb-false n m e in
      rw (
        member_or n s (2 ^ m),
        member_one n m,
        e,
        or-false (member n s),
        get_or-set_other vs m n x 0 other,
        get_or-set_other rs m n (Some x) None other,
      )
      (says.each n l)

  says_put : Says k (bit_or s (2 ^ m)) (set vs m x) (set rs m (Some x))
  says_put =
      record {
        words = simp length-set says.words;
        rows = simp length-set says.rows;
        each = λ n l. put_at n l (eqb n m) refl;
      }

says_all :
    (ps : List Put) {k s : ℕ} {vs : List ℕ} {rs : List (Option ℕ)} → Says k s vs rs → Says k (noted ps s) (filled ps vs) (put_all ps rs)
unfolding noted filled put_all
says_all [] says = says
says_all ((n, x) ∷ ps) says = says_all ps (says_put says n x)

module _ (f : List ℕ) (p : ℕ) (old : List ℕ) (long : length old ≡ field_count) (n : ℕ) where
  header_says : Says field_count (present_set f p) (filled (puts f p) old) (readings f p)
  unfolding present_set readings
  header_says = says_all (puts f p) (says_nothing field_count old long)

  by_number : (b : Bool) → ltb n field_count ≡ b → reading_at (present_set f p) (filled (puts f p) old) n ≡ field f p n
  unfolding reading_at field
  by_number true e = rw e (header_says.each n (ltb-true n field_count e))
  by_number false e = rw e (sym (get_or-eq_default (readings f p) None (rw header_says.rows (ltb-false n field_count e))))

  pub header_agrees : reading_at (present_set f p) (filled (puts f p) old) n ≡ field f p n
  header_agrees = by_number (ltb n field_count) refl

-- The same of all fields at once.
pub read_once :
    {f : List ℕ} {p : ℕ} {old new : Header} → length old.values ≡ field_count → HeaderOf f p old new → reading_at new.present new.values ≡ field f p
read_once {f} {p} {old} long h = fun_ext (λ (n : ℕ). rw (h.set, h.words) (header_agrees f p old.values long n))
