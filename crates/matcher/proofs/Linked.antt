-- A record that is a link passes the walk on to the next link; a walk goes on behind a chain of them.
use Prim.Native.Nat.{ℕ, suc, ◌+◌, ◌-◌, ◌*◌, ◌≤◌, ◌<◌}
use native.Mathlib.Omega.{arith}
use mathlib.Core.Path.{◌≡◌, refl, sym, ◌∙◌}
use mathlib.Core.Bool.{Bool, true, false, not, ◌&&◌, false≢true}
use mathlib.Core.List.{List}
use borrow.Author.Tests.{eqb-true, lt-ltb, lt-leb, not-true}
use lib.Bits.{bit_and}
use lib.Dec.{eqb}
use Rattle.std.specs.Prelude.{Some}
use Rattle.residue.specs.Tests.{holds}
use Rattle.fields.specs.Widths.{field_count}
use Rattle.fields.specs.Seen.{reading_of}
use Rattle.fields.specs.declared.Seen.{Seen}
use Rattle.lists.specs.Filters.{test_of, kind_at, field_at}
use Rattle.tables.specs.Tables.{word_of}
use Rattle.tables.specs.inner.Records.{record_at}
use Rattle.matcher.specs.Walk.{damaged, next_of, onward, walk_from}
use Rattle.matcher.specs.inner.Records.{word_in}
use Rattle.matcher.specs.inner.Chains.{links_at, Chained}
use Rattle.matcher.proofs.Steps.{Walking, word_is, at_question, mark_stays, way_fails}

record Link (t : List ℕ) (n f x next : ℕ) : Type 0 where
  kind : word_in (record_at t n) 0 ≡ 1
  field : word_in (record_at t n) 1 ≡ f
  misses : eqb (bit_and x (word_in (record_at t n) 2)) (word_in (record_at t n) 3) ≡ false
  leads : word_in (record_at t n) 5 ≡ next

all_true :
    (a b c d : Bool) →
    (a && b && c && d) ≡ true →
    (a ≡ true) × (b ≡ true) × (c ≡ true) × (d ≡ true)
all_true false b c d h = absurd (false≢true h)
all_true true false c d h = absurd (false≢true h)
all_true true true false d h = absurd (false≢true h)
all_true true true true d h = (refl, refl, refl, h)

link : (t : List ℕ) (n f x next : ℕ) → links_at (record_at t n) f x next ≡ true → Link t n f x next
unfolding links_at
link t n f x next e =
    let hit = eqb (bit_and x (word_in (record_at t n) 2)) (word_in (record_at t n) 3) in
    let all = all_true (eqb (word_in (record_at t n) 0) 1) (eqb (word_in (record_at t n) 1) f) (not hit) (eqb (word_in (record_at t n) 5) next) e in
    record {
      kind = eqb-true (word_in (record_at t n) 0) 1 all.0;
      field = eqb-true (word_in (record_at t n) 1) f all.1;
      misses = not-true hit all.2;
      leads = eqb-true (word_in (record_at t n) 5) next all.3;
    }

module _ {t : List ℕ} {f x n next : ℕ} (small : f < field_count) (l : Link t n f x next) where
  link_kind : word_of t n kind_at ≡ 1
  link_kind = sym (word_is t n refl kind_at (omega arith)) ∙ l.kind

  link_field : word_of t n field_at ≡ f
  link_field = sym (word_is t n refl field_at (omega arith)) ∙ l.field

  link_sound : damaged t n ≡ false
  unfolding damaged
  link_sound = rw (link_kind, link_field, lt-leb field_count f small)

  link_asks : eqb (word_of t n kind_at) 0 ≡ false
  link_asks = rw link_kind

  link_test : holds (test_of (word_in (record_at t n) 0) (word_in (record_at t n) 2) (word_in (record_at t n) 3)) x ≡ false
  unfolding holds test_of
  link_test = rw l.kind l.misses

  -- One question for each link.
  link_step :
      (m : ℕ) (v : ℕ → Seen) (a q : ℕ) →
      next < m →
      reading_of (v f) ≡ Some x →
      q < a →
      (b : Bool) →
      walk_from t m v (suc q) (a - suc q) b n ≡ walk_from t m v q (a - q) b next
  unfolding onward
  link_step m v a q inside e h b =
      let reads : reading_of (v (word_in (record_at t n) 1)) ≡ Some x = rw l.field e in
      let way : next_of t v n ≡ next = way_fails t v n refl reads link_test ∙ l.leads in
      rw (way, lt-ltb next m inside, mark_stays t v n refl reads b) at (at_question t m v b n a q h link_sound link_asks)

module _ {t : List ℕ} {m f x l s : ℕ} where
  -- A further link, where so many more would lead to no record beyond the states.
  pub chained_more :
      {q n : ℕ} (stop : ℕ) →
      f < field_count →
      Chained t m f x l s q n →
      n + 2 * (q - stop) < m →
      stop < q →
      links_at (record_at t n) f x (n + 2) ≡ true →
      Chained t m f x l s (q - 1) (n + 2) × (n + 2 + 2 * (q - 1 - stop) < m)
  chained_more {q} {n} stop small c room some e =
      let next : n + 2 < m = omega arith in
      let going : Chained t m f x l s (q - 1) (n + 2) =
      record {
        within = omega (arith, c.within);
        inside = next;
        same =
            λ v e' a (fits : l ≤ a) b.
            let more : q ≡ suc (q - 1) = omega arith in
            let fewer : q - 1 < a = omega (arith, c.within) in
            let first : walk_from t m v l (a - l) b s ≡ walk_from t m v (suc (q - 1)) (a - suc (q - 1)) b n =
            rw more at (c.same v e' a fits b) in
            first ∙ link_step small (link t n f x (n + 2) e) m v a (q - 1) next e' fewer b;
      } in
      (going, omega arith)

-- A walk goes on behind the chain.
pub walked_on :
    {t : List ℕ} {m : ℕ} {v : ℕ → Seen} {a l : ℕ} {b : Bool} {n f x q n' : ℕ} →
    Walking t m v a l b n →
    reading_of (v f) ≡ Some x →
    Chained t m f x l n q n' →
    Walking t m v a q b n'
walked_on {v = v} {a = a} {b = b} w e c =
    record {
      inside = c.inside;
      within = omega (arith, w.within, c.within);
      rest = sym (c.same v e a w.within b) ∙ w.rest;
    }
