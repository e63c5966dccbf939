-- The value of a field fits its width.
use Rattle.std.specs.Prelude.{ℕ, zero, suc, ◌≤◌, ◌<◌, ◌-◌, ◌^◌, ◌≡◌, refl, Bool, true, false, ◌&&◌, ◌||◌, List, [], ◌∷◌, ◌++◌, leb, eqb, length, get_or, set, replicate, Option, None, Some}
use Rattle.std.proofs.Math.Pow.{le_ones}
use borrow.Author.Tests.{le-leb, leb-true}
use Rattle.residue.specs.inner.Readings.{in_width}
use Rattle.fields.specs.Widths.{field_count, width, full}
use Rattle.fields.specs.Bytes.{Bytes}
use Rattle.fields.specs.Puts.{Put, only_if, put_all}
use Rattle.fields.specs.Ethernet.{ethernet}
use Rattle.fields.specs.Ipv4.{internet, internet_puts, total_length, protocol, transport_start, transport_end, transport}
use Rattle.fields.specs.Transport.{tcp, udp, icmp, transport_puts}
use Rattle.fields.specs.Fields.{puts, readings, field}
use Rattle.fields.proofs.laws.Bytes.{byte_fits, two_fits, four_fits, part_bytes}

-- Each put's value fits the width of its field.
data AllFit : List Put → Type 0 where
  none : AllFit []
  more : (n : ℕ) {x : ℕ} {ps : List Put} → x < 2 ^ width n → AllFit ps → AllFit ((n, x) ∷ ps)

fit_if : (b : Bool) {ps : List Put} → AllFit ps → AllFit (only_if b ps)
fit_if true fits = fits
fit_if false fits = none

fit_both : {ps qs : List Put} → AllFit ps → AllFit qs → AllFit (ps ++ qs)
fit_both none fits = fits
fit_both (more n fit fits) others = more n fit (fit_both fits others)

module _ (f : List ℕ) (known : Bytes f) where
  internet_fits : AllFit (internet_puts f)
  unfolding internet_puts total_length protocol width
  internet_fits =
      more 1 (byte_fits f known 15)
      (more 2 (two_fits f known 16)
      (more 3 (two_fits f known 20)
      (more 4 (byte_fits f known 22)
      (more 5 (byte_fits f known 23)
      (more 6 (four_fits f known 26)
      (more 7 (four_fits f known 30) none))))))

transport_fits : (q : ℕ) (t : List ℕ) → Bytes t → AllFit (transport_puts q t)
unfolding transport_puts width
transport_fits q t known =
    fit_both
    (fit_both
    (fit_both
    (fit_if ((eqb q tcp || eqb q udp) && leb 4 (length t)) (more 8 (two_fits t known 0) (more 9 (two_fits t known 2) none)))
    (fit_if (eqb q tcp && leb 14 (length t)) (more 10 (byte_fits t known 13) none)))
    (fit_if (eqb q icmp && leb 1 (length t)) (more 11 (byte_fits t known 0) none)))
    (fit_if (eqb q icmp && leb 2 (length t)) (more 12 (byte_fits t known 1) none))

puts_fit : (f : List ℕ) (p : ℕ) → Bytes f → p < 2 ^ 8 → AllFit (puts f p)
unfolding puts transport width
puts_fit f p known port =
    fit_both
    (fit_both (more 13 port none) (fit_if (ethernet f) (more 0 (two_fits f known 12) none)))
    (fit_if (internet f)
    (fit_both (internet_fits f known)
    (transport_fits (protocol f) (transport f) (part_bytes f (transport_start f) (transport_end f) known))))

-- What holds of each reading and of the one that is put holds of each reading after it.
set_keeps :
    (P : ℕ → Option ℕ → Type 0) (rs : List (Option ℕ)) (m : ℕ) (r : Option ℕ) →
    ((n : ℕ) → P n (get_or rs n None)) → P m r → (n : ℕ) → P n (get_or (set rs m r) n None)
set_keeps P [] m r all new n = all n
set_keeps P (q ∷ rs) zero r all new zero = new
set_keeps P (q ∷ rs) zero r all new (suc n) = all (suc n)
set_keeps P (q ∷ rs) (suc m) r all new zero = all zero
set_keeps P (q ∷ rs) (suc m) r all new (suc n) = set_keeps (λ (k : ℕ). P (suc k)) rs m r (λ (k : ℕ). all (suc k)) new n

abbrev FitsField : ℕ → Option ℕ → Type 0
FitsField n r = in_width (full n) r ≡ true

in_width_lem : (w : ℕ) {x : ℕ} → x < 2 ^ w → in_width (2 ^ w - 1) (Some x) ≡ true
unfolding in_width
in_width_lem w {x} h = le-leb x (2 ^ w - 1) (le_ones w h)

all_in_width :
    {ps : List Put} → AllFit ps → (rs : List (Option ℕ)) → ((n : ℕ) → FitsField n (get_or rs n None)) →
    (n : ℕ) → FitsField n (get_or (put_all ps rs) n None)
unfolding put_all full
all_in_width none rs all = all
all_in_width (more n {x} fit fits) rs all =
    all_in_width fits (set rs n (Some x)) (set_keeps FitsField rs n (Some x) all (in_width_lem (width n) fit))

absent_in_width : (k n m : ℕ) → in_width m (get_or (replicate k None) n None) ≡ true
unfolding in_width
absent_in_width zero n m = refl
absent_in_width (suc k) zero m = refl
absent_in_width (suc k) (suc n) m = absent_in_width k n m

module _ (f : List ℕ) (p : ℕ) (known : Bytes f) (port : p < 2 ^ 8) (n : ℕ) where
  pub value_in_width : in_width (full n) (field f p n) ≡ true
  unfolding field readings
  value_in_width =
      all_in_width (puts_fit f p known port) (replicate field_count None) (λ (k : ℕ). absent_in_width field_count k (full k)) n

  pub value_fits : {x : ℕ} → field f p n ≡ Some x → x ≤ full n
  unfolding in_width
  value_fits {x} e = leb-true x (full n) (rw e at value_in_width)
