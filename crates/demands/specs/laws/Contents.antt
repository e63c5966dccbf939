-- Document 02, P9: every call takes a frame by its length and by what its fields are seen as, so two frames that steer alike get one answer.
-- Assumes nothing.
use Rattle.std.specs.Prelude.{ℕ, ◌≡◌, List, Ok, Err}
use Rattle.std.proofs.Math.Path.{refl, fun_ext}
use Rattle.std.proofs.Common.{sym, ap, ◌∙◌}
use Rattle.fields.specs.Fields.{field}
use Rattle.fields.specs.Seen.{seen}
use Rattle.fields.specs.Steering.{SteerAlike}
use Rattle.fields.proofs.laws.Agree.{seen_alike}
use Rattle.lists.specs.Refusals.{Listed, listed}
use Rattle.matcher.specs.Walk.{walk}
use Rattle.scanner.specs.Scan.{scanned_by, scanned}
use Rattle.lamp.specs.Lamp.{lamp_by, lamp_of}
use Rattle.gateway.specs.Gateway.{allowance, judged}
use Rattle.labels.specs.Labels.{readings}
use Rattle.labels.proofs.laws.Truths.{seen_field}

module _ (f g : List ℕ) (alike : SteerAlike f g) (p : ℕ) where
  same_seen : seen f p ≡ seen g p
  same_seen = fun_ext (seen_alike f g alike p)

  same_field : field f p ≡ field g p
  same_field = sym (seen_field f p) ∙ ap readings same_seen ∙ seen_field g p

  pub same_walk : (t : List ℕ) (m a : ℕ) → walk f p t m a ≡ walk g p t m a
  unfolding walk
  same_walk t m a = rw (alike.long, same_seen)

  scan_by : (x : Listed) (l : List ℕ) → scanned_by x l f p ≡ scanned_by x l g p
  unfolding scanned_by
  scan_by (Err r) l = refl
  scan_by (Ok c) l = rw (alike.long, same_field)

  pub same_scan : (l : List ℕ) → scanned l f p ≡ scanned l g p
  unfolding scanned
  same_scan l = scan_by (listed l) l

  lamp_by_lem : (x : Listed) (l t : List ℕ) (m : ℕ) → lamp_by x l f p t m ≡ lamp_by x l g p t m
  unfolding lamp_by
  lamp_by_lem (Err r) l t m = refl
  lamp_by_lem (Ok c) l t m = rw (alike.long, same_field)

  pub same_lamp : (l t : List ℕ) (m : ℕ) → lamp_of l f p t m ≡ lamp_of l g p t m
  unfolding lamp_of
  same_lamp l t m = lamp_by_lem (listed l) l t m

  pub same_judged : (t : List ℕ) (m : ℕ) (vs : List ℕ) (d : ℕ) (ts : List ℕ) → judged f p t m vs d ts ≡ judged g p t m vs d ts
  unfolding judged
  same_judged t m vs d ts = rw (same_walk t m allowance)
