-- What fields 1 to 7 say of a frame's version and lengths.
use Rattle.std.specs.Prelude.{ℕ, ◌+◌, ◌≤◌, ◌≡◌, true, ◌&&◌, List, leb, eqb, length}
use Rattle.std.proofs.Common.{eqb-true, leb-true}
use Rattle.residue.specs.laws.Choice.{first, second}
use Rattle.fields.specs.Ethernet.{ip_start, ether_type}
use Rattle.fields.specs.Ipv4.{internet, version, header_length, total_length}

pub record Lengths (f : List ℕ) : Type 0 where
  pub type : ether_type f ≡ 0x0800
  pub whole : 34 ≤ length f
  pub four : version f ≡ 4
  pub least : 20 ≤ header_length f
  pub header : header_length f ≤ total_length f
  pub inside : ip_start + total_length f ≤ length f

pub internet_lengths : (f : List ℕ) → internet f ≡ true → Lengths f
unfolding internet
internet_lengths f h =
    let c1 = eqb (ether_type f) 0x0800 in
    let c2 = leb 34 (length f) in
    let c3 = eqb (version f) 4 in
    let c4 = leb 20 (header_length f) in
    let c5 = leb (header_length f) (total_length f) in
    let c6 = leb (ip_start + total_length f) (length f) in
    let h5 = first (c1 && c2 && c3 && c4 && c5) c6 h in
    let h4 = first (c1 && c2 && c3 && c4) c5 h5 in
    let h3 = first (c1 && c2 && c3) c4 h4 in
    let h2 = first (c1 && c2) c3 h3 in
    record {
      type = eqb-true _ _ (first c1 c2 h2);
      whole = leb-true _ _ (second c1 c2 h2);
      four = eqb-true _ _ (second (c1 && c2) c3 h3);
      least = leb-true _ _ (second (c1 && c2 && c3) c4 h4);
      header = leb-true _ _ (second (c1 && c2 && c3 && c4) c5 h5);
      inside = leb-true _ _ (second (c1 && c2 && c3 && c4 && c5) c6 h);
    }
