-- Lines that are the same below the number of workers are as good to a map as its own: the list of pieces, what is to come and the
-- order stay (`near-whole`, `near-come`, `near-kept`).
use Rattle.std.proofs.Common.{◌≡◌, ℕ, zero, suc, ◌+◌, ◌%◌, ◌<◌, ◌&&◌, nat_eq, nat_le, List, [], ◌++◌, map, length, refl, ap, ◌∙◌, arith, mod-lt}
use Rattle.p3l_firing.specs.declared.token.Token.{Token}
use Rattle.p3l_map.specs.Map.{Pieces, View, spot, joined, unsent, under_way, whole, to_come, next_piece, scatter_ok, all_alike, well_kept}
use Rattle.p3l_map.specs.Places.{read_by, all_empty, in_by, total, groups, left}
use Rattle.p3l_map.specs.laws.Turns.{turns_same, total_same}

turns-near : (number n c : ℕ) (L M : ℕ → List Token) → ((w : ℕ) → w < n → M w ≡ L w) →
    (read_by M (λ p. (p % number) % n) c (total L n) ≡ read_by L (λ p. (p % number) % n) c (total L n))
    × (in_by M (λ p. (p % number) % n) n c (total L n) ≡ in_by L (λ p. (p % number) % n) n c (total L n))
unfolding read_by in_by total all_empty
turns-near number zero c L M h = (refl, refl)
turns-near number (suc n) c L M h =
    turns_same (λ p. (p % number) % suc n) (suc n) (λ p. mod-lt (p % number) (omega arith)) (total L (suc n)) c L M h

module _ (q : Pieces) (v : View) (M : ℕ → List Token) (h : (w : ℕ) → w < q.lines → M w ≡ v.lines w) where
  abbrev pub near : View
  near = record v { lines = M }

  pub near-way : under_way q near ≡ under_way q v
  near-way = total_same v.lines M q.lines h

  pub near-turns : (read_by M (spot q) (length v.held) (under_way q v) ≡ read_by v.lines (spot q) (length v.held) (under_way q v))
      × (in_by M (spot q) q.lines (length v.held) (under_way q v) ≡ in_by v.lines (spot q) q.lines (length v.held) (under_way q v))
  unfolding spot
  near-turns = turns-near q.number q.lines (length v.held) v.lines M h

  pub near-whole : whole q near ≡ whole q v
  unfolding whole
  near-whole =
      ap (λ m. v.held ++ (read_by M (spot q) (length v.held) m ++ unsent q v.sending v.sent)) near-way
      ∙ ap (λ z. v.held ++ (z ++ unsent q v.sending v.sent)) near-turns.0

  pub near-kept : well_kept q near ≡ well_kept q v
  unfolding well_kept
  near-kept =
      λ i. nat_le (length v.held) q.number
      && (nat_eq ((length v.held + near-way i) % q.number) (next_piece v.sending v.sent)
      && ((ap (λ m. in_by M (spot q) q.lines (length v.held) m) near-way ∙ near-turns.1) i
      && (nat_eq (length (left q.number [] (near-whole i))) 0
      && (all_alike (groups q.number [] (near-whole i)) && scatter_ok q v.sending v.sent))))

  pub near-come : to_come q near ≡ to_come q v
  unfolding to_come
  near-come = ap (λ z. map (joined q) (groups q.number [] z)) near-whole
