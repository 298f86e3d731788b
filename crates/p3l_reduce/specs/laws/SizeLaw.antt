-- Numbers of tokens in a tree of joins, and of tokens to come and firings that these stand for. A flow goes down the left,
-- to places that are greater each time, so it is no longer than all tokens inside (`flow_few`).
-- Hence at most as many are to come (`come_few`), and at most 3 m firings are owed for each (`owed_few`).
use Rattle.std.proofs.Common.{◌≡◌, ℕ, zero, suc, ◌+◌, ◌-◌, ◌*◌, ◌≤◌, ◌<◌, List, [], ◌∷◌, map, length, ap, ◌∙◌, subst, arith, length-append, sym}
use Rattle.std.proofs.lemmas.List.{length-map}
use Rattle.p3l_firing.specs.Token.{over}
use Rattle.p3l_firing.specs.declared.token.Token.{Token}
use Rattle.p3l_reduce.specs.JoinTree.{Folding, View, unsent, pairwise, after_node, flow, left_flows, to_send, owed_in, held_count, inside_in}
use Rattle.p3l_reduce.specs.laws.Heap.{Deep, join_count}
use Rattle.p3l_reduce.specs.laws.JoinView.{unsent_few}
use Rattle.p3l_template.specs.Sum.{sum_of}
use Rattle.p3l_template.specs.laws.Inside.{times_le}
use Rattle.p3l_template.specs.laws.SumLaw.{sum_split}

pub held_few : (ts : List Token) → held_count ts ≤ length ts
unfolding held_count
held_few [] = omega arith
held_few (x ∷ xs) = omega arith

module _ (g : Folding) (v : View) where
  pairwise_few : (xs ys : List Token) → length (pairwise g xs ys) ≤ length xs
  unfolding pairwise
  pairwise_few [] ys = omega arith
  pairwise_few (x ∷ xs) [] = omega arith
  pairwise_few (x ∷ xs) (y ∷ ys) = omega (arith, pairwise_few xs ys)

  -- the tokens in the channel T of place i + 2
  abbrev in_tee : ℕ → ℕ
  in_tee i = length (v.tees (i + 2))

  -- those in the channels S and at Split
  abbrev before : ℕ
  before = sum_of (λ s. length (v.segs s)) g.count + held_count v.sending

  -- a flow goes down the left, to places that are greater each time
  flow_few : (d r : ℕ) → Deep g.count d r → 1 < r →
      length (flow g v d r) + sum_of in_tee (r - 2) ≤ sum_of in_tee (g.count + g.count - 2) + before
  unfolding Deep after_node
  flow_few zero r deep big =
      let at_r : length (v.tees (r - 2 + 2)) ≡ length (v.tees r) = ap (λ z. length (v.tees z)) (omega arith) in
      let a = sum_split in_tee (g.count + g.count - 2) (r - 2) (omega (arith, deep.1)) in
      let b = sum_split (λ s. length (v.segs s)) g.count (r - g.count) (omega (arith, deep.0, deep.1)) in
      let c = unsent_few g v.sending v.sent (r - g.count) in
      let e : length (flow g v 0 r)
      ≡ length (v.tees r) + (length (v.segs (r - g.count)) + length (unsent g v.sending v.sent (r - g.count))) =
      length-append (v.tees r) _
      ∙ ap (λ z. length (v.tees r) + z)
      (length-append (map (over g.fold) (v.segs (r - g.count))) _
      ∙ ap (λ z. z + length (unsent g v.sending v.sent (r - g.count)))
      (length-map (v.segs (r - g.count)) (over g.fold))) in
      omega (arith, at_r, a, b, c, e)
  flow_few (suc d) r deep big =
      let at_r : length (v.tees (r - 2 + 2)) ≡ length (v.tees r) = ap (λ z. length (v.tees z)) (omega arith) in
      let a = sum_split in_tee (r + r - 2) (r - 2) (omega arith) in
      let i = flow_few d (r + r) deep.2 (omega arith) in
      let p = pairwise_few (flow g v d (r + r)) (flow g v d (suc (r + r))) in
      let e : length (flow g v (suc d) r)
      ≡ length (v.tees r) + length (pairwise g (flow g v d (r + r)) (flow g v d (suc (r + r)))) =
      length-append (v.tees r) _ in
      omega (arith, at_r, a, i, p, e)

  left_few : (d r : ℕ) → Deep g.count d r → left_flows g v d r ≤ join_count d * inside_in g v
  unfolding Deep left_flows join_count inside_in
  left_few zero r deep = omega arith
  left_few (suc d) r deep =
      let a = flow_few d (r + r) deep.2 (omega (arith, deep.0)) in
      omega (arith, a, left_few d (r + r) deep.2, left_few d (suc (r + r)) deep.3)

  send_few : (ts : List Token) (k : ℕ) → to_send g ts k ≤ 2 * g.count * held_count ts
  unfolding to_send held_count
  send_few [] k = omega arith
  send_few (x ∷ xs) k = omega arith

  -- the tokens inside bound the number of tokens to come to the out channel, and the firings owed
  pub come_few : (d : ℕ) → Deep g.count (suc d) 1 → length (after_node g v (suc d) 1) ≤ inside_in g v
  unfolding Deep after_node inside_in
  come_few d deep = omega (arith, pairwise_few (flow g v d 2) (flow g v d 3), flow_few d 2 deep.2 (omega arith))

  pub owed_few : (d : ℕ) → Deep g.count d 1 → g.count ≡ suc (join_count d) → owed_in g d v ≤ 3 * g.count * inside_in g v
  unfolding owed_in inside_in
  owed_few d deep count =
      final (sum_of (λ s. length (v.segs s)) g.count) (held_count v.sending) (to_send g v.sending v.sent)
      (left_flows g v d 1) (inside_in g v) (join_count d) g.count
      count (left_few d 1 deep) (send_few v.sending v.sent) (omega arith)
    where
      final : (S h t l n j m : ℕ) → m ≡ suc j → l ≤ j * n → t ≤ 2 * m * h → S + h ≤ n → S + (t + l) ≤ 3 * m * n
      final S h t l n j m e a b c =
          let f : (2 * suc j) * (S + h) ≤ (2 * suc j) * n = times_le (2 * suc j) (S + h) n c in
          let k : t ≤ 2 * suc j * h = subst (λ z. t ≤ 2 * z * h) e b in
          subst (λ z. S + (t + l) ≤ 3 * z * n) (sym e) (omega (arith, a, f, k))
