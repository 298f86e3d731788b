-- The values of a reduce by a tree of joins. Its joins are numbered as a heap: join q has 2 q and 2 q + 1 below it, the
-- segments are the places m to 2 m - 1, and the channel T q leads from place q to the join above it.
use Rattle.std.specs.Prelude.{ℕ, zero, suc, ◌+◌, ◌-◌, ◌*◌, Bool, true, false, ◌&&◌, cond, nat_lt, List, [], ◌∷◌, ◌++◌, map, length}
use Rattle.p3l_base.specs.declared.outcome.Outcome.{Outcome}
use Rattle.p3l_firing.specs.Token.{over, same_tags}
use Rattle.p3l_firing.specs.declared.token.Token.{Token}
use Rattle.p3l_firing.specs.kinds.Join.{paired_by}
use Rattle.p3l_template.specs.Sum.{sum_of}

-- a reduce in segments: its cut, the fold of a segment, and the operator
pub record Folding : Type 0 where
  pub count : ℕ
  pub segment : ℕ → Outcome → Outcome
  pub fold : Outcome → Outcome
  pub operator : Outcome → Outcome → Outcome

pub record View : Type 0 where
  -- the channels T by place, that of place 1 being the out channel, and the channels S by segment
  pub tees : ℕ → List Token
  pub segs : ℕ → List Token
  -- Split's token (or none) and its k
  pub sending : List Token
  pub sent : ℕ

abbrev pub leaf_of : Folding → ℕ → Outcome → Outcome
leaf_of g s o = g.fold (g.segment s o)

-- the meaning of place r, with d levels of joins down from it
unfoldable pub joined : Folding → ℕ → ℕ → Outcome → Outcome
joined g zero r o = leaf_of g (r - g.count) o
joined g (suc d) r o = g.operator (joined g d (r + r) o) (joined g d (suc (r + r)) o)

-- the fold of segment s, where Split holds a token and has not sent it yet
unfoldable pub unsent : Folding → List Token → ℕ → ℕ → List Token
unsent g [] k s = []
unsent g (x ∷ xs) k s = cond (nat_lt s k) [] (over (leaf_of g s) x ∷ [])

-- two lists combined pairwise
unfoldable pub pairwise : Folding → List Token → List Token → List Token
pairwise g [] ys = []
pairwise g (x ∷ xs) [] = []
pairwise g (x ∷ xs) (y ∷ ys) = paired_by g.operator x y ∷ pairwise g xs ys

-- the tokens still to come to the channel of place r
unfoldable pub after_node : Folding → View → ℕ → ℕ → List Token
after_node g v zero r = map (over g.fold) (v.segs (r - g.count)) ++ unsent g v.sending v.sent (r - g.count)
after_node g v (suc d) r =
    pairwise g (v.tees (r + r) ++ after_node g v d (r + r)) (v.tees (suc (r + r)) ++ after_node g v d (suc (r + r)))

-- those in it, then those still to come
abbrev pub flow : Folding → View → ℕ → ℕ → List Token
flow g v d r = v.tees r ++ after_node g v d r

-- equally many, with equal tags
unfoldable pub matched : List Token → List Token → Bool
matched [] [] = true
matched [] (y ∷ ys) = false
matched (x ∷ xs) [] = false
matched (x ∷ xs) (y ∷ ys) = same_tags x.tags y.tags && matched xs ys

-- the two flows of each join from r down match
unfoldable pub even : Folding → View → ℕ → ℕ → Bool
even g v zero r = true
even g v (suc d) r =
    matched (flow g v d (r + r)) (flow g v d (suc (r + r))) && (even g v d (r + r) && even g v d (suc (r + r)))

-- true exactly if k is the number of a segment, or Split holds no token
unfoldable pub split_ok : Folding → List Token → ℕ → Bool
split_ok g [] k = true
split_ok g (x ∷ xs) k = nat_lt k g.count

unfoldable pub well_kept : Folding → ℕ → View → Bool
well_kept g d v = even g v d 1 && split_ok g v.sending v.sent

-- the sum over the joins q from r down of the length of the flow of 2 q
unfoldable pub left_flows : Folding → View → ℕ → ℕ → ℕ
left_flows g v zero r = 0
left_flows g v (suc d) r = length (flow g v d (r + r)) + (left_flows g v d (r + r) + left_flows g v d (suc (r + r)))

-- the firings still owed for the token that Split holds
unfoldable pub to_send : Folding → List Token → ℕ → ℕ
to_send g [] k = 0
to_send g (x ∷ xs) k = 2 * (g.count - k)

unfoldable pub owed_in : Folding → ℕ → View → ℕ
owed_in g d v = sum_of (λ s. length (v.segs s)) g.count + (to_send g v.sending v.sent + left_flows g v d 1)

-- the tokens in the channels T but the out channel, in the channels S and at Split
unfoldable pub held_count : List Token → ℕ
held_count [] = 0
held_count (x ∷ xs) = 1

unfoldable pub inside_in : Folding → View → ℕ
inside_in g v =
    sum_of (λ i. length (v.tees (i + 2))) (g.count + g.count - 2)
    + (sum_of (λ s. length (v.segs s)) g.count + held_count v.sending)
