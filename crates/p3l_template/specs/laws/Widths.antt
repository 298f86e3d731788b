-- ROWS OF WIDTHS: how many tags the channels of a kind carry.
use Rattle.std.proofs.Common.{ℕ, zero, suc, List, [], ◌∷◌, ◌++◌, map, replicate, inr, arith}
use Rattle.std.specs.List.{AllByRecursion}
use Rattle.p3l_skel.specs.declared.tree.Tree.{Tree}
use Rattle.p3l_template.specs.PipeKind.{pipe_kind}
use Rattle.p3l_template.specs.RunKind.{run_kind}
use Rattle.p3l_template.specs.Tagged.{IsNear, IsTagged}
use Rattle.p3l_template.specs.Width.{outs_width, worker_widths}
use Rattle.p3l_template.specs.declared.width.Width.{Width}

module _ (t : ℕ) where
  pub near_append : (xs ys : List Width) → AllByRecursion (IsNear t) xs → AllByRecursion (IsNear t) ys → AllByRecursion (IsNear t) (xs ++ ys)
  near_append [] ys one other = other
  near_append (x ∷ xs) ys one other = (one.0, near_append xs ys one.1 other)

  pub near_map : (f : ℕ → Width) → ((k : ℕ) → IsNear t (f k)) → (ks : List ℕ) → AllByRecursion (IsNear t) (map f ks)
  near_map f each [] = tt
  near_map f each (k ∷ ks) = (each k, near_map f each ks)

  pub near_same : (n : ℕ) (a : Width) → IsNear t a → AllByRecursion (IsNear t) (replicate n a)
  near_same zero a near = tt
  near_same (suc n) a near = (near, near_same n a near)

  -- the channels to workers and from them
  pub workers_near : (n : ℕ) (a b : Width) → IsNear t a → IsNear t b → AllByRecursion (IsNear t) (worker_widths n a b)
  workers_near n a b near other = near_append (replicate n a) (replicate n b) (near_same n a near) (near_same n b other)

pub run_tagged : (node : ℕ) (tree : Tree) (k : ℕ) → IsTagged (run_kind node).deeper ((run_kind node).widths tree k)
run_tagged node tree k = record { shallow = omega arith; near = λ t. tt }

pub pipe_tagged : (stages : ℕ) (tree : Tree) (k : ℕ) → IsTagged (pipe_kind stages).deeper ((pipe_kind stages).widths tree k)
pipe_tagged stages tree k = record {
  shallow = omega arith;
  near = λ t. near_map t (λ p. outs_width tree p t) (λ p. (inr (omega arith), omega arith)) _;
}
