-- The template of a scan: a pipe of stages, each a map over blocks whose part is one process.
use Rattle.std.specs.Prelude.{◌≡◌, ℕ, suc, ◌-◌, ◌≤◌, ◌^◌}
use Rattle.p3l_skel.specs.declared.tree.Tree.{Tree}
use Rattle.p3l_skel.specs.declared.tree.Form.TheVariants.{Pipe, Seq}
use Rattle.p3l_skel.specs.Tree.{node_at, part_at}
use Rattle.p3l_map.specs.MapShape.{map_shape, IsMapNode}
use Rattle.p3l_template.specs.Pipe.{pipe_shape}
use Rattle.p3l_template.specs.Run.{run_shape}
use Rattle.p3l_template.specs.Shape.{Blueprint}
use Rattle.p3l_template.specs.Typing.{IsPipeNode, IsRunNode}
use Rattle.p3l_scan.specs.Nested.{nested}
use Rattle.p3l_scan.specs.Plan.{stage_node, step_node}

-- the blocks of stage s, where d stages follow the first: each stage has half as many as the one before it, and the last has one
abbrev pub blocks : ℕ → ℕ → ℕ
blocks d s = 2 ^ (d - s)

-- a map over n blocks, whose part is one process
abbrev pub stage_shape : ℕ → ℕ → ℕ → Blueprint
stage_shape stage step n = nested (map_shape stage n) (λ v. run_shape step)

-- THE TEMPLATE OF A SCAN in which d stages follow the first
abbrev pub scan_shape : ℕ → Blueprint
scan_shape d = nested (pipe_shape d) (λ s. stage_shape (stage_node s) (step_node s) (blocks d s))

-- a node of a tree is a map over n blocks, and its part a node of one process
pub record IsStage (tree : Tree) (stage step n : ℕ) : Type 0 where
  pub some : 1 ≤ n
  pub map : IsMapNode tree stage n
  pub below : part_at tree stage 0 ≡ step
  pub run : IsRunNode tree step

-- the root of a tree is a scan in which d stages follow the first
pub record IsScan (tree : Tree) (d : ℕ) : Type 0 where
  pub pipe : IsPipeNode tree 0 (suc d)
  pub parts : (s : ℕ) → s ≤ d → part_at tree 0 s ≡ stage_node s
  pub stages : (s : ℕ) → s ≤ d → IsStage tree (stage_node s) (step_node s) (blocks d s)

-- the tree of a plan in which d stages follow the first, and its numbers of blocks
pub record IsPlan (tree : Tree) (count : ℕ → ℕ) (d : ℕ) : Type 0 where
  pub scan : IsScan tree d
  pub pipe : (node_at tree 0).form ≡ Pipe
  pub steps : (s : ℕ) → s ≤ d → (node_at tree (step_node s)).form ≡ Seq
  pub counts : (s : ℕ) → s ≤ d → count (stage_node s) ≡ blocks d s
