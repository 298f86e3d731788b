-- The linker places the scan's template for the tree of a plan.
use Rattle.std.proofs.Common.{◌≡◌, ℕ, suc, ◌-◌, ◌≤◌, length, ap, ◌∙◌, arith}
use Rattle.p3l_skel.specs.declared.tree.Form.{Form}
use Rattle.p3l_skel.specs.declared.tree.Form.TheVariants.{Pipe, Seq, Map}
use Rattle.p3l_skel.specs.declared.tree.Tree.{Tree}
use Rattle.p3l_skel.specs.Tree.{node_at, part_at}
use Rattle.p3l_link.specs.Net.{inner_pieces, own_piece, piece_of, whole_piece}
use Rattle.p3l_link.specs.Shape.{kind_at, kind_row, shape_at, shape_row}
use Rattle.p3l_map.specs.MapShape.{map_shape}
use Rattle.p3l_map.specs.laws.MapLaw.{map_lawful}
use Rattle.p3l_template.specs.Pipe.{pipe_shape}
use Rattle.p3l_template.specs.Run.{run_shape}
use Rattle.p3l_template.specs.Shape.{Base, Blueprint}
use Rattle.p3l_scan.specs.laws.NestedSame.{whole_is_nested}
use Rattle.p3l_template.specs.laws.PipeLaw.{pipe_lawful}
use Rattle.p3l_scan.specs.Plan.{stage_node, step_node}
use Rattle.p3l_scan.specs.Template.{IsPlan, blocks, scan_shape, stage_shape}
use Rattle.p3l_scan.specs.laws.ScanLaw.{some_blocks, stages_inner, steps_inner}

-- the row of the linker's table
row : (tree : Tree) (count : ℕ → ℕ) (k : ℕ) (f : Form) → (node_at tree k).form ≡ f →
    shape_at tree count k ≡ shape_row f k (length (node_at tree k).parts) (count k)
unfolding kind_at
row tree count k f is = ap (λ g. shape_row g k (length (node_at tree k).parts) (count k)) is

module _ (tree : Tree) (count : ℕ → ℕ) (cap e d : ℕ) (plan : IsPlan tree count d) where
  step_linked : (s : ℕ) → s ≤ d → (base : Base) →
      piece_of tree count cap (suc e) (step_node s) base ≡ own_piece (run_shape (step_node s)) cap base
  unfolding piece_of inner_pieces kind_row
  step_linked s l base =
      ap (λ (x : Blueprint). whole_piece x cap (λ v. piece_of tree count cap e (part_at tree (step_node s) v)) base)
      (row tree count (step_node s) Seq (plan.steps s l))

  stage_linked : (s : ℕ) → s ≤ d → (base : Base) →
      piece_of tree count cap (suc (suc e)) (stage_node s) base
      ≡ own_piece (stage_shape (stage_node s) (step_node s) (blocks d s)) cap base
  unfolding piece_of kind_row
  stage_linked s l base =
      let stage = plan.scan.stages s l in
      ap (λ (x : Blueprint). whole_piece x cap (λ v. piece_of tree count cap (suc e) (part_at tree (stage_node s) v)) base)
      (row tree count (stage_node s) (Map stage.map.clause stage.map.cut) stage.map.form
      ∙ ap (map_shape (stage_node s)) (plan.counts s l))
      ∙ whole_is_nested (map_shape (stage_node s) (blocks d s)) (λ v. 0) (λ v. run_shape (step_node s))
      (map_lawful (stage_node s) (blocks d s) (some_blocks d s)) (steps_inner (stage_node s) (step_node s) (blocks d s)) cap
      (λ v. piece_of tree count cap (suc e) (part_at tree (stage_node s) v)) base
      (λ v i b. ap (λ k. piece_of tree count cap (suc e) k b) stage.below ∙ step_linked s l b)

  pub scan_linked : (base : Base) →
      piece_of tree count cap (suc (suc (suc e))) 0 base ≡ own_piece (scan_shape d) cap base
  unfolding piece_of kind_row
  scan_linked base =
      let parts : length (node_at tree 0).parts - 1 ≡ d = omega (arith, plan.scan.pipe.parts) in
      ap (λ (x : Blueprint). whole_piece x cap (λ v. piece_of tree count cap (suc (suc e)) (part_at tree 0 v)) base)
      (row tree count 0 Pipe plan.pipe ∙ ap pipe_shape parts)
      ∙ whole_is_nested (pipe_shape d) (λ v. v) (λ s. stage_shape (stage_node s) (step_node s) (blocks d s)) (pipe_lawful d)
      (stages_inner d) cap (λ v. piece_of tree count cap (suc (suc e)) (part_at tree 0 v)) base
      (λ v i b.
      let l : v ≤ d = omega (arith, i) in
      ap (λ k. piece_of tree count cap (suc (suc e)) k b) (plan.scan.parts v l) ∙ stage_linked v l b)
