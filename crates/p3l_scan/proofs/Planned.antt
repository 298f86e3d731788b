-- The tree of a plan, with its numbers of blocks, is what the template of a scan is made for.
use Rattle.std.proofs.Common.{◌≡◌, ℕ, ◌+◌, ◌-◌, ◌*◌, ◌^◌, ◌≤◌, None, length, slice_index, refl, arith, ap, sym, ◌∙◌, subst}
use Rattle.p3l_skel.specs.declared.tree.Node.{Node}
use Rattle.p3l_skel.specs.Counts.{count_of}
use Rattle.p3l_skel.specs.Lawful.{IsChain}
use Rattle.p3l_firing.specs.kinds.Run.{Takes}
use Rattle.p3l_link.specs.Net.{end_net, linked_net, own_piece, root_base, root_piece, with_piece}
use Rattle.p3l_scan.specs.Plan.{blocks_cut, counts_of, plan_tree, stage_node, step_node}
use Rattle.p3l_scan.specs.Template.{IsPlan, IsStage, blocks, scan_shape}
use Rattle.p3l_scan.specs.laws.Nodes.{nodes-length, numbers-at, numbers-length, root_is, stage_is, step_is}
use Rattle.p3l_scan.specs.laws.Powers.{power_pos}
use Rattle.p3l_scan.proofs.Lawful.{chain, count_at, lawful-count}
use Rattle.p3l_scan.proofs.Linked.{scan_linked}

module _ (d w : ℕ) (few : d ≤ 9) (some : 1 ≤ w) (small : 2 ^ d * w ≤ 65536) where
  stage_planned : (s : ℕ) → s ≤ d → IsStage (plan_tree d w) (stage_node s) (step_node s) (blocks d s)
  stage_planned s l =
      let is = stage_is d w s l in
      let step = step_is d w s l in
      record {
        some = power_pos (d - s);
        map = record {
          there = omega (arith, nodes-length d w, l);
          clause = None;
          cut = blocks_cut (2 ^ (d - s)) (2 ^ s * w);
          form = ap (λ (n : Node). n.form) is;
          count = lawful-count d w few some small s (d - s) l refl;
        };
        below = ap (λ (n : Node). slice_index n.parts 0) is;
        run = record {
          there = omega (arith, nodes-length d w, l);
          takes = subst (λ (n : Node). Takes n.form n.ins 0 n.ins) (sym step) (refl, refl);
        };
      }

  pub planned : IsPlan (plan_tree d w) (count_of (plan_tree d w) (counts_of d)) d
  planned =
      let root = root_is d w in
      record {
        scan = record {
          pipe = record {
            some = omega arith;
            parts = ap (λ (n : Node). length n.parts) root ∙ numbers-length 0 d;
            chain = subst (λ (n : Node). IsChain (plan_tree d w) n.ins n.outs n.parts) (sym root) (chain d w few some small d 0 (omega arith));
          };
          parts = λ s l. ap (λ (n : Node). slice_index n.parts s) root ∙ numbers-at 0 d s l ∙ (let e : 0 + s ≡ s = omega arith in ap stage_node e);
          stages = stage_planned;
        };
        pipe = ap (λ (n : Node). n.form) root;
        steps = λ s l. ap (λ (n : Node). n.form) (step_is d w s l);
        counts = λ s l. count_at d w few some small s l;
      }

  -- the linked net of a plan is the source, the sink and the scan's template
  pub plan_linked : (cap : ℕ) →
      linked_net (plan_tree d w) (counts_of d) cap ≡ with_piece (end_net cap) (own_piece (scan_shape d) cap root_base)
  unfolding linked_net root_piece
  plan_linked cap =
      ap (with_piece (end_net cap))
      (scan_linked (plan_tree d w) (count_of (plan_tree d w) (counts_of d)) cap 3 d planned root_base)
