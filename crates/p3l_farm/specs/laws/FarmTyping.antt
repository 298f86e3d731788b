-- The typing law of a farm: between Emit and Collect each token has one tag more.
use Rattle.std.proofs.Common.{◌≡◌, ℕ, ◌+◌, ◌<◌, Option, length, refl, sym, subst, arith}
use Rattle.p3l_skel.specs.declared.tree.Form.TheVariants.{Farm}
use Rattle.p3l_skel.specs.declared.tree.Tree.{Tree}
use Rattle.p3l_skel.specs.Counts.{IsLawfulCount}
use Rattle.p3l_skel.specs.Lawful.{HasWords}
use Rattle.p3l_skel.specs.Tree.{node_at, part_at}
use Rattle.p3l_firing.specs.declared.process.ProcKind.TheVariants.{Emit, Collect}
use Rattle.p3l_firing.specs.Widths.{AllCarry}
use Rattle.p3l_template.specs.Shape.{numbers_from}
use Rattle.p3l_template.specs.Typing.{IsTypedShape}
use Rattle.p3l_template.specs.laws.FanTyping.{fan_typed}
use Rattle.p3l_template.specs.laws.Row.{numbers_length}
use Rattle.p3l_farm.specs.Farm.{farmed, farm_shape, IsFarmNode}

farm_typed : (tree : Tree) (node n : ℕ) (workers : Option ℕ) → node < length tree.nodes →
    (node_at tree node).form ≡ Farm workers → IsLawfulCount (node_at tree node).form n →
    HasWords tree (part_at tree node 0) (node_at tree node).ins (node_at tree node).outs →
    IsTypedShape tree node (farm_shape node n)
farm_typed tree node n workers there form count part =
    fan_typed tree node n Emit Collect (farmed n) (node_at tree node).ins (node_at tree node).outs 1 (omega arith)
    tt tt part.takes part.gives
    (λ w base t input output to_workers from_workers. (
      record {
        arg = refl;
        node = there;
        workers = workers;
        form = form;
        count = subst (IsLawfulCount (node_at tree node).form) (sym (numbers_length base.chan n)) count;
        ins = refl;
        takes = input.words;
        gives = subst (AllCarry w (numbers_from base.chan n) (node_at tree node).ins) (omega (arith, input.tags)) to_workers;
      },
      record {
        arg = refl;
        node = there;
        workers = workers;
        form = form;
        count = subst (IsLawfulCount (node_at tree node).form) (sym (numbers_length (base.chan + n) n)) count;
        outs = refl;
        takes = subst (AllCarry w (numbers_from (base.chan + n) n) (node_at tree node).outs) (omega (arith, output.tags))
            from_workers;
        gives = output.words;
      },
    ))

pub farm_serves : (tree : Tree) (own node n : ℕ) → (own ≡ node) × IsFarmNode tree node n →
    IsTypedShape tree node (farm_shape own n)
farm_serves tree own node n s =
    let is = s.1 in
    subst (λ k. IsTypedShape tree node (farm_shape k n)) (sym s.0)
    (farm_typed tree node n is.clause is.there is.form is.count is.part)
