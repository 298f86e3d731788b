-- The typing law of a map: its workers take an element each, and tokens keep their tags.
use Rattle.std.proofs.Common.{◌≡◌, ℕ, ◌+◌, ◌<◌, Option, length, refl, sym, subst, arith}
use Rattle.p3l_base.specs.declared.cut.Cut.{Cut}
use Rattle.p3l_skel.specs.declared.tree.Form.TheVariants.{Map}
use Rattle.p3l_skel.specs.declared.tree.Tree.{Tree}
use Rattle.p3l_skel.specs.Counts.{IsLawfulCount}
use Rattle.p3l_skel.specs.Tree.{node_at, part_at}
use Rattle.p3l_firing.specs.declared.process.ProcKind.TheVariants.{Scatter, Gather}
use Rattle.p3l_firing.specs.Widths.{AllCarry}
use Rattle.p3l_template.specs.Shape.{numbers_from}
use Rattle.p3l_template.specs.Typing.{IsTypedShape}
use Rattle.p3l_template.specs.laws.FanTyping.{fan_typed}
use Rattle.p3l_template.specs.laws.Row.{numbers_length}
use Rattle.p3l_map.specs.MapShape.{map_fanned, map_shape, IsMapNode}

map_typed : (tree : Tree) (node n : ℕ) (workers : Option ℕ) (cut : Cut) → node < length tree.nodes →
    (node_at tree node).form ≡ Map workers cut → IsLawfulCount (node_at tree node).form n →
    IsTypedShape tree node (map_shape node n)
map_typed tree node n workers cut there form count =
    let part : ℕ = part_at tree node 0 in
    fan_typed tree node n Scatter Gather (map_fanned node n) (node_at tree part).ins (node_at tree part).outs 0 (omega arith)
    tt tt refl refl
    (λ w base t input output to_workers from_workers. (
      record {
        arg = refl;
        node = there;
        workers = workers;
        cut = cut;
        form = form;
        count = subst (IsLawfulCount (node_at tree node).form) (sym (numbers_length base.chan n)) count;
        ins = refl;
        takes = input.words;
        gives = subst (AllCarry w (numbers_from base.chan n) (node_at tree part).ins) (omega (arith, input.tags)) to_workers;
      },
      record {
        arg = refl;
        node = there;
        workers = workers;
        cut = cut;
        form = form;
        count = subst (IsLawfulCount (node_at tree node).form) (sym (numbers_length (base.chan + n) n)) count;
        outs = refl;
        takes = subst (AllCarry w (numbers_from (base.chan + n) n) (node_at tree part).outs) (omega (arith, output.tags))
            from_workers;
        gives = output.words;
      },
    ))

pub map_serves : (tree : Tree) (own node n : ℕ) → (own ≡ node) × IsMapNode tree node n →
    IsTypedShape tree node (map_shape own n)
map_serves tree own node n s =
    let is = s.1 in
    subst (λ k. IsTypedShape tree node (map_shape k n)) (sym s.0)
    (map_typed tree node n is.clause is.cut is.there is.form is.count)
