use Rattle.std.proofs.Common.{◌∷◌, [], length, IfSome, sym, ap, ◌∙◌, subst, arith, length-append}
use Rattle.std.specs.Prelude.{slice_get}
use Rattle.p3l_registers.proofs.Added.{added}
use Rattle.p3l_units.specs.Table.{Served, IsBareNode}
use Rattle.p3l_units.proofs.table.bare_nodes.Goals as goal

pub loop-node-preserved : goal.loop-node-preserved
loop-node-preserved c =
    let served : Served = record { tree = c.args.tree.now; codes = c.args.codes.now } in
    let inv = c.loop-node.invariant in
    let more = c.in_ok-push.ensures.ok in
    record {
      whole = ap length more ∙ (let l = length-append c.loop-node.bare_nodes (c.bare_node.result ∷ []) in omega (arith, l, inv.whole));
      each = λ k found e.
          added c.loop-node.bare_nodes (λ j it. IfSome it (IsBareNode served j)) c.bare_node.result k found inv.each
          (subst (λ j. IfSome c.bare_node.result (IsBareNode served j)) (sym inv.whole) c.bare_node.ensures)
          (sym (ap (λ xs. slice_get xs k) more) ∙ e);
    }
