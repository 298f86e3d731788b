use Rattle.std.proofs.Common.{◌-◌, cond, nat_lt, [], ◌∷◌, sym, ap, ap₂, ◌∙◌, subst}
use Rattle.p3l_base.specs.declared.cut.Cut.{Cut}
use Rattle.p3l_base.specs.Cut.{element_count}
use Rattle.p3l_skel.specs.declared.tree.Node.{Node}
use Rattle.p3l_firing.specs.Nodes.{cut_of}
use Rattle.p3l_firing.specs.State.{own_at, counted, fresh}
use Rattle.p3l_firing.specs.kinds.Scatter.{line_of}
use Rattle.p3l_net.specs.Forms.{IsMap}
use Rattle.p3l_net.specs.Machine.{Seen}
use Rattle.p3l_net.specs.Steps.{CanPut, ticked, with_last, with_own}
use Rattle.p3l_net.proofs.Standing.{here, is_kind}
use Rattle.p3l_net.proofs.step.Scatter.{fits_scatter, some_outs, is_map, puts, sent, fired_sent}
use Rattle.p3l_net.proofs.store.Store.send_element.Goals as goal

pub element_line-line-requires-clause-some : goal.element_line-line-requires-clause-some
element_line-line-requires-clause-some c = some_outs (here c.requires.may c.process-process.ensures) (is_kind c.requires.may c.process-process.ensures)

pub node-requires : goal.node-requires
node-requires c = (fits_scatter (here c.requires.may c.process-process.ensures) (is_kind c.requires.may c.process-process.ensures)).node

pub cut_of-requires : goal.cut_of-requires
cut_of-requires c = subst (λ (x : Node). IsMap x.form) (sym c.node.ensures) (is_map (here c.requires.may c.process-process.ensures) (is_kind c.requires.may c.process-process.ensures))

pub put-requires : goal.put-requires
put-requires c = subst (CanPut c.args.self.now) (sym c.element_line-line.ensures) (puts c.requires.may c.process-process.ensures c.requires.holds)

pub returns-clause-done : goal.returns-clause-done
returns-clause-done c = λ leaf.
    let m : Seen = c.args.self.now in
    let q = c.process-process.result.now in
    let line = c.element_line-line.ensures in
    let last = c.last_element-last.ensures ∙ ap (λ (x : Cut). element_count x - 1) (c.cut_of.ensures ∙ ap (λ (x : Node). cut_of x.form) c.node.ensures) in
    let put = c.put.ensures ∙ ap₂ (with_last m) line c.in_ok-element.ensures in
    let passed = c.pass_piece.ensures
    ∙ ap (λ (x : Seen). with_own x c.args.p (cond (nat_lt c.number.result c.last_element-last.result) (counted (own_at x.owns c.args.p)) fresh)) put
    ∙ ap₂ (λ a b. with_own (with_last m (line_of (own_at m.owns c.args.p) q) (sent c.requires.may c.process-process.ensures c.requires.holds)) c.args.p (cond (nat_lt a b) (counted (own_at m.owns c.args.p)) fresh)) c.number.ensures last in
    fired_sent c.requires.may c.process-process.ensures c.requires.holds leaf _
    (c.tick.ensures ∙ ap ticked passed)
    _ (c.one.ensures ∙ ap (λ k. k ∷ []) line)
