use Rattle.std.proofs.Common.{◌≡◌, ◌∙◌, ◌++◌, ℕ, List, ap, subst, arith, append_assoc}
use Rattle.std.specs.Prelude.{codes, string_bytes}
use Rattle.std.specs.List.{Contains}
use Rattle.p3l_skel.specs.declared.tree.Node.{Node}
use Rattle.p3l_skel.specs.Counts.{count_of, own_counted}
use Rattle.p3l_model.proofs.Deep.{timed_outside}
use Rattle.p3l_model.proofs.Timed.{some_worker}
use Rattle.p3l_advise.specs.Bottleneck.{term_row}
use Rattle.p3l_advise.specs.Lines.{term_name}
use Rattle.p3l_advise.proofs.Nodes.{mark_here}
use Rattle.p3l_advise.proofs.lines.put_mark.Goals as goal

pub term_of-requires-clause-count : goal.term_of-requires-clause-count
term_of-requires-clause-count c = λ own.
    let timed = timed_outside c.args.tree.now c.args.costs.now c.args.counts.now.list c.args.number c.requires.tree c.requires.costs c.requires.counts c.requires.outside in
    rw c.workers-count.ensures
    (some_worker c.args.tree.now c.args.costs.now (count_of c.args.tree.now c.args.counts.now.list) 6 c.args.number (omega arith) timed
    (subst (λ (n : Node). Contains (own_counted n.form 0) 0) c.requires.node own))

pub returns : goal.returns
returns c =
    let text : List ℕ = string_bytes c.args.text.now in
    let here = mark_here c.args.tree.now c.args.costs.now c.args.counts.now.list c.args.number (c.if-number-worst.false ∙ c.requires.worst) in
    let term = c.term_of.ensures in
    let written : c.term_name.result.now ≡ term_name (term_row c.args.tree.now c.args.costs.now c.args.number c.args.node.now.form c.service-time.result c.workers-count.result) = c.term_name.ensures ∙ ap term_name term in
    rw (here, ← c.requires.node, ← c.service-time.ensures.number, ← c.workers-count.ensures, ← written)
    (c.in_ok-push_str-2.ensures.bytes ∙ ap (λ (xs : List ℕ). xs ++ c.term_name.result.now) c.in_ok-push_str.ensures.bytes ∙ append_assoc text (codes " bottleneck: ") c.term_name.result.now)
