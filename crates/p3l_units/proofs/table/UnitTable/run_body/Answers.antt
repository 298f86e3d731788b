use Rattle.std.proofs.Common.{◌≡◌, ◌<◌, Some, length, ap, ◌∙◌, subst}
use Rattle.p3l_units.proofs.Given.{given-same}
use Rattle.p3l_skel.specs.declared.tree.Form.TheVariants as forms
use Rattle.p3l_skel.specs.declared.tree.Node.{Node}
use Rattle.p3l_skel.specs.Tree.{node_at}
use Rattle.p3l_code.specs.Machine.{exec}
use Rattle.p3l_units.specs.Table.{Served, code_of, leaf}
use Rattle.p3l_units.proofs.Body.{runs_body}
use Rattle.p3l_units.proofs.table.UnitTable.run_body.Goals as goal

pub returns : goal.returns
returns c =
    let k = c.args.node in
    let words = c.args.words.now in
    let code = c.code_of-code.result.now in
    let found : c.in-Some.found.now ≡ node_at c.args.self.now.tree k = c.in-Some.ensures.found ∙ ap (λ (s : Served). node_at s.tree k) c.self.view_is in
    let Goal : Served → Type 0 = λ s. k < length s.tree.nodes → (node_at s.tree k).form ≡ forms.Seq → length words ≡ (node_at s.tree k).ins → code_of s (node_at s.tree k).module ≡ Some code → exec code (node_at s.tree k).module words ≡ leaf s (node_at s.tree k).module words in
    let here : Goal (record { tree = c.self.inside.tree.now; codes = c.self.inside.codes }) =
    λ there form fits own. runs_body _ c.self.inside.places c.self.invariant.placed k there form code own words fits in
    given-same c.run.result _ _
    (ap (λ (n : Node). exec code n.module words) found
    ∙ subst Goal c.self.view_is here c.requires.there c.requires.form c.requires.fits c.code_of-code.ensures)
    c.run.ensures
