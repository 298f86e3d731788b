use Rattle.std.proofs.Common.{◌≡◌, ◌<◌, Some, Result, Ok, Err, length, IfOk, sym, ap, ◌∙◌, subst}
use Rattle.p3l_base.specs.declared.NoMemory.{NoMemory}
use Rattle.p3l_base.specs.Memory.{IfGiven}
use Rattle.p3l_skel.specs.declared.tree.Form.TheVariants as forms
use Rattle.p3l_skel.specs.declared.tree.Node.{Node}
use Rattle.p3l_skel.specs.Tree.{node_at}
use Rattle.p3l_code.specs.declared.run.Counted.{Counted}
use Rattle.p3l_code.specs.Machine.{exec}
use Rattle.p3l_code.specs.Counting.{steps_of}
use Rattle.p3l_units.specs.Table.{Served, code_of, leaf}
use Rattle.p3l_units.proofs.Body.{runs_body}
use Rattle.p3l_profile.specs.Notes.{steps_by}
use Rattle.p3l_profile.proofs.bodies.Bodies.run_counted.Goals as goal

same : {A : Type 0} (f : Counted → A) (r : Result Counted NoMemory) (x y : A) → x ≡ y → IfOk r (λ o. f o ≡ x) → IfOk r (λ o. f o ≡ y)
same f (Ok o) x y e holds = holds ∙ e
same f (Err n) x y e holds = tt

same_given : {A : Type 0} (f : Counted → A) (r : Result Counted NoMemory) (x y : A) → x ≡ y → IfGiven r (λ o. f o ≡ x) → IfGiven r (λ o. f o ≡ y)
same_given f (Ok o) x y e holds = holds ∙ e
same_given f (Err n) x y e holds = holds

pub returns-clause-outcome : goal.returns-clause-outcome
returns-clause-outcome c =
    let k = c.args.node in
    let words = c.args.words.now in
    let code = c.code_of-code.result.now in
    let found : c.in-Some.found.now ≡ node_at c.args.self.now.tree k = c.in-Some.ensures.found ∙ ap (λ (s : Served). node_at s.tree k) c.self.view_is in
    let Goal : Served → Type 0 = λ s. k < length s.tree.nodes → (node_at s.tree k).form ≡ forms.Seq → length words ≡ (node_at s.tree k).ins → code_of s (node_at s.tree k).module ≡ Some code → exec code (node_at s.tree k).module words ≡ leaf s (node_at s.tree k).module words in
    let here : Goal (record { tree = c.self.inside.tree.now; codes = c.self.inside.codes.now }) =
    λ there form fits own. runs_body _ c.self.inside.places.now c.self.invariant k there form code own words fits in
    same_given (λ o. o.outcome) c.run_counted.result _ _
    (ap (λ (n : Node). exec code n.module words) found
    ∙ subst Goal c.self.view_is here c.requires.there c.requires.form c.requires.fits c.code_of-code.ensures)
    c.run_counted.ensures.outcome

pub returns-clause-steps : goal.returns-clause-steps
returns-clause-steps c =
    let words = c.args.words.now in
    same (λ o. o.steps) c.run_counted.result (steps_of c.code_of-code.result.now words) _
    (sym (ap (λ o. steps_by o words) c.code_of-code.ensures))
    c.run_counted.ensures.steps
