-- From what is promised of `explain` to the best counts.
use Rattle.std.proofs.Common.{◌≡◌, ℕ, List, ◌++◌, Option, Some, None, ap, subst, ◌∙◌}
use Rattle.p3l_io.specs.Content.{Held}
use Rattle.p3l_skel.specs.declared.tree.Tree.{Tree}
use Rattle.p3l_cost.specs.declared.costs.Costs.{Costs}
use Rattle.p3l_opts.specs.declared.command.Build.{Build}
use Rattle.p3l_opts.specs.declared.command.Command.TheVariants as command
use Rattle.p3l_opts.specs.Laws.{SpellsOneAtMost}
use Rattle.p3l_program.specs.Best.{EveryExplanationIsTheBest, SaysCosts, WritesBest}
use Rattle.p3l_program.specs.Command.{IsWhole, work_of}
use Rattle.p3l_program.specs.Explain.{IsExplained}
use Rattle.p3l_program.specs.File.{Holds}
use Rattle.p3l_program.specs.Plan.{AreSaid, HasCostText}
use Rattle.p3l_program.specs.Text.{WritesWhole}
use Rattle.p3l_program.specs.World.{World}
use Rattle.p3l_program.proofs.HeadlineSteps.{program_of}

says_costs : (held : Held) (files : Option Held) (name : Option (List ℕ)) (tree : Tree) (said : Option (List ℕ)) (cs : Costs) → files ≡ Some held → HasCostText files name said → AreSaid tree said cs → SaysCosts held name tree cs
says_costs held files None tree None cs known has said = said
says_costs held files None tree (Some text) cs known has said = absurd has
says_costs held files (Some name) tree None cs known has said = absurd has
says_costs held files (Some name) tree (Some text) cs known has said = (text, subst (λ f. Holds f name text) known has.holds, said)

-- all that `explain` writes, with or without a certificate
whole_text : (w : World) (bytes taken : List ℕ) (build : Build) (cert : Option (List ℕ)) → IsWhole w bytes taken (command.Explain build cert) → WritesWhole w (IsExplained w.files.old.content build) bytes taken
unfolding work_of
whole_text w bytes taken build None h = h
whole_text w bytes taken build (Some name) h = h.text

best_of : (w : World) (bytes taken : List ℕ) (build : Build) (held : Held) → w.files.old.content ≡ Some held → WritesWhole w (IsExplained w.files.old.content build) bytes taken → WritesBest held build taken w.output.new.content
best_of w bytes taken build held files h =
    let e = h.is in
    let a = e.has.allotted in
    record {
      r = e.r;
      program = program_of held w.files.old.content build.program e.has.text e.r files e.has.has a.priced.accepted;
      cs = e.cs;
      costs = says_costs held w.files.old.content build.costs e.r.tree e.has.said e.cs files e.has.says a.priced.costs;
      counts = e.counts;
      fit = a.chosen.optimal.fit;
      soonest = a.chosen.optimal.soonest;
      fewest = a.chosen.optimal.fewest;
      new_is = h.taken_is ∙ ap (λ t. Some (taken ++ t)) e.text_is;
    }

pub explains_best : SpellsOneAtMost → EveryExplanationIsTheBest
explains_best once outside words w err k p build cert spelled is held bytes taken files input out =
    let d = p.done held bytes taken files input out is in
    let whole : IsWhole w bytes taken (command.Explain build cert) = subst (λ c. IsWhole w bytes taken c) (once words d.command (command.Explain build cert) d.spelled spelled) d.whole in
    best_of w bytes taken build held files (whole_text w bytes taken build cert whole)
