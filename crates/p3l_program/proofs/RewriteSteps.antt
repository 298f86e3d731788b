-- From the program of the files to the best way to write it.
use Rattle.std.proofs.Common.{ℕ, ◌≤◌, List, Option, sym, subst, arith}
use Rattle.p3l_ast.specs.Tree.{program_tree}
use Rattle.p3l_io.specs.Content.{Held}
use Rattle.p3l_opts.specs.declared.command.Build.{Build}
use Rattle.p3l_rewrite.specs.Rewriting.{IsRewriting, MayBeRewritten}
use Rattle.p3l_body_laws.proofs.Few.{entries_few}
use Rattle.p3l_rewrite.specs.Serving.{MayBeMany}
use Rattle.p3l_rewrite.proofs.Placed.{placed_means, placed_serves}
use Rattle.p3l_program.specs.declared.source.Priced.{Priced}
use Rattle.p3l_program.specs.Rewrite.{IsBestText, IsRewritten}
use Rattle.p3l_program.specs.Source.{LoadsPriced}

module _ (files : Option Held) (build : Build) (priced : Priced) (loads : LoadsPriced files build priced) where
  -- a program that is priced may be rewritten
  pub may_be : 1 ≤ build.processors → build.processors ≤ 512 → MayBeRewritten (program_tree priced.program) priced.costs build.processors
  may_be some few = subst (λ program. MayBeRewritten program priced.costs build.processors) loads.program_is (record {
    accepted = record { whole = loads.r; resolves = loads.has.allotted.priced.accepted.keeps; lawful = loads.lawful };
    costs_are = loads.costs_are;
    counts = priced.counts.list;
    fits = loads.has.allotted.chosen.optimal.fit;
    some = some;
    few = few;
  })

  -- its text is too short for too many entries
  pub not_many : MayBeMany (program_tree priced.program) → ⊥
  not_many many =
      let accepted = loads.has.allotted.priced.accepted in
      let few = entries_few loads.has.text accepted.program accepted.spelled in
      let within = loads.has.has.within in
      let same : MayBeMany accepted.program = subst MayBeMany (sym loads.program_is) many in
      omega arith

  -- and the text of the best way to write it is that of the files
  pub rewritten : (text : List ℕ) → IsBestText (program_tree priced.program) priced.costs build.processors text → IsRewritten files build text
  rewritten text best =
      let accepted = loads.has.allotted.priced.accepted in
      let is = subst (λ program. IsRewriting program priced.costs build.processors best.other best.time) (sym loads.program_is) best.is in
      let has = is.has_text loads.has.text accepted.spelled in
      let spelled = best.spells has.text has.is_text in record {
        r = loads.r;
        cs = priced.costs;
        has = record { text = loads.has.text; has = loads.has.has; said = loads.has.said; says = loads.has.says; priced = loads.has.allotted.priced };
        other = best.other;
        time = best.time;
        is = is;
        text_is = best.text_is;
        spells = spelled;
        means = placed_means _ best.other spelled.placed spelled.same is.same;
        serves = placed_serves loads.r.tree priced.costs build.processors best.time best.other spelled.placed spelled.same (is.best loads.r accepted.keeps).serves;
      }
