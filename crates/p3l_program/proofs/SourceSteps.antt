-- From the text of a file to the program that it spells, with its costs and its counts.
use Rattle.std.proofs.Common.{◌≡◌, ℕ, List, Option, refl, sym, ap, ◌∙◌, subst}
use Rattle.p3l_ast.specs.Tree.{ProgramTree, program_tree}
use Rattle.p3l_grammar.specs.Grammar.{Spells}
use Rattle.p3l_io.specs.Content.{Held}
use Rattle.p3l_skel.specs.declared.tree.Counts.{Counts}
use Rattle.p3l_cost.specs.declared.costs.Costs.{Costs}
use Rattle.p3l_cost.specs.Costs.{AreCostsOf}
use Rattle.p3l_model.specs.Optimal.{IsChosen}
use Rattle.p3l_opts.specs.declared.command.Build.{Build}
use Rattle.p3l_check.specs.Resolving.{resolved}
use Rattle.p3l_rewrite.specs.Serving.{HasTree}
use Rattle.p3l_program.specs.declared.source.SourceText.{SourceText}
use Rattle.p3l_program.specs.Load.{LoadsCosts}
use Rattle.p3l_program.specs.Plan.{AreSaid}
use Rattle.p3l_program.specs.Source.{IsSourceOf, LoadsPriced, LoadsSource}

-- the program that a text spells, if it keeps all rules, is what the text comes to
pub source_kept : (text : List ℕ) (source : SourceText) → Spells text (program_tree source.program) → ((other : ProgramTree) → Spells text other → program_tree source.program ≡ other) →
    HasTree (program_tree source.program) source.tree → IsSourceOf text source
source_kept text source spelled only has =
    let keeps = has.accepted.resolves in record {
      r = has.accepted.whole;
      comes = record {
        accepted = record { program = program_tree source.program; spelled = spelled; keeps = keeps };
        only = λ other a. (let same = only a.program a.spelled in let two = ap resolved same ∙ a.keeps in let one : has.accepted.whole ≡ other = cc in sym one);
        tree_is = has.tree_is;
        lawful = has.accepted.lawful;
      };
      program_is = refl;
    }

-- it is priced, where costs of its tree are said and some counts are chosen
pub source_priced : (files : Option Held) (build : Build) (source : SourceText) (cs : Costs) (counts : Counts) → LoadsSource files build.program source → LoadsCosts files build.costs source.tree cs →
    IsChosen source.tree cs build.processors counts.list → LoadsPriced files build (record { program = source.program; tree = source.tree; costs = cs; counts = counts })
source_priced files build source cs counts loads costs chosen =
    let comes = loads.is.comes in record {
      r = loads.is.r;
      has = record {
        text = loads.text;
        has = loads.has;
        said = costs.said;
        says = costs.says;
        allotted = record {
          priced = record { accepted = comes.accepted; costs = subst (λ t. AreSaid t costs.said cs) comes.tree_is costs.costs };
          chosen = subst (λ t. IsChosen t cs build.processors counts.list) comes.tree_is chosen;
        };
      };
      only = comes.only;
      program_is = loads.is.program_is;
      tree_is = comes.tree_is;
      lawful = comes.lawful;
      costs_are = subst (λ t. AreCostsOf t cs) comes.tree_is costs.lawful;
    }
