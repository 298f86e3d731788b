use Rattle.std.proofs.Common.{length, nat_le, sym, ◌∙◌, rules, tests}
use Rattle.std.proofs.lemmas.Iterator.{YieldsList-from_slice}
use Rattle.std.proofs.lemmas.Iterator.Search.{all_from_yields_List}
use Rattle.std.proofs.lemmas.List.Folds.{list_all-map}
use Rattle.p3l_ast.specs.declared.module.Module.{Module}
use Rattle.p3l_ast.specs.Tree.{module_tree}
use Rattle.p3l_rewrite.specs.Candidates.{has_name}
use Rattle.p3l_rewrite.proofs.candidate.have_names.Goals as goal

pub returns : goal.returns
returns c =
    let short = λ (m : Module). nat_le (length m.at.name) 64 in
    all_from_yields_List short _ _ _ c.all.ensures.ran (YieldsList-from_slice c.args.modules.now cc) (λ x b q k. search (rules, tests))
    ∙ sym (list_all-map has_name module_tree c.args.modules.now)
