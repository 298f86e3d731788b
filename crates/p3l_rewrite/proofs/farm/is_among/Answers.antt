use Rattle.std.proofs.Common.{◌≡◌, Bool, List, [], ◌∷◌, ◌||◌, map, refl, ap, ◌∙◌, rules, tests}
use Rattle.std.specs.Prelude.{bytes_eq}
use Rattle.std.specs.List.{list_any}
use Rattle.std.proofs.lemmas.Iterator.{YieldsList-from_slice}
use Rattle.std.proofs.lemmas.Iterator.Search.{any_from_yields_List}
use Rattle.p3l_ast.specs.declared.module.Module.{Module}
use Rattle.p3l_ast.specs.Tree.{ModuleTree, module_tree}
use Rattle.p3l_rewrite.proofs.farm.is_among.Goals as goal

list_any-map : (test : ModuleTree → Bool) (ms : List Module) → list_any (λ m. test (module_tree m)) ms ≡ list_any test (map module_tree ms)
list_any-map test [] = refl
list_any-map test (m ∷ ms) = ap (λ b. test (module_tree m) || b) (list_any-map test ms)

pub returns : goal.returns
returns c =
    let named = λ (m : Module). bytes_eq m.at.name c.args.name.now in
    any_from_yields_List named _ _ _ c.any.ensures.ran (YieldsList-from_slice c.args.modules.now cc) (λ x b q k. search (rules, tests))
    ∙ list_any-map (λ m. bytes_eq m.at.name c.args.name.now) c.args.modules.now
