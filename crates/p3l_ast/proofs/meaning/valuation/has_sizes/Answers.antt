use Rattle.std.proofs.Common.{List, ℕ, rules, subst, ◌∙◌, IsTrue}
use Rattle.std.specs.List.{All}
use Rattle.std.proofs.lemmas.List.{take_all}
use Rattle.std.proofs.lemmas.List.Elements.{All-more}
use Rattle.p3l_ast.specs.declared.meaning.valuation.Binding.{Binding}
use Rattle.p3l_ast.specs.Meaning.Valuation.{sizes_of}
use Rattle.p3l_ast.proofs.Sizes.{AreSizes, sizes_everywhere}
use Rattle.p3l_ast.proofs.meaning.valuation.has_sizes.Goals as goal

pub loop-binding-preserved : goal.loop-binding-preserved
loop-binding-preserved c =
    let so : IsTrue c.are_sizes.result = search rules in
    let here = subst (λ (sizes : List ℕ). AreSizes sizes) c.sizes.ensures (c.are_sizes.ensures.0 so) in
    let P = λ (b : Binding). AreSizes (sizes_of c.args.valuation.now b.name) in
    All-more P c.as_slice-binding-items.result.now c.loop-binding.binding-index c.binding-item.result c.loop-binding-test.true c.loop-binding.invariant (subst P c.binding-item.is here)

pub returns : goal.returns
returns c =
    let P = λ (b : Binding). AreSizes (sizes_of c.args.valuation.now b.name) in
    let all : All P c.args.valuation.now.bindings = subst (All P) (take_all c.loop-binding.binding-index c.as_slice-binding-items.result.now c.loop-binding-test.false ∙ c.as_slice-binding-items.ensures) c.loop-binding.invariant in
    (λ _. sizes_everywhere c.args.valuation.now all, λ _. search rules)
