use Rattle.std.proofs.Common.{option_map, sym, subst}
use Rattle.p3l_skel.specs.Lawful.{IsLawfulTree}
use Rattle.p3l_ast.specs.Tree.{program_tree}
use Rattle.p3l_rewrite.specs.Rewriting.{StaysBest, IsRewriting}
use Rattle.p3l_rewrite.specs.Serving.{HasMany, MayBeMany}
use Rattle.p3l_rewrite.proofs.Few.{first_many, second_many, given_weaker, handed_many}
use Rattle.p3l_rewrite.proofs.Means.{in_turn, rewriting, first_keeps, second_keeps}
use Rattle.p3l_rewrite.proofs.rewriting.rewrite.Goals as goal

pub returns : goal.returns
returns c =
    let program = program_tree c.args.program.now in
    let tree = c.in_ok-tree.tree in
    let costs = c.args.costs.now in
    let processors = c.args.processors in
    let first = c.in_ok-best.best in
    let second = c.in_ok-best-2.best in
    let ways = c.in_ok-farmed.field-0 in
    let farmed = option_map program_tree ways.farmed in
    let fused = option_map program_tree ways.fused in
    let lawful : IsLawfulTree tree = subst IsLawfulTree (sym c.in_ok-tree.ensures.tree_is) c.in_ok-tree.ensures.accepted.lawful in
    given_weaker c.better-2.result
    (λ best. StaysBest tree costs processors (program_tree second.program) second.service fused (program_tree best.program) best.service)
    (λ best. IsRewriting program costs processors (program_tree best.program) best.service) (HasMany fused) (MayBeMany program)
    (λ best stay.
    rewriting program (program_tree best.program) tree costs processors best.service c.in_ok-tree.ensures
    (in_turn program tree costs processors (program_tree first.program) (program_tree second.program) (program_tree best.program)
    first.service second.service best.service farmed fused c.in_ok-best.ensures c.in_ok-best-2.ensures stay c.in_ok-farmed.ensures))
    (second_many program tree lawful farmed fused c.in_ok-farmed.ensures)
    c.better-2.ensures

pub better-requires-clause-keeps : goal.better-requires-clause-keeps
better-requires-clause-keeps c =
    let ways = c.in_ok-farmed.field-0 in
    first_keeps (program_tree c.args.program.now) c.in_ok-tree.tree c.args.costs.now c.args.processors c.requires c.in_ok-tree.ensures
    (option_map program_tree ways.farmed) (option_map program_tree ways.fused) c.in_ok-farmed.ensures

pub better-requires-2-clause-keeps : goal.better-requires-2-clause-keeps
better-requires-2-clause-keeps c =
    let ways = c.in_ok-farmed.field-0 in
    second_keeps (program_tree c.args.program.now) c.in_ok-tree.tree c.args.costs.now c.args.processors c.requires c.in_ok-tree.ensures
    (option_map program_tree ways.farmed) (option_map program_tree ways.fused) c.in_ok-farmed.ensures

pub returns-in_err-best-2 : goal.returns-in_err-best-2
returns-in_err-best-2 c =
    let program = program_tree c.args.program.now in
    let ways = c.in_ok-farmed.field-0 in
    let farmed = option_map program_tree ways.farmed in
    let lawful : IsLawfulTree c.in_ok-tree.tree = subst IsLawfulTree (sym c.in_ok-tree.ensures.tree_is) c.in_ok-tree.ensures.accepted.lawful in
    handed_many c.from_residual-in_err-best-2.result (λ best. IsRewriting program c.args.costs.now c.args.processors (program_tree best.program) best.service) _
    (HasMany farmed) (MayBeMany program) c.from_residual-in_err-best-2.ensures.1
    (first_many program c.in_ok-tree.tree lawful farmed (option_map program_tree ways.fused) c.in_ok-farmed.ensures) c.in_err-best-2.ensures
