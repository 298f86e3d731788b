use Rattle.std.proofs.Common.{◌≡◌, [], ◌∷◌, None, ap, sym, ◌∙◌, subst}
use Rattle.p3l_ast.specs.Tree.{program_tree}
use Rattle.p3l_skel.specs.Numbers.{Fits}
use Rattle.p3l_check.specs.Resolving.{ResolvedTree}
use Rattle.p3l_rewrite.specs.Rewriting.{IsBest}
use Rattle.p3l_rewrite.specs.Serving.{IsBestTime, IsServiceTime}
use Rattle.p3l_rewrite.proofs.Best.{one_whole, alone, own_serves}
use Rattle.p3l_rewrite.proofs.rewriting.own.Goals as goal

pub returns : goal.returns
returns c =
    let program = program_tree c.args.program.now in
    let tree = c.args.tree.now in
    let costs = c.args.costs.now in
    let processors = c.args.processors in
    let time = c.in-Some.service in
    let soonest : IsBestTime tree costs processors time = subst (IsServiceTime tree costs processors) c.in-Some.is c.in_ok-service.ensures in
    let serves = own_serves program tree costs processors time c.requires.tree soonest in
    subst (λ p. IsBest tree costs processors (program ∷ []) p time) (sym c.in_ok-program-in-Some.ensures) (alone tree costs processors program time serves)

pub unreachable-requires : goal.unreachable-requires
unreachable-requires c =
    let program = program_tree c.args.program.now in
    let tree = c.args.tree.now in
    let may = c.requires.may in
    let has = c.requires.tree in
    let same : may.accepted.whole.tree ≡ tree = ap (λ (w : ResolvedTree). w.tree) (one_whole program may.accepted has.accepted) ∙ sym has.tree_is in
    let none : IsServiceTime tree c.args.costs.now c.args.processors None = subst (IsServiceTime tree c.args.costs.now c.args.processors) c.in-None.is c.in_ok-service.ensures in
    none may.counts (subst (λ t. Fits t c.args.processors may.counts) same may.fits)
