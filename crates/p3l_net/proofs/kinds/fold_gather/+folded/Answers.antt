use Rattle.std.proofs.Common.{◌≤◌, length, ap, sym, ◌∙◌, subst, arith}
use Rattle.p3l_skel.specs.Item.{item}
use Rattle.p3l_skel.specs.Tree.{HasLength}
use Rattle.p3l_net.proofs.Given.{match_so, ok_so, or_so}
use Rattle.p3l_firing.specs.declared.token.Token.{Token}
use Rattle.p3l_net.specs.Operators.{outs_of}
use Rattle.p3l_net.proofs.Folding.{one_folded, halves_folded, front-sized, back-sized, sized-first, takes_both, combined_sized}
use Rattle.p3l_net.proofs.kinds.fold_gather.+folded.Goals as goal

pub returns-then-tokens-eq1-clause-folded : goal.returns-then-tokens-eq1-clause-folded
returns-then-tokens-eq1-clause-folded g t c =
    or_so _ c.same.result c.same.ensures
    (λ outcome is.
    is ∙ ap (λ (x : Token). x.body) (sym c.index-tokens-0.is)
    ∙ one_folded (item (g.U.Units.tree c.args.units.now) (g.U.Units.leaf c.args.units.now) c.args.operator) c.args.tokens.now c.index-tokens-0.result c.if-tokens-eq1.true c.index-tokens-0.is)

pub returns-then-tokens-eq1-clause-sized : goal.returns-then-tokens-eq1-clause-sized
returns-then-tokens-eq1-clause-sized g t c =
    ok_so _ c.same.result c.same.ensures
    (λ outcome is.
    subst (HasLength (outs_of (g.U.Units.tree c.args.units.now) c.args.operator)) (sym is)
    (subst (λ (x : Token). HasLength (outs_of (g.U.Units.tree c.args.units.now) c.args.operator) x.body) c.index-tokens-0.is
    (sized-first _ c.args.tokens.now c.index-tokens-0.result (let one = c.if-tokens-eq1.true in omega (arith, one)) c.index-tokens-0.is c.requires.sized)))

pub folded-requires : goal.folded-requires
folded-requires g t c κs within =
    let several : 2 ≤ length c.args.tokens.now = let one = c.if-tokens-eq1.false in let some = c.requires.some in omega (arith, one, some) in
    let long = c.split_at.ensures.front_len in
    (omega arith, (within, (c.requires.operator, (omega (arith, several, long), front-sized _ c.args.tokens.now _ c.requires.sized c.split_at.ensures.front))))

pub folded-requires-2 : goal.folded-requires-2
folded-requires-2 g t c κs within =
    let several : 2 ≤ length c.args.tokens.now = let one = c.if-tokens-eq1.false in let some = c.requires.some in omega (arith, one, some) in
    let long = c.split_at.ensures.back_len in
    (omega arith, (within, (c.requires.operator, (omega (arith, several, long), back-sized _ c.args.tokens.now _ c.requires.sized c.split_at.ensures.back))))

pub combined_of-requires-clause-sequential : goal.combined_of-requires-clause-sequential
combined_of-requires-clause-sequential g t c = c.requires.operator.unit

pub combined_of-requires-clause-fits : goal.combined_of-requires-clause-fits
combined_of-requires-clause-fits g t c =
    takes_both (g.U.Units.tree c.args.units.now) (g.U.Units.leaf c.args.units.now) c.args.operator c.requires.operator _ _ c.in_ok-left.ensures.sized c.in_ok-right.ensures.sized

pub returns-clause-folded : goal.returns-clause-folded
returns-clause-folded g t c =
    let one = c.if-tokens-eq1.false in
    let some = c.requires.some in
    match_so _ c.combined_of.result c.combined_of.ensures
    (λ outcome is.
    is ∙ halves_folded (item (g.U.Units.tree c.args.units.now) (g.U.Units.leaf c.args.units.now) c.args.operator) c.args.tokens.now _ _ c.in_ok-left.left c.in_ok-right.right (omega (arith, one, some)) c.split_at.ensures.front c.split_at.ensures.back c.in_ok-left.ensures.folded c.in_ok-right.ensures.folded)

pub returns-clause-sized : goal.returns-clause-sized
returns-clause-sized g t c =
    ok_so _ c.combined_of.result c.combined_of.ensures
    (λ outcome is.
    subst (HasLength (outs_of (g.U.Units.tree c.args.units.now) c.args.operator)) (sym is)
    (combined_sized (g.U.Units.tree c.args.units.now) (g.U.Units.leaf c.args.units.now) c.args.operator c.requires.operator _ _ c.in_ok-left.ensures.sized c.in_ok-right.ensures.sized))
