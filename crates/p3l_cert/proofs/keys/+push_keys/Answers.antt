use Rattle.std.proofs.Common.{◌≡◌, ◌-◌, ◌<◌, ◌++◌, ◌∷◌, sym, ap, subst, ◌∙◌, arith}
use Rattle.std.specs.List.{All, flat_map}
use Rattle.std.proofs.lemmas.List.{take_all}
use Rattle.p3l_cert.specs.Keys.{depends_on, keys_from, IsSmall}
use Rattle.p3l_cert.proofs.Needs.{depends_small, keys_some}
use Rattle.p3l_cert.proofs.keys.+push_keys.Goals as goal

pub push_keys-requires : goal.push_keys-requires
push_keys-requires t c =
    let is : c.as_slice-part-items.result.now ≡ depends_on c.args.tree.now c.args.costs.now c.args.key = c.as_slice-part-items.ensures ∙ c.in_ok-depends.ensures in
    let small : All IsSmall c.as_slice-part-items.result.now = subst (All IsSmall) (sym is) (depends_small c.args.tree.now c.args.costs.now c.args.key c.requires.key) in
    (omega (arith, c.decreases), (c.requires.tree, (c.requires.costs, (c.requires.table, small c.loop-part.part-index _ c.loop-part-test.true))))

pub returns : goal.returns
returns t c =
    let is : c.as_slice-part-items.result.now ≡ depends_on c.args.tree.now c.args.costs.now c.args.key = c.as_slice-part-items.ensures ∙ c.in_ok-depends.ensures in
    let some : 0 < c.args.levels = omega arith in
    c.loop-part.invariant
    ∙ ap (λ xs. c.args.keys.now.items ++ c.args.key ∷ flat_map (keys_from c.args.tree.now c.args.costs.now (c.args.levels - 1)) xs) (take_all c.loop-part.part-index c.as_slice-part-items.result.now c.loop-part-test.false ∙ is)
    ∙ ap (λ xs. c.args.keys.now.items ++ xs) (sym (keys_some c.args.tree.now c.args.costs.now c.args.levels c.args.key some))
