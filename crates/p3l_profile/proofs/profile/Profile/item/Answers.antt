use Rattle.std.proofs.Common.{◌≡◌, length, ap, sym, subst}
use Rattle.p3l_skel.proofs.Depth.{IsSubtree-grows}
use Rattle.p3l_skel.specs.Item.{item}
use Rattle.p3l_skel.specs.Tree.{nesting}
use Rattle.p3l_units.specs.Table.{Served, leaf}
use Rattle.p3l_units.proofs.Given.{given-same}
use Rattle.p3l_profile.specs.Greatest.{IsProfileOf}
use Rattle.p3l_walk.proofs.Given.{given-surely}
use Rattle.p3l_walk.proofs.Noting.{on_ok-along}
use Rattle.p3l_profile.proofs.Room.{room_after}
use Rattle.p3l_profile.proofs.profile.Profile.item.Goals as goal

pub item_outcome-requires-clause-there : goal.item_outcome-requires-clause-there
item_outcome-requires-clause-there c =
    IsSubtree-grows nesting c.args.tree.now 0 (length c.args.tree.now.nodes) c.requires.lawful.preorder

pub returns-clause-of : goal.returns-clause-of
returns-clause-of c =
    let old = subst (IsProfileOf c.args.tree.now) (sym c.self.view_is) c.requires.of in
    on_ok-along c.item_outcome.result _ _
    (λ did. record { room = room_after c.args.tree.now _ _ _ did old.room; places = old.places })
    c.item_outcome.ensures.noted

pub returns-clause-item : goal.returns-clause-item
returns-clause-item c =
    given-same c.item_outcome.result _ _
    (ap (λ (served : Served). item c.args.tree.now (leaf served) 0 c.args.words.now) c.new-bodies.ensures)
    (given-surely c.item_outcome.result _ c.item_outcome.ensures.item)
