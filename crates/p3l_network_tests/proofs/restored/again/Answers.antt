use Rattle.std.proofs.Common.{◌≡◌, rules, sym, ap, ◌∙◌, subst}
use Rattle.p3l_skel.specs.declared.tree.Tree.{Tree}
use Rattle.p3l_firing.specs.declared.net.Net.{Net}
use Rattle.p3l_net.specs.Machine.{Seen}
use Rattle.p3l_net.specs.Shot.{CanRestore, restored}
use Rattle.p3l_network_tests.proofs.Given.{given_so, ok_so}
use Rattle.p3l_network_tests.proofs.restored.again.Goals as goal

pub restore-requires : goal.restore-requires
restore-requires g c =
    let can = c.in_ok-shot.ensures.fits (c.is_countable.ensures.0 (search rules)) in
    subst (λ (tree : Tree). CanRestore tree c.in_ok-net.net c.in_ok-shot.shot) c.requires.tree
    (subst (λ (net : Net). CanRestore c.args.machine.now.tree net c.in_ok-shot.shot) (c.requires.net ∙ sym c.in_ok-net.ensures.net) can)

pub returns-clause-tree : goal.returns-clause-tree
unfolding restored
returns-clause-tree g c = given_so c.restore.result c.restore.ensures (λ machine is. ap (λ (m : Seen). m.tree) is)

pub returns-clause-net : goal.returns-clause-net
unfolding restored
returns-clause-net g c = ok_so c.restore.result c.restore.ensures (λ machine is. ap (λ (m : Seen). m.net) is ∙ c.in_ok-net.ensures.net)
