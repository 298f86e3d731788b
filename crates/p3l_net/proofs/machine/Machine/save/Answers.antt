use Rattle.std.proofs.Common.{◌≡◌, false, ap, ◌∙◌, sym, subst}
use Rattle.std.specs.Result.{IfOk}
use Rattle.p3l_firing.specs.declared.shot.Shot.{Shot}
use Rattle.p3l_firing.specs.Shot.{IsCountable}
use Rattle.p3l_net.specs.Machine.{Seen}
use Rattle.p3l_net.specs.Shot.{CanRestore, restored}
use Rattle.p3l_net.proofs.Saving.{saved_back, saved_fits}
use Rattle.p3l_net.proofs.Given.{ok_so}
use Rattle.p3l_net.proofs.machine.Machine.save.Goals as goal

pub returns-clause-back : goal.returns-clause-back
returns-clause-back c =
    let m : Seen = c.self.inside.store in
    let untrapped : m.trapped ≡ false = ap (λ (x : Seen). x.trapped) c.self.view_is ∙ c.requires in
    subst (λ (x : Seen). IfOk c.save.result (λ (shot : Shot). restored x.tree x.net shot ≡ record x { fired = 0 })) c.self.view_is
    (ok_so _ c.save.result c.save.ensures (λ shot is. ap (restored m.tree m.net) is ∙ saved_back m c.self.invariant.sound untrapped))

pub returns-clause-fits : goal.returns-clause-fits
returns-clause-fits c =
    let m : Seen = c.self.inside.store in
    let untrapped : m.trapped ≡ false = ap (λ (x : Seen). x.trapped) c.self.view_is ∙ c.requires in
    subst (λ (x : Seen). IfOk c.save.result (λ (shot : Shot). IsCountable shot → CanRestore x.tree x.net shot)) c.self.view_is
    (ok_so _ c.save.result c.save.ensures
    (λ shot is. subst (λ (s : Shot). IsCountable s → CanRestore m.tree m.net s) (sym is) (saved_fits m c.self.invariant.sound untrapped)))
