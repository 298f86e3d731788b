use Rattle.std.proofs.Common.{sym, subst}
use Rattle.std.proofs.lemmas.List.Elements.{All-from_recursion}
use Rattle.p3l_skel.specs.Lawful.{HasLawfulRescue}
use Rattle.p3l_check.specs.Wiring.{IsWiring}
use Rattle.p3l_check.specs.Modules.{Modules}
use Rattle.p3l_check.specs.Callables.{AreCallables}
use Rattle.p3l_check.proofs.modules.Modules.unfold.Goals as goal

pub unfold-requires-clause-wiring : goal.unfold-requires-clause-wiring
unfold-requires-clause-wiring c =
    let callables : AreCallables c.self.inside.infos c.self.inside.callables = subst (λ (m : Modules). AreCallables m.infos m.callables) (sym c.self.view_is) c.requires.wiring in
    let rescues = All-from_recursion HasLawfulRescue c.self.inside.infos callables.rescues in
    subst (IsWiring c.self.inside.infos) (sym c.as_slice.ensures) (record { count = callables.count; few = c.self.invariant.few; rescues = rescues; each = callables.each })
