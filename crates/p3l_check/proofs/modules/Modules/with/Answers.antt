use Rattle.std.proofs.Common.{◌≡◌, ◌+◌, ◌<◌, ◌^◌, length, sym, ap, ◌∙◌, subst}
use Rattle.p3l_check.specs.Modules.{Modules}
use Rattle.p3l_check.proofs.Numbers.{are-numbered-after}
use Rattle.p3l_check.proofs.modules.Modules.with.Goals as goal

pub invariant_of-result : goal.invariant_of-result
invariant_of-result c =
    let old = c.self.inside in
    let added = c.in_ok-add_module.ensures in
    let next : c.len-number.result ≡ length old.infos = c.len-number.ensures ∙ ap (λ (m : Modules). length m.infos) (sym c.self.view_is) in
    let few : length old.infos + 1 < 2 ^ 32 = subst (λ (m : Modules). length m.infos + 1 < 2 ^ 32) (sym c.self.view_is) c.requires.room in
    are-numbered-after old.numbers.entries _ old.infos _ old.ports _ old.callables _ c.args.defined c.len-number.result c.self.invariant next few
    c.in_ok-add_number.ensures added.infos added.ports added.callables
