use Rattle.std.proofs.Common.{◌≡◌, ◌<◌, IfSome, length, sym, subst, arith}
use Rattle.std.proofs.lemmas.Grind.{common_steps}
use Rattle.p3l_check.specs.Modules.{number_of}
use Rattle.p3l_check.proofs.Numbers.{number-below}
use Rattle.p3l_check.proofs.modules.Modules.number.Goals as goal

pub returns-clause-within : goal.returns-clause-within
returns-clause-within c =
    let modules = c.args.self.now in
    let found : c.copied.result ≡ number_of modules c.args.name.now = grind (arith, common_steps) in
    let same : length modules.callables ≡ length modules.infos = grind (arith, common_steps) in
    subst (λ r. IfSome r (λ k. k < length modules.callables)) (sym found) (number-below c.args.name.now modules.infos (length modules.callables) same)
