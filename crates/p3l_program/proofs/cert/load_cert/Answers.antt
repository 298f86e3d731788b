use Rattle.std.proofs.Common.{◌∙◌, subst, IfErr, IfOk, ap}
use Rattle.p3l_io.specs.Change.{change}
use Rattle.p3l_program.specs.Plan.{HasCostText}
use Rattle.p3l_program.specs.Load.{IsCostless}
use Rattle.p3l_program.specs.LoadCert.{IsCertless, LoadsCert}
use Rattle.p3l_program.specs.Stage.{cert_stages}
use Rattle.p3l_program.proofs.CertSteps.{certless_result, verified_result}
use Rattle.p3l_program.proofs.LoadSteps.{costless}
use Rattle.p3l_program.proofs.cert.load_cert.Goals as goal

pub returns-in-Err-load_costs-clause-refused : goal.returns-in-Err-load_costs-clause-refused
returns-in-Err-load_costs-clause-refused g c =
    let loaded = c.in-Ok.ensures.loaded in
    let observed = g.F.Files.observed in
    let end = observed c.load_costs.new.files in
    let same = ap (λ o. change o end) c.in-Ok.ensures.unchanged in
    costless (change (observed c.args.files.now) end) c.args.program loaded.r c.in-Ok.program loaded.is.text loaded.is.has loaded.is.comes c.args.costs (cert_stages c.args.program c.args.costs c.args.name) c.in-Err-load_costs.verdict
    (subst (λ files. IsCostless files c.args.costs c.in-Ok.program.tree c.in-Err-load_costs.verdict) same c.in-Err-load_costs.ensures.refused)

pub returns-clause-loaded : goal.returns-clause-loaded
returns-clause-loaded g c =
    let loaded = c.in-Ok.ensures.loaded in
    let costs = c.in-Ok-load_costs.ensures.loaded in
    let observed = g.F.Files.observed in
    let files = change (observed c.args.files.now) (observed c.cert_in.new.files) in
    let says = subst (λ files. HasCostText files c.args.costs costs.said) c.load_program.ensures.same_files costs.says in
    let loads = subst (λ files. IfOk c.cert_in.result (LoadsCert files c.args.name c.in-Ok.program.tree c.in-Ok-load_costs.costs)) (c.load_costs.ensures.same_files ∙ c.load_program.ensures.same_files) c.cert_in.ensures.loaded in
    verified_result files c.args.program c.args.costs c.args.name loaded.r c.in-Ok.program loaded.is.text loaded.is.has loaded.is.comes costs.said says c.in-Ok-load_costs.costs costs.costs c.cert_in.result loads

pub returns-clause-refused : goal.returns-clause-refused
returns-clause-refused g c =
    let loaded = c.in-Ok.ensures.loaded in
    let costs = c.in-Ok-load_costs.ensures.loaded in
    let observed = g.F.Files.observed in
    let end = observed c.cert_in.new.files in
    let files = change (observed c.args.files.now) end in
    let same = ap (λ o. change o end) (c.in-Ok-load_costs.ensures.unchanged ∙ c.in-Ok.ensures.unchanged) in
    let says = subst (λ files. HasCostText files c.args.costs costs.said) c.load_program.ensures.same_files costs.says in
    let refused = subst (λ files. IfErr c.cert_in.result (IsCertless files c.args.name c.in-Ok.program.tree c.in-Ok-load_costs.costs)) same c.cert_in.ensures.refused in
    certless_result files c.args.program c.args.costs c.args.name loaded.r c.in-Ok.program loaded.is.text loaded.is.has loaded.is.comes costs.said says c.in-Ok-load_costs.costs costs.costs c.cert_in.result refused
