use Rattle.std.proofs.Common.{ℕ, List, IfOk, subst}
use Rattle.std.proofs.lemmas.Result.{IfOk-weaker}
use Rattle.p3l_load.specs.declared.loaded.Loaded.{Loaded}
use Rattle.p3l_program.specs.Load.{LoadsNetwork}
use Rattle.p3l_program.specs.LoadImage.{LoadsBytes}
use Rattle.p3l_program.specs.Origin.{imaged}
use Rattle.p3l_program.specs.Plan.{network_in}
use Rattle.p3l_program.proofs.ImageSteps.{image_network}
use Rattle.p3l_program.proofs.image.load_image.Goals as goal

pub returns-in-Ok-clause-network : goal.returns-in-Ok-clause-network
returns-in-Ok-clause-network g c =
    let files = (g.F.Files.observed c.args.files.now).content in
    let bytes = c.in-Ok.bytes in
    let loads = subst (λ (b : List ℕ). IfOk c.load_bytes.result (LoadsBytes b)) c.as_slice.ensures c.load_bytes.ensures.loaded in
    IfOk-weaker c.load_bytes.result (LoadsBytes bytes) (λ (l : Loaded). LoadsNetwork files (imaged c.args.name) (network_in l))
    (λ l loads. image_network c.args.name l files (record { bytes = bytes; has = c.in-Ok.ensures.found; loads = loads })) loads
