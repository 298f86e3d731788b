use Rattle.std.proofs.Common.{◌∙◌}
use Rattle.p3l_io.proofs.Texts.{IsPut-updates}
use Rattle.p3l_io.proofs.mem_files.put.Goals as goal

pub returns-clause-ok : goal.returns-clause-ok
returns-clause-ok c =
    IsPut-updates c.in_ok-name.name _ c.args.files.now c.insert.new.self c.in_ok-insert.ensures.updates _ _ c.in_ok-name.ensures.ok
    (c.from_vec-bytes.ensures ∙ c.in_ok-from_slice.ensures.items)
