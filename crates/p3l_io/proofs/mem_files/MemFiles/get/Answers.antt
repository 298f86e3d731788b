use Rattle.std.proofs.Common.{Some, ap, sym, ◌∙◌}
use Rattle.p3l_io.specs.MemFiles.{bytes_under}
use Rattle.p3l_io.proofs.Texts.{bytes_under-texts}
use Rattle.p3l_io.proofs.mem_files.MemFiles.get.Goals as goal

pub returns-in-Some : goal.returns-in-Some
returns-in-Some c =
    ap Some c.as_slice.ensures ∙ c.in-Some.ensures.value ∙ sym (bytes_under-texts c.args.name.now c.self.inside.files.entries)
    ∙ ap (λ s. bytes_under s.files c.args.name.now) c.self.view_is

pub returns-in-None : goal.returns-in-None
returns-in-None c =
    c.in-None.ensures.value ∙ sym (bytes_under-texts c.args.name.now c.self.inside.files.entries)
    ∙ ap (λ s. bytes_under s.files c.args.name.now) c.self.view_is
