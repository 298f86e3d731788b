use Rattle.std.proofs.Common.{sym, ◌∙◌}
use Rattle.p3l_firing.specs.Segments.{level_of}
use Rattle.p3l_reduce.proofs.Placing.{no_slots}
use Rattle.p3l_reduce.proofs.reduce.ReduceTemplateKind.slots.Goals as goal

pub returns : goal.returns
returns c =
    c.new.ensures
    ∙ sym (no_slots c.args.self.now.node c.args.self.now.len (level_of c.args.self.now.segments) c.args._place.now)
