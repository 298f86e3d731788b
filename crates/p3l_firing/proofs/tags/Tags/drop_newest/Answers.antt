use Rattle.std.proofs.Common.{ap, ◌∙◌}
use Rattle.p3l_firing.specs.Token.{later_tags}
use Rattle.p3l_firing.proofs.TagLaw.{later-popped, popped_none}
use Rattle.p3l_firing.proofs.tags.Tags.drop_newest.Goals as goal

pub returns : goal.returns
returns c =
    later-popped c.self.inside.items.items c.pop-newest.new.self.items c.pop-newest.result c.pop-newest.ensures.items
    (popped_none c.self.inside.items.items c.pop-newest.new.self.items c.pop-newest.result c.pop-newest.ensures.items c.pop-newest.ensures.value)
    ∙ ap later_tags c.self.view_is
