use Rattle.std.proofs.Common.{◌≡◌, take, reverse}
use Rattle.p3l_firing.proofs.tags.Tags.restore.Given as goal

abbrev pub invariant-loop-tag : goal.invariant-loop-tag
invariant-loop-tag l = l.tags ≡ reverse (take l.tag-index l.saved)
