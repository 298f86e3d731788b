use Rattle.p3l_orderly.proofs.FewTags.{fitting_few}
use Rattle.p3l_orderly.proofs.SoundLaw.{answered_sound, unfit_unsound}
use Rattle.p3l_orderly.proofs.sound.is_sound.Goals as goal

pub returns-then-not-fits : goal.returns-then-not-fits
returns-then-not-fits c = λ leaf.
    unfit_unsound (record { tree = c.args.tree.now; leaf = leaf }) c.args.counts.now.list c.args.net.now c.args.shot.now
    c.in_ok-fits.fits c.in_ok-fits.ensures c.if-not-fits.true

pub is_orderly-requires-clause-tags : goal.is_orderly-requires-clause-tags
is_orderly-requires-clause-tags c =
    fitting_few c.args.tree.now c.args.counts.now.list c.args.net.now c.args.shot.now
    (c.in_ok-fits.ensures.0 c.if-not-fits.false)

pub returns : goal.returns
returns c =
    answered_sound c.args.tree.now c.args.counts.now.list c.args.net.now c.args.shot.now
    (c.in_ok-fits.ensures.0 c.if-not-fits.false) c.is_orderly.result c.is_orderly.ensures
