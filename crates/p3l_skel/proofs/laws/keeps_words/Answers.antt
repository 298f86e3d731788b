use Rattle.p3l_skel.proofs.Kept.{item-keeps}
use Rattle.p3l_skel.proofs.laws.keeps_words.Goals as goal

pub returns : goal.returns
returns g c = λ node words inside fits.
    item-keeps _ _ c.requires (g.met.U.Units.gives_outs c.args._units.now) node words inside fits
