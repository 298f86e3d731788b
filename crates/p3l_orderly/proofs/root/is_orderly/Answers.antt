use Rattle.std.proofs.Common.{◌≡◌, ◌↔◌, ◌+◌, IsTrue, length, sym, subst, ◌∙◌}
use Rattle.p3l_firing.specs.Shot.{state_of}
use Rattle.p3l_orderly.proofs.RootLaw.{unfit, unsorted, sorted}
use Rattle.p3l_orderly.proofs.root.is_orderly.Goals as goal

pub returns-then-not-fits_root : goal.returns-then-not-fits_root
returns-then-not-fits_root c = λ leaf net lists.
    unfit c.args.tree.now c.args.counts.now.list c.requires.tree c.requires.counts c.args.shot.now leaf net lists
    (λ h. let yes = c.fits_root.ensures.1 h in absurd (cc (sym yes ∙ c.if-not-fits_root.true)))

pub returns-in-Some : goal.returns-in-Some
returns-in-Some c = λ leaf net lists.
    let s = state_of c.args.shot.now in
    sorted c.args.tree.now c.args.counts.now.list c.requires.tree c.requires.counts c.args.shot.now leaf net lists
    c.in-Some.pending c.is_balanced.result (c.fits_root.ensures.0 c.if-not-fits_root.false)
    (sym c.in-Some.is ∙ c.in_ok-pending.ensures)
    (subst (λ n. IsTrue c.is_balanced.result ↔ (c.args.shot.now.sent
    ≡ c.args.shot.now.emitted + (length (s.tokens 1) + (n + length (s.tokens 0))))) c.len.ensures c.is_balanced.ensures)

pub returns-in-None : goal.returns-in-None
returns-in-None c = λ leaf net lists.
    unsorted c.args.tree.now c.args.counts.now.list c.requires.tree c.requires.counts c.args.shot.now leaf net lists
    (sym c.in-None.is ∙ c.in_ok-pending.ensures)
