use Rattle.std.proofs.Common.{◌≡◌, ◌≢◌, ℕ, length, subst, sym}
use Rattle.p3l_skel.specs.Tree.{node_at}
use Rattle.p3l_net.specs.Machine.{Seen, IsSound}
use Rattle.p3l_net.specs.Steps.{CanRefresh, ready_at}
use Rattle.p3l_net.proofs.Frame.{offer_moves, offer_stays}
use Rattle.p3l_net.proofs.Kept.{moved_refresh}
use Rattle.p3l_net.proofs.Sides.{some_procs}
use Rattle.p3l_net.proofs.SoundLaw.{offered_sound}
use Rattle.p3l_net.proofs.machine.Machine.offer.Goals as goal

pub refresh-requires : goal.refresh-requires
refresh-requires c =
    let store : Seen = c.self.inside.store in
    let sound = c.self.invariant.sound in
    let fits : length c.args.item ≡ (node_at store.tree 0).ins = subst (λ (x : Seen). length c.args.item ≡ (node_at x.tree 0).ins) (sym c.self.view_is) c.requires.fits in
    subst (CanRefresh c.offer.new.self c.self.inside.sides c.self.inside.ready 0) (sym c.as_slice.ensures)
    (moved_refresh c.self.invariant
    (subst IsSound (sym c.offer.ensures) (offered_sound store c.args.item sound fits))
    (some_procs sound.typed)
    (offer_moves store c.offer.new.self c.args.item sound.typed c.offer.ensures))

pub returns-clause-others : goal.returns-clause-others
returns-clause-others c =
    subst (λ (x : Seen). (r : ℕ) → r ≢ 0 → ready_at c.offer.new.self r ≡ ready_at x r) c.self.view_is
    (offer_stays (offer_moves c.self.inside.store c.offer.new.self c.args.item c.self.invariant.sound.typed c.offer.ensures))
