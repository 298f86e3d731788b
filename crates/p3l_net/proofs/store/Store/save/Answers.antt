use Rattle.std.proofs.Common.{List, Option, map, ap, ap₂, sym, ◌∙◌}
use Rattle.p3l_base.specs.declared.words.Words.{Words}
use Rattle.p3l_firing.specs.declared.shot.Own.{Own}
use Rattle.p3l_firing.specs.declared.shot.SavedToken.{SavedToken}
use Rattle.p3l_firing.specs.declared.shot.Shot.{Shot}
use Rattle.p3l_firing.specs.Shot.{saved_own}
use Rattle.p3l_net.specs.Machine.{Seen}
use Rattle.p3l_net.specs.Shot.{saved_queue, shot_of}
use Rattle.p3l_net.proofs.store.Store.save.Goals as goal

pub returns : goal.returns
unfolding shot_of
returns c =
    let with : List (List SavedToken) → List Own → Option Words → Shot =
    λ chans owns inbox. record { chans = chans; owns = owns; inbox = inbox; sent = c.self.inside.sent; emitted = c.self.inside.emitted } in
    ap₂ (λ chans owns. with chans owns c.in_ok-saved_inbox.field-0) (c.in_ok-save_all.ensures ∙ ap (map saved_queue) c.as_slice.ensures.value) (c.in_ok-save_all-2.ensures ∙ ap (map saved_own) c.as_slice-2.ensures.value)
    ∙ ap (with (map saved_queue c.self.inside.channels.items) (map saved_own c.self.inside.locals.items))
    (c.in_ok-saved_inbox.ensures ∙ sym (ap (λ (m : Seen). m.inbox) c.self.view_is))
    ∙ ap shot_of c.self.view_is
