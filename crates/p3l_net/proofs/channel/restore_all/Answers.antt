use Rattle.std.proofs.Common.{◌<◌, ◌++◌, [], ◌∷◌, length, take, get_or, add-one, ap, ap₂, sym, ◌∙◌, arith}
use Rattle.std.proofs.lemmas.List.{get_or_read}
use Rattle.p3l_firing.specs.State.{no_chan}
use Rattle.p3l_net.specs.Shot.{queue_of, queues_of}
use Rattle.p3l_net.proofs.Saving.{queues-more}
use Rattle.p3l_net.proofs.channel.restore_all.Goals as goal

pub loop-c-init : goal.loop-c-init
unfolding queues_of
loop-c-init c = c.in_ok-channels.ensures.items

pub loop-c-preserved : goal.loop-c-preserved
loop-c-preserved c =
    let chans = c.args.chans.now in
    let lists = c.args.saved.now in
    let there : c.loop-c.c < length chans = c.loop-c-test.true in
    let here : c.loop-c.c < length lists =
    let all = c.requires.all in omega (arith, there, all) in
    let read = c.as_slice.ensures ∙ get_or_read lists c.loop-c.c _ here c.index-saved-c.is [] in
    c.in_ok-push.ensures.items
    ∙ ap₂ (λ queues queue. queues ++ queue ∷ []) c.loop-c.invariant (c.in_ok-restore.ensures ∙ ap (queue_of (get_or chans c.loop-c.c no_chan)) read)
    ∙ sym (queues-more chans lists c.loop-c.c there here)
    ∙ ap (λ n. queues_of (take n chans) (take n lists)) (sym (add-one c.loop-c.c))
