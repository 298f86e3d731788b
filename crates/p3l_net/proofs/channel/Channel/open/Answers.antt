use Rattle.std.proofs.Common.{ℤ, List, [], ◌∷◌, ◌++◌, refl, sym, ap, ap₂, ◌∙◌, arith}
use Rattle.std.proofs.lemmas.List.{append-nil, length-replicate, replicate_more}
use Rattle.circular_buffer.specs.Buffer.{buffer}
use Rattle.p3l_base.specs.declared.outcome.Outcome.TheVariants.{Value}
use Rattle.p3l_firing.specs.declared.token.Token.{Token}
use Rattle.p3l_firing.specs.Token.{credit, plain}
use Rattle.p3l_net.specs.Channel.{Queue}
use Rattle.p3l_net.specs.declared.channel.Slot.TheVariants.{Plain}
use Rattle.p3l_net.proofs.Rings.{slot_room, queue-appended, rings-appended}
use Rattle.p3l_net.proofs.channel.Channel.open.Goals as goal

pub append-requires : goal.append-requires
append-requires c =
    slot_room c.loop.channel-inside.slots c.loop.channel-inside.tags _ c.loop.invariant.queue
    (let long = length-replicate c.loop.counter credit in
    let test = c.loop-test.true in
    let fit = c.requires in
    omega (arith, long, test, fit))

pub loop-preserved : goal.loop-preserved
loop-preserved c =
    let inside = c.loop.channel-inside in
    let more : List Token → Queue = λ tokens. record { tokens = tokens; room = c.args.chan.now.cap } in
    let lists = ap (λ xs. buffer xs inside.tags.capacity) (sym (append-nil inside.tags.items)) in
    record {
      queue = queue-appended inside.slots c.append.new.ring inside.tags inside.tags (Plain (Value c.new.result)) [] c.loop.invariant.rings c.append.ensures lists
          ∙ ap₂ (λ (queue : Queue) (words : List ℤ). record queue { tokens = queue.tokens ++ plain (Value words) ∷ [] }) c.loop.invariant.queue c.new.ensures
          ∙ ap more (replicate_more c.loop.counter credit);
      rings = rings-appended inside.slots c.append.new.ring inside.tags inside.tags (Plain (Value c.new.result)) [] c.loop.invariant.rings c.append.ensures lists refl;
    }
